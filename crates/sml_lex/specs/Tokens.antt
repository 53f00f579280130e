-- The tokens, by what they are and not by how they are read.
-- (The Definition of Standard ML (Revised), sections 2.1 to 2.5.)
use Rattle.std.specs.Prelude.{◌≡◌, ℕ, ◌⊎◌, List, [], ◌∷◌, ◌++◌, flat_map, Bool, true, false, not, ◌&&◌, ◌==◌, Some, codes}
use Rattle.sml_lex.specs.declared.token.Kind.{Kind}
use Rattle.sml_lex.specs.declared.token.Kind.TheVariants.{Alphanumeric, Symbolic, Star, LongAlphanumeric, LongSymbolic, LongStar, TypeVariable, Numeral, ZeroNumeral, Integer, WordConstant, RealConstant, StringConstant, CharacterConstant}
use Rattle.sml_lex.specs.Bytes.{capital_e, small_e, prime, dot, tilde, is_digit, is_hex_digit, is_letter, is_name_byte, is_sign, starts_with, is_run}
use Rattle.sml_lex.specs.Strings.{IsString, IsCharacter}
use Rattle.sml_lex.specs.Words.{is_text, word_kind, is_reserved}

-- identifiers, and the reserved words like them
abbrev pub is_alphanumeric : List ℕ → Bool
is_alphanumeric text = is_run is_letter is_name_byte text

abbrev pub is_symbolic : List ℕ → Bool
is_symbolic text = is_run is_sign is_sign text

abbrev pub is_star : List ℕ → Bool
is_star text = is_text text (codes "*")

abbrev pub is_variable : List ℕ → Bool
is_variable text = is_run (λ c. c == prime) is_name_byte text

-- the parts of a long identifier before its last, each with its dot
abbrev pub qualifiers : List (List ℕ) → List ℕ
qualifiers parts = flat_map (λ part. part ++ dot ∷ []) parts

abbrev pub AreQualifiers : List (List ℕ) → Type 0
AreQualifiers [] = Unit {0}
AreQualifiers (part ∷ parts) = (is_alphanumeric part ≡ true) × (is_reserved part ≡ false) × AreQualifiers parts

-- a long identifier whose last part is such a one
pub record IsLong (is_last : List ℕ → Bool) (text : List ℕ) : Type 0 where
  pub first : List ℕ
  pub others : List (List ℕ)
  pub last : List ℕ
  pub spelled : text ≡ qualifiers (first ∷ others) ++ last
  pub parts : AreQualifiers (first ∷ others)
  pub identifier : is_last last ≡ true
  pub free : is_reserved last ≡ false

abbrev pub is_digits : List ℕ → Bool
is_digits text = is_run is_digit is_digit text

abbrev pub is_hex_digits : List ℕ → Bool
is_hex_digits text = is_run is_hex_digit is_hex_digit text

-- digits, perhaps after a negation sign
abbrev pub IsDecimal : List ℕ → Type 0
IsDecimal text = (digits : List ℕ) × (is_digits digits ≡ true) × ((text ≡ digits) ⊎ (text ≡ tilde ∷ digits))

-- digits after one mark or another
abbrev pub IsMarked : (List ℕ → Bool) → List ℕ → List ℕ → Type 0
IsMarked f mark text = (digits : List ℕ) × (text ≡ mark ++ digits) × (f digits ≡ true)

abbrev pub IsFraction : List ℕ → Type 0
IsFraction text = IsMarked is_digits (codes ".") text

-- E or e with a decimal integer
abbrev pub IsExponent : List ℕ → Type 0
IsExponent text = (whole : List ℕ) × IsDecimal whole × ((text ≡ capital_e ∷ whole) ⊎ (text ≡ small_e ∷ whole))

-- a decimal integer, then a fraction or an exponent or both
pub record IsReal (text : List ℕ) : Type 0 where
  pub whole : List ℕ
  pub fraction : List ℕ
  pub exponent : List ℕ
  pub spelled : text ≡ whole ++ (fraction ++ exponent)
  pub integer : IsDecimal whole
  pub parts : (IsFraction fraction × (exponent ≡ [])) ⊎ ((fraction ≡ []) × IsExponent exponent) ⊎ (IsFraction fraction × IsExponent exponent)

-- what a token of each kind is
abbrev pub IsToken : Kind → List ℕ → Type 0
IsToken Alphanumeric text = (is_alphanumeric text ≡ true) × (is_reserved text ≡ false)
IsToken Symbolic text = (is_symbolic text ≡ true) × (is_star text ≡ false) × (is_reserved text ≡ false)
IsToken Star text = text ≡ codes "*"
IsToken LongAlphanumeric text = IsLong is_alphanumeric text
IsToken LongSymbolic text = IsLong (λ last. is_symbolic last && not (is_star last)) text
IsToken LongStar text = IsLong is_star text
IsToken TypeVariable text = is_variable text ≡ true
IsToken Numeral text = (is_digits text ≡ true) × (starts_with 48 text ≡ false)
IsToken ZeroNumeral text = (is_digits text ≡ true) × (starts_with 48 text ≡ true)
IsToken Integer text = IsMarked is_digits (codes "~") text ⊎ IsMarked is_hex_digits (codes "0x") text ⊎ IsMarked is_hex_digits (codes "~0x") text
IsToken WordConstant text = IsMarked is_digits (codes "0w") text ⊎ IsMarked is_hex_digits (codes "0wx") text
IsToken RealConstant text = IsReal text
IsToken StringConstant text = IsString text
IsToken CharacterConstant text = IsCharacter text
-- a reserved word
IsToken kind text = word_kind text ≡ Some kind
