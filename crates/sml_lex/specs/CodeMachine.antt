-- The tokens other than strings and characters, read byte by byte.
use Rattle.std.specs.Prelude.{◌≡◌, ℕ, ◌<◌, ◌≤◌, List, [], ◌∷◌, ◌++◌, take, Bool, ◌||◌, ◌==◌, if◌then◌else◌, Option, Some, None, is_some, unwrap_or, codes}
use Rattle.sml_lex.specs.declared.token.Kind.{Kind}
use Rattle.sml_lex.specs.declared.token.Kind.TheVariants.{Alphanumeric, Symbolic, Star, LongAlphanumeric, LongSymbolic, LongStar, TypeVariable, Numeral, ZeroNumeral, Integer, WordConstant, RealConstant}
use Rattle.sml_lex.specs.declared.machine.State.{State}
use Rattle.sml_lex.specs.declared.machine.State.TheVariants.{Fresh, Mark, OneDot, TwoDots, ThreeDots, Variable, Name, Dot, LongName, LongSign, Sign, Tilde, Zero, ZeroDigits, Digits, NegativeZero, NegativeDigits, HexMark, Hex, WordMark, WordDigits, WordHexMark, WordHex, Point, Fraction, ExponentMark, ExponentTilde, Exponent, Dead}
use Rattle.sml_lex.specs.declared.longest.Lexeme.{Lexeme}
use Rattle.sml_lex.specs.Bytes.{is_digit, is_hex_digit, is_letter, is_name_byte, is_sign, is_mark}
use Rattle.sml_lex.specs.Words.{is_text, word_kind}

-- the state after the first byte, from the last class of bytes to the first
abbrev pub first_dot : ℕ → State
first_dot c = if c == 46 then OneDot else Dead

abbrev pub first_mark : ℕ → State
first_mark c = if is_mark c then Mark else first_dot c

abbrev pub first_sign : ℕ → State
first_sign c = if is_sign c then Sign else first_mark c

abbrev pub first_tilde : ℕ → State
first_tilde c = if c == 126 then Tilde else first_sign c

abbrev pub first_prime : ℕ → State
first_prime c = if c == 39 then Variable else first_tilde c

abbrev pub first_digit : ℕ → State
first_digit c = if is_digit c then Digits else first_prime c

abbrev pub first_zero : ℕ → State
first_zero c = if c == 48 then Zero else first_digit c

abbrev pub first_state : ℕ → State
first_state c = if is_letter c then Name else first_zero c

-- after a byte that isn't a digit, in a decimal integer that may be the whole part of a real
abbrev pub real_state : ℕ → State
real_state c = if c == 46 then Point else if (c == 69) || (c == 101) then ExponentMark else Dead

abbrev pub digit_or : State → State → ℕ → State
digit_or next other c = if is_digit c then next else other

abbrev pub hex_digit_or_dead : State → ℕ → State
hex_digit_or_dead next c = if is_hex_digit c then next else Dead

abbrev pub name_byte_or : State → State → ℕ → State
name_byte_or next other c = if is_name_byte c then next else other

abbrev pub sign_or_dead : State → ℕ → State
sign_or_dead next c = if is_sign c then next else Dead

abbrev pub dot_or_dead : State → ℕ → State
dot_or_dead next c = if c == 46 then next else Dead

-- after an alphanumeric part, which no dot follows where it is reserved
abbrev pub name_state : State → Bool → ℕ → State
name_state next reserved c = name_byte_or next (if reserved then Dead else dot_or_dead Dot c) c

abbrev pub part_state : ℕ → State
part_state c = if is_letter c then LongName else sign_or_dead LongSign c

abbrev pub tilde_state : ℕ → State
tilde_state c = if c == 48 then NegativeZero else digit_or NegativeDigits (sign_or_dead Sign c) c

abbrev pub zero_state : ℕ → State
zero_state c = if c == 120 then HexMark else if c == 119 then WordMark else digit_or ZeroDigits (real_state c) c

abbrev pub negative_zero_state : ℕ → State
negative_zero_state c = if c == 120 then HexMark else digit_or NegativeDigits (real_state c) c

abbrev pub word_mark_state : ℕ → State
word_mark_state c = if c == 120 then WordHexMark else digit_or WordDigits Dead c

abbrev pub fraction_state : ℕ → State
fraction_state c = if (c == 69) || (c == 101) then ExponentMark else digit_or Fraction Dead c

abbrev pub exponent_state : ℕ → State
exponent_state c = if c == 126 then ExponentTilde else digit_or Exponent Dead c

-- The state after one more byte. reserved: the part before the byte is a reserved word.
abbrev pub step_state : State → Bool → ℕ → State
step_state Fresh reserved c = first_state c
step_state Mark reserved c = Dead
step_state OneDot reserved c = dot_or_dead TwoDots c
step_state TwoDots reserved c = dot_or_dead ThreeDots c
step_state ThreeDots reserved c = Dead
step_state Variable reserved c = name_byte_or Variable Dead c
step_state Name reserved c = name_state Name reserved c
step_state Dot reserved c = part_state c
step_state LongName reserved c = name_state LongName reserved c
step_state LongSign reserved c = sign_or_dead LongSign c
step_state Sign reserved c = sign_or_dead Sign c
step_state Tilde reserved c = tilde_state c
step_state Zero reserved c = zero_state c
step_state ZeroDigits reserved c = digit_or ZeroDigits (real_state c) c
step_state Digits reserved c = digit_or Digits (real_state c) c
step_state NegativeZero reserved c = negative_zero_state c
step_state NegativeDigits reserved c = digit_or NegativeDigits (real_state c) c
step_state HexMark reserved c = hex_digit_or_dead Hex c
step_state Hex reserved c = hex_digit_or_dead Hex c
step_state WordMark reserved c = word_mark_state c
step_state WordDigits reserved c = digit_or WordDigits Dead c
step_state WordHexMark reserved c = hex_digit_or_dead WordHex c
step_state WordHex reserved c = hex_digit_or_dead WordHex c
step_state Point reserved c = digit_or Fraction Dead c
step_state Fraction reserved c = fraction_state c
step_state ExponentMark reserved c = exponent_state c
step_state ExponentTilde reserved c = digit_or Exponent Dead c
step_state Exponent reserved c = digit_or Exponent Dead c
step_state Dead reserved c = Dead

-- what was read: the state, and the part of a long identifier that is being read
pub record Progress : Type 0 where
  pub state : State
  pub part : List ℕ

abbrev pub fresh : Progress
fresh = record {
  state = Fresh;
  part = [];
}

-- a part ends at a dot
abbrev pub part_after : List ℕ → ℕ → List ℕ
part_after part c = if c == 46 then [] else part ++ c ∷ []

abbrev pub step : Progress → ℕ → Progress
step r c = record {
  state = step_state r.state (is_some (word_kind r.part)) c;
  part = part_after r.part c;
}

abbrev pub run : Progress → List ℕ → Progress
run r [] = r
run r (c ∷ cs) = run (step r c) cs

-- the kind of what was read, where it is a token: word is the kind of its last part as a reserved word
abbrev pub kind_at : State → Option Kind → Bool → Option Kind
kind_at Fresh word star = None
kind_at Mark word star = word
kind_at OneDot word star = None
kind_at TwoDots word star = None
kind_at ThreeDots word star = Some Kind.Dots
kind_at Variable word star = Some TypeVariable
kind_at Name word star = Some (unwrap_or word Alphanumeric)
kind_at Dot word star = None
kind_at LongName word star = if is_some word then None else Some LongAlphanumeric
kind_at LongSign word star = if is_some word then None else Some (if star then LongStar else LongSymbolic)
kind_at Sign word star = Some (unwrap_or word (if star then Star else Symbolic))
kind_at Tilde word star = Some Symbolic
kind_at Zero word star = Some ZeroNumeral
kind_at ZeroDigits word star = Some ZeroNumeral
kind_at Digits word star = Some Numeral
kind_at NegativeZero word star = Some Integer
kind_at NegativeDigits word star = Some Integer
kind_at HexMark word star = None
kind_at Hex word star = Some Integer
kind_at WordMark word star = None
kind_at WordDigits word star = Some WordConstant
kind_at WordHexMark word star = None
kind_at WordHex word star = Some WordConstant
kind_at Point word star = None
kind_at Fraction word star = Some RealConstant
kind_at ExponentMark word star = None
kind_at ExponentTilde word star = None
kind_at Exponent word star = Some RealConstant
kind_at Dead word star = None

abbrev pub kind_read : Progress → Option Kind
kind_read r = kind_at r.state (word_kind r.part) (is_text r.part (codes "*"))

abbrev pub token_kind : List ℕ → Option Kind
token_kind text = kind_read (run fresh text)

-- of the beginnings of up to that many bytes the longest that is a token, if there is one
abbrev pub IsLongestWithin : List ℕ → ℕ → Option Lexeme → Type 0
IsLongestWithin bytes most None = (n : ℕ) → n ≤ most → token_kind (take n bytes) ≡ None
IsLongestWithin bytes most (Some lexeme) = (lexeme.size ≤ most) × (token_kind (take lexeme.size bytes) ≡ Some lexeme.kind) × ((n : ℕ) → lexeme.size < n → n ≤ most → token_kind (take n bytes) ≡ None)
