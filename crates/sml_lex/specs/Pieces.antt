-- White space, comments and tokens, and the units that they spell.
-- (The Definition of Standard ML (Revised), sections 2.1 to 2.5.)
use Rattle.std.specs.Prelude.{slice_range, ◌≡◌, ℕ, ◌+◌, ◌<◌, ◌≤◌, ◌⊎◌, List, [], ◌∷◌, length, take, drop, Bool, true, false, ◌&&◌, ◌||◌, ◌==◌}
use Rattle.sml_lex.specs.declared.fault.Code.{Code}
use Rattle.sml_lex.specs.declared.fault.Code.TheVariants.{L4, L5, L6}
use Rattle.sml_lex.specs.declared.token.Kind.{Kind}
use Rattle.sml_lex.specs.declared.token.Stop.{Stop}
use Rattle.sml_lex.specs.declared.token.Token.{Token}
use Rattle.sml_lex.specs.declared.token.End.{End}
use Rattle.sml_lex.specs.declared.token.End.TheVariants.{Done, Fault}
use Rattle.sml_lex.specs.declared.pieces.Piece.{Piece}
use Rattle.sml_lex.specs.declared.pieces.Piece.TheVariants.{Blank, Comment, Lexeme}
use Rattle.sml_lex.specs.Bytes.{starts_white}
use Rattle.sml_lex.specs.Comments.{opens_comment, IsComment, IsOpenComment}
use Rattle.sml_lex.specs.Numbers.{fits}
use Rattle.sml_lex.specs.Strings.{opens_string, opens_character, IsStringFault}
use Rattle.sml_lex.specs.Tokens.{IsToken}

abbrev pub fault_here : Code → Stop
fault_here code = record {
  code = code;
  at = 0;
}

-- Neither ( directly before * nor a lone # directly before a quote is a token.
abbrev pub is_cut : List ℕ → ℕ → Bool
is_cut rest size = (size == 1) && (opens_comment rest || opens_character rest)

-- The token at the front is of this kind and has this many bytes: no longer beginning is a token.
pub record IsLexeme (rest : List ℕ) (kind : Kind) (size : ℕ) : Type 0 where
  pub within : size ≤ length rest
  pub token : IsToken kind (take size rest)
  pub whole : is_cut rest size ≡ false
  pub longest : (n : ℕ) (other : Kind) → size < n → n ≤ length rest → IsToken other (take n rest) → ⊥

abbrev pub IsPiece : List ℕ → Piece → Type 0
IsPiece rest Blank = starts_white rest ≡ true
IsPiece rest (Comment size) = IsComment rest size
IsPiece rest (Lexeme lexeme) = IsLexeme rest lexeme.kind lexeme.size × (fits lexeme.kind (take lexeme.size rest) ≡ true)

abbrev pub size_of : Piece → ℕ
size_of Blank = 1
size_of (Comment size) = size
size_of (Lexeme lexeme) = lexeme.size

-- a byte at which neither white space, a comment, a string, a character nor any other token begins
pub record IsBadByte (rest : List ℕ) (stop : Stop) : Type 0 where
  pub not_white : starts_white rest ≡ false
  pub no_comment : opens_comment rest ≡ false
  pub no_string : opens_string rest ≡ false
  pub no_character : opens_character rest ≡ false
  pub no_token : (n : ℕ) (kind : Kind) → n ≤ length rest → IsToken kind (take n rest) → ⊥
  pub fault : stop ≡ fault_here L4

-- an integer or a word over its limit
pub record IsTooLarge (rest : List ℕ) (stop : Stop) : Type 0 where
  pub kind : Kind
  pub size : ℕ
  pub lexeme : IsLexeme rest kind size
  pub large : fits kind (take size rest) ≡ false
  pub fault : stop ≡ fault_here L5

-- where no piece begins: the fault, whose place counts from the front
abbrev pub IsFault : List ℕ → Stop → Type 0
IsFault rest stop = IsOpenComment rest stop ⊎ IsStringFault rest stop ⊎ IsBadByte rest stop ⊎ IsTooLarge rest stop

-- From this place on the bytes are these pieces in turn, and then the end.
abbrev pub SpellsFrom : List ℕ → ℕ → List Piece → End → Type 0
SpellsFrom unit place [] Done = place ≡ length unit
SpellsFrom unit place [] (Fault stop) = (place < length unit) × (inner : Stop) × IsFault (drop place unit) inner × (stop ≡ record {
  code = inner.code;
  at = place + inner.at;
})
SpellsFrom unit place (piece ∷ pieces) end = IsPiece (drop place unit) piece × SpellsFrom unit (place + size_of piece) pieces end

abbrev pub tokens_of : ℕ → List Piece → List Token
tokens_of place [] = []
tokens_of place (Blank ∷ pieces) = tokens_of (place + 1) pieces
tokens_of place (Comment size ∷ pieces) = tokens_of (place + size) pieces
tokens_of place (Lexeme lexeme ∷ pieces) = record {
  kind = lexeme.kind;
  span = record {
    start = place;
    end = place + lexeme.size;
  };
} ∷ tokens_of (place + lexeme.size) pieces

-- a unit of at most 1,048,576 bytes
pub record SpellsUnit (unit : List ℕ) (tokens : List Token) (end : End) : Type 0 where
  pub within : length unit ≤ 1048576
  pub pieces : List Piece
  pub tokens_are : tokens ≡ tokens_of 0 pieces
  pub spelled : SpellsFrom unit 0 pieces end

-- a unit over the limit
pub record IsOverLimit (unit : List ℕ) (tokens : List Token) (end : End) : Type 0 where
  pub over : 1048576 < length unit
  pub none : tokens ≡ []
  pub fault : end ≡ Fault (fault_here L6)

-- the tokens that the bytes of a unit spell, and where they end
abbrev pub Spells : List ℕ → List Token → End → Type 0
Spells unit tokens end = SpellsUnit unit tokens end ⊎ IsOverLimit unit tokens end

-- one list of bytes spells one answer
abbrev pub SpellingIsUnique : Type 0
SpellingIsUnique = (unit : List ℕ) (tokens others : List Token) (end stop : End) → Spells unit tokens end → Spells unit others stop → (tokens ≡ others) × (end ≡ stop)

-- From this place on the tokens stand one after another, and each text is a token of its kind, within its limit.
abbrev pub AreInOrder : List ℕ → ℕ → List Token → Type 0
AreInOrder unit place [] = place ≤ length unit
AreInOrder unit place (token ∷ tokens) = (place ≤ token.span.start) × (token.span.start < token.span.end) × IsToken token.kind (slice_range unit token.span.start token.span.end) × (fits token.kind (slice_range unit token.span.start token.span.end) ≡ true) × AreInOrder unit token.span.end tokens

-- the tokens of a unit stand in order, within it
abbrev pub TokensAreInOrder : Type 0
TokensAreInOrder = (unit : List ℕ) (tokens : List Token) (end : End) → Spells unit tokens end → AreInOrder unit 0 tokens

-- a fault stands within the unit or at its end
abbrev pub FaultsAreWithin : Type 0
FaultsAreWithin = (unit : List ℕ) (tokens : List Token) (stop : Stop) → Spells unit tokens (Fault stop) → stop.at ≤ length unit
