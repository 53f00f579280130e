-- Pieces one after another.
use Rattle.std.proofs.Common.{◌≡◌, ℕ, zero, suc, ◌+◌, ◌<◌, ◌≤◌, drop, take, length, List, [], ◌∷◌, ◌++◌, refl, sym, ap, ◌∙◌, subst, arith, append_assoc, append-nil}
use Rattle.std.proofs.lemmas.List.{length-drop}
use Rattle.sml_lex.specs.declared.token.Kind.{Kind}
use Rattle.sml_lex.specs.declared.token.Token.{Token}
use Rattle.sml_lex.specs.declared.token.End.{End}
use Rattle.sml_lex.specs.declared.pieces.Piece.{Piece}
use Rattle.sml_lex.specs.declared.pieces.Piece.TheVariants.{Blank, Comment, Lexeme}
use Rattle.sml_lex.specs.declared.longest.Lexeme.{Lexeme as LexemeAt}
use Rattle.sml_lex.specs.Tokens.{IsToken}
use Rattle.sml_lex.specs.Pieces.{IsPiece, size_of, SpellsFrom, tokens_of}
use Rattle.sml_lex.proofs.CommentBodies.{comment_bytes}
use Rattle.sml_lex.proofs.FirstTokens.{never_empty}

-- whatever the rest spells, the whole spells it after these tokens
pub record Carries (unit : List ℕ) (place : ℕ) (tokens : List Token) : Type 0 where
  pub whole : (pieces : List Piece) (end : End) → SpellsFrom unit place pieces end → (all : List Piece) × (tokens ++ tokens_of place pieces ≡ tokens_of 0 all) × SpellsFrom unit 0 all end

-- the token of a piece
abbrev pub own_tokens : ℕ → Piece → List Token
own_tokens place Blank = []
own_tokens place (Comment size) = []
own_tokens place (Lexeme lexeme) = record {
  kind = lexeme.kind;
  span = record {
    start = place;
    end = place + lexeme.size;
  };
} ∷ []

own-cons : (place : ℕ) (piece : Piece) (pieces : List Piece) → own_tokens place piece ++ tokens_of (place + size_of piece) pieces ≡ tokens_of place (piece ∷ pieces)
own-cons place Blank pieces = refl
own-cons place (Comment size) pieces = refl
own-cons place (Lexeme lexeme) pieces = refl

pub carries_more : (unit : List ℕ) (place next : ℕ) (piece : Piece) (old new : List Token) → IsPiece (drop place unit) piece → next ≡ place + size_of piece → new ≡ old ++ own_tokens place piece → Carries unit place old → Carries unit next new
carries_more unit place next piece old new p n t x = record {
  whole = λ pieces end s.
      let w = x.whole (piece ∷ pieces) end (p, subst (λ n. SpellsFrom unit n pieces end) n s) in
      (w.0, ap (λ t. t ++ tokens_of next pieces) t ∙ append_assoc old (own_tokens place piece) (tokens_of next pieces) ∙ ap (λ n. old ++ (own_tokens place piece ++ tokens_of n pieces)) n ∙ ap (λ t. old ++ t) (own-cons place piece pieces) ∙ w.1, w.2);
}

-- the tokens are those of some pieces
pub carried : (unit : List ℕ) (place : ℕ) (tokens : List Token) (end : End) → Carries unit place tokens → SpellsFrom unit place [] end → (pieces : List Piece) × (tokens ≡ tokens_of 0 pieces) × SpellsFrom unit 0 pieces end
carried unit place tokens end x e =
    let w = x.whole [] end e in (w.0, sym (append-nil tokens) ∙ w.1, w.2)

-- a piece has some bytes, and all are there
pub some_size : (rest : List ℕ) (piece : Piece) → 0 < length rest → IsPiece rest piece → 0 < size_of piece
some_size rest Blank some p = omega arith
some_size rest (Comment size) some p = let b = (comment_bytes rest size p).0 in omega (arith, b)
some_size rest (Lexeme lexeme) some p = by_size lexeme.size refl
  where
    by_size : (n : ℕ) → lexeme.size ≡ n → 0 < lexeme.size
    by_size zero e = absurd (never_empty lexeme.kind (subst (λ n. IsToken lexeme.kind (take n rest)) e p.0.token))
    by_size (suc n) e = omega (arith, e)

pub within_size : (rest : List ℕ) (piece : Piece) → 0 < length rest → IsPiece rest piece → size_of piece ≤ length rest
within_size rest Blank some p = omega (arith, some)
within_size rest (Comment size) some p = let b = (comment_bytes rest size p).1 in omega (arith, b)
within_size rest (Lexeme lexeme) some p = p.0.within

-- the same, at a place of the unit
pub place_on : (unit : List ℕ) (place size : ℕ) (piece : Piece) → place < length unit → size ≡ size_of piece → IsPiece (drop place unit) piece → (place < place + size) × (place + size ≤ length unit)
place_on unit place size piece within e p =
    let l = length-drop place unit in
    let some : 0 < length (drop place unit) = omega (arith, l, within) in
    let more = some_size (drop place unit) piece some p in
    let less = within_size (drop place unit) piece some p in
    (omega (arith, e, more), omega (arith, e, less, l, within))

pub none_there : (place : ℕ) (piece : Piece) → ((lexeme : LexemeAt) → piece ≡ Lexeme lexeme → ⊥) → own_tokens place piece ≡ []
none_there place Blank h = refl
none_there place (Comment size) h = refl
none_there place (Lexeme lexeme) h = absurd (h lexeme refl)

abbrev pub token_at : ℕ → Kind → ℕ → Token
token_at place kind size = record {
  kind = kind;
  span = record {
    start = place;
    end = place + size;
  };
}

pub token_there : (place size : ℕ) (piece : Piece) (lexeme : LexemeAt) → piece ≡ Lexeme lexeme → size ≡ size_of piece → token_at place lexeme.kind size ∷ [] ≡ own_tokens place piece
token_there place size piece lexeme e n = ap (λ n. token_at place lexeme.kind n ∷ []) (n ∙ ap size_of e) ∙ sym (ap (own_tokens place) e)
