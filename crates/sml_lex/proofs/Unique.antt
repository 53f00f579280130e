-- One list of bytes spells one list of tokens and one end.
use Rattle.std.proofs.Common.{◌≡◌, ℕ, ◌+◌, List, [], ◌∷◌, take, drop, length, Ok, Err, refl, sym, ap, ◌∙◌, subst, arith, inl, inr}
use Rattle.std.proofs.lemmas.List.{length-drop}
use Rattle.sml_lex.specs.declared.token.Stop.{Stop}
use Rattle.sml_lex.specs.declared.token.End.{End}
use Rattle.sml_lex.specs.declared.token.End.TheVariants.{Done, Fault}
use Rattle.sml_lex.specs.declared.pieces.Piece.{Piece}
use Rattle.sml_lex.specs.declared.pieces.Piece.TheVariants.{Blank, Comment, Lexeme}
use Rattle.sml_lex.specs.Pieces.{IsPiece, size_of, SpellsFrom, tokens_of, SpellingIsUnique}
use Rattle.sml_lex.specs.Tokens.{IsToken}
use Rattle.sml_lex.proofs.MachineRuns.{false_is_true}
use Rattle.sml_lex.proofs.CommentBodies.{comment_bytes}
use Rattle.sml_lex.proofs.FirstTokens.{never_empty}
use Rattle.sml_lex.proofs.FirstPieces.{Answer, answers_once}

ok_is_err : (piece : Piece) (stop : Stop) → (let first : Answer = Ok piece in first) ≡ Err stop → ⊥
ok_is_err piece stop e = cc

piece_of : Piece → Answer → Piece
piece_of other (Ok piece) = piece
piece_of other (Err stop) = other

stop_of : Stop → Answer → Stop
stop_of other (Ok piece) = other
stop_of other (Err stop) = stop

same_piece : (a b : Piece) → (let first : Answer = Ok a in first) ≡ Ok b → a ≡ b
unfolding piece_of
same_piece a b e = ap (piece_of a) e

same_stop : (a b : Stop) → (let first : Answer = Err a in first) ≡ Err b → a ≡ b
unfolding stop_of
same_stop a b e = ap (stop_of a) e

-- a piece has some bytes
pub piece_there : (rest : List ℕ) (piece : Piece) → IsPiece rest piece → length rest ≡ 0 → ⊥
piece_there [] Blank p l = false_is_true p
piece_there [] (Comment size) p l = let b = comment_bytes [] size p in let some = b.0 in let within = b.1 in absurd (omega (arith, some, within))
piece_there [] (Lexeme lexeme) p l =
    let w = p.0.within in
    let none : lexeme.size ≡ 0 = omega (arith, w) in
    never_empty lexeme.kind (subst (λ n. IsToken lexeme.kind (take n [])) none p.0.token)
piece_there (c ∷ rest) piece p l = absurd (omega (arith, l))

pieces_once : (unit : List ℕ) (p q : List Piece) (place : ℕ) (e f : End) → SpellsFrom unit place p e → SpellsFrom unit place q f → (p ≡ q) × (e ≡ f)
pieces_once unit [] [] place Done Done s t = (refl, refl)
pieces_once unit [] [] place Done (Fault stop) s t = let w = t.0 in absurd (omega (arith, s, w))
pieces_once unit [] [] place (Fault stop) Done s t = let w = s.0 in absurd (omega (arith, t, w))
pieces_once unit [] [] place (Fault stop) (Fault other) s t =
    let same = same_stop s.1 t.1 (answers_once (drop place unit) (Err s.1) (Err t.1) s.2 t.2) in (
      refl,
      ap Fault (s.3 ∙ ap (λ i. record {
        code = i.code;
        at = place + i.at;
      }) same ∙ sym t.3),
    )
pieces_once unit [] (b ∷ q) place Done f s t = absurd (piece_there (drop place unit) b t.0 (let l = length-drop place unit in omega (arith, l, s)))
pieces_once unit [] (b ∷ q) place (Fault stop) f s t = absurd (ok_is_err b s.1 (answers_once (drop place unit) (Ok b) (Err s.1) t.0 s.2))
pieces_once unit (a ∷ p) [] place e Done s t = absurd (piece_there (drop place unit) a s.0 (let l = length-drop place unit in omega (arith, l, t)))
pieces_once unit (a ∷ p) [] place e (Fault stop) s t = absurd (ok_is_err a t.1 (answers_once (drop place unit) (Ok a) (Err t.1) s.0 t.2))
pieces_once unit (a ∷ p) (b ∷ q) place e f s t =
    let same = same_piece a b (answers_once (drop place unit) (Ok a) (Ok b) s.0 t.0) in
    let rest = pieces_once unit p q (place + size_of a) e f s.1 (subst (λ x. SpellsFrom unit (place + size_of x) q f) (sym same) t.1) in
    (ap (λ x. x ∷ p) same ∙ ap (λ x. b ∷ x) rest.0, rest.1)

pub spelling_is_unique : SpellingIsUnique
spelling_is_unique unit tokens others end stop (inl s) (inl t) =
    let same = pieces_once unit s.pieces t.pieces 0 end stop s.spelled t.spelled in
    (s.tokens_are ∙ ap (tokens_of 0) same.0 ∙ sym t.tokens_are, same.1)
spelling_is_unique unit tokens others end stop (inl s) (inr t) = let a = s.within in let b = t.over in absurd (omega (arith, a, b))
spelling_is_unique unit tokens others end stop (inr s) (inl t) = let a = t.within in let b = s.over in absurd (omega (arith, a, b))
spelling_is_unique unit tokens others end stop (inr s) (inr t) = (s.none ∙ sym t.none, s.fault ∙ sym t.fault)
