-- One step in open comments.
use Rattle.std.proofs.Common.{◌≡◌, ℕ, ◌+◌, ◌-◌, ◌<◌, ◌≤◌, drop, length, List, [], ◌∷◌, Bool, true, false, Some, None, refl, ◌∙◌, arith}
use Rattle.std.specs.Prelude.{◌==◌, ◌&&◌, if◌then◌else◌}
use Rattle.std.proofs.lemmas.Bool.{cond-true, cond-false, eq-eqb, eqb-true}
use Rattle.sml_lex.specs.Bytes.{starts_with_both}
use Rattle.sml_lex.specs.CodeComments.{after_comments}
use Rattle.sml_lex.specs.Comments.{opens_comment, closes_comment}

-- two bytes at the front are there
pub both_there : (x y : ℕ) (rest : List ℕ) → starts_with_both x y rest ≡ true → 2 ≤ length rest
both_there x y [] h = absurd (cc)
both_there x y (a ∷ []) h = absurd (no_second (a == x) h)
  where
    no_second : (b : Bool) → (b && false) ≡ true → ⊥
    no_second true h = cc
    no_second false h = cc
both_there x y (a ∷ b ∷ rest) h = omega arith

pub opened : (depth : ℕ) (rest : List ℕ) → opens_comment rest ≡ true → after_comments depth rest ≡ after_comments (depth + 1) (drop 2 rest)
opened depth [] h = absurd (cc)
opened depth (a ∷ []) h = let l = both_there 40 42 (a ∷ []) h in absurd (omega (arith, l))
opened depth (a ∷ b ∷ rest) h = cond-true _ _ _ h

closing : (depth : ℕ) (rest : List ℕ) → opens_comment rest ≡ false → closes_comment rest ≡ true → after_comments depth rest ≡ (if depth == 1 then Some (drop 2 rest) else after_comments (depth - 1) (drop 2 rest))
closing depth [] n h = absurd (cc)
closing depth (a ∷ []) n h = let l = both_there 42 41 (a ∷ []) h in absurd (omega (arith, l))
closing depth (a ∷ b ∷ rest) n h = cond-false _ _ _ n ∙ cond-true _ _ _ h

pub closed_last : (depth : ℕ) (rest : List ℕ) → opens_comment rest ≡ false → closes_comment rest ≡ true → depth ≡ 1 → after_comments depth rest ≡ Some (drop 2 rest)
closed_last depth rest n h e = closing depth rest n h ∙ cond-true _ _ _ (eq-eqb _ _ e)

pub closed_one : (depth : ℕ) (rest : List ℕ) → opens_comment rest ≡ false → closes_comment rest ≡ true → 1 < depth → after_comments depth rest ≡ after_comments (depth - 1) (drop 2 rest)
closed_one depth rest n h l = closing depth rest n h ∙ cond-false _ _ _ (by_test (depth == 1) refl)
  where
    by_test : (b : Bool) → (depth == 1) ≡ b → (depth == 1) ≡ false
    by_test true e = let same : depth ≡ 1 = eqb-true _ _ e in absurd (omega (arith, l, same))
    by_test false e = e

pub passed_one : (depth : ℕ) (rest : List ℕ) → opens_comment rest ≡ false → closes_comment rest ≡ false → after_comments depth rest ≡ after_comments depth (drop 1 rest)
passed_one depth [] n h = refl
passed_one depth (a ∷ []) n h = refl
passed_one depth (a ∷ b ∷ rest) n h = cond-false _ _ _ n ∙ cond-false _ _ _ h

pub none_left : (depth : ℕ) (rest : List ℕ) → length rest ≡ 0 → after_comments depth rest ≡ None
none_left depth [] l = refl
none_left depth (a ∷ rest) l = absurd (omega (arith, l))
