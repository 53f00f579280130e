-- The height of patterns that stand for one.
use Rattle.std.proofs.Common.{◌≡◌, suc, List, [], ◌∷◌, map, reverse, length, refl, ap, ◌∙◌, arith}
use Rattle.std.proofs.lemmas.List.{length-reverse}
use Rattle.sml_lex.specs.declared.fault.Place.{Place}
use Rattle.sml_tree.specs.Patterns.{Pat, Pats, no_pat, and_pat}
use Rattle.sml_tree.specs.PatternViews.{pats_of}
use Rattle.sml_tree.specs.Heights.{pat_height, pats_height}
use Rattle.sml_tree.specs.Clauses.{pat_row_of}
use Rattle.sml_derived.specs.Derived.{count}

count_of : {A : Type 0} (f : A → Pat Place) (xs : List A) → count (pats_of (map f xs)) ≡ length xs
count_of f [] = refl
count_of f (x ∷ xs) = ap suc (count_of f xs)

pub count_reversed : {A : Type 0} (f : A → Pat Place) (xs : List A) → count (pats_of (map f (reverse xs))) ≡ length xs
count_reversed f xs = count_of f (reverse xs) ∙ length-reverse xs

pub one_pat : (p : Place) (qs : Pats Place) → count qs ≡ 1 → pats_height qs ≡ pat_height (pat_row_of p qs)
one_pat p no_pat one = omega (arith, one)
one_pat p (and_pat q no_pat) one = omega arith
one_pat p (and_pat q (and_pat r qs)) one = omega (arith, one)

pub other_pats : (p : Place) (qs : Pats Place) → (count qs ≡ 1 → ⊥) → suc (pats_height qs) ≡ pat_height (pat_row_of p qs)
other_pats p no_pat other = refl
other_pats p (and_pat q no_pat) other = absurd (other refl)
other_pats p (and_pat q (and_pat r qs)) other = refl
