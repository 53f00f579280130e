-- The headings of clauses that are not of the form that they should have.
use Rattle.std.proofs.Common.{◌≡◌, List, [], ◌∷◌, map, length, refl}
use Rattle.sml_lex.specs.declared.fault.Place.{Place}
use Rattle.sml_tree.specs.Patterns.{Pat, and_pat}
use Rattle.sml_tree.specs.PatternViews.{pats_of}
use Rattle.sml_bare_decs.specs.FunctionRules.{nameless, infix_head}

pub not_three : {A : Type 0} (f : A → Pat Place) (a : Pat Place) (xs : List A) → (length xs ≡ 2 → ⊥) → nameless (and_pat a (pats_of (map f xs))) ≡ infix_head a (pats_of (map f xs))
not_three f a [] other = refl
not_three f a (x ∷ []) other = refl
not_three f a (x ∷ y ∷ []) other = absurd (other refl)
not_three f a (x ∷ y ∷ z ∷ xs) other = refl
