-- The field that a label picks.
use Rattle.std.proofs.Common.{◌≡◌, inl, inr, if◌then◌else◌, refl, sym, subst}
use Rattle.sml_tree.specs.Trees.{Id}
use Rattle.sml_narrowing.specs.Plain.{Plain, Row, Labelled, field}
use Rattle.sml_tree.proofs.Idents.{id_tells}

pub field_here : (l k : Id) (p : Plain) (fs : Row) → k ≡ l → field l (Labelled k p fs) ≡ p
field_here l k p fs e =
    elim (id_tells l k) [
      | inl y ↦ subst (λ b. (if b then p else field l fs) ≡ p) (sym y.0) refl
      | inr y ↦ absurd (y.1 (sym e))
    ]

pub field_there : (l k : Id) (p : Plain) (fs : Row) → (k ≡ l → ⊥) → field l (Labelled k p fs) ≡ field l fs
field_there l k p fs n =
    elim (id_tells l k) [
      | inl y ↦ absurd (n (sym y.1))
      | inr y ↦ subst (λ b. (if b then p else field l fs) ≡ field l fs) (sym y.0) refl
    ]
