-- Canonical bases: the names that a unit made and that have no number below its count are numbered from the count on, in the order
-- in which they appear in the lines.
use Rattle.std.specs.Prelude.{◌≡◌, ◌<◌, ℕ, Bool, List, [], filter}
use Rattle.sml_objects.specs.Appearance.{Stands, firsts_after}
use Rattle.sml_objects.specs.Canonical.{is_new, renumber}
use Rattle.sml_objects.specs.Initial.{Name, made, naming}
use Rattle.sml_core_rules.specs.Objects.{Basis, rename_basis}
use Rattle.sml_text_rules.specs.BasisLines.{appear_basis}

abbrev pub new_names : ℕ → ℕ → Basis Name → List Name
new_names unit count B = filter (is_new unit count) (firsts_after naming [] (appear_basis B))

abbrev pub canonical : ℕ → ℕ → Basis Name → Basis Name
canonical unit count B = rename_basis (renumber unit count (new_names unit count B)) B

-- In a canonical basis the names of its unit are those with the numbers below the count, one for each.
pub record IsCounted (unit count : ℕ) (B : Basis Name) : Type 0 where
  pub below : (k a : ℕ) (q : Bool) → Stands (made unit k a q) B.names → k < count
  pub each : (k : ℕ) → k < count → (a : ℕ) × (q : Bool) × Stands (made unit k a q) B.names
  pub one : (k a b : ℕ) (q r : Bool) → Stands (made unit k a q) B.names → Stands (made unit k b r) B.names → (a ≡ b) × (q ≡ r)
