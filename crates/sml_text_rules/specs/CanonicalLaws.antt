-- Bases that are alike have one canonical basis.
use Rattle.std.specs.Prelude.{◌≡◌, ℕ, true, false, List}
use Rattle.sml_objects.specs.Alike.{Renaming}
use Rattle.sml_objects.specs.Appearance.{Stands}
use Rattle.sml_objects.specs.Canonical.{is_new}
use Rattle.sml_objects.specs.Initial.{Name, naming}
use Rattle.sml_core_rules.specs.Objects.{Basis, rename_basis, names_basis}
use Rattle.sml_text_rules.specs.BasisLines.{basis_lines, appear_basis}
use Rattle.sml_text_rules.specs.Canonical.{canonical}

-- some renaming leaves every name of the basis before and takes one basis to the other
abbrev pub AreAlikeOver : (before one other : Basis Name) → Type 0
AreAlikeOver B R S = (f : Renaming naming) × ((n : Name) → Stands n (names_basis B) → f.to n ≡ n) × (rename_basis f.to R ≡ S)

-- those of these names that are not new stand in the basis before
abbrev pub AreOver : (unit count : ℕ) (before : Basis Name) → List Name → Type 0
AreOver unit count B ns = (n : Name) → Stands n ns → is_new unit count n ≡ false → Stands n (names_basis B)

-- The lines of canonical bases are the same.
abbrev pub CanonicalLinesAreOne : Type 0
CanonicalLinesAreOne =
    (unit count : ℕ) (B R S : Basis Name) → AreOver unit count B (appear_basis R) → AreOver unit count B (appear_basis S) → AreAlikeOver B R S
    → basis_lines (canonical unit count R) ≡ basis_lines (canonical unit count S)

-- The whole of them is, where each new name appears in a line. One that does not keeps its number.
abbrev pub CanonicalIsOne : Type 0
CanonicalIsOne =
    (unit count : ℕ) (B R S : Basis Name) → AreOver unit count B (names_basis R) → AreOver unit count B (names_basis S)
    → ((n : Name) → Stands n (names_basis R) → is_new unit count n ≡ true → Stands n (appear_basis R)) → AreAlikeOver B R S
    → canonical unit count R ≡ canonical unit count S
