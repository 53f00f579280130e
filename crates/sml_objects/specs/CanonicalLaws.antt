-- Canonical names are a renaming, and the same for objects that are alike.
use Rattle.std.specs.Prelude.{◌≡◌, ℕ, false, map, length}
use Rattle.std.specs.List.{range_with_len}
use Rattle.sml_objects.specs.Objects.{Sig, Basis, names_sig, names_basis}
use Rattle.sml_objects.specs.Alike.{AlikeOver}
use Rattle.sml_objects.specs.Initial.{Name, naming}
use Rattle.sml_objects.specs.Appearance.{Stands}
use Rattle.sml_objects.specs.Canonical.{is_new, new_names, canonical, number_of}

-- A renaming that fixes the names of every basis without new names takes an object to its canonical form.
abbrev pub CanonicalRenames : Type 0
CanonicalRenames =
    (unit count : ℕ) (B : Basis Name) (S : Sig Name)
    → ((n : Name) → Stands n (names_basis B) → is_new unit count n ≡ false)
    → AlikeOver naming B S (canonical unit count S)

-- the names of an object that are not new stand in the basis
abbrev pub IsOver : ℕ → ℕ → Basis Name → Sig Name → Type 0
IsOver unit count B S = (n : Name) → Stands n (names_sig S) → is_new unit count n ≡ false → Stands n (names_basis B)

-- Objects that are alike over a basis have one canonical form.
abbrev pub CanonicalIsOne : Type 0
CanonicalIsOne =
    (unit count : ℕ) (B : Basis Name) (R S : Sig Name)
    → IsOver unit count B R → IsOver unit count B S
    → AlikeOver naming B R S → canonical unit count R ≡ canonical unit count S

-- The new names of a canonical form have the numbers from the count on, in the order in which they appear.
abbrev pub CanonicalNumbers : Type 0
CanonicalNumbers =
    (unit count : ℕ) (S : Sig Name)
    → map number_of (new_names unit count (canonical unit count S)) ≡ range_with_len count (length (new_names unit count S))
