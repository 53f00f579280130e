-- One-to-one maps of names, as exchanges one after the other.
use Rattle.std.specs.Prelude.{◌≡◌, List, [], ◌∷◌}
use Rattle.sml_objects.specs.Names.{Naming}
use Rattle.sml_objects.specs.Alike.{Renaming}
use Rattle.sml_objects.specs.Initial.{Name, naming}
use Rattle.sml_objects.specs.Views.{name_of}
use Rattle.sml_objects.specs.declared.objects.TyName.{TyName}

-- m and n change places
unfoldable pub exchanged : {N : Type 0} → Naming N → N → N → N → N
exchanged names m n k = elim (names.same k m) [ yes _ ↦ n | no _ ↦ elim (names.same k n) [ yes _ ↦ m | no _ ↦ k ] ]

-- what the first pair of a name gives, or the name itself
unfoldable pub renamed_by : List (TyName × TyName) → Name → Name
renamed_by [] n = n
renamed_by (e ∷ es) n = elim (naming.same n (name_of e.0)) [ yes _ ↦ name_of e.1 | no _ ↦ renamed_by es n ]

abbrev pub IsRenaming : (Name → Name) → Type 0
IsRenaming f = (r : Renaming naming) × ((n : Name) → f n ≡ r.to n)
