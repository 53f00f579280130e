-- Names of a run with the equality attributes that a set gives them, and datatypes with these names.
use Rattle.std.specs.Prelude.{◌≡◌, ℕ, zero, suc, Bool, Option, Some, None, List, [], ◌∷◌, map, Vec}
use Rattle.std.specs.Global.{Global}
use Rattle.std.specs.declared.rc.Rc.{Rc}
use Rattle.sml_objects.specs.Appearance.{Stands}
use Rattle.sml_objects.specs.Initial.{Name, initial, made, naming}
use Rattle.sml_objects.specs.Objects as O
use Rattle.sml_objects.specs.Objects.{names_type, rename_type}
use Rattle.sml_objects.specs.Views.{type_of}
use Rattle.sml_objects.specs.declared.objects.MlType.{MlType}
use Rattle.sml_core_rules.specs.Datatypes as D
use Rattle.sml_core_rules.specs.Datatypes.{AdmitAsManyAsCan}
use Rattle.sml_equality.specs.declared.runs.Run.{Run}
use Rattle.sml_equality.specs.Runs.{IsLargest, arguments_at, kept_or, place_in}

-- a name of the run admits equality where the set has it
abbrev pub settled : Run → (ℕ → Bool) → Name → Name
settled r kept (initial k) = initial k
settled r kept (made u n a q) = made u n a (kept_or kept q (place_in r (made u n a q)))

abbrev pub settled_argument : Run → (ℕ → Bool) → Option (Rc MlType Global) → Option (O.MlType Name)
settled_argument r kept None = None
settled_argument r kept (Some t) = Some (rename_type (settled r kept) (type_of t.value))

-- Datatypes with the names and with the arguments of their constructors, each after its identifier, in the end.
abbrev pub AreSettled : Run → (ℕ → Bool) → List Name → List (Vec (Option (Rc MlType Global)) Global) → List (Name × D.Arguments Name) → Type 0
AreSettled r kept [] [] [] = Unit {0}
AreSettled r kept (n ∷ ns) (d ∷ ds) (e ∷ es) = (e.0 ≡ settled r kept n) × (map (λ c. c.1) e.1 ≡ map (settled_argument r kept) d.items) × AreSettled r kept ns ds es
AreSettled r kept [] [] (e ∷ es) = ⊥
AreSettled r kept [] (d ∷ ds) es = ⊥
AreSettled r kept (n ∷ ns) [] es = ⊥
AreSettled r kept (n ∷ ns) (d ∷ ds) [] = ⊥

-- names at the places of the run from this one on
abbrev pub HavePlaces : Run → ℕ → List Name → Type 0
HavePlaces r k [] = Unit {0}
HavePlaces r k (n ∷ ns) = (place_in r n ≡ Some k) × HavePlaces r (suc k) ns

abbrev pub name_at : List Name → ℕ → Option Name
name_at [] k = None
name_at (n ∷ ns) zero = Some n
name_at (n ∷ ns) (suc k) = name_at ns k

-- a name of the run in these types is the one at its place
abbrev pub IsOwn : Run → List Name → Name → Type 0
IsOwn r ns n = (k : ℕ) → place_in r n ≡ Some k → name_at ns k ≡ Some n

abbrev pub AreOwn : Run → List Name → List (Option (Rc MlType Global)) → Type 0
AreOwn r ns [] = Unit {0}
AreOwn r ns (None ∷ ts) = AreOwn r ns ts
AreOwn r ns (Some t ∷ ts) = ((n : Name) → Stands n (names_type (type_of t.value)) → IsOwn r ns n) × AreOwn r ns ts

-- The datatypes of the largest set admit equality, and those alone: as the rules want it.
abbrev pub LargestAdmits : Type 0
LargestAdmits =
    (r : Run) (kept : ℕ → Bool) (ns : List Name) (ds : List (Vec (Option (Rc MlType Global)) Global)) (es : List (Name × D.Arguments Name))
    → HavePlaces r 0 ns → ((k : ℕ) → AreOwn r ns (arguments_at ds k)) → AreSettled r kept ns ds es → IsLargest r kept ds → AdmitAsManyAsCan naming es
