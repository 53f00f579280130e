-- Fields, and the rows that have them.
use Rattle.std.specs.Prelude.{◌≡◌, ◌⊎◌, ℕ, Vec, List, [], ◌∷◌, map}
use Rattle.std.specs.List.{AllByRecursion, AllByRecursion-prop}
use Rattle.std.specs.Coded.{×_prop, →_prop, Unit-prop}
use mathlib.Core.HLevel.{⊥_prop}
use Rattle.std.specs.Global.{Global}
use Rattle.std.specs.declared.rc.Rc.{Rc}
use Rattle.sml_tree.specs.Trees.{Id}
use Rattle.sml_tree.specs.Views.{ident_of}
use Rattle.sml_objects.specs.Initial.{Name}
use Rattle.sml_layers.specs.Rows as R
use Rattle.sml_layers.specs.Worlds.{World}
use Rattle.sml_graph.specs.Worlds.{In}

-- no label stands twice
abbrev pub AreDistinct : {X : Type 0} → List (Id × X) → Type 0
AreDistinct [] = Unit {0}
AreDistinct (f ∷ fs) = AllByRecursion (λ g. f.0 ≡ g.0 → ⊥) fs × AreDistinct fs

pub AreDistinct-prop : {X : Type 0} (fs : List (Id × X)) → IsProp (AreDistinct fs)
AreDistinct-prop [] = Unit-prop
AreDistinct-prop (f ∷ fs) = ×_prop (AllByRecursion-prop (λ g. f.0 ≡ g.0 → ⊥) (λ g. →_prop ⊥_prop) fs) (AreDistinct-prop fs)

-- labels with nodes
abbrev pub field_list : List (Rc (Vec ℕ Global) Global × ℕ) → List (Id × ℕ)
field_list es = map (λ e. (ident_of e.0, e.1)) es

abbrev pub kids_of : List (Id × ℕ) → List ℕ
kids_of fs = map (λ f. f.1) fs

abbrev pub IsField : Id → ℕ → List (Id × ℕ) → Type 0
IsField l k [] = ⊥
IsField l k (f ∷ fs) = ((l ≡ f.0) × (k ≡ f.1)) ⊎ IsField l k fs

-- The type is a row, and has these fields.
abbrev pub HasFields : (w : World) → In w → List (Id × In w) → Type 0
HasFields w t fs = R.HasFields Name w t fs
