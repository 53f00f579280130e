-- Rows as maps from labels, each of which stands after its rank.
use Rattle.std.specs.Prelude.{◌≡◌, ℕ, List, map, Vec}
use Rattle.std.specs.Global.{Global}
use Rattle.std.specs.List.{AllByRecursion}
use Rattle.std.specs.declared.rc.Rc.{Rc}
use Rattle.sml_tree.specs.Trees.{Id}
use Rattle.sml_tree.specs.Views.{ident_of}
use Rattle.sml_objects.specs.Labels.{label_rank}

abbrev pub LabelKey : Type 0
LabelKey = ℕ × Rc (Vec ℕ Global) Global

-- that each label stands after its rank
abbrev pub AreRanked : {X : Type 0} → List (LabelKey × X) → Type 0
AreRanked es = AllByRecursion (λ e. e.0.0 ≡ label_rank (ident_of e.0.1)) es

-- what stands at labels, each after its label
abbrev pub fields_of : {A X : Type 0} → (A → X) → List (LabelKey × A) → List (Id × X)
fields_of f es = map (λ e. (ident_of e.0.1, f e.1)) es
