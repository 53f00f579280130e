use Rattle.std.proofs.Common.{map, take}
use Rattle.std.specs.List.{AllByRecursion}
use Rattle.sml_tree.specs.BindingViews.{typ_bind_of}
use Rattle.sml_tree.specs.Trees.{Id}
use Rattle.sml_tree.specs.Withtype.{bound}
use Rattle.sml_objects.specs.Initial.{Name}
use Rattle.sml_objects.specs.Maps.{lookup}
use Rattle.sml_objects.specs.Views.{entries_of}
use Rattle.sml_core_rules.specs.Objects.{Env}
use Rattle.sml_bases.specs.Views.{ty_str_of}
use Rattle.sml_types.specs.Answered.{TellsOf, there_or}
use Rattle.sml_types.specs.Bindings.{AreSpelt}
use Rattle.sml_types.specs.Sides.{AppliesOwn, IsSideOf}
use Rattle.sml_types.proofs.datatypes.sides_of.Given as goal

abbrev pub invariant-loop-bind : goal.invariant-loop-bind
invariant-loop-bind g l =
    (C : Env Name) → TellsOf (g.S.Scope.says_structure l.scope) (λ x o. there_or (lookup x (entries_of ty_str_of l.types.entries)) (g.S.Scope.says_type l.scope x) o) C
    → AreSpelt (map typ_bind_of l.withtype) → AllByRecursion (λ b. AppliesOwn C b.ty) (map typ_bind_of l.withtype)
    → (x : Id) → IsSideOf C (bound x (map typ_bind_of (take l.bind-index l.withtype))) (lookup x (entries_of (λ r. r) l.sides.entries))
