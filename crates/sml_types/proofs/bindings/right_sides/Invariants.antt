use Rattle.std.proofs.Common.{◌≡◌, [], map, take}
use Rattle.sml_tree.specs.BindingViews.{typ_bind_of}
use Rattle.sml_objects.specs.Initial.{Name}
use Rattle.sml_rules.specs.Answers.{accepted}
use Rattle.sml_core_rules.specs.Objects.{Env}
use Rattle.sml_types.specs.Answered.{TellsOf}
use Rattle.sml_types.specs.Bindings.{AreSpelt, read_sides}
use Rattle.sml_types.specs.Meant.{meant}
use Rattle.sml_types.specs.Sides.{HasSides}
use Rattle.sml_types.proofs.bindings.right_sides.Given as goal

abbrev pub invariant-loop-bind : goal.invariant-loop-bind
invariant-loop-bind g l =
    (C : Env Name) → TellsOf (g.S.Scope.says_structure l.scope) (g.S.Scope.says_type l.scope) C → HasSides (g.S.Scope.says_side l.scope) C [] → AreSpelt (map typ_bind_of l.binds)
    → read_sides C (map typ_bind_of (take l.bind-index l.binds)) ≡ accepted (map (λ w. meant w.value) l.sides.items)
