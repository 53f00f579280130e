use Rattle.std.proofs.Common.{◌≡◌, List, length, map, take}
use Rattle.sml_lex.specs.declared.fault.Place.{Place}
use Rattle.sml_tree.specs.BindingViews.{dat_bind_of}
use Rattle.sml_tree.specs.Expressions.{TypBind}
use Rattle.sml_tree.specs.Withtype.{dat_replaced}
use Rattle.sml_objects.specs.Initial.{Name}
use Rattle.sml_rules.specs.Answers.{accepted}
use Rattle.sml_core_rules.specs.Datatypes.{read_all_arguments}
use Rattle.sml_core_rules.specs.Objects.{Env}
use Rattle.sml_types.specs.Answered.{TellsOf}
use Rattle.sml_types.specs.Datatypes.{HaveAll, ListSpelt, all_with_idents}
use Rattle.sml_types.specs.Sides.{HasSides}
use Rattle.sml_types.proofs.datatypes.arguments_of.Given as goal

abbrev pub invariant-loop-bind : goal.invariant-loop-bind
invariant-loop-bind g l =
    (length l.all.items ≡ l.bind-index) × HaveAll (take l.bind-index l.binds) l.all.items
    × ((C : Env Name) (bs : List (TypBind Place)) → TellsOf (g.S.Scope.says_structure l.scope) (g.S.Scope.says_type l.scope) C → HasSides (g.S.Scope.says_side l.scope) C bs
    → ListSpelt (map dat_bind_of l.binds)
    → read_all_arguments C (map (dat_replaced bs) (map dat_bind_of (take l.bind-index l.binds))) ≡ accepted (all_with_idents (take l.bind-index l.binds) l.all.items))
