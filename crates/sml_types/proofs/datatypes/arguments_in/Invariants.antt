use Rattle.std.proofs.Common.{◌≡◌, List, None, length, map, take}
use Rattle.sml_lex.specs.declared.fault.Place.{Place}
use Rattle.sml_tree.specs.BindingViews.{con_bind_of}
use Rattle.sml_tree.specs.Expressions.{TypBind}
use Rattle.sml_tree.specs.TypeViews.{names_of}
use Rattle.sml_tree.specs.Withtype.{con_replaced, unlisted}
use Rattle.sml_objects.specs.Initial.{Name}
use Rattle.sml_objects.specs.Maps.{lookup}
use Rattle.sml_objects.specs.Objects as O
use Rattle.sml_rules.specs.Answers.{accepted}
use Rattle.sml_core_rules.specs.Datatypes.{listed, read_arguments}
use Rattle.sml_core_rules.specs.Objects.{Env}
use Rattle.sml_types.specs.Answered.{TellsOf}
use Rattle.sml_types.specs.Datatypes.{meant_argument, with_idents}
use Rattle.sml_types.specs.Sides.{HasSides}
use Rattle.sml_types.specs.Variables.{AreListed}
use Rattle.sml_types.proofs.datatypes.arguments_in.Given as goal

abbrev pub invariant-loop-constructor : goal.invariant-loop-constructor
invariant-loop-constructor g l =
    (length l.arguments.items ≡ l.constructor-index) × AreListed l.listed (listed {N = Name} O.free 0 (names_of l.bind.variables.items))
    × ((C : Env Name) (bs : List (TypBind Place)) → TellsOf (g.S.Scope.says_structure l.scope) (g.S.Scope.says_type l.scope) C → HasSides (g.S.Scope.says_side l.scope) C bs
    → lookup unlisted (listed {N = Name} O.free 0 (names_of l.bind.variables.items)) ≡ None
    → read_arguments C (listed O.free 0 (names_of l.bind.variables.items)) (map (con_replaced bs) (map con_bind_of (take l.constructor-index l.bind.constructors.items)))
    ≡ accepted (with_idents (take l.constructor-index l.bind.constructors.items) (map meant_argument l.arguments.items)))
