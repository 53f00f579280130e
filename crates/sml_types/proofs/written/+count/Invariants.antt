use Rattle.std.proofs.Common.{length, take, vec_len}
use Rattle.sml_objects.specs.Objects as O
use Rattle.sml_objects.specs.Initial.{Name}
use Rattle.sml_objects.specs.Types.{argument}
use Rattle.sml_type_maps.specs.Counted.{HasAddedAbove, IsBodyFor}
use Rattle.sml_type_maps.proofs.Replacing.{HasAddedBody}
use Rattle.sml_types.specs.Meant.{all_meant}
use Rattle.sml_types.proofs.written.+count.Given as goal

abbrev pub invariant-add_all-loop-part : goal.invariant-add_all-loop-part
invariant-add_all-loop-part l = HasAddedAbove l.fn.count l.count l.times (all_meant (take l.part-index l.parts))

abbrev pub invariant-add_applied-loop-variable : goal.invariant-add_applied-loop-variable
invariant-add_applied-loop-variable l =
    (t : O.MlType Name) → IsBodyFor (length l.arguments) (vec_len l.fn.count.uses) t l.body
    → HasAddedBody l.fn.count l.count l.times t (vec_len l.body.uses) (argument (all_meant l.arguments)) l.variable
