use Rattle.std.proofs.Common.{◌≡◌, map}
use Rattle.sml_objects.specs.Views.{type_of}
use Rattle.sml_types.proofs.Losing.{free_from}
use Rattle.sml_types.proofs.datatypes.whole_of.Given as goal

abbrev pub invariant-loop-index : goal.invariant-loop-index
invariant-loop-index l = map (λ t. type_of t.value) l.parameters.items ≡ free_from 0 l.index
