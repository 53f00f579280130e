use Rattle.std.proofs.Common.{◌≡◌, map, take}
use Rattle.sml_types.specs.Datatypes.{made_argument, meant_argument}
use Rattle.sml_types.proofs.datatypes.made_arguments.Given as goal

abbrev pub invariant-loop-arguments : goal.invariant-loop-arguments
invariant-loop-arguments l = map (λ ts. map made_argument ts.items) l.made.items ≡ map (λ ts. map meant_argument ts.items) (take l.arguments-index l.all)
