use Rattle.std.proofs.Common.{◌≡◌, map, take}
use Rattle.sml_types.specs.Datatypes.{made_argument, meant_argument}
use Rattle.sml_types.proofs.datatypes.all_made.Given as goal

abbrev pub invariant-loop-argument : goal.invariant-loop-argument
invariant-loop-argument l = map made_argument l.types.items ≡ map meant_argument (take l.argument-index l.arguments)
