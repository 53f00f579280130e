use Rattle.std.proofs.Common.{◌≡◌, drop}
use Rattle.sml_objects.specs.Objects.{types_of}
use Rattle.sml_core_rules.specs.Functions.{are_parameters}
use Rattle.sml_type_maps.specs.Mapped.{seen}
use Rattle.sml_type_maps.proofs.functions.are_variables.Given as goal

abbrev pub invariant-loop-index : goal.invariant-loop-index
invariant-loop-index l = are_parameters 0 (types_of (seen l.parts)) ≡ are_parameters l.index (types_of (seen (drop l.index l.parts)))
