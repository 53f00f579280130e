use Rattle.std.proofs.Common.{◌≡◌, take}
use Rattle.sml_objects.specs.Objects.{types_of}
use Rattle.sml_type_maps.specs.Functions.{arity_needed_all}
use Rattle.sml_type_maps.specs.Mapped.{seen}
use Rattle.sml_type_maps.proofs.functions.+arity.Given as goal

abbrev pub invariant-greatest_arity-loop-part : goal.invariant-greatest_arity-loop-part
invariant-greatest_arity-loop-part l = l.arity ≡ arity_needed_all (types_of (seen (take l.part-index l.parts)))
