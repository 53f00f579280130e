use Rattle.std.proofs.Common.{◌≡◌, drop}
use Rattle.sml_objects.specs.Objects.{types_of}
use Rattle.sml_type_maps.specs.Functions.{all_admit_where, by_given}
use Rattle.sml_type_maps.specs.Mapped.{seen}
use Rattle.sml_type_maps.proofs.functions.+admits.Given as goal

abbrev pub invariant-all_admit-loop-part : goal.invariant-all_admit-loop-part
invariant-all_admit-loop-part l =
    all_admit_where (by_given l.attributes) (types_of (seen l.parts)) ≡ all_admit_where (by_given l.attributes) (types_of (seen (drop l.part-index l.parts)))
