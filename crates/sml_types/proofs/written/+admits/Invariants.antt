use Rattle.std.proofs.Common.{◌≡◌, drop, map, take}
use Rattle.sml_type_maps.specs.Functions.{admits_where, all_admit_where, by_attributes}
use Rattle.sml_types.specs.Meant.{all_meant, meant}
use Rattle.sml_types.proofs.written.+admits.Given as goal

abbrev pub invariant-all_admit-loop-part : goal.invariant-all_admit-loop-part
invariant-all_admit-loop-part l =
    all_admit_where (by_attributes l.attributes) (all_meant l.parts) ≡ all_admit_where (by_attributes l.attributes) (all_meant (drop l.part-index l.parts))

abbrev pub invariant-each_admits-loop-part : goal.invariant-each_admits-loop-part
invariant-each_admits-loop-part l =
    l.all.items ≡ map (λ v. admits_where (by_attributes l.attributes) (meant v.value)) (take l.part-index l.parts)
