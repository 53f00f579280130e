use Rattle.std.proofs.Common.{◌≡◌, Some, map, take}
use Rattle.std.specs.Option.{option_map}
use Rattle.sml_tree.specs.SignatureViews.{spec_of, specs_of, str_desc_of, str_descs_of}
use Rattle.sml_bases.specs.Entries.{capped}
use Rattle.sml_sigs.specs.Counts.{bound_by, specs_bind, str_descs_bind}
use Rattle.sml_sigs.proofs.counts.+counts.Given as goal

abbrev pub invariant-names_of_specs-loop-spec : goal.invariant-names_of_specs-loop-spec
invariant-names_of_specs-loop-spec l = Some l.count ≡ option_map capped (specs_bind (bound_by l.basis) (specs_of (map spec_of (take l.spec-index l.specs))))

abbrev pub invariant-names_of_structures-loop-desc : goal.invariant-names_of_structures-loop-desc
invariant-names_of_structures-loop-desc l = Some l.count ≡ option_map capped (str_descs_bind (bound_by l.basis) (str_descs_of (map str_desc_of (take l.desc-index l.descs))))
