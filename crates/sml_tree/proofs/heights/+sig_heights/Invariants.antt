use Rattle.std.proofs.Common.{◌≡◌, map, take}
use Rattle.sml_tree.specs.Height.{counted}
use Rattle.sml_tree.specs.Heights.{specs_height, str_descs_height}
use Rattle.sml_tree.specs.SignatureViews.{specs_of, spec_of, str_descs_of, str_desc_of}
use Rattle.sml_tree.proofs.heights.+sig_heights.Given as goal

abbrev pub invariant-height_of_specs-loop-spec : goal.invariant-height_of_specs-loop-spec
invariant-height_of_specs-loop-spec l = l.most ≡ counted (specs_height (specs_of (map spec_of (take l.spec-index l.specs))))

abbrev pub invariant-height_of_str_descs-loop-desc : goal.invariant-height_of_str_descs-loop-desc
invariant-height_of_str_descs-loop-desc l = l.most ≡ counted (str_descs_height (str_descs_of (map str_desc_of (take l.desc-index l.descs))))
