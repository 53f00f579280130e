use Rattle.std.proofs.Common.{ap, sym, ◌∙◌}
use Rattle.sml_tree.specs.Height.{counted}
use Rattle.sml_tree.proofs.HeightLists.{specs_on, str_descs_on}
use Rattle.sml_tree.proofs.HeightParts.{str_desc_height-parts}
use Rattle.sml_tree.proofs.heights.+sig_heights.Goals as goal

pub height_of_specs-loop-spec-preserved : goal.height_of_specs-loop-spec-preserved
height_of_specs-loop-spec-preserved t c =
    specs_on c.args.specs.now c.loop-spec.spec-index c.spec-item.result c.height_of_spec.result c.loop-spec.most c.max-most.result c.loop-spec-test.true c.spec-item.is c.height_of_spec.ensures c.loop-spec.invariant c.max-most.ensures

pub height_of_str_descs-loop-desc-preserved : goal.height_of_str_descs-loop-desc-preserved
height_of_str_descs-loop-desc-preserved t c =
    str_descs_on c.args.descs.now c.loop-desc.desc-index c.desc-item.result c.height_of_sig.result c.loop-desc.most c.max-most.result c.loop-desc-test.true c.desc-item.is (c.height_of_sig.ensures ∙ ap counted (sym (str_desc_height-parts c.desc-item.result))) c.loop-desc.invariant c.max-most.ensures
