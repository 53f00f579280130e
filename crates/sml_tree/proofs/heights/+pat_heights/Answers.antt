use Rattle.std.proofs.Common.{ap, sym, ◌∙◌}
use Rattle.sml_tree.specs.Height.{counted}
use Rattle.sml_tree.proofs.HeightLists.{pats_on, pat_fields_on}
use Rattle.sml_tree.proofs.HeightParts.{pat_field_height-parts}
use Rattle.sml_tree.proofs.heights.+pat_heights.Goals as goal

pub height_of_pats-loop-pat-preserved : goal.height_of_pats-loop-pat-preserved
height_of_pats-loop-pat-preserved t c =
    pats_on c.args.pats.now c.loop-pat.pat-index c.pat-item.result c.height_of_pat.result c.loop-pat.most c.max-most.result c.loop-pat-test.true c.pat-item.is c.height_of_pat.ensures c.loop-pat.invariant c.max-most.ensures

pub height_of_pat_fields-loop-field-preserved : goal.height_of_pat_fields-loop-field-preserved
height_of_pat_fields-loop-field-preserved t c =
    pat_fields_on c.args.fields.now c.loop-field.field-index c.field-item.result c.height_of_pat.result c.loop-field.most c.max-most.result c.loop-field-test.true c.field-item.is (c.height_of_pat.ensures ∙ ap counted (sym (pat_field_height-parts c.field-item.result))) c.loop-field.invariant c.max-most.ensures
