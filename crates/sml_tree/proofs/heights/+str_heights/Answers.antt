use Rattle.std.proofs.Common.{ap, sym, ◌∙◌}
use Rattle.sml_tree.specs.Height.{counted}
use Rattle.sml_tree.proofs.HeightLists.{str_decs_on, str_binds_on}
use Rattle.sml_tree.proofs.HeightParts.{str_bind_height-parts}
use Rattle.sml_tree.proofs.heights.+str_heights.Goals as goal

pub height_of_str_decs-loop-dec-preserved : goal.height_of_str_decs-loop-dec-preserved
height_of_str_decs-loop-dec-preserved t c =
    str_decs_on c.args.decs.now c.loop-dec.dec-index c.dec-item.result c.height_of_str_dec.result c.loop-dec.most c.max-most.result c.loop-dec-test.true c.dec-item.is c.height_of_str_dec.ensures c.loop-dec.invariant c.max-most.ensures

pub height_of_str_binds-loop-bind-preserved : goal.height_of_str_binds-loop-bind-preserved
height_of_str_binds-loop-bind-preserved t c =
    str_binds_on c.args.binds.now c.loop-bind.bind-index c.bind-item.result c.height_of_str.result c.loop-bind.most c.max-most.result c.loop-bind-test.true c.bind-item.is (c.height_of_str.ensures ∙ ap counted (sym (str_bind_height-parts c.bind-item.result))) c.loop-bind.invariant c.max-most.ensures
