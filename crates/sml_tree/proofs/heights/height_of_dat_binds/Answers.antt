use Rattle.std.proofs.Common.{map, ap, ◌∙◌}
use Rattle.sml_tree.specs.Height.{counted}
use Rattle.sml_tree.specs.Heights.{highest, con_bind_height}
use Rattle.sml_tree.specs.BindingViews.{con_bind_of}
use Rattle.sml_tree.proofs.HeightLists.{dat_binds_on}
use Rattle.sml_tree.proofs.heights.height_of_dat_binds.Goals as goal

pub loop-bind-preserved : goal.loop-bind-preserved
loop-bind-preserved c =
    dat_binds_on c.args.binds.now c.loop-bind.bind-index c.bind-item.result c.height_of_con_binds.result c.loop-bind.most c.max-most.result c.loop-bind-test.true c.bind-item.is (c.height_of_con_binds.ensures ∙ ap (λ bs. counted (highest con_bind_height (map con_bind_of bs))) c.deref.ensures.value) c.loop-bind.invariant c.max-most.ensures
