use Rattle.sml_tree.proofs.HeightLists.{typ_binds_on}
use Rattle.sml_tree.proofs.heights.height_of_typ_binds.Goals as goal

pub loop-bind-preserved : goal.loop-bind-preserved
loop-bind-preserved c =
    typ_binds_on c.args.binds.now c.loop-bind.bind-index c.bind-item.result c.height_of_ty.result c.loop-bind.most c.max-most.result c.loop-bind-test.true c.bind-item.is c.height_of_ty.ensures c.loop-bind.invariant c.max-most.ensures
