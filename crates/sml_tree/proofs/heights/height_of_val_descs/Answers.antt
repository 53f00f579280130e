use Rattle.sml_tree.proofs.HeightLists.{val_descs_on}
use Rattle.sml_tree.proofs.heights.height_of_val_descs.Goals as goal

pub loop-desc-preserved : goal.loop-desc-preserved
loop-desc-preserved c =
    val_descs_on c.args.descs.now c.loop-desc.desc-index c.desc-item.result c.height_of_ty.result c.loop-desc.most c.max-most.result c.loop-desc-test.true c.desc-item.is c.height_of_ty.ensures c.loop-desc.invariant c.max-most.ensures
