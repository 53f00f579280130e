use Rattle.sml_tree.proofs.Lists.{tys_on}
use Rattle.sml_tree.proofs.height.+height_ty.Goals as goal

pub height_of_tys-loop-ty-preserved : goal.height_of_tys-loop-ty-preserved
height_of_tys-loop-ty-preserved t c =
    tys_on c.args.tys.now c.loop-ty.ty-index c.ty-item.result c.height_of_ty.result c.loop-ty.most c.max-most.result c.loop-ty-test.true c.ty-item.is c.height_of_ty.ensures c.loop-ty.invariant c.max-most.ensures
