use Rattle.sml_tree.proofs.Lists.{cores_on}
use Rattle.sml_tree.proofs.height.height_of_cores.Goals as goal

pub loop-core-preserved : goal.loop-core-preserved
loop-core-preserved c =
    cores_on c.args.cores.now c.loop-core.core-index c.core-item.result c.height_of_core.result c.loop-core.most c.max-most.result c.loop-core-test.true c.core-item.is c.height_of_core.ensures c.loop-core.invariant c.max-most.ensures
