use Rattle.sml_tree.proofs.HeightLists.{fun_binds_on, of_two}
use Rattle.sml_tree.proofs.heights.height_of_fun_binds.Goals as goal

pub loop-bind-preserved : goal.loop-bind-preserved
loop-bind-preserved c =
    fun_binds_on c.args.binds.now c.loop-bind.bind-index c.bind-item.result c.max.result c.loop-bind.most c.max-most.result c.loop-bind-test.true c.bind-item.is (of_two c.height_of_sig.result c.height_of_str.result c.max.result _ _ c.height_of_sig.ensures c.height_of_str.ensures c.max.ensures) c.loop-bind.invariant c.max-most.ensures
