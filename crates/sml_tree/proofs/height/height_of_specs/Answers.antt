use Rattle.sml_tree.proofs.Lists.{specs_on}
use Rattle.sml_tree.proofs.height.height_of_specs.Goals as goal

pub loop-spec-preserved : goal.loop-spec-preserved
loop-spec-preserved c =
    specs_on c.args.specs.now c.loop-spec.spec-index c.spec-item.result c.height_of_spec.result c.loop-spec.most c.max-most.result c.loop-spec-test.true c.spec-item.is c.height_of_spec.ensures c.loop-spec.invariant c.max-most.ensures
