use Rattle.sml_core.proofs.Sequences.{by-err}
use Rattle.sml_core.proofs.Instances.{attributes-none, attributes-step, attributes-stopped}
use Rattle.sml_core.specs.Answered.{AsksAttributes}
use Rattle.sml_core.proofs.context.Context.ask_attributes.Goals as goal

pub loop-index-init : goal.loop-index-init
loop-index-init c = attributes-none c.args.self.now c.args.place c.args.from

pub returns-in_err-ask_attribute : goal.returns-in_err-ask_attribute
returns-in_err-ask_attribute c =
    by-err (AsksAttributes c.args.self.now c.args.place c.args.from c.args.attributes.now c.ask_attribute.new.self) c.from_residual.result c.in_err-ask_attribute.field-0.0 c.from_residual.ensures.1
    (attributes-stopped c.args.self.now c.loop-index.self c.ask_attribute.new.self c.args.place c.args.from c.loop-index.index c.args.attributes.now c.loop-index-test.true c.loop-index.invariant
    c.in_err-ask_attribute.field-0.0 c.in_err-ask_attribute.ensures)

pub loop-index-preserved : goal.loop-index-preserved
loop-index-preserved c =
    attributes-step c.args.self.now c.loop-index.self c.ask_attribute.new.self c.args.place c.args.from c.loop-index.index c.args.attributes.now c.loop-index-test.true c.loop-index.invariant _
    c.in_ok-ask_attribute.ensures
