use Rattle.sml_core.proofs.Steps.{watches-quiet, watches-never}
use Rattle.sml_core.proofs.context.Context.watch.Goals as goal

pub returns-then-is_next : goal.returns-then-is_next
returns-then-is_next c = watches-never c.args.self.now _ _ c.is_next.new.self c.is_next.result c.if-is_next.true c.is_next.ensures

pub returns : goal.returns
returns c = watches-quiet c.args.self.now c.is_next.new.self c.is_next.result c.if-is_next.false c.is_next.ensures
