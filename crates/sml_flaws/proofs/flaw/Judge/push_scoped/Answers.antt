use Rattle.std.proofs.Common.{refl}
use Rattle.sml_reach.specs.Events.{text_at}
use Rattle.sml_flaws.proofs.Scoping.{scoped_on}
use Rattle.sml_flaws.proofs.flaw.Judge.push_scoped.Goals as goal

pub loop-mark-init : goal.loop-mark-init
loop-mark-init c = record {
  kept = refl;
  known = c.new-passed.ensures (text_at c.args.self.now.unit.now c.args.self.now.tokens.now) c.args.ends.now c.in_ok-owned_of.field-0.items;
}

pub loop-mark-preserved : goal.loop-mark-preserved
loop-mark-preserved c = record {
  kept = scoped_on (text_at c.args.self.now.unit.now c.args.self.now.tokens.now) c.args.ends.now c.args.marks.now c.args.marks.now _ _ _ c.loop-mark.mark-index _ _ c.loop-mark.invariant.kept c.loop-mark-test.true c.in_ok-push_some.ensures
      (c.in_ok-scoped_at.ensures.flaw c.args.marks.now c.in_ok-owned_of.ensures c.loop-mark.invariant.known);
  known = c.in_ok-scoped_at.ensures.known c.loop-mark.invariant.known;
}
