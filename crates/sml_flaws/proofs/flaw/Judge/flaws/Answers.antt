use Rattle.std.proofs.Common.{◌++◌, [], sym, ap, subst, arith, reverse, take}
use Rattle.sml_reach.specs.Events.{text_at}
use Rattle.sml_flaws.specs.Flaws.{Knows, flaws_of}
use Rattle.sml_flaws.proofs.Flawing.{one_taken, flaws_on, flaws_end}
use Rattle.sml_flaws.proofs.flaw.Judge.flaws.Goals as goal

pub loop-mark-init : goal.loop-mark-init
loop-mark-init c = record {
  seen = c.clear.ensures (text_at c.args.self.now.unit.now c.args.self.now.tokens.now);
  kept = λ fits f. ap (λ fs. fs ++ flaws_of (text_at c.args.self.now.unit.now c.args.self.now.tokens.now) fits [] c.args.marks.now) (sym c.new-flaws.ensures.items);
}

pub loop-mark-preserved : goal.loop-mark-preserved
loop-mark-preserved c =
    let text = text_at c.args.self.now.unit.now c.args.self.now.tokens.now in
    let i = c.loop-mark.mark-index in
    let before = reverse (take i c.args.marks.now) in
    let seen = c.in_ok-again.ensures.knows before c.loop-mark.invariant.seen in
    record {
      seen = subst (λ ms. Knows text ms c.note.new.self) (sym (one_taken c.args.marks.now i _ c.loop-mark-test.true)) seen;
      kept = λ fits f. flaws_on text fits _ _ _ c.args.marks.now i _ _ (c.loop-mark.invariant.kept fits f) c.loop-mark-test.true (c.in_ok-push_flaws.ensures fits _ f seen) (c.in_ok-again.ensures.again before c.loop-mark.invariant.seen);
    }

pub returns : goal.returns
returns c = λ fits f.
    let t = c.loop-mark-test.false in
    flaws_end (text_at c.args.self.now.unit.now c.args.self.now.tokens.now) fits _ _ c.args.marks.now _ c.loop-mark.mark-index (c.loop-mark.invariant.kept fits f) (omega (arith, t))
