use Rattle.sml_fixity.proofs.Frames.{combine, built, popped_none}
use Rattle.sml_fixity.proofs.roles.Reader.finish.Goals as goal

pub loop-top-preserved : goal.loop-top-preserved
loop-top-preserved c = λ roles h.
    rw c.in_ok-push.ensures.items (combine roles _ _ c.in-Some.top (rw c.in-Some.ensures.items at (c.loop-top.invariant roles h)))

pub returns : goal.returns
returns c = λ roles h.
    let e = popped_none c.pop.result _ _ _ _ c.in_default.not-Some c.pop.ensures.cases c.loop-top.pending.ok.0 c.pop.new.self.ok.0 in
    built roles _ (rw e.0 at (c.loop-top.invariant roles h))
