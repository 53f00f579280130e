use Rattle.sml_fixity.proofs.Frames.{reducing_start, reducing_step, reduced_stop, reduced_none, clashes, popped_none}
use Rattle.sml_fixity.proofs.roles.Reader.reduce.Goals as goal

pub loop-top-init : goal.loop-top-init
loop-top-init c = λ roles h. reducing_start c.args.operator roles _ _ h

pub loop-top-preserved : goal.loop-top-preserved
loop-top-preserved c = λ roles h.
    rw c.in_ok-push-in-EarlierFirst.ensures.items (reducing_step c.args.operator roles _ _ c.in-Some.top (rw c.in-Some.ensures.items at (c.loop-top.invariant roles h)) c.in-EarlierFirst.ensures)

pub returns-in-LaterFirst : goal.returns-in-LaterFirst
returns-in-LaterFirst c = λ roles h.
    rw c.in_ok-push-in-LaterFirst.ensures.items (reduced_stop c.args.operator roles _ _ c.in-Some.top (rw c.in-Some.ensures.items at (c.loop-top.invariant roles h)) c.in-LaterFirst.ensures)

pub returns-in-Mixed : goal.returns-in-Mixed
returns-in-Mixed c = λ roles h.
    clashes c.args.operator roles _ _ c.in-Some.top (rw c.in-Some.ensures.items at (c.loop-top.invariant roles h)) c.in-Mixed.ensures.0 c.in-Mixed.ensures.1

pub returns : goal.returns
returns c = λ roles h.
    let e = popped_none c.pop.result _ _ _ _ c.in_default.not-Some c.pop.ensures.cases c.loop-top.self.pending.ok.0 c.pop.new.self.ok.0 in
    rw e.1 (reduced_none c.args.operator roles _ (rw e.0 at (c.loop-top.invariant roles h)))
