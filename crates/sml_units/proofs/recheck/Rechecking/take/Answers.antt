use Rattle.std.proofs.Common.{IfSome, sym, subst}
use Rattle.sml_units.specs.Complete.{AreComplete}
use Rattle.sml_units.proofs.Complete.{copies_complete}
use Rattle.sml_units.proofs.recheck.Rechecking.take.Goals as goal

pub returns-then-is_as_before-clause-complete : goal.returns-then-is_as_before-clause-complete
returns-then-is_as_before-clause-complete c = λ h.
    let before = c.in-Some.before in
    let read = c.in_ok-read-2.read in
    let old : AreComplete before.text.now before.replies.now = subst (λ o. IfSome o (λ b. AreComplete b.text.now b.replies.now)) c.in-Some.is h in
    c.put-then-is_as_before.ensures.complete
    (subst (λ t. AreComplete t read.0.items) (sym (c.is_as_before.ensures c.if-is_as_before.true)) (copies_complete before.text.now before.replies.now read.0.items c.in_ok-read-2.ensures old))
