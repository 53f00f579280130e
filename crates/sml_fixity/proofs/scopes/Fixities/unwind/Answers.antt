use Rattle.std.proofs.Common.{ap, ◌∙◌}
use Rattle.sml_fixity.specs.Scopes.{here}
use Rattle.sml_fixity.proofs.Maps.{restored}
use Rattle.sml_fixity.proofs.scopes.Fixities.unwind.Goals as goal

pub loop-change-preserved : goal.loop-change-preserved
loop-change-preserved c =
    let s = c.loop-change.self in
    let e = rw c.in-Restore.is at c.in-Some.ensures.items in
    restored (here s) (here c.put.new.self) c.in-Restore.name c.in-Restore.fixity s.changes.items _ _ c.in_ok-put-in-Restore.ensures.after e (ap (λ v. v.items) c.in_ok-put-in-Restore.ensures.changes) ∙ c.loop-change.invariant
