use Rattle.std.proofs.Common.{◌&&◌, ap, sym, ◌∙◌}
use Rattle.std.specs.List.{list_all}
use Rattle.sml_equality.specs.Runs.{arguments_admit}
use Rattle.sml_equality.proofs.Needing.{still_ok}
use Rattle.sml_equality.proofs.Keeping.{needs-spare}
use Rattle.sml_equality.proofs.largest.put_needs.Goals as goal

pub returns-then-branch-clause-spares : goal.returns-then-branch-clause-spares
returns-then-branch-clause-spares c =
    still_ok c.add_user.result (λ s kept.
    needs-spare kept c.args.lost.now.items c.args.users.now.items c.add_user.new.users.items c.args.index c.arguments_may_admit.new.needs.items (arguments_admit c.args.run.now kept c.args.arguments.now) (ap (λ b. list_all kept c.arguments_may_admit.new.needs.items && b) (sym c.if-branch.true) ∙ (c.in_ok-arguments_may_admit.ensures.kept kept ∙ ap (λ is. list_all kept is && arguments_admit c.args.run.now kept c.args.arguments.now) c.new-needs.ensures.items))
    (rw c.deref.ensures.value at (s kept c.args.lost.now.items))) c.add_user.ensures.spares
