use Rattle.std.proofs.Common.{vec_len}
use Rattle.sml_projects.specs.Orders.{Loses}
use Rattle.sml_projects.proofs.orders.is_ready.Given as goal

abbrev pub invariant-loop-last : goal.invariant-loop-last
invariant-loop-last l = Loses l.taken l.initial.needs.items l.needs.items

abbrev pub decreases-loop-last : goal.decreases-loop-last
decreases-loop-last l = vec_len l.needs
