use Rattle.std.proofs.Common.{get_or}
use Rattle.sml_demands.proofs.Reaching.{among-at}
use Rattle.sml_demands.proofs.reach.has_flag.Goals as goal

pub returns-then-flags-unknown-clause-yes : goal.returns-then-flags-unknown-clause-yes
returns-then-flags-unknown-clause-yes c =
    let vs = c.args.unknowns.now in
    let i = c.loop-unknown.unknown-index in
    (get_or vs i 0, among-at vs i c.loop-unknown-test.true, c.if-flags-unknown.true)
