use Rattle.std.proofs.Common.{◌≡◌, ap, Err}
use Rattle.sml_graph.specs.declared.merge.Unsolved.TheVariants.{Clash}
use Rattle.sml_graph.specs.declared.node.Node.TheVariants.{App, Open}
use Rattle.sml_graph.proofs.Merging.{apart-turned, joins-right, joins-turned}
use Rattle.sml_graph.proofs.merge.join.Goals as goal

pub returns-in-Err-clause-clash : goal.returns-in-Err-clause-clash
returns-in-Err-clause-clash c e =
    let f : c.in-Err.fault ≡ Clash = cc in
    rw (c.in-App.is, c.in-App-lower.is) (apart-turned (App c.in-App-lower.other c.in-App-lower.others) (App c.in-App.head c.in-App.kids) (c.in-Err.ensures.clash (ap Err f)))

pub returns-in-Ok-clause-joins : goal.returns-in-Ok-clause-joins
returns-in-Ok-clause-joins c = rw (c.in-App.is, c.in-App-lower.is) (joins-turned _ _ _ _ _ c.in-Ok.ensures.joins)

pub returns-in-Unknown-lower-2-clause-joins : goal.returns-in-Unknown-lower-2-clause-joins
returns-in-Unknown-lower-2-clause-joins c = rw (c.in-Open.is, c.in-Unknown-lower-2.is) (joins-right (Open c.in-Open.fields) c.args.pending.now.items tt)

pub returns-in_ok-close_row-in-App-lower-2-clause-joins : goal.returns-in_ok-close_row-in-App-lower-2-clause-joins
returns-in_ok-close_row-in-App-lower-2-clause-joins c = rw (c.in-Open.is, c.in-App-lower-2.is) (joins-turned _ _ _ _ _ c.in_ok-close_row-in-App-lower-2.ensures.joins)
