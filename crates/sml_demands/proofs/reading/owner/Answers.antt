use Rattle.std.proofs.lemmas.List.Sorted.{searched}
use Rattle.sml_demands.proofs.Retrieving.{owner-found, rising-weakly}
use Rattle.sml_demands.proofs.reading.owner.Goals as goal

pub unreachable-requires : goal.unreachable-requires
unreachable-requires c =
    let us = c.args.unknowns.now in
    let s = rw c.in-Err.is at (searched us c.args.place c.binary_search.result c.binary_search.ensures.position (rising-weakly us c.requires.rising)) in
    owner-found us c.args.place c.in-Err.field-0 c.requires.rising c.requires.owned s.1 s.2
