use Rattle.std.proofs.Common.{ap, ◌∙◌, length, set}
use Rattle.sml_graph.specs.CodeLimits.{limits_in}
use Rattle.sml_graph.proofs.Tabling.{length-more, in-more, in-set, limits-set}
use Rattle.sml_graph.proofs.limit_table.Limits.set.Goals as goal

pub invariant_of-self-2 : goal.invariant_of-self-2
invariant_of-self-2 c =
    let ts = c.self.inside.table.items in
    let us = c.place_of.new.table.items in
    let ps = c.self.inside.places.items in
    let e = c.in_ok-place.ensures in
    in-set (length us) ps c.args.at c.in_ok-place.place (in-more (length ts) (length us) ps c.self.invariant (length-more ts us e.grows)) e.within

pub returns : goal.returns
returns c =
    let ts = c.self.inside.table.items in
    let ps = c.self.inside.places.items in
    let e = c.in_ok-place.ensures in
    limits-set ts c.place_of.new.table.items ps c.args.at c.in_ok-place.place c.self.invariant e.grows ∙ (ap (set (limits_in ts ps) c.args.at) e.limit ∙ ap (λ ls. set ls c.args.at c.args.limit) c.self.view_is)
