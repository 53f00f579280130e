use Rattle.std.proofs.Common.{ap, ◌∙◌}
use Rattle.std.specs.List.{list_any}
use Rattle.sml_read.specs.Extents.{starts_of}
use Rattle.sml_reach.specs.Events.{text_at, events_of}
use Rattle.sml_reach.specs.Reach.{declarations_in, first_misfit, up_to}
use Rattle.sml_reach.specs.CodeKept.{is_directive}
use Rattle.sml_reach.proofs.Keeping.{fits_all, undirected}
use Rattle.sml_reach.proofs.reach.fit.Goals as goal

pub returns : goal.returns
returns c =
    let unit = c.args.unit.now in
    let tokens = c.args.tokens.now in
    let nodes = c.args.nodes.now in
    let all = events_of unit tokens nodes (starts_of 0 nodes) in
    fits_all (text_at unit tokens) all c.in_ok-gathered.gathered _ _ (c.in_ok-gathered.ensures (list_any is_directive nodes) all c.in_ok-events.ensures (undirected unit tokens nodes (starts_of 0 nodes)))
    (c.first_of-first.ensures ∙ ap first_misfit c.deref.ensures.value)
    (λ os gathered. c.up_to.ensures ∙ ap (up_to c.before_misfit.result) (c.in_ok-declarations.ensures os gathered) ∙ ap (λ most. up_to most (declarations_in os)) c.before_misfit.ensures)
