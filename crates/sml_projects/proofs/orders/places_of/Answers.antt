use Rattle.std.proofs.Common.{◌<◌, length, ap, sym, ◌∙◌, arith}
use Rattle.std.specs.Option.{is_some}
use Rattle.sml_projects.proofs.Needs.{unknown-need, places-more}
use Rattle.sml_projects.proofs.orders.places_of.Goals as goal

pub returns-in-None-clause-unknown : goal.returns-in-None-clause-unknown
returns-in-None-clause-unknown c =
    let within : c.loop-need.need-index < length c.args.needs.now = omega arith in
    unknown-need c.args.manifest.now c.args.needs.now c.loop-need.need-index c.need-item.result c.as_str.result.now within c.need-item.is c.as_str.ensures.value (sym c.get_index_of.ensures.found ∙ ap is_some c.in-None.is)

pub loop-need-preserved : goal.loop-need-preserved
loop-need-preserved c =
    let within : c.loop-need.need-index < length c.args.needs.now = omega arith in
    places-more c.args.manifest.now c.args.needs.now c.loop-need.need-index c.need-item.result c.as_str.result.now c.in-Some.place c.loop-need.places.items c.push.new.self.items within c.need-item.is c.as_str.ensures.value (sym c.get_index_of.ensures.index ∙ c.in-Some.is) c.in_ok-push-in-Some.ensures.items c.loop-need.invariant
