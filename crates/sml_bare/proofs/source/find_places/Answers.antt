use Rattle.std.proofs.Common.{◌+◌, sym, ap, ◌∙◌, length, subst}
use Rattle.std.proofs.lemmas.List.{length_push}
use Rattle.sml_reach.specs.Places.{start_of}
use Rattle.sml_reach.specs.Places.{place_from}
use Rattle.sml_bare.specs.CodeSources.{ArePlaced}
use Rattle.sml_bare.proofs.Sourcing.{placed_on, none_placed}
use Rattle.sml_bare.proofs.source.find_places.Goals as goal

pub loop-n-init : goal.loop-n-init
loop-n-init c = record {
  sound = c.new-walk.ensures.sound c.args.unit.now;
  start = c.new-walk.ensures.start ∙ c.start_of.ensures;
  kept = subst (ArePlaced c.args.unit.now c.args.tokens.now) (sym (c.reserve.ensures.items ∙ c.clear.ensures.items)) (none_placed c.args.unit.now c.args.tokens.now);
  count = ap length (c.reserve.ensures.items ∙ c.clear.ensures.items);
}

pub loop-n-preserved : goal.loop-n-preserved
loop-n-preserved c =
    let inv = c.loop-n.invariant in
    let unit = c.args.unit.now in
    let tokens = c.args.tokens.now in
    record {
      sound = c.go_to.ensures.sound;
      start = c.go_to.ensures.start ∙ inv.start;
      kept = subst (ArePlaced unit tokens) (sym c.in_ok-push.ensures.items) (placed_on unit tokens c.loop-n.places.items c.go_to.result c.loop-n.n inv.count (c.go_to.ensures.place ∙ ap (λ k. place_from unit k c.start_of-in-loop-n.result) inv.start ∙ ap (place_from unit (start_of tokens 0 0)) c.start_of-in-loop-n.ensures) inv.kept);
      count = ap length c.in_ok-push.ensures.items ∙ length_push c.loop-n.places.items _ ∙ ap (λ k. k + 1) inv.count;
    }
