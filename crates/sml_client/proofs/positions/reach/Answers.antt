use Rattle.std.proofs.Common.{◌≡◌, ◌+◌, ◌||◌, ◌&&◌, false, leb, ltb, get_or, take, length-take, below_more, sym, ap, ◌∙◌, arith}
use Rattle.std.proofs.lemmas.List.Sums.{sum_by_more}
use Rattle.sml_client.specs.Positions.{is_end, is_stop, width}
use Rattle.sml_client.proofs.Places.{few_units}
use Rattle.sml_client.proofs.positions.reach.Goals as goal

pub loop-index-preserved : goal.loop-index-preserved
loop-index-preserved c =
    let e = c.args.encoding in
    let line = c.args.line.now in
    let i = c.loop-index.index in
    let b = get_or line i 0 in
    let more = sum_by_more (width e) line i 0 c.loop-index-test.true in
    let few = few_units e (take (i + 1) line) in
    let size = length-take (i + 1) line in
    let so_far = c.loop-index.invariant.0 in
    let next = c.width-width.ensures in
    let add = c.saturating_add-passed.ensures in
    let here : is_stop e line c.args.units i ≡ false =
    sym (ap (λ w. is_end b || (ltb 0 w && leb c.args.units c.loop-index.passed)) next ∙ ap (λ p. is_end b || (ltb 0 (width e b) && leb c.args.units p)) so_far) ∙ sym c.is_stop.ensures ∙ c.if-is_stop.false in
    (omega (arith, more, few, size, so_far, next, add), below_more _ _ c.loop-index.invariant.1 here)
