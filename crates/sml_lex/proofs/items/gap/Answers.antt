use Rattle.std.proofs.Common.{drop, sym, ap, ◌∙◌, arith}
use Rattle.sml_lex.specs.Bytes.{starts_with}
use Rattle.sml_lex.proofs.StringItems.{gap_first, gap_more, gap_closed, gap_open, white_ends, white_stops}
use Rattle.sml_lex.proofs.items.gap.Goals as goal
use Rattle.sml_lex.proofs.items.gap.Goals.{then-loop-count-test+else-is_white, else-loop-count-test}

pub loop-count-preserved : goal.loop-count-preserved
loop-count-preserved c = record {
  rest = sym (gap_more c.args.text.now c.loop-count.count c.loop-count-test.true (sym c.is_white.ensures ∙ c.if-is_white.true)) ∙ c.loop-count.invariant.rest;
  within = omega arith;
}

pub returns-then-starts_with : goal.returns-then-starts_with
returns-then-starts_with c = sym (sym (gap_first c.args.text.now) ∙ sym c.loop-count.invariant.rest ∙ gap_closed c.loop-count.count (drop c.loop-count.count c.args.text.now) (ap (starts_with 92) (sym c.after.ensures) ∙ sym c.starts_with.ensures ∙ c.if-starts_with.true))

pub returns-else-starts_with : goal.returns-else-starts_with
returns-else-starts_with c =
    let open_at = ap (starts_with 92) (sym c.after.ensures) ∙ sym c.starts_with.ensures ∙ c.if-starts_with.false in
    sym (
    sym (gap_first c.args.text.now) ∙ sym c.loop-count.invariant.rest
    ∙ elim c.loop-count-test.branch [
      | then-loop-count-test+else-is_white w ↦ gap_open c.loop-count.count (drop c.loop-count.count c.args.text.now) open_at (white_stops c.args.text.now c.loop-count.count w.loop-count-test.true (sym w.is_white.ensures ∙ w.if-is_white.false))
      | else-loop-count-test w ↦ gap_open c.loop-count.count (drop c.loop-count.count c.args.text.now) open_at (white_ends c.args.text.now c.loop-count.count w.loop-count-test.false)
    ]
    )
