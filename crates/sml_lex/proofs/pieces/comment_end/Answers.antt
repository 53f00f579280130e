use Rattle.std.proofs.Common.{◌+◌, drop, sym, ap, ◌∙◌, arith, Some, ◌-◌}
use Rattle.std.proofs.lemmas.List.{drop-drop, length-drop}
use Rattle.sml_lex.specs.CodeComments.{after_comments}
use Rattle.sml_lex.proofs.Comments.{both_there, opened, closed_last, closed_one, passed_one, none_left}
use Rattle.sml_lex.proofs.pieces.comment_end.Goals as goal

pub loop-place-preserved-then-stand_at : goal.loop-place-preserved-then-stand_at
loop-place-preserved-then-stand_at c =
    let inv = c.loop-place.invariant in
    let few = inv.few in
    let before = inv.before in
    let h = sym c.stand_at.ensures ∙ c.if-stand_at.true in
    let there = both_there 40 42 (drop c.loop-place.place c.args.bytes.now) h in
    let l = length-drop c.loop-place.place c.args.bytes.now in record {
      rest = ap (after_comments (c.loop-place.depth + 1)) (sym (drop-drop 2 c.loop-place.place c.args.bytes.now)) ∙ sym (opened c.loop-place.depth (drop c.loop-place.place c.args.bytes.now) h) ∙ inv.rest;
      some = omega arith;
      few = omega (arith, few);
      before = omega (arith, before);
      within = omega (arith, there, l);
    }

pub returns-then-depth-eq1 : goal.returns-then-depth-eq1
returns-then-depth-eq1 c =
    let inv = c.loop-place.invariant in
    let before = inv.before in
    let n = sym c.stand_at.ensures ∙ c.if-stand_at.false in
    let h = sym c.stand_at-else-stand_at.ensures ∙ c.if-stand_at-2.true in
    let there = both_there 42 41 (drop c.loop-place.place c.args.bytes.now) h in
    let l = length-drop c.loop-place.place c.args.bytes.now in
    (omega (arith, before), omega (arith, there, l), sym inv.rest ∙ closed_last c.loop-place.depth (drop c.loop-place.place c.args.bytes.now) n h c.if-depth-eq1.true ∙ ap Some (drop-drop 2 c.loop-place.place c.args.bytes.now))

pub loop-place-preserved-then-stand_at-2 : goal.loop-place-preserved-then-stand_at-2
loop-place-preserved-then-stand_at-2 c =
    let inv = c.loop-place.invariant in
    let few = inv.few in
    let some = inv.some in
    let before = inv.before in
    let n = sym c.stand_at.ensures ∙ c.if-stand_at.false in
    let h = sym c.stand_at-else-stand_at.ensures ∙ c.if-stand_at-2.true in
    let there = both_there 42 41 (drop c.loop-place.place c.args.bytes.now) h in
    let l = length-drop c.loop-place.place c.args.bytes.now in
    let other = c.if-depth-eq1.false in record {
      rest = ap (after_comments (c.loop-place.depth - 1)) (sym (drop-drop 2 c.loop-place.place c.args.bytes.now)) ∙ sym (closed_one c.loop-place.depth (drop c.loop-place.place c.args.bytes.now) n h (omega (arith, some, other))) ∙ inv.rest;
      some = omega (arith, some, other);
      few = omega (arith, few);
      before = omega (arith, before);
      within = omega (arith, there, l);
    }

pub loop-place-preserved : goal.loop-place-preserved
loop-place-preserved c =
    let inv = c.loop-place.invariant in
    let few = inv.few in
    let before = inv.before in
    let n = sym c.stand_at.ensures ∙ c.if-stand_at.false in
    let h = sym c.stand_at-else-stand_at.ensures ∙ c.if-stand_at-2.false in record {
      rest = ap (after_comments c.loop-place.depth) (sym (drop-drop 1 c.loop-place.place c.args.bytes.now)) ∙ sym (passed_one c.loop-place.depth (drop c.loop-place.place c.args.bytes.now) n h) ∙ inv.rest;
      some = inv.some;
      few = omega (arith, few);
      before = omega (arith, before);
      within = omega arith;
    }

pub returns : goal.returns
returns c =
    let inv = c.loop-place.invariant in
    let l = length-drop c.loop-place.place c.args.bytes.now in
    let end = c.loop-place-test.false in
    sym inv.rest ∙ none_left c.loop-place.depth (drop c.loop-place.place c.args.bytes.now) (omega (arith, l, end))
