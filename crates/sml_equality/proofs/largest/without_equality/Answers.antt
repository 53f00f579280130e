use Rattle.std.proofs.Common.{◌≡◌, ◌+◌, [], length, ap, sym, ◌∙◌, arith, length-append}
use Rattle.sml_equality.specs.declared.runs.Run.{Run}
use Rattle.sml_equality.specs.CodeUsers.{IsSpread, Spares}
use Rattle.sml_equality.specs.Runs.{arguments_admit, arguments_at}
use Rattle.sml_equality.proofs.Spreading.{row-end}
use Rattle.sml_equality.proofs.Keeping.{arguments-here, before-more, unlost, unlost-spare, unlost-largest}
use Rattle.sml_equality.proofs.largest.without_equality.Goals as goal

pub loop-preserved : goal.loop-preserved
loop-preserved c =
    let i = c.loop.invariant in
    record {
      len = let n = i.len in let l : length c.push.new.self.items ≡ length c.loop.users.items + 1 = ap length c.in_ok-push.ensures.items ∙ simp length-append in omega (arith, n, l);
      none = rw c.in_ok-push.ensures.items (row-end c.loop.users.items c.new.result c.new.ensures.items i.none);
    }

pub loop-index-preserved : goal.loop-index-preserved
loop-index-preserved c =
    let i = c.loop-index.invariant in
    let e = c.in_ok-put_needs.ensures in
    let ds = c.args.arguments.now in
    let k = c.loop-index.index in
    let r : Run = record { unit = c.args.unit; first = c.args.first; count = length ds } in
    let here : arguments_at ds k ≡ c.deref.result.now = arguments-here ds k c.index-arguments-index.result c.loop-index-test.true c.index-arguments-index.is ∙ sym c.deref.ensures.value in
    record {
      len = e.len ∙ i.len;
      sound = e.sound i.sound;
      inside = e.inside i.inside;
      spares = λ kept.
          before-more kept (λ j. arguments_admit r kept (arguments_at ds j)) k (Spares kept c.loop-index.users.items c.loop-index.lost.items) (Spares kept c.put_needs.new.users.items c.put_needs.new.lost.items)
          (i.spares kept) (rw (sym here) at (e.spares kept));
    }

pub returns-clause-len : goal.returns-clause-len
returns-clause-len c =
    let s : IsSpread c.loop-index.users.items c.loop-index.lost.items c.in_ok-lost.lost.items [] = rw (c.deref-2.ensures.value, c.deref-3.ensures.value) at c.in_ok-lost.ensures in
    s.len ∙ c.loop-index.invariant.len

pub returns-clause-largest : goal.returns-clause-largest
returns-clause-largest c =
    let us = c.loop-index.users.items in
    let from = c.loop-index.lost.items in
    let ms = c.in_ok-lost.lost.items in
    let s : IsSpread us from ms [] = rw (c.deref-2.ensures.value, c.deref-3.ensures.value) at c.in_ok-lost.ensures in
    let n = c.loop-index.invariant.len in
    let off = c.loop-index-test.false in
    let end = c.loop-index.auto.index-end in
    record {
      respects = λ k h t. (c.loop-index.invariant.spares (unlost us from ms s)).0 (unlost-spare us from ms s) k (omega (arith, h, off)) t;
      largest = λ others f k h t. unlost-largest us from ms s others ((c.loop-index.invariant.spares others).1 (λ j g u. f j (omega (arith, g, end)) u)) k (omega (arith, h, n)) t;
    }
