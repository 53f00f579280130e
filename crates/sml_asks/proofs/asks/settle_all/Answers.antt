use Rattle.std.proofs.Common.{◌<◌, refl, sym, subst, ◌∙◌, get_or, take}
use Rattle.std.proofs.lemmas.Grind.{take_at_read}
use Rattle.sml_graph.specs.Asked.{count}
use Rattle.sml_graph.proofs.Interning.{inside-at}
use Rattle.sml_asks.specs.Closings.{AsksSettled}
use Rattle.sml_asks.proofs.Settling.{settled-none, settled-more}
use Rattle.sml_asks.proofs.asks.settle_all.Goals as goal

pub loop-unknown-init : goal.loop-unknown-init
loop-unknown-init c = record { count = refl; settled = settled-none c.args.solver.now; spent = λ e. e }

pub settle_one-requires : goal.settle_one-requires
settle_one-requires c =
    subst (λ n. get_or c.args.unknowns.now c.loop-unknown.unknown-index 0 < n) (sym c.loop-unknown.invariant.count)
    (inside-at (count c.args.solver.now) c.args.unknowns.now c.loop-unknown.unknown-index c.requires c.loop-unknown-test.true)

pub loop-unknown-preserved : goal.loop-unknown-preserved
loop-unknown-preserved c =
    let xs = c.args.unknowns.now in
    let i = c.loop-unknown.unknown-index in
    let v = get_or xs i 0 in
    record {
      count = c.settle_one.ensures.count ∙ c.loop-unknown.invariant.count;
      settled = subst (λ vs. AsksSettled c.args.solver.now vs c.settle_one.new.solver) (sym (take_at_read xs i 0 c.loop-unknown-test.true).1)
          (settled-more c.args.solver.now c.loop-unknown.solver c.settle_one.new.solver (take i xs) v c.loop-unknown.invariant.settled c.in_ok-settle_one.ensures.ok);
      spent = λ e. c.loop-unknown.invariant.spent (c.in_ok-settle_one.ensures.open e);
    }
