use Rattle.std.proofs.Common.{◌-◌, ap, arith}
use Rattle.sml_tree.proofs.RightSides.{known_on}
use Rattle.sml_tree.proofs.sides.Sides.new.Goals as goal

pub loop-index-preserved-in_ok-insert : goal.loop-index-preserved-in_ok-insert
loop-index-preserved-in_ok-insert c =
    let t = c.loop-index-test.true in
    let w = c.loop-index.invariant.within in
    record {
      kept = known_on c.args.types.items (c.loop-index.index - 1) c.loop-index.index c.index-bind.result.now c.loop-index.table.entries c.insert.new.self.entries c.in_ok-clone.field-0 c.in_ok-side.side (omega (arith, t)) (omega (arith, t, w)) c.index-bind.ensures c.in_ok-side.ensures c.in_ok-insert.ensures.entries (ap (λ v. v.items) c.in_ok-clone.ensures.cases) c.loop-index.invariant.kept;
      within = omega (arith, w);
    }

pub loop-index-preserved : goal.loop-index-preserved
loop-index-preserved c =
    let t = c.loop-index-test.true in
    let w = c.loop-index.invariant.within in
    record {
      kept = known_on c.args.types.items (c.loop-index.index - 1) c.loop-index.index c.index-bind.result.now c.loop-index.table.entries c.insert.new.self.entries c.in_ok-clone.field-0 c.in_ok-side.side (omega (arith, t)) (omega (arith, t, w)) c.index-bind.ensures c.in_ok-side.ensures c.in_ok-insert.ensures.entries (ap (λ v. v.items) c.in_ok-clone.ensures.cases) c.loop-index.invariant.kept;
      within = omega (arith, w);
    }
