use Rattle.std.proofs.Common.{◌<◌, ◌≤◌, length, get_or, arith}
use borrow.Author.Count.{below_more}
use Rattle.sml_projects.specs.Orders.{MayCome, Loses}
use Rattle.sml_projects.proofs.Needs.{marked-not, waiting-not, ready-may, waits-at, stands-set}
use Rattle.sml_projects.proofs.orders.next.Goals as goal

pub loop-index-preserved-then-taken-index : goal.loop-index-preserved-then-taken-index
loop-index-preserved-then-taken-index c = record {
  stands = c.loop-index.invariant.stands;
  before = λ us order s.
      (let now = c.loop-index.invariant.stands us order s in
      below_more (λ j. MayCome us order j → ⊥) c.loop-index.index (c.loop-index.invariant.before us order s) (marked-not us order c.args.taken.now c.loop-index.index now.marked c.if-taken-index.true));
}

pub loop-index-preserved : goal.loop-index-preserved
loop-index-preserved c =
    let vs = c.loop-index.waiting in
    let i = c.loop-index.index in
    let v = c.index-waiting-index.result in
    let w = c.is_ready.new.needs in
    let within : i < length vs = omega arith in
    let loses : Loses c.args.taken.now (get_or vs i c.index-waiting-index.result).items c.is_ready.new.needs.items = c.is_ready.ensures.loses in
    record {
      stands = λ us order s. stands-set us order c.args.taken.now vs i v w within loses (c.loop-index.invariant.stands us order s);
      before = λ us order s.
          (let now = c.loop-index.invariant.stands us order s in
          below_more (λ j. MayCome us order j → ⊥) i (c.loop-index.invariant.before us order s) (waiting-not us order c.args.taken.now i w.items now.own now.marked (waits-at us order c.args.taken.now vs i v w within loses now) (c.is_ready.ensures.waits c.if-is_ready.false)));
    }

pub returns-then-is_ready-clause-next : goal.returns-then-is_ready-clause-next
returns-then-is_ready-clause-next c = λ us order s.
    let vs = c.loop-index.waiting in
    let i = c.loop-index.index in
    let v = c.index-waiting-index.result in
    let w = c.is_ready.new.needs in
    let within : i < length vs = omega arith in
    let loses : Loses c.args.taken.now (get_or vs i c.index-waiting-index.result).items c.is_ready.new.needs.items = c.is_ready.ensures.loses in
    let few : i < length c.args.taken.now = omega arith in
    let now = c.loop-index.invariant.stands us order s in
    let count = now.marked.count in
    record {
      may = ready-may us order c.args.taken.now i w.items (omega (arith, few, count)) now.marked (waits-at us order c.args.taken.now vs i v w within loses now) c.if-taken-index.false (c.is_ready.ensures.ready c.if-is_ready.true);
      earliest = c.loop-index.invariant.before us order s;
    }

pub returns-then-is_ready-clause-stands : goal.returns-then-is_ready-clause-stands
returns-then-is_ready-clause-stands c = λ us order s.
    let vs = c.loop-index.waiting in
    let i = c.loop-index.index in
    let within : i < length vs = omega arith in
    let loses : Loses c.args.taken.now (get_or vs i c.index-waiting-index.result).items c.is_ready.new.needs.items = c.is_ready.ensures.loses in
    stands-set us order c.args.taken.now vs i c.index-waiting-index.result c.is_ready.new.needs within loses (c.loop-index.invariant.stands us order s)

pub returns-clause-next : goal.returns-clause-next
returns-clause-next c = λ us order s k m.
    let now = c.loop-index.invariant.stands us order s in
    let count = now.marked.count in
    let listed = m.listed in
    let past : length c.args.taken.now ≤ c.loop-index.index = omega arith in
    c.loop-index.invariant.before us order s k (omega (arith, count, listed, past)) m
