use Rattle.std.proofs.Common.{sym, ◌∙◌, arith}
use Rattle.sml_projects.proofs.Needs.{left-within}
use Rattle.sml_projects.proofs.orders.first_left.Goals as goal

pub fault-requires : goal.fault-requires
fault-requires c =
    let within = left-within c.args.taken.now c.loop-index.index c.loop-index.invariant c.requires.left in
    let lines = c.requires.lines in
    omega (arith, within, lines)

pub returns : goal.returns
returns c = record {
  at = c.loop-index.index;
  within = left-within c.args.taken.now c.loop-index.index c.loop-index.invariant c.requires.left;
  left = sym c.is_taken.ensures ∙ c.loop-index-test.false;
  earliest = c.loop-index.invariant;
  fault = c.fault.ensures;
}
