use Rattle.std.proofs.Common.{◌+◌, arith, refl, sym, take}
use Rattle.sml_reach.specs.Events.{text_at}
use Rattle.sml_flaws.proofs.Scoping.{one_passed, rest_after}
use Rattle.sml_flaws.proofs.scopes.Passed.pass.Goals as goal

pub loop-self-preserved : goal.loop-self-preserved
loop-self-preserved c = record {
  known = λ known.
      let text = text_at c.args.scopes.now.unit.now c.args.scopes.now.tokens.now in
      let owned = c.args.scopes.now.owned.items in
      let passed = c.loop-self.self in
      let kept = c.loop-self.invariant.known known in
      let next = c.index-owned.result.now in
      one_passed text c.args.scopes.now.ends.now owned passed (record { node = passed.node; count = passed.count + 1; reaches = c.note.new.reaches }) next next refl refl (omega arith) (sym c.index-owned.ensures) c.if-self-owned.false kept (c.in_ok-note.ensures (take passed.count owned) kept.reaches);
  node = c.loop-self.invariant.node;
}

pub returns-then-self-owned-clause-after : goal.returns-then-self-owned-clause-after
returns-then-self-owned-clause-after c = λ ascending.
    let owned = c.args.scopes.now.owned.items in
    rest_after owned c.loop-self.self.count c.args.self.now.node c.index-owned.result.now ascending (omega arith) c.index-owned.ensures (omega (arith, c.loop-self.invariant.node))
