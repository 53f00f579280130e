-- The first of the variables are passed.
use Rattle.std.proofs.Common.{◌≡◌, ◌-◌, length}
use Rattle.sml_reach.specs.Events.{text_at}
use Rattle.sml_flaws.specs.CodeScopes.{KnowsPassed}
use Rattle.sml_flaws.proofs.scopes.Passed.pass.Given as goal

abbrev pub invariant-loop-self : goal.invariant-loop-self
invariant-loop-self l =
    let text = text_at l.scopes.unit.now l.scopes.tokens.now in
    record {
      known : KnowsPassed text l.scopes.ends.now l.scopes.owned.items l.fn.self → KnowsPassed text l.scopes.ends.now l.scopes.owned.items l.self;
      node : l.self.node ≡ l.fn.self.node;
    }

abbrev pub decreases-loop-self : goal.decreases-loop-self
decreases-loop-self l = length l.scopes.owned.items - l.self.count
