use Rattle.std.proofs.Common.{refl, sym, subst}
use Rattle.sml_flaws.specs.CodeScopes.{KnowsPassed}
use Rattle.sml_flaws.proofs.Scoping.{none_passed, later_node}
use Rattle.sml_flaws.proofs.scopes.Passed.turn_to.Goals.{then-node-self, else-node-self}
use Rattle.sml_flaws.proofs.scopes.Passed.turn_to.Goals as goal

pub returns-clause-known : goal.returns-clause-known
returns-clause-known c = λ text ends owned known.
    let node = c.args.node in
    elim c.if-node-self.branch [
      | then-node-self w ↦ subst (λ p. KnowsPassed text ends owned (record { node = node; count = p.count; reaches = p.reaches })) (sym w.self-is) (none_passed text ends owned node (record { node = c.args.self.now.node; count = 0; reaches = w.clear.new.self }) refl w.clear.ensures.empty)
      | else-node-self w ↦ subst (λ p. KnowsPassed text ends owned (record { node = node; count = p.count; reaches = p.reaches })) (sym w.self-is) (later_node text ends owned node c.args.self.now w.if-node-self.false known)
    ]
