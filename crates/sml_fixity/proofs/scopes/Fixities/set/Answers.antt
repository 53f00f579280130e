use Rattle.std.proofs.Common.{◌≡◌, ◌∷◌, [], ◌++◌, ap}
use Rattle.sml_tree.specs.Views.{ident_of}
use Rattle.sml_fixity.specs.Scopes.{here}
use Rattle.sml_fixity.specs.declared.scopes.Change.TheVariants.{Restore}
use Rattle.sml_fixity.proofs.Maps.{set_keeps}
use Rattle.sml_fixity.proofs.scopes.Fixities.set.Goals as goal

pub returns-clause-scopes : goal.returns-clause-scopes
returns-clause-scopes c =
    let s = c.args.self.now in
    let d : c.put.new.self.changes.items ≡ s.changes.items ++ Restore c.in_ok-kept.kept c.lookup-before.result ∷ [] = (rw (c.put.ensures.changes, c.in_ok-push.ensures.items)) in
    set_keeps c.put.result (here s) (here c.put.new.self) (ident_of c.args.name.now) c.in_ok-key.key c.in_ok-kept.kept c.args.fixity c.lookup-before.result s.changes.items _ c.put.ensures.after c.put.ensures.err (ap (λ k. k.items) c.in_ok-key.ensures.cases) (ap (λ k. k.items) c.in_ok-kept.ensures.cases) c.lookup-before.ensures d
