use Rattle.sml_tree.specs.Views.{ident_of}
use Rattle.sml_scopes.specs.CodeScopes.{opened_in}
use Rattle.sml_scopes.specs.CodeTables.{bound}
use Rattle.sml_scopes.proofs.Meanings.{count-opened, on-ok, value-bound}
use Rattle.sml_scopes.proofs.scopes.Scopes.bind_value.Goals as goal

pub returns-clause-bound : goal.returns-clause-bound
returns-clause-bound c = on-ok c.bind.result c.bind.ensures.bound (λ f C m.
    let s = c.args.self.now in
    value-bound s.basis.now (opened_in s) (bound s.values) (bound c.bind.new.self) (bound s.types) (bound s.structures) C (ident_of c.args.name.now) c.len.result c.args.value (count-opened s c.len.result c.len.ensures) f m)
