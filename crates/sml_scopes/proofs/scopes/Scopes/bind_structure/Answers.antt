use Rattle.sml_tree.specs.Views.{ident_of}
use Rattle.sml_scopes.specs.CodeScopes.{opened_in}
use Rattle.sml_scopes.specs.CodeTables.{bound}
use Rattle.sml_scopes.proofs.Meanings.{count-opened, on-ok, structure-bound}
use Rattle.sml_scopes.proofs.scopes.Scopes.bind_structure.Goals as goal

pub returns-clause-bound : goal.returns-clause-bound
returns-clause-bound c = on-ok c.bind.result c.bind.ensures.bound (λ f C m.
    let s = c.args.self.now in
    structure-bound s.basis.now (opened_in s) (bound s.values) (bound s.types) (bound s.structures) (bound c.bind.new.self) C (ident_of c.args.name.now) c.len.result c.args.structure (count-opened s c.len.result c.len.ensures) f m)
