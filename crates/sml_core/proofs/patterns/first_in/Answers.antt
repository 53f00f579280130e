use Rattle.sml_tree.specs.Views.{ident_of}
use Rattle.sml_core.proofs.Binding.{bound-already, not-bound}
use Rattle.sml_core.proofs.patterns.first_in.Goals as goal

pub returns-then-contains_key-clause-again : goal.returns-then-contains_key-clause-again
returns-then-contains_key-clause-again c =
    (c.plain_fault.ensures, bound-already (ident_of c.args.name.now) c.args.variables.now c.contains_key.result c.contains_key.ensures c.if-contains_key.true)

pub returns-else-contains_key-clause-first : goal.returns-else-contains_key-clause-first
returns-else-contains_key-clause-first c = not-bound (ident_of c.args.name.now) c.args.variables.now c.contains_key.result c.contains_key.ensures c.if-contains_key.false
