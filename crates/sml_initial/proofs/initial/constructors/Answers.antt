use Rattle.std.proofs.Common.{[]}
use Rattle.sml_objects.specs.Views.{scheme_of}
use Rattle.sml_initial.specs.CodeTable.{constructor_row}
use Rattle.sml_initial.proofs.Rows.{row-next}
use Rattle.sml_initial.proofs.initial.constructors.Goals as goal

pub loop-name-preserved : goal.loop-name-preserved
loop-name-preserved c =
    row-next (λ s. scheme_of s.value) (constructor_row c.args.variables.now) [] c.loop-name.constructors.entries c.insert.new.self.entries c.args.rows.now c.loop-name.name-index
    c.in_ok-ident.field-0 c.in_ok-scheme.field-0 _ c.in_ok-insert.ensures.entries c.loop-name-test.true c.in_ok-ident.ensures c.in_ok-scheme.ensures c.loop-name.invariant
