use Rattle.sml_objects.specs.Views.{entries_of}
use Rattle.sml_bases.specs.Views.{value_of}
use Rattle.sml_initial.specs.CodeTable.{value_row}
use Rattle.sml_initial.proofs.Filled.{value-seen}
use Rattle.sml_initial.proofs.Rows.{row-next}
use Rattle.sml_initial.proofs.initial.put_values.Goals as goal

pub loop-name-preserved : goal.loop-name-preserved
loop-name-preserved c =
    row-next value_of value_row (entries_of value_of c.args.values.now.entries) c.loop-name.values.entries c.insert.new.self.entries c.args.rows.now c.loop-name.name-index
    c.in_ok-ident.field-0 _ _ c.in_ok-insert.ensures.entries c.loop-name-test.true c.in_ok-ident.ensures (value-seen _ _ _ c.in_ok-scheme.ensures) c.loop-name.invariant
