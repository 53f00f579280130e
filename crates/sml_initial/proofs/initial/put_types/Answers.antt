use Rattle.std.proofs.Common.{ap, ◌∙◌}
use Rattle.sml_objects.specs.Views.{entries_of, schemes_of}
use Rattle.sml_bases.specs.Views.{ty_str_of}
use Rattle.sml_initial.specs.CodeTable.{type_row}
use Rattle.sml_initial.proofs.Rows.{row-next}
use Rattle.sml_initial.proofs.initial.put_types.Goals as goal

pub loop-name-preserved : goal.loop-name-preserved
loop-name-preserved c =
    row-next ty_str_of type_row (entries_of ty_str_of c.args.types.now.entries) c.loop-name.types.entries c.insert.new.self.entries c.args.rows.now c.loop-name.name-index
    c.in_ok-ident.field-0 _ _ c.in_ok-insert.ensures.entries c.loop-name-test.true c.in_ok-ident.ensures (λ i. record { function = c.in_ok-scheme.ensures i; constructors = (ap (λ m. schemes_of m.entries) c.in_ok-new.ensures.ok ∙ c.in_ok-constructors.ensures) i }) c.loop-name.invariant
