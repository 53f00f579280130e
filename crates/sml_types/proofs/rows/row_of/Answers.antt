use Rattle.sml_objects.specs.declared.objects.MlType.TheViews as V
use Rattle.sml_objects.proofs.TypeCopies.{shared-type}
use Rattle.sml_types.proofs.RowLabels.{row-of-fields}
use Rattle.sml_types.proofs.rows.row_of.Goals as goal

pub returns : goal.returns
returns c = λ ranked.
    let ls = c.in_ok-labels.labels in
    let ts = c.in_ok-labels.types in
    shared-type c.boxed.result (V.Row ls ts) _ (row-of-fields c.args.fields.entries ls ts c.in_ok-labels.ensures.parts (c.in_ok-labels.ensures.labels ranked)) c.boxed.ensures
