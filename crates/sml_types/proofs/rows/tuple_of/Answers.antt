use Rattle.std.proofs.Common.{ap, sym, ◌∙◌}
use Rattle.std.proofs.lemmas.List.{length-map}
use Rattle.sml_objects.specs.Labels.{numbers}
use Rattle.sml_objects.specs.Views.{label_list, row_of, type_of}
use Rattle.sml_objects.specs.declared.objects.MlType.TheViews as V
use Rattle.sml_objects.proofs.TypeViews.{parts_of, type_of-row}
use Rattle.sml_objects.proofs.TypeCopies.{shared-type}
use Rattle.sml_types.proofs.Numbered.{tuple-labels}
use Rattle.sml_types.proofs.rows.tuple_of.Goals as goal

pub returns : goal.returns
returns c =
    let ts = parts_of c.args.types.items in
    shared-type c.boxed.result (V.Row c.in_ok-labels-2.labels c.args.types) _
    (type_of-row c.in_ok-labels-2.labels c.args.types
    ∙ ap (λ ls. row_of ls ts) (ap label_list c.in_ok-labels-2.ensures.ok ∙ c.in_ok-labels.ensures ∙ ap (numbers 1) (c.len.ensures ∙ c.args.types.ok.0 ∙ sym (length-map c.args.types.items (λ t. type_of t.value))) ∙ tuple-labels 1 ts))
    c.boxed.ensures
