use Rattle.std.proofs.Common.{ap, sym, ◌∙◌}
use Rattle.std.proofs.lemmas.List.{length-map}
use Rattle.sml_objects.specs.Labels.{numbers}
use Rattle.sml_objects.specs.Views.{label_list, row_of}
use Rattle.sml_types.specs.Meant.{meant}
use Rattle.sml_types.specs.declared.written.Written.TheViews as V
use Rattle.sml_types.proofs.Meanings.{meanings, meant-row, shared-meant}
use Rattle.sml_types.proofs.Numbered.{tuple-labels}
use Rattle.sml_types.proofs.written.written_tuple.Goals as goal

pub returns : goal.returns
returns c =
    let ls = c.in_ok-labels-2.labels in
    let ts = meanings c.args.parts.items in
    shared-meant c.shared.result (V.Row ls c.args.parts) _
    (meant-row ls c.args.parts
    ∙ ap (λ ls. row_of ls ts) (ap label_list c.in_ok-labels-2.ensures.ok ∙ c.in_ok-labels.ensures ∙ ap (numbers 1) (c.len.ensures ∙ c.args.parts.ok.0 ∙ sym (length-map c.args.parts.items (λ w. meant w.value))) ∙ tuple-labels 1 ts))
    c.shared.ensures
