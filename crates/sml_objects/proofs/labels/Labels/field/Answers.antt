use Rattle.std.proofs.Common.{rules, ◌≡◌, None, option_copied, sym, ◌∙◌}
use Rattle.sml_objects.specs.Views.{label_list}
use Rattle.sml_objects.proofs.FieldsByLabel.{got, field-at, no-field}
use Rattle.sml_objects.proofs.labels.Labels.field.Goals as goal

pub returns-in_err-index : goal.returns-in_err-index
returns-in_err-index g c =
    let e : option_copied c.from_residual.result ≡ None = search rules in
    e ∙ sym (no-field (label_list c.args.self.now) c.args.fields.now c.args.label.now (c.position.ensures.none c.in_err-index.was))

pub returns : goal.returns
returns g c =
    got c.args.fields.now c.in_ok-index.index c.get.result c.get.ensures.lookup.3
    ∙ sym (field-at (label_list c.args.self.now) c.args.fields.now c.args.label.now c.in_ok-index.index c.args.self.now.rising c.in_ok-index.ensures.some)
