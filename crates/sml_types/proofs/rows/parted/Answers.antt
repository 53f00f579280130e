use Rattle.std.proofs.Common.{ℕ, Ok, ap, map, sym, ◌∙◌}
use Rattle.std.proofs.lemmas.Map.Iter.{iter_end}
use Rattle.sml_objects.proofs.EnvViews.{map-map}
use Rattle.sml_types.proofs.RowLabels.{labels-rise}
use Rattle.sml_types.proofs.rows.parted.Goals as goal

pub returns-clause-labels : goal.returns-clause-labels
returns-clause-labels g c = λ ranked.
    let es = c.args.fields.entries in
    let given = c.into_iter-label-iterator.ensures.into_iter_gives in
    let end = iter_end (λ e. e) es c.loop-label.yielded c.into_iter-label-iterator.result c.loop-label.label-iterator c.next.new.self c.next.result given.0 c.loop-label.yielded_by c.in-None.is c.next.ensures.steps in
    labels-rise {E = ℕ} es c.loop-label.labels.items
    (c.loop-label.invariant.0 ∙ sym (map-map (λ e. e.0.1) (λ e. e) c.loop-label.yielded) ∙ ap (map (λ e. e.0.1)) end.0)
    given.5 (Ok c.in_ok-labels_of.field-0) c.in_ok-labels_of.ensures ranked
