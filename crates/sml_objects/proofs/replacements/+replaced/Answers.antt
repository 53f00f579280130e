use Rattle.std.proofs.Common.{◌≡◌, IfOk, ap, sym, subst, ◌∙◌, map}
use Rattle.sml_objects.specs.Views.{type_of, label_list}
use Rattle.sml_objects.specs.declared.objects.MlType.TheViews as V
use Rattle.sml_objects.proofs.TypeCopies.{copy, shared-type, copy-bound, copy-free, copy-row, copy-arrow, copy-name}
use Rattle.sml_objects.proofs.replacements.+replaced.Goals as goal

pub replaced-returns-in-Bound : goal.replaced-returns-in-Bound
replaced-returns-in-Bound g t c =
    let s = c.args.by.now in
    let b = g.R.Replacement.bound_gives s in
    let f = g.R.Replacement.free_gives s in
    let r = g.R.Replacement.name_gives s in
    subst (λ u. IfOk c.bound.result (λ t. type_of t.value ≡ u)) (sym (ap (λ u. copy b f r (type_of u)) c.in-Bound.is ∙ copy-bound b f r c.in-Bound.variable)) c.bound.ensures

pub replaced-returns-in-Free : goal.replaced-returns-in-Free
replaced-returns-in-Free g t c =
    let s = c.args.by.now in
    let b = g.R.Replacement.bound_gives s in
    let f = g.R.Replacement.free_gives s in
    let r = g.R.Replacement.name_gives s in
    subst (λ u. IfOk c.free.result (λ t. type_of t.value ≡ u)) (sym (ap (λ u. copy b f r (type_of u)) c.in-Free.is ∙ copy-free b f r c.in-Free.variable)) c.free.ensures

pub replaced-returns-in_ok-parts-in-Row : goal.replaced-returns-in_ok-parts-in-Row
replaced-returns-in_ok-parts-in-Row g t c =
    let s = c.args.by.now in
    let b = g.R.Replacement.bound_gives s in
    let f = g.R.Replacement.free_gives s in
    let r = g.R.Replacement.name_gives s in
    shared-type c.shared.result (V.Row c.in_ok-labels-in-Row.labels c.in_ok-parts-in-Row.parts) _
    (copy-row b f r c.in-Row.labels c.in_ok-labels-in-Row.labels c.in-Row.parts c.in_ok-parts-in-Row.parts (ap label_list c.in_ok-labels-in-Row.ensures.cases)
    (c.in_ok-parts-in-Row.ensures ∙ ap (map (λ t. copy b f r (type_of t.value))) c.deref.ensures.value)
    ∙ ap (λ u. copy b f r (type_of u)) (sym c.in-Row.is)) c.shared.ensures

pub replaced-returns-in_ok-to-in-Arrow : goal.replaced-returns-in_ok-to-in-Arrow
replaced-returns-in_ok-to-in-Arrow g t c =
    let s = c.args.by.now in
    let b = g.R.Replacement.bound_gives s in
    let f = g.R.Replacement.free_gives s in
    let r = g.R.Replacement.name_gives s in
    shared-type c.shared-in-Arrow.result (V.Arrow c.in_ok-from-in-Arrow.from c.in_ok-to-in-Arrow.to) _
    (copy-arrow b f r c.in-Arrow.from c.in-Arrow.to c.in_ok-from-in-Arrow.from c.in_ok-to-in-Arrow.to
    (c.in_ok-from-in-Arrow.ensures ∙ ap (λ u. copy b f r (type_of u)) c.deref-in-Arrow.ensures)
    (c.in_ok-to-in-Arrow.ensures ∙ ap (λ u. copy b f r (type_of u)) c.deref-in-Arrow-2.ensures)
    ∙ ap (λ u. copy b f r (type_of u)) (sym c.in-Arrow.is)) c.shared-in-Arrow.ensures

pub replaced-returns-in_ok-parts-in-Name : goal.replaced-returns-in_ok-parts-in-Name
replaced-returns-in_ok-parts-in-Name g t c =
    let s = c.args.by.now in
    let b = g.R.Replacement.bound_gives s in
    let f = g.R.Replacement.free_gives s in
    let r = g.R.Replacement.name_gives s in
    shared-type c.shared-in-Name.result (V.Name c.name.result c.in_ok-parts-in-Name.parts) _
    (copy-name b f r c.in-Name.name c.name.result c.in-Name.parts c.in_ok-parts-in-Name.parts c.name.ensures
    (c.in_ok-parts-in-Name.ensures ∙ ap (map (λ t. copy b f r (type_of t.value))) c.deref-in-Name.ensures.value)
    ∙ ap (λ u. copy b f r (type_of u)) (sym c.in-Name.is)) c.shared-in-Name.ensures
