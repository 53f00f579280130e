use Rattle.std.proofs.Common.{[], ◌∷◌, ap, subst, sym, ◌∙◌, ◌≡◌}
use Rattle.sml_objects.specs.Objects as O
use Rattle.sml_objects.specs.Views.{type_of}
use Rattle.sml_objects.proofs.TypeViews.{type_of-arrow}
use Rattle.sml_graph.specs.Interned.{IsOver}
use Rattle.sml_graph.proofs.Interning.{over-app}
use Rattle.sml_solve_tests.proofs.script.types.arrow.Goals as goal

pub returns : goal.returns
returns c n h k =
    let t = c.in_ok-from.from in
    let u = c.in_ok-to.to in
    let e : O.arrow_of (type_of t.value) (type_of u.value) ≡ O.arrow_of (type_of c.args.from) (type_of c.args.to) =
    ap (λ x. O.arrow_of (type_of x) (type_of u.value)) c.in_ok-from.ensures.ok ∙ ap (λ x. O.arrow_of (type_of c.args.from) (type_of x)) c.in_ok-to.ensures.ok in
    rw (type_of-arrow t u) (subst (IsOver n) (sym e) (over-app n O.arrow (type_of c.args.from ∷ type_of c.args.to ∷ []) (h, (k, tt))))
