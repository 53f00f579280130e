use Rattle.std.proofs.Common.{◌≡◌, ◌++◌, ◌∷◌, [], ap, sym, subst, ◌∙◌}
use Rattle.std.specs.List.{AllByRecursion}
use Rattle.sml_objects.specs.Objects as O
use Rattle.sml_objects.specs.Views.{type_of, label_list}
use Rattle.sml_objects.proofs.TypeViews.{parts_of, type_of-row}
use Rattle.sml_graph.specs.Interned.{IsOver}
use Rattle.sml_graph.proofs.Interning.{over-app}
use Rattle.sml_solve_tests.proofs.script.types.row.Goals as goal

pub returns : goal.returns
returns c n h k =
    let v = c.push-2.new.self in
    let one : c.push.new.self.items ≡ c.in_ok-new.field-0 ∷ [] = c.in_ok-push.ensures.items ∙ ap (λ xs. xs ++ c.in_ok-new.field-0 ∷ []) c.new-parts.ensures.items in
    let e : parts_of v.items ≡ type_of c.args.left ∷ type_of c.args.right ∷ [] =
    ap parts_of (c.in_ok-push-2.ensures.items ∙ ap (λ xs. xs ++ c.in_ok-new-2.field-0 ∷ []) one)
    ∙ (ap (λ x. type_of x ∷ type_of c.in_ok-new-2.field-0.value ∷ []) c.in_ok-new.ensures.ok ∙ ap (λ x. type_of c.args.left ∷ type_of x ∷ []) c.in_ok-new-2.ensures.ok) in
    let ls = c.in_ok-new-3.field-0 in
    rw (type_of-row ls v) (over-app n (O.row (label_list ls.value)) (parts_of v.items) (subst (AllByRecursion (IsOver n)) (sym e) (h, (k, tt))))
