use Rattle.std.proofs.Common.{◌≡◌, ◌++◌, ◌∷◌, [], ap, sym, subst, ◌∙◌}
use Rattle.std.specs.List.{AllByRecursion}
use Rattle.sml_objects.specs.Objects as O
use Rattle.sml_objects.specs.Views.{name_of, type_of}
use Rattle.sml_objects.specs.declared.objects.TyName.TheVariants.{Initial}
use Rattle.sml_objects.proofs.TypeViews.{parts_of, type_of-name}
use Rattle.sml_graph.specs.Interned.{IsOver}
use Rattle.sml_graph.proofs.Interning.{over-app}
use Rattle.sml_solve_tests.proofs.script.types.applied.Goals as goal

pub returns : goal.returns
returns c n h =
    let v = c.push.new.self in
    let e : parts_of v.items ≡ type_of c.args.of ∷ [] = ap parts_of (c.in_ok-push.ensures.items ∙ ap (λ xs. xs ++ c.in_ok-new.field-0 ∷ []) c.new-parts.ensures.items) ∙ ap (λ x. type_of x ∷ []) c.in_ok-new.ensures.ok in
    rw (type_of-name (Initial c.args.name) v) (over-app n (O.name (name_of (Initial c.args.name))) (parts_of v.items) (subst (AllByRecursion (IsOver n)) (sym e) (h, tt)))
