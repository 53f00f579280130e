use Rattle.std.proofs.Common.{sym, subst, ◌++◌, ◌∷◌, [], take, ap, ◌∙◌, ◌≡◌, false, true}
use Rattle.std.specs.List.{AllByRecursion}
use Rattle.std.proofs.lemmas.Grind.{take_at_read}
use Rattle.sml_objects.specs.Views.{type_of}
use Rattle.sml_objects.specs.declared.objects.MlType.{MlType}
use Rattle.sml_graph.specs.Interned.{IsOver, demanded}
use Rattle.sml_asks.proofs.Overs.{Field, fields-more, field-at}
use Rattle.sml_asks.proofs.known.fields_are_over.Goals as goal

pub loop-field-preserved : goal.loop-field-preserved
loop-field-preserved c =
    let n = c.args.count in
    let xs = c.args.fields.now in
    let x = c.field-item.result in
    let i = c.loop-field.field-index in
    let taken = (take_at_read xs i x c.loop-field-test.true).1 ∙ ap (λ y. take i xs ++ (y ∷ [])) (sym c.field-item.is) in
    subst (λ l. AllByRecursion (λ f. IsOver n f.1) (demanded l)) (sym taken)
    (fields-more n (take i xs) x c.loop-field.invariant
    (subst (λ (u : MlType). IsOver n (type_of u)) c.deref.ensures (c.is_over.ensures.0 c.if-not-is_over.false)))

pub returns-then-not-is_over : goal.returns-then-not-is_over
returns-then-not-is_over c =
    let n = c.args.count in
    let here = λ (h : AllByRecursion (λ f. IsOver n f.1) (demanded c.args.fields.now)).
    subst (λ (x : Field). IsOver n (type_of x.1.value)) (sym c.field-item.is)
    (field-at n c.args.fields.now c.loop-field.field-index c.field-item.result c.loop-field-test.true h) in (
      λ h. let e : false ≡ true = h in cc,
      λ h. sym c.if-not-is_over.true ∙ c.is_over.ensures.1 (subst (λ (u : MlType). IsOver n (type_of u)) (sym c.deref.ensures) (here h)),
    )
