use Rattle.std.proofs.Common.{◌≡◌, ap, sym, subst, ◌∙◌, IfOk, rules}
use Rattle.std.proofs.lemmas.List.{nil_from_length}
use Rattle.sml_objects.specs.Objects as O
use Rattle.sml_objects.specs.Types.{argument, applied, replace_type}
use Rattle.sml_objects.specs.Objects.{types_of}
use Rattle.sml_objects.specs.Views.{type_of, scheme_of}
use Rattle.sml_objects.proofs.TypeViews.{parts_of}
use Rattle.sml_objects.proofs.Renaming.{rename_type-id}
use Rattle.sml_objects.proofs.TypeCopies.{unapplied}
use Rattle.sml_objects.proofs.applications.apply.Goals as goal

pub returns-then-is_empty : goal.returns-then-is_empty
returns-then-is_empty c =
    ap type_of c.in_ok-clone.ensures.cases
    ∙ sym (ap (λ ts. applied (scheme_of c.args.function.now) (types_of (parts_of ts))) (nil_from_length c.args.arguments.now (search rules)) ∙ unapplied (type_of c.args.function.now.body.value))

pub returns : goal.returns
returns c =
    let ts = types_of (parts_of c.args.arguments.now) in
    subst (λ u. IfOk c.replaced.result (λ t. type_of t.value ≡ replace_type (argument ts) O.free u))
    (rename_type-id (type_of c.deref.result.now) ∙ ap type_of c.deref.ensures) c.replaced.ensures
