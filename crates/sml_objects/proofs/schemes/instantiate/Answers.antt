use Rattle.std.proofs.Common.{◌≡◌, ap, subst, ◌∙◌, IfOk}
use Rattle.sml_objects.specs.Types.{instance_from}
use Rattle.sml_objects.specs.Views.{type_of}
use Rattle.sml_objects.proofs.Renaming.{rename_type-id}
use Rattle.sml_objects.proofs.schemes.instantiate.Goals as goal

pub returns : goal.returns
returns c =
    subst (λ u. IfOk c.replaced.result (λ t. type_of t.value ≡ u))
    (ap (instance_from c.args.from) (rename_type-id (type_of c.deref-2.result.now) ∙ ap type_of c.deref-2.ensures)) c.replaced.ensures
