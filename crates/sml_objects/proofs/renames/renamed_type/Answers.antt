use Rattle.std.proofs.Common.{◌≡◌, subst, IfOk}
use Rattle.sml_objects.specs.Objects.{rename_type}
use Rattle.sml_objects.specs.Views.{type_of}
use Rattle.sml_objects.proofs.RenamedParts.{replace-none}
use Rattle.sml_objects.proofs.renames.renamed_type.Goals as goal

pub returns : goal.returns
returns g c =
    subst (λ u. IfOk c.replaced.result (λ t. type_of t.value ≡ u)) (replace-none (rename_type (g.M.NameMap.gives c.args.by.now) (type_of c.args.ty.now))) c.replaced.ensures
