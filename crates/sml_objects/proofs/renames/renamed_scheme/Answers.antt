use Rattle.std.proofs.Common.{ap, ◌∙◌}
use Rattle.sml_objects.specs.Objects.{rename_scheme, rename_type}
use Rattle.sml_objects.specs.Views.{type_of}
use Rattle.sml_objects.proofs.renames.renamed_scheme.Goals as goal

pub returns : goal.returns
unfolding rename_scheme
returns g c =
    let f = g.M.NameMap.gives c.args.by.now in
    λ i. record {
      variables = (c.in_ok-variables.ensures.items ∙ c.as_slice.ensures.value) i;
      body = (c.in_ok-body.ensures ∙ ap (λ u. rename_type f (type_of u)) c.deref.ensures) i;
    }
