use Rattle.std.proofs.Common.{ap, sym, ◌∙◌, map}
use Rattle.sml_objects.specs.Objects.{rename_sig}
use Rattle.sml_objects.specs.Views.{name_of}
use Rattle.sml_objects.proofs.EnvViews.{map-map}
use Rattle.sml_objects.proofs.renames.renamed_signature.Goals as goal

pub returns : goal.returns
unfolding rename_sig
returns g c =
    let f = g.M.NameMap.gives c.args.by.now in
    λ i. record {
      names = (c.in_ok-names.ensures ∙ ap (map (λ n. f (name_of n))) c.deref.ensures.value ∙ sym (map-map f name_of c.args.sig.now.names.items)) i;
      body = c.in_ok-body.ensures i;
    }
