use Rattle.std.proofs.Common.{ap, ◌∙◌, map, filter}
use Rattle.sml_objects.specs.Appearance.{appear_sig, firsts_after}
use Rattle.sml_objects.specs.Initial.{naming}
use Rattle.sml_objects.specs.Canonical.{new_names, is_new}
use Rattle.sml_objects.specs.Views.{sig_of, maker_of, name_of}
use Rattle.sml_objects.proofs.NamePlaces.{map-filter}
use Rattle.sml_objects.proofs.canonical.new_names.Goals as goal

pub returns : goal.returns
unfolding new_names
returns c =
    let p = is_new (maker_of c.args.unit) c.args.count in
    ap (map name_of) c.keep_new.ensures
    ∙ map-filter p name_of c.collect_basis.new.seen.keys
    ∙ ap (filter p) (c.in_ok-collect_basis.ensures ∙ ap (λ ks. firsts_after naming (map name_of ks) (appear_sig (sig_of c.args.basis.now))) c.new-names.ensures.empty)
