use Rattle.std.proofs.Common.{◌≡◌, ap, ◌∙◌}
use Rattle.sml_tree.specs.Views.{ident_of}
use Rattle.sml_objects.specs.Maps.{put}
use Rattle.sml_objects.specs.Views.{entries_of, scheme_of, schemes_of}
use Rattle.sml_objects.proofs.EnvViews.{entries-put}
use Rattle.sml_bases.specs.Views.{ty_str_of}
use Rattle.sml_bases.specs.declared.objects.TypeStr.{TypeStr}
use Rattle.sml_types.proofs.bindings.put_type.Goals as goal

pub returns : goal.returns
returns c =
    let old = c.args.types.now.entries in
    let key : ident_of c.in_ok-name.name ≡ ident_of c.args.name.now = ap (λ v. v.items) c.in_ok-name.ensures.cases in
    let constructors : schemes_of c.in_ok-constructors.constructors.value.entries ≡ schemes_of c.args.constructors.now.value.entries =
    ap (λ m. schemes_of m.entries) c.in_ok-constructors.ensures.cases in
    let ty : TypeStr = record { function = c.args.function; constructors = c.in_ok-constructors.constructors } in
    ap (entries_of ty_str_of) c.in_ok-insert.ensures.entries
    ∙ entries-put ty_str_of old c.in_ok-name.name ty
    ∙ (λ i. put (key i) (record { function = scheme_of c.args.function.value; constructors = constructors i }) (entries_of ty_str_of old))
