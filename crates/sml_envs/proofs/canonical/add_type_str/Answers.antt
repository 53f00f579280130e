use Rattle.std.proofs.Common.{◌≡◌, ap, sym, subst, ◌∙◌, OnOk, map, ◌++◌}
use Rattle.sml_objects.specs.Appearance.{appear_type}
use Rattle.sml_objects.specs.Canonical.{is_new}
use Rattle.sml_objects.specs.Views.{maker_of, name_of, schemes_of, type_of}
use Rattle.sml_bases.specs.Views.{ty_str_of}
use Rattle.sml_envs.specs.Appearing.{appear_schemes, appear_ty_str}
use Rattle.sml_envs.proofs.Appearances.{next}
use Rattle.sml_envs.proofs.canonical.add_type_str.Goals as goal

pub returns : goal.returns
returns c =
    subst (λ l. OnOk c.add_schemes.result (map name_of c.add_schemes.new.seen.keys ≡ l))
    (next (is_new (maker_of c.args.made.unit) c.args.made.first) (map name_of c.args.seen.now.keys) _ (appear_type (type_of c.deref-2.result.now))
    (appear_schemes (schemes_of c.deref-3.result.now.entries)) (appear_ty_str (ty_str_of c.args.ty.now)) c.in_ok-add_type.ensures
    (λ i. appear_type (type_of (sym (c.deref-2.ensures ∙ ap (λ s. s.body.value) c.deref.ensures) i)) ++ appear_schemes (schemes_of (sym c.deref-3.ensures i).entries)))
    c.add_schemes.ensures
