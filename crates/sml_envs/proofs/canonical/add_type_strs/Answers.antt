use Rattle.std.proofs.Common.{◌∙◌, map, refl}
use Rattle.sml_objects.specs.Canonical.{is_new}
use Rattle.sml_objects.specs.Views.{maker_of, name_of}
use Rattle.sml_bases.specs.Views.{ty_str_of}
use Rattle.sml_envs.specs.Appearing.{appear_ty_str}
use Rattle.sml_envs.proofs.Appearances.{names-next, no-more}
use Rattle.sml_envs.proofs.canonical.add_type_strs.Goals as goal

pub loop-ty-init : goal.loop-ty-init
loop-ty-init c = no-more (is_new (maker_of c.args.made.unit) c.args.made.first) (map name_of c.args.seen.now.keys) _ refl

pub loop-ty-preserved : goal.loop-ty-preserved
loop-ty-preserved c =
    c.in_ok-add_type_str.ensures
    ∙ names-next (is_new (maker_of c.args.made.unit) c.args.made.first) ty_str_of appear_ty_str c.loop-ty.yielded c.in-Some.field-0-0 c.in-Some.ty (map name_of c.args.seen.now.keys) _ _
    c.loop-ty.invariant
    refl
