use Rattle.std.proofs.Common.{◌≡◌, ap, subst, ◌∙◌, OnOk, map, ◌++◌, refl}
use Rattle.sml_objects.specs.Canonical.{is_new}
use Rattle.sml_objects.specs.Views.{entries_of, maker_of, name_of}
use Rattle.sml_core_rules.specs.Objects.{names_map}
use Rattle.sml_bases.specs.Views.{env_of, ty_str_of, value_of}
use Rattle.sml_bases.specs.declared.objects.Env.TheViews.{out-Env}
use Rattle.sml_envs.specs.Appearing.{appear_env, appear_ty_str, appear_value}
use Rattle.sml_envs.proofs.Appearances.{appear-parts, appear_structures, next, no-more, structures-next, structures-none}
use Rattle.sml_envs.proofs.canonical.+envs.Goals as goal

pub add_env-returns : goal.add_env-returns
add_env-returns t c =
    let p = is_new (maker_of c.args.made.unit) c.args.made.first in
    let e = out-Env c.args.env.now in
    let ss = appear_structures (entries_of (λ s. env_of s.value) e.structures.entries) in
    let ts = names_map appear_ty_str (entries_of ty_str_of e.types.entries) in
    let vs = names_map appear_value (entries_of value_of e.values.entries) in
    let s = map name_of c.args.seen.now.keys in
    subst (λ l. OnOk c.add_values.result (map name_of c.add_values.new.seen.keys ≡ l))
    (next p s _ (ss ++ ts) vs (appear_env (env_of c.args.env.now))
    (c.in_ok-add_type_strs.ensures ∙ next p s _ ss ts (ss ++ ts) c.in_ok-add_structures.ensures refl)
    (appear-parts c.args.env.now))
    c.add_values.ensures

pub add_structures-loop-structure-init : goal.add_structures-loop-structure-init
add_structures-loop-structure-init t c = no-more (is_new (maker_of c.args.made.unit) c.args.made.first) (map name_of c.args.seen.now.keys) _ structures-none

pub add_structures-loop-structure-preserved : goal.add_structures-loop-structure-preserved
add_structures-loop-structure-preserved t c =
    c.in_ok-add_env.ensures
    ∙ structures-next (is_new (maker_of c.args.made.unit) c.args.made.first) (λ s. env_of s.value) c.loop-structure.yielded c.in-Some.field-0-0 c.in-Some.structure
    (map name_of c.args.seen.now.keys) _ _
    c.loop-structure.invariant
    (ap (λ e. appear_env (env_of e)) c.deref.ensures)
