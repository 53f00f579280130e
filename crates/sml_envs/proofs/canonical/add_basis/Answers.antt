use Rattle.std.proofs.Common.{◌≡◌, sym, subst, ◌∙◌, OnOk, map, ◌++◌, refl, append_assoc}
use Rattle.sml_objects.specs.Canonical.{is_new}
use Rattle.sml_objects.specs.Views.{maker_of, name_of}
use Rattle.sml_core_rules.specs.Objects.{names_map}
use Rattle.sml_bases.specs.Layers.{bound_env, bound_functors, bound_signatures}
use Rattle.sml_envs.specs.Appearing.{appear_env, appear_fun_sig, appear_sig}
use Rattle.sml_envs.proofs.Appearances.{next}
use Rattle.sml_envs.proofs.canonical.add_basis.Goals as goal

pub returns : goal.returns
returns c =
    let p = is_new (maker_of c.args.made.unit) c.args.made.first in
    let env = appear_env (bound_env c.args.basis.now) in
    let signatures = names_map appear_sig (bound_signatures c.args.basis.now) in
    let functors = names_map appear_fun_sig (bound_functors c.args.basis.now) in
    let s = map name_of c.args.seen.now.keys in
    subst (λ l. OnOk c.add_functors.result (map name_of c.add_functors.new.seen.keys ≡ l))
    (next p s _ (env ++ signatures) functors (env ++ (signatures ++ functors))
    (c.in_ok-add_signatures.ensures ∙ next p s _ env signatures (env ++ signatures) c.in_ok-add_env.ensures refl)
    (sym (append_assoc env signatures functors)))
    c.add_functors.ensures
