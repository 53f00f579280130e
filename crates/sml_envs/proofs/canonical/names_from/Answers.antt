use Rattle.std.proofs.Common.{◌≡◌, ap, sym, ◌∙◌, map, filter, [], rules}
use Rattle.std.proofs.lemmas.Map.Iter.{iter_end}
use Rattle.std.specs.Map.Iter.{deref}
use Rattle.sml_objects.specs.Appearance.{firsts_after}
use Rattle.sml_objects.specs.Canonical.{is_new}
use Rattle.sml_objects.specs.Initial.{naming}
use Rattle.sml_objects.specs.Views.{maker_of, name_of}
use Rattle.sml_objects.specs.declared.objects.TyName.{TyName}
use Rattle.sml_bases.specs.Views.{env_of}
use Rattle.sml_envs.specs.Appearing.{appear_env}
use Rattle.sml_envs.proofs.Appearances.{firsts-filtered}
use Rattle.sml_envs.proofs.canonical.names_from.Goals as goal

pub returns : goal.returns
returns c =
    let p = is_new (maker_of c.args.unit) c.args.first in
    let names = appear_env (env_of c.args.env.now) in
    let whole : map (deref {X = TyName}) c.loop-name.yielded ≡ c.add_env.new.seen.keys = search (rules, iter_end) in
    ap (map name_of) (c.loop-name.invariant ∙ whole)
    ∙ c.in_ok-add_env.ensures
    ∙ ap (λ ks. firsts_after naming (map name_of ks) (filter p names)) c.new-seen.ensures.empty
    ∙ sym (firsts-filtered p [] names)
