use Rattle.std.proofs.Common.{◌≡◌, IfOk, Option, ap, subst, ◌∙◌, map}
use Rattle.sml_objects.specs.Initial.{Name}
use Rattle.sml_objects.specs.Objects as O
use Rattle.sml_objects.specs.Views.{maker_of, name_of}
use Rattle.sml_bases.specs.Views.{env_of}
use Rattle.sml_type_maps.specs.Mapped.{or_by_name}
use Rattle.sml_envs.specs.Mapped.{env_by}
use Rattle.sml_envs.specs.Renamed.{made_like, new_for}
use Rattle.sml_envs.proofs.renaming.applied_result.Goals as goal

pub returns-clause-env : goal.returns-clause-env
returns-clause-env g c = λ o.
    let s = c.args.new.now in
    let Becomes : (Name → Option Name) → Type 0 =
    λ m. IfOk c.mapped_env.result (λ e. env_of e.value ≡ env_by O.bound O.free (λ n ts. or_by_name (m n) ts (g.M.Mapping.name_gives c.args.realisation.now n ts)) (env_of c.args.functor.now.result.env.value)) in
    subst Becomes
    (λ i n. (c.in_ok-of.ensures.others n ∙ ap (λ ns. new_for (map name_of ns) (made_like (maker_of s.unit) s.next (map name_of ns)) n) c.deref.ensures.value) i)
    (c.mapped_env.ensures o)
