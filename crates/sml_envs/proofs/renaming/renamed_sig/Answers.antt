use Rattle.std.proofs.Common.{ap, ◌∙◌, map}
use Rattle.sml_objects.specs.Objects as O
use Rattle.sml_objects.specs.Views.{maker_of, name_of}
use Rattle.sml_bases.specs.Views.{env_of}
use Rattle.sml_type_maps.specs.Mapped.{by_name}
use Rattle.sml_envs.specs.Mapped.{env_by}
use Rattle.sml_envs.specs.Renamed.{made_like, new_for}
use Rattle.sml_envs.proofs.renaming.renamed_sig.Goals as goal

pub returns-clause-env : goal.returns-clause-env
returns-clause-env c = λ o.
    let s = c.args.new.now in
    c.in_ok-env.ensures o
    ∙ (λ i. env_by O.bound O.free (λ n ts. by_name (c.in_ok-renaming.ensures.others n i) n ts) (env_of c.args.sig.now.env.value))
    ∙ ap (λ ns. env_by O.bound O.free (λ n ts. by_name (new_for (map name_of ns) (made_like (maker_of s.unit) s.next (map name_of ns)) n) n ts) (env_of c.args.sig.now.env.value))
    c.deref.ensures.value
