use Rattle.std.proofs.Common.{refl, ◌∙◌, subst, map}
use Rattle.sml_objects.specs.Canonical.{renumber}
use Rattle.sml_objects.specs.Objects as O
use Rattle.sml_objects.specs.Views.{maker_of, name_of}
use Rattle.sml_bases.specs.Views.{env_of}
use Rattle.sml_bases.specs.declared.objects.Env.TheViews.{out-Env}
use Rattle.sml_bases.proofs.EnvViews.{env_of-out}
use Rattle.sml_envs.specs.Mapped.{AreOrderedIn}
use Rattle.sml_envs.proofs.EnvMaps.{made-by, ordered-parts}
use Rattle.sml_envs.proofs.Renumbered.{env-named, named_by}
use Rattle.sml_envs.proofs.canonical.Numbering.env.Goals as goal

pub returns : goal.returns
returns c = λ o.
    let r = renumber (maker_of c.args.self.now.unit) c.args.self.now.count (map name_of c.args.self.now.names.now.keys) in
    let split = ordered-parts (out-Env c.args.env.now) (subst AreOrderedIn (env_of-out c.args.env.now) o) in
    made-by O.bound O.free (named_by r) c.args.env.now _ _ refl
    (c.in_ok-structures.ensures.becomes split.0) (c.in_ok-types.ensures split.1.0) (c.in_ok-values.ensures split.1.1)
    ∙ env-named r (env_of c.args.env.now) o
