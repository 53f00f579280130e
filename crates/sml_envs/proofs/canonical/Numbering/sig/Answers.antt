use Rattle.std.proofs.Common.{ap, sym, ◌∙◌, map}
use Rattle.sml_objects.specs.Canonical.{renumber}
use Rattle.sml_objects.specs.Views.{maker_of, name_of}
use Rattle.sml_objects.proofs.EnvViews.{map-map}
use Rattle.sml_bases.specs.Views.{env_of}
use Rattle.sml_envs.proofs.Renumbered.{env-named}
use Rattle.sml_envs.proofs.canonical.Numbering.sig.Goals as goal

pub returns : goal.returns
returns c = λ o.
    let r = renumber (maker_of c.args.self.now.unit) c.args.self.now.count (map name_of c.args.self.now.names.now.keys) in
    λ i. record {
      names = (c.in_ok-names.ensures ∙ ap (map (λ n. r (name_of n))) c.deref.ensures.value ∙ sym (map-map r name_of c.args.sig.now.names.items)) i;
      body = (c.in_ok-mapped_env.ensures o ∙ env-named r (env_of c.args.sig.now.env.value) o) i;
    }
