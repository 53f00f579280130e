use Rattle.sml_objects.specs.Appearance.{appear_env}
use Rattle.sml_objects.specs.Objects.{names_env}
use Rattle.sml_objects.specs.Views.{env_of}
use Rattle.sml_objects.proofs.SameNames.{stand-collected}
use Rattle.sml_objects.proofs.StandingObjects.{env-appears, env-stands}
use Rattle.sml_objects.proofs.named.EnvNamed.names.Goals as goal

pub returns : goal.returns
returns c =
    let x = env_of c.args.self.now in
    stand-collected c.collect_env.new.seen.keys c.new-names.result.keys (appear_env x) (names_env x) c.in_ok-collect_env.ensures c.new-names.ensures.empty
    (λ n s. env-stands n x s) (λ n s. env-appears n x s)
