use Rattle.std.proofs.Common.{refl}
use Rattle.sml_core_rules.specs.Initial.{initial_env, initial_types, initial_values}
use Rattle.sml_initial.proofs.Filled.{filled}
use Rattle.sml_initial.proofs.initial.environment.Goals as goal

pub returns : goal.returns
unfolding initial_env
returns c = filled c.new-env.result _ _ initial_types initial_values c.new-env.ensures refl refl refl refl c.in_ok-put_types.ensures c.in_ok-put_values.ensures
