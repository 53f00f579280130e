use Rattle.sml_core.proofs.Entering.{env-entered}
use Rattle.sml_core.proofs.context.Context.bind_env.Goals as goal

pub returns-clause-bound : goal.returns-clause-bound
returns-clause-bound c =
    env-entered c.args.self.now.scopes c.bind_structures.new.self.scopes c.bind_types.new.self.scopes c.bind_values.new.self.scopes c.args.env c.bind_values.result
    c.in_ok-bind_structures.ensures.bound c.in_ok-bind_types.ensures.bound c.bind_values.ensures.bound
