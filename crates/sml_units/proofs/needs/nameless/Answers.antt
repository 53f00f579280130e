use Rattle.sml_objects.proofs.Joins.{copied}
use Rattle.sml_units.proofs.Copies.{copied_env}
use Rattle.sml_units.proofs.needs.nameless.Goals as goal

pub returns-clause-env : goal.returns-clause-env
returns-clause-env c = copied_env c.args.env.now _ (copied _ _ c.in_ok-clone.ensures.cases) (copied _ _ c.in_ok-clone-2.ensures.cases) (copied _ _ c.in_ok-clone-3.ensures.cases)
