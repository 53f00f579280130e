use Rattle.sml_objects.specs.Initial.{naming}
use Rattle.sml_core_rules.proofs.Moves.{derivations-move}
use Rattle.sml_core_rules.proofs.laws.derivations_move_with_names.Goals as goal

pub returns : goal.returns
returns c = derivations-move naming
