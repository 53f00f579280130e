use Rattle.sml_objects.specs.Initial.{naming}
use Rattle.sml_core_rules.proofs.Moves.{readings-move}
use Rattle.sml_core_rules.proofs.laws.readings_move_with_names.Goals as goal

pub returns : goal.returns
returns c = readings-move naming
