use Rattle.sml_objects.specs.Initial.{naming}
use Rattle.sml_module_rules.proofs.Tops.{top-readings-move}
use Rattle.sml_module_rules.proofs.laws.top_readings_move_with_names.Goals as goal

pub returns : goal.returns
returns c = top-readings-move naming
