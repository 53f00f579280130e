use Rattle.sml_objects.specs.Initial.{naming}
use Rattle.sml_text_rules.proofs.MovedTexts.{texts-move}
use Rattle.sml_text_rules.proofs.laws.texts_move_with_names.Goals as goal

pub returns : goal.returns
returns c = texts-move naming
