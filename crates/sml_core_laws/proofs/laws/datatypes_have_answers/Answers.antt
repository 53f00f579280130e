use Rattle.sml_core_laws.proofs.MadeDatatypes.{datatypes-have-answers}
use Rattle.sml_core_laws.proofs.laws.datatypes_have_answers.Goals as goal

pub returns : goal.returns
returns c = datatypes-have-answers
