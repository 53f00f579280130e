use Rattle.sml_samples.proofs.Plain.{plain-samples}
use Rattle.sml_samples.proofs.Values.{value-samples}
use Rattle.sml_samples.proofs.Datatypes.{datatype-samples}
use Rattle.sml_samples.proofs.laws.core_declarations_have_answers.Goals as goal

pub returns : goal.returns
returns c = record { plain = plain-samples; values = value-samples; datatypes = datatype-samples }
