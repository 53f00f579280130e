use Rattle.sml_samples.proofs.Structures.{structure-samples}
use Rattle.sml_samples.proofs.Signatures.{signature-samples}
use Rattle.sml_samples.proofs.laws.modules_have_answers.Goals as goal

pub returns : goal.returns
returns c = record { structures = structure-samples; signatures = signature-samples }
