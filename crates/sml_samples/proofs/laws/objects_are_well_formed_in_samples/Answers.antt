use Rattle.sml_samples.proofs.WellFormed.{well-formed-samples}
use Rattle.sml_samples.proofs.laws.objects_are_well_formed_in_samples.Goals as goal

pub returns : goal.returns
returns c = well-formed-samples
