use Rattle.sml_text_rules.proofs.Samples.{text-samples}
use Rattle.sml_text_rules.proofs.laws.samples_print.Goals as goal

pub returns : goal.returns
returns c = text-samples
