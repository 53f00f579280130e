use Rattle.sml_read.proofs.OneReading.{reading_one}
use Rattle.sml_read.proofs.laws.reading_is_unique.Goals as goal

pub returns : goal.returns
returns c = reading_one
