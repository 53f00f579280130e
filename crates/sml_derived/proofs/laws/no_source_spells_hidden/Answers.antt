use Rattle.std.proofs.Common.{refl}
use Rattle.sml_derived.specs.Words.{hidden}
use Rattle.sml_derived.proofs.laws.no_source_spells_hidden.Goals as goal

pub returns : goal.returns
unfolding hidden
returns c n = (refl, refl, refl, refl)
