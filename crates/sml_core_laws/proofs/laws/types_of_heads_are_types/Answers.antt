use Rattle.sml_core_laws.proofs.MadeSmall.{types-of-heads-are-types}
use Rattle.sml_core_laws.proofs.laws.types_of_heads_are_types.Goals as goal

pub returns : goal.returns
returns c = types-of-heads-are-types
