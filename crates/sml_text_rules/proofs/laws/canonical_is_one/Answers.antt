use Rattle.sml_text_rules.proofs.CanonicalBases.{canonical-is-one}
use Rattle.sml_text_rules.proofs.laws.canonical_is_one.Goals as goal

pub returns : goal.returns
returns c = canonical-is-one
