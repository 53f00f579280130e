use Rattle.sml_text_rules.proofs.CanonicalBases.{canonical-lines-are-one}
use Rattle.sml_text_rules.proofs.laws.canonical_lines_are_one.Goals as goal

pub returns : goal.returns
returns c = canonical-lines-are-one
