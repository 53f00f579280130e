use Rattle.sml_lex.proofs.Unique.{spelling_is_unique}
use Rattle.sml_lex.proofs.laws.spelling_is_unique.Goals as goal

pub returns : goal.returns
returns c = spelling_is_unique
