use Rattle.sml_tree_laws.proofs.RuledUnits.{all_ruled}
use Rattle.sml_tree_laws.proofs.laws.matches_have_rules.Goals as goal

pub returns : goal.returns
returns c = all_ruled
