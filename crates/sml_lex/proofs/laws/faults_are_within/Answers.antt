use Rattle.sml_lex.proofs.Order.{faults_are_within}
use Rattle.sml_lex.proofs.laws.faults_are_within.Goals as goal

pub returns : goal.returns
returns c = faults_are_within
