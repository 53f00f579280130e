use Rattle.sml_objects.specs.Initial.{naming}
use Rattle.sml_rules.proofs.Faults.{stands_in_declaration}
use Rattle.sml_rules.proofs.laws.faults_stand_in_their_declarations.Goals as goal

pub returns : goal.returns
returns c = λ p unit B d f h. stands_in_declaration naming p unit B d f h
