use Rattle.sml_objects.specs.Initial.{naming}
use Rattle.sml_rules.proofs.Paths.{readings_alike}
use Rattle.sml_rules.proofs.laws.readings_are_alike.Goals as goal

pub returns : goal.returns
returns c = λ p unit B d o q h k. readings_alike naming p unit B d o q h k
