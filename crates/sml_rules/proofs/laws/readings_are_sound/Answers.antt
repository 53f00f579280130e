use Rattle.sml_objects.specs.Initial.{naming}
use Rattle.sml_rules.proofs.Sound.{readings_sound}
use Rattle.sml_rules.proofs.laws.readings_are_sound.Goals as goal

pub returns : goal.returns
returns c = λ p unit B d S h. readings_sound naming p unit B d S h
