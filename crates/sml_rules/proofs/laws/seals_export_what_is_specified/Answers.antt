use Rattle.sml_objects.specs.Initial.{naming}
use Rattle.sml_rules.proofs.Specified.{exported}
use Rattle.sml_rules.proofs.laws.seals_export_what_is_specified.Goals as goal

pub returns : goal.returns
returns c = λ p unit B s q specs decs S h. exported naming unit B p s q specs decs S h
