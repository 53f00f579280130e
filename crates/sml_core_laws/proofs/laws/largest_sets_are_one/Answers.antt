use Rattle.sml_objects.specs.Initial.{naming}
use Rattle.sml_core_laws.proofs.Largest.{largest-is-one}
use Rattle.sml_core_laws.proofs.laws.largest_sets_are_one.Goals as goal

pub returns : goal.returns
returns c = largest-is-one naming
