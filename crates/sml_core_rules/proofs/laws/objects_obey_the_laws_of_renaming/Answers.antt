use Rattle.sml_core_rules.proofs.Renaming.{objects-obey}
use Rattle.sml_core_rules.proofs.laws.objects_obey_the_laws_of_renaming.Goals as goal

pub returns : goal.returns
returns c = objects-obey
