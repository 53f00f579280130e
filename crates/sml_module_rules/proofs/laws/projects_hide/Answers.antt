use Rattle.sml_module_rules.proofs.ProjectSeals.{projects-hide}
use Rattle.sml_module_rules.proofs.laws.projects_hide.Goals as goal

pub returns : goal.returns
returns c = projects-hide
