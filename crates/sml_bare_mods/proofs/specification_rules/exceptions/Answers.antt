use Rattle.sml_bare_mods.proofs.Refused.{none_given}
use Rattle.sml_bare_mods.proofs.specification_rules.exceptions.Goals as goal

pub returns-in_err-name-clause-rest : goal.returns-in_err-name-clause-rest
returns-in_err-name-clause-rest c = none_given _ _ c.from_residual.ensures.0
