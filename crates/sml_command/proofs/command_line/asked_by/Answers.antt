use Rattle.sml_command.proofs.Commands.{not_taken}
use Rattle.sml_command.proofs.command_line.asked_by.Goals as goal

pub returns-in-Err : goal.returns-in-Err
returns-in-Err c = not_taken _ _ c.refused.result c.in-Err.ensures.fault c.refused.ensures.said c.refused.ensures.memory
