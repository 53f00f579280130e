use Rattle.sml_reply.specs.Sinks.{Prints}
use Rattle.sml_client.specs.Answers.{message}
use Rattle.sml_client.proofs.messages.write.Goals as goal

pub returns-in-Ok : goal.returns-in-Ok
unfolding Prints message
returns-in-Ok c = c.in-Ok.ensures.0
