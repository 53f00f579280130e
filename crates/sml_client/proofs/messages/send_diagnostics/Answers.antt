use Rattle.sml_client.specs.Answers.{notice}
use Rattle.sml_client.proofs.messages.send_diagnostics.Goals as goal

pub returns : goal.returns
unfolding notice
returns c = c.send.ensures
