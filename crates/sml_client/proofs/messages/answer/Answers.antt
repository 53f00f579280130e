use Rattle.std.proofs.Common.{◌∙◌, ap}
use Rattle.serde_json.specs.Read.{read}
use Rattle.sml_client.specs.Answers.{answer}
use Rattle.sml_client.proofs.Taking.{on_ok}
use Rattle.sml_client.proofs.messages.answer.Goals as goal

pub returns : goal.returns
unfolding answer
returns c = λ few. on_ok c.send.result (λ h. record { text = c.deref.result.now; same = ap read c.deref.ensures.value ∙ c.in_ok-id.ensures.reads_back few; written = h }) c.send.ensures
