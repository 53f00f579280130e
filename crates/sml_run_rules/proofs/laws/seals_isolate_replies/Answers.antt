use Rattle.sml_run_rules.proofs.SealedReplies.{seals-isolate}
use Rattle.sml_run_rules.proofs.laws.seals_isolate_replies.Goals as goal

pub returns : goal.returns
returns c = seals-isolate
