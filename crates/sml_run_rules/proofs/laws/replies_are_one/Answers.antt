use Rattle.sml_run_rules.proofs.OneReply.{replies-are-one}
use Rattle.sml_run_rules.proofs.laws.replies_are_one.Goals as goal

pub returns : goal.returns
returns c = replies-are-one
