use Rattle.sml_lex.proofs.Order.{tokens_are_in_order}
use Rattle.sml_lex.proofs.laws.tokens_are_in_order.Goals as goal

pub returns : goal.returns
returns c = tokens_are_in_order
