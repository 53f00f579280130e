use Rattle.std.proofs.Common.{◌≡◌, ◌+◌, ◌++◌, List, length}
use Rattle.sml_reply.specs.declared.reply.Reply.{Reply}
use Rattle.sml_units.specs.Checked.{AreNumbered}
use Rattle.sml_units.proofs.whole.answer_rest.Given as goal

abbrev pub invariant-loop-dec : goal.invariant-loop-dec
invariant-loop-dec l = (tail : List Reply) × (l.replies.items ≡ l.fn.replies.items ++ tail) × (length tail ≡ l.dec-index) × AreNumbered (length l.fn.replies.items + 1) tail
