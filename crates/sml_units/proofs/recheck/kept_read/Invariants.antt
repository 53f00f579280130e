use Rattle.std.proofs.Common.{take}
use Rattle.sml_units.specs.CodeUnits.{AreCopies}
use Rattle.sml_units.proofs.recheck.kept_read.Given as goal

abbrev pub invariant-loop-reply : goal.invariant-loop-reply
invariant-loop-reply l = AreCopies (take l.reply-index l.reply-items) l.replies.items
