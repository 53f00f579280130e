use Rattle.std.proofs.Common.{◌≡◌, take}
use Rattle.std.specs.Io.KnownBytes.{Appends}
use Rattle.sml_reply.specs.Replies.{warnings_text}
use Rattle.sml_reply.proofs.reply.print_warnings.Given as goal

abbrev pub invariant-loop-warning : goal.invariant-loop-warning
invariant-loop-warning g l =
    Appends (g.O.Out.taken l.initial.out) (g.O.Out.taken l.out) (warnings_text (take l.warning-index l.warnings)) × (g.O.Out.failures l.out ≡ g.O.Out.failures l.initial.out)
