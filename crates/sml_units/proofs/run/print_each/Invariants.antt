use Rattle.std.proofs.Common.{◌≡◌, map, take}
use Rattle.std.specs.Io.KnownBytes.{Appends}
use Rattle.sml_reply.specs.Sinks.{in_turn}
use Rattle.sml_reply.specs.Replies.{form_text}
use Rattle.sml_units.proofs.run.print_each.Given as goal

abbrev pub invariant-loop-reply : goal.invariant-loop-reply
invariant-loop-reply g l =
    Appends (g.O.Out.taken l.initial.out) (g.O.Out.taken l.out) (in_turn (map (λ r. form_text r l.form) (take l.reply-index l.replies))) × (g.O.Out.failures l.out ≡ g.O.Out.failures l.initial.out)
