use Rattle.std.proofs.Common.{◌≡◌, map, take}
use Rattle.std.specs.Io.KnownBytes.{Appends}
use Rattle.sml_reply.specs.Sinks.{in_turn}
use Rattle.sml_reply.proofs.sink.write_each.Given as goal

abbrev pub invariant-loop-part : goal.invariant-loop-part
invariant-loop-part g l =
    Appends (g.O.Out.taken l.initial.out) (g.O.Out.taken l.out) (in_turn (map (λ p. p.now) (take l.part-index l.parts))) × (g.O.Out.failures l.out ≡ g.O.Out.failures l.initial.out)
