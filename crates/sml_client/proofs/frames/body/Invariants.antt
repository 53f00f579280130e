use Rattle.std.specs.Io.KnownBytes.{Keeps}
use Rattle.sml_client.specs.Streams.{stream}
use Rattle.sml_client.proofs.frames.body.Given as goal

abbrev pub invariant-loop : goal.invariant-loop
invariant-loop g l =
    Keeps (stream l.initial.held.bytes.items (g.I.In.remaining l.initial.input)) (stream l.held.bytes.items (g.I.In.remaining l.input))
