use Rattle.std.proofs.Common.{ℕ, List}
use Rattle.std.specs.Io.KnownBytes.{Consumes}
use Rattle.sml_client.specs.Streams.{AreEmptyLines, stream}
use Rattle.sml_client.proofs.frames.next_frame.Given as goal

abbrev pub invariant-loop : goal.invariant-loop
invariant-loop g l = (passed : List ℕ)
    × Consumes (stream l.initial.held.bytes.items (g.I.In.remaining l.initial.input)) (stream l.held.bytes.items (g.I.In.remaining l.input)) passed × AreEmptyLines passed
