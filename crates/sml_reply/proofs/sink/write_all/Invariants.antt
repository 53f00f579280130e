use Rattle.std.proofs.Common.{◌≡◌, length, take, ◌-◌, ◌≤◌}
use Rattle.std.specs.Io.KnownBytes.{Appends}
use Rattle.sml_reply.proofs.sink.write_all.Given as goal

abbrev pub invariant-loop-start : goal.invariant-loop-start
invariant-loop-start g l =
    (l.start ≤ length l.bytes) × Appends (g.O.Out.taken l.initial.out) (g.O.Out.taken l.out) (take l.start l.bytes) × (g.O.Out.failures l.out ≡ g.O.Out.failures l.initial.out)

abbrev pub decreases-loop-start : goal.decreases-loop-start
decreases-loop-start g l = length l.bytes - l.start
