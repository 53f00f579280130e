use Rattle.std.proofs.Common.{◌≡◌, map, take}
use Rattle.std.specs.Io.KnownBytes.{Appends}
use Rattle.sml_reply.specs.Sinks.{in_turn}
use Rattle.sml_units.specs.Written.{unit_text}
use Rattle.sml_units.proofs.run.write_units.Given as goal

abbrev pub invariant-loop-unit : goal.invariant-loop-unit
invariant-loop-unit g l =
    Appends (g.O.Out.taken l.initial.out) (g.O.Out.taken l.out) (in_turn (map (λ u. unit_text u l.form) (take l.unit-index l.units))) × (g.O.Out.failures l.out ≡ g.O.Out.failures l.initial.out)
