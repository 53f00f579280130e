use Rattle.std.proofs.Common.{map, take}
use Rattle.sml_reply.specs.Sinks.{in_turn}
use Rattle.sml_client.specs.Texts.{Adds}
use Rattle.sml_client.proofs.written.Text.push_all.Given as goal

abbrev pub invariant-loop-part : goal.invariant-loop-part
invariant-loop-part l = Adds l.initial.self l.self (in_turn (map (λ p. p.now) (take l.part-index l.parts)))
