use Rattle.std.proofs.Common.{map, take}
use Rattle.sml_reply.specs.Sinks.{in_turn}
use Rattle.sml_reply.proofs.Sinks.{turn-more}
use Rattle.sml_client.proofs.Growing.{adds_more}
use Rattle.sml_client.proofs.written.Text.push_all.Goals as goal

pub loop-part-preserved : goal.loop-part-preserved
loop-part-preserved c =
    adds_more c.args.self.now c.loop-part.self c.push.new.self (in_turn (map (λ p. p.now) (take c.loop-part.part-index c.args.parts.now))) _ _ c.loop-part.invariant c.push.ensures.added
    (turn-more (λ p. p.now) c.args.parts.now c.loop-part.part-index _ c.loop-part-test.true)
