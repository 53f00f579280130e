use Rattle.std.proofs.Common.{◌+◌, ap, subst, map, drop, List, [], ℕ, Bor, arith}
use Rattle.std.proofs.lemmas.List.{take_all}
use Rattle.std.specs.Io.KnownBytes.{Appends}
use Rattle.sml_reply.specs.Sinks.{in_turn}
use Rattle.sml_reply.proofs.Sinks.{goes_on, stops, prints_all, turn-more, turn-rest}
use Rattle.sml_reply.proofs.sink.write_each.Goals as goal

abbrev now : Bor (List ℕ) → List ℕ
now p = p.now

pub loop-part-preserved : goal.loop-part-preserved
loop-part-preserved g c = goes_on _ _ _ _ _ _ _ _ _ _ _ c.loop-part.invariant.0 c.loop-part.invariant.1 c.in-Ok.ensures (turn-more now c.args.parts.now c.loop-part.part-index (record { ref_ptr = (0, 0); now = [] }) c.loop-part-test.true)

pub returns-in-Err : goal.returns-in-Err
returns-in-Err g c =
    let xs = c.args.parts.now in
    let i = c.loop-part.part-index in
    stops _ _ _ _ _ _ _ _ _ _ _ (in_turn (map now (drop (i + 1) xs))) _ c.loop-part.invariant.0 c.loop-part.invariant.1 c.in-Err.ensures (turn-rest now xs i (record { ref_ptr = (0, 0); now = [] }) c.loop-part-test.true)

pub returns : goal.returns
returns g c =
    let xs = c.args.parts.now in
    let i = c.loop-part.part-index in
    prints_all _ _ _ _ _ _ _ (subst (Appends _ _) (ap (λ l. in_turn (map now l)) (take_all i xs (let h = c.loop-part-test.false in omega (arith, h)))) c.loop-part.invariant.0) c.loop-part.invariant.1
