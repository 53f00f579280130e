use Rattle.std.proofs.Common.{◌+◌, ap, subst, map, drop, arith}
use Rattle.std.proofs.lemmas.List.{take_all}
use Rattle.std.specs.Io.KnownBytes.{Appends}
use Rattle.sml_reply.specs.Sinks.{in_turn}
use Rattle.sml_reply.proofs.Sinks.{goes_on, stops, prints_all}
use Rattle.sml_units.specs.Written.{unit_text}
use Rattle.sml_units.proofs.Written.{turn-more-at, turn-rest-at}
use Rattle.sml_units.proofs.run.write_units.Goals as goal

pub loop-unit-preserved : goal.loop-unit-preserved
loop-unit-preserved g c =
    goes_on _ _ _ _ _ _ _ _ _ _ _ c.loop-unit.invariant.0 c.loop-unit.invariant.1 c.in-Ok.ensures
    (turn-more-at (λ u. unit_text u c.args.form) c.args.units.now c.loop-unit.unit-index c.unit-item.result c.loop-unit-test.true c.unit-item.is)

pub returns-in-Err : goal.returns-in-Err
returns-in-Err g c =
    let xs = c.args.units.now in
    let i = c.loop-unit.unit-index in
    stops _ _ _ _ _ _ _ _ _ _ _ (in_turn (map (λ u. unit_text u c.args.form) (drop (i + 1) xs))) _ c.loop-unit.invariant.0 c.loop-unit.invariant.1 c.in-Err.ensures
    (turn-rest-at (λ u. unit_text u c.args.form) xs i c.unit-item.result c.loop-unit-test.true c.unit-item.is)

pub returns : goal.returns
returns g c =
    let xs = c.args.units.now in
    let i = c.loop-unit.unit-index in
    prints_all _ _ _ _ _ _ _ (subst (Appends _ _) (ap (λ l. in_turn (map (λ u. unit_text u c.args.form) l)) (take_all i xs (let h = c.loop-unit-test.false in omega (arith, h)))) c.loop-unit.invariant.0) c.loop-unit.invariant.1
