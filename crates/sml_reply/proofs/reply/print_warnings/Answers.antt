use Rattle.std.proofs.Common.{◌+◌, ap, subst, map, drop, arith}
use Rattle.std.proofs.lemmas.List.{take_all}
use Rattle.std.specs.Io.KnownBytes.{Appends}
use Rattle.sml_reply.specs.Sinks.{in_turn}
use Rattle.sml_lex.specs.declared.fault.Code.TheVariants.{L1}
use Rattle.sml_texts.specs.Text.{warning_text}
use Rattle.sml_reply.proofs.Sinks.{goes_on, stops, prints_all, turn-more, turn-rest}
use Rattle.sml_reply.proofs.reply.print_warnings.Goals as goal

pub loop-warning-preserved : goal.loop-warning-preserved
loop-warning-preserved g c = goes_on _ _ _ _ _ _ _ _ _ _ _ c.loop-warning.invariant.0 c.loop-warning.invariant.1 c.in-Ok.ensures (turn-more warning_text c.args.warnings.now c.loop-warning.warning-index (record { code = L1; place = record { line = 0; column = 0 } }) c.loop-warning-test.true)

pub returns-in-Err : goal.returns-in-Err
returns-in-Err g c =
    let xs = c.args.warnings.now in
    let i = c.loop-warning.warning-index in
    stops _ _ _ _ _ _ _ _ _ _ _ (in_turn (map warning_text (drop (i + 1) xs))) _ c.loop-warning.invariant.0 c.loop-warning.invariant.1 c.in-Err.ensures (turn-rest warning_text xs i (record { code = L1; place = record { line = 0; column = 0 } }) c.loop-warning-test.true)

pub returns : goal.returns
returns g c =
    let xs = c.args.warnings.now in
    let i = c.loop-warning.warning-index in
    prints_all _ _ _ _ _ _ _ (subst (Appends _ _) (ap (λ l. in_turn (map warning_text l)) (take_all i xs (let h = c.loop-warning-test.false in omega (arith, h)))) c.loop-warning.invariant.0) c.loop-warning.invariant.1
