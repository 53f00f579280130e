use Rattle.std.proofs.Common.{arith, refl}
use Rattle.sml_flaws.proofs.Knowing.{uses_on}
use Rattle.sml_flaws.proofs.known.add_uses.Goals as goal

pub loop-i-preserved : goal.loop-i-preserved
loop-i-preserved c =
    let t = c.loop-i-test.true in
    let w = c.loop-i.invariant.within in
    record {
      kept = λ q. uses_on c.args.sequence c.args.steps.now c.loop-i.i q _ _ _ _ _ _ _ (omega (arith, t)) w refl c.step_at.ensures c.use_of.ensures (c.in_ok-add_use.ensures q) (c.loop-i.invariant.kept q);
      within = omega (arith, w);
    }
