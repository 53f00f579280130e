use Rattle.std.proofs.Common.{sym, ◌∙◌, arith}
use Rattle.sml_flaws.specs.Flawed.{ends_at}
use Rattle.sml_reach.proofs.Firsts.{first_on}
use Rattle.sml_flaws.proofs.flawed.up_to_end.Goals as goal

pub loop-end-preserved : goal.loop-end-preserved
loop-end-preserved c = record {
  within = omega arith;
  kept = c.loop-end.invariant.kept
      ∙ first_on ends_at c.args.nodes.now c.loop-end.end _ c.loop-end-test.true (sym c.if-not-ends_at.ensures);
}
