use Rattle.std.proofs.Common.{◌∙◌, arith, refl}
use Rattle.sml_demands.proofs.Demanding.{permits-refl, permits-trans}
use Rattle.sml_solve.proofs.solver.add_unknowns.Goals as goal

pub loop-made-init : goal.loop-made-init
loop-made-init c = record {
  made = omega arith;
  within = omega arith;
  same = permits-refl c.args.solver.now;
  kept = c.requires;
  unit = refl;
}

pub loop-made-preserved : goal.loop-made-preserved
loop-made-preserved c =
    let i = c.loop-made.invariant in
    record {
      made = omega (arith, i.made, c.in-Ok.ensures.count);
      within = omega arith;
      same = permits-trans c.args.solver.now c.loop-made.solver c.fresh.new.self i.same c.in-Ok.ensures.same;
      kept = c.in-Ok.ensures.call.kept;
      unit = c.in-Ok.ensures.call.unit ∙ i.unit;
    }
