use Rattle.std.proofs.Common.{◌≡◌, ◌∷◌, [], length, ap, arith, ◌∙◌, refl, Err}
use Rattle.sml_graph.specs.declared.merge.Unsolved.TheVariants.{Clash}
use Rattle.sml_graph.proofs.Changing.{changes-none, changes-then, changes-fewer}
use Rattle.sml_graph.proofs.Merging.{ArePairsIn-back, same-step, same-none, clash-step}
use Rattle.sml_graph.proofs.merge.solve.Goals as goal

pub loop-left-init : goal.loop-left-init
loop-left-init c = record {
  len = refl;
  sound = c.requires.sound;
  inside = c.requires.inside;
  same = λ w σ. (λ x. x, λ x. x);
  changes = changes-none c.args.nodes.now.items c.args.changed.items;
}

pub step-requires-clause-left_inside : goal.step-requires-clause-left_inside
step-requires-clause-left_inside c =
    let n = length c.loop-left.nodes.items in
    let p = (ArePairsIn-back n c.pop.new.self.items ((c.in-Some.left, c.in-Some.right) ∷ []) (rw c.in-Some.ensures.items at c.loop-left.invariant.inside)).0.0 in
    omega (arith, p)

pub step-requires-clause-right_inside : goal.step-requires-clause-right_inside
step-requires-clause-right_inside c =
    let n = length c.loop-left.nodes.items in
    let p = (ArePairsIn-back n c.pop.new.self.items ((c.in-Some.left, c.in-Some.right) ∷ []) (rw c.in-Some.ensures.items at c.loop-left.invariant.inside)).0.1 in
    omega (arith, p)

pub loop-left-preserved : goal.loop-left-preserved
loop-left-preserved c =
    let i = c.loop-left.invariant in
    let m = c.in-Ok.ensures.merges in
    record {
      len = m.len ∙ i.len;
      sound = m.sound;
      inside = m.inside;
      same = same-step c.args.nodes.now.items c.loop-left.nodes.items c.step.new.nodes.items c.args.pending.items c.loop-left.pending.items c.pop.new.self.items c.step.new.pending.items (c.in-Some.left, c.in-Some.right) i.same c.in-Some.ensures.items m;
      changes = changes-then c.args.nodes.now.items c.loop-left.nodes.items c.step.new.nodes.items c.args.changed.items c.loop-left.changed.items c.step.new.changed.items i.len i.changes c.in-Ok.ensures.changes;
    }

pub returns-in-Err-clause-clash : goal.returns-in-Err-clause-clash
returns-in-Err-clause-clash c e =
    clash-step c.args.nodes.now.items c.loop-left.nodes.items c.args.pending.items c.loop-left.pending.items c.pop.new.self.items (c.in-Some.left, c.in-Some.right) c.loop-left.invariant.same c.in-Some.ensures.items (let f : c.in-Err.fault ≡ Clash = cc in c.in-Err.ensures.clash (ap Err f))

pub returns-in-Ok-fewest-clause-same : goal.returns-in-Ok-fewest-clause-same
returns-in-Ok-fewest-clause-same c = same-none c.args.nodes.now.items c.args.pending.items c.loop-left.nodes.items c.loop-left.pending.items c.loop-left.invariant.same (omega (arith, c.in_default.ensures.cases))

pub returns-in-Ok-fewest-clause-changes : goal.returns-in-Ok-fewest-clause-changes
returns-in-Ok-fewest-clause-changes c = changes-fewer c.args.nodes.now.items c.loop-left.nodes.items c.args.changed.items c.loop-left.changed.items c.in-Ok-fewest.few.items c.loop-left.invariant.changes c.in-Ok-fewest.ensures.covers (c.in-Ok-fewest.ensures.inside (length c.args.nodes.now.items))
