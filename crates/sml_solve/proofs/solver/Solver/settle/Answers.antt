use Rattle.std.proofs.Common.{◌≡◌, ◌+◌, ◌<◌, ℕ, List, ◌∷◌, [], ◌++◌, length, take, get_or, sym, ◌∙◌, subst, refl, arith}
use Rattle.std.proofs.lemmas.List.{take_more}
use Rattle.std.specs.List.{AllByRecursion}
use Rattle.sml_objects.specs.Appearance.{Stands}
use Rattle.sml_objects.specs.Views.{maker_of}
use Rattle.sml_graph.specs.Asked.{asked_of, count}
use Rattle.sml_demands.specs.Overloaded.{Settles}
use Rattle.sml_graph.specs.CodeWhole.{IsKept}
use Rattle.sml_solve.proofs.Defaulting.{settled-first, settled-more, below-all, below-at, in-taken}
use Rattle.sml_solve.proofs.solver.Solver.settle.Goals as goal

pub loop-index-init : goal.loop-index-init
loop-index-init c = record {
  settled = settled-first c.args.self.now;
  within = omega arith;
  count = refl;
  kept = search c.if-self.false;
  unit = refl;
}

pub loop-index-preserved : goal.loop-index-preserved
loop-index-preserved c =
    let i = c.loop-index.invariant in
    let at = c.loop-index.index in
    let vs : List ℕ = c.args.unknowns.now in
    let u = maker_of c.self.inside.unit in
    let us = c.self.inside.unknowns.items in
    let g = c.self.inside.graph in
    let b = c.self.inside.spent in
    let k : IsKept u g us = (c.self.invariant c.if-self.false).kept in
    let n : count c.args.self.now ≡ length us = subst (λ s. count s ≡ length us) c.self.view_is refl in
    let all : AllByRecursion (λ v. v < length us) vs = subst (λ n. AllByRecursion (λ v. v < n) vs) n c.requires in
    let one : Settles (asked_of u us g b) (take at vs) c.loop-index.self = subst (λ s. Settles s (take at vs) c.loop-index.self) (sym c.self.view_is) i.settled in
    let m : Settles (asked_of u us g b) (take at vs ++ get_or vs at 0 ∷ []) c.settle_one.new.solver =
    settled-more u us g b k (λ e. omega (arith, e)) (take at vs) (get_or vs at 0) c.loop-index.self c.settle_one.new.solver
    (λ v h. below-all (length us) vs all v (in-taken at vs v h)) (below-at (length us) vs at all c.loop-index-test.true) one c.in-Ok.ensures.ok in
    let more : Settles (asked_of u us g b) (take (at + 1) vs) c.settle_one.new.solver = subst (λ l. Settles (asked_of u us g b) l c.settle_one.new.solver) (sym (take_more vs at 0 c.loop-index-test.true)) m in
    record {
      settled = subst (λ s. Settles s (take (at + 1) vs) c.settle_one.new.solver) c.self.view_is more;
      within = omega (arith, c.loop-index-test.true);
      count = c.in-Ok.ensures.count ∙ i.count;
      kept = c.in-Ok.ensures.call.kept;
      unit = c.in-Ok.ensures.call.unit ∙ i.unit;
    }
