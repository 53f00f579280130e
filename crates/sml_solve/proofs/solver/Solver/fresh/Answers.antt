use Rattle.std.proofs.Common.{◌≡◌, ◌++◌, ◌∷◌, [], length, ◌+◌, ◌<◌, ◌^◌, ap, ◌∙◌, subst, arith, length-append}
use Rattle.std.specs.Prelude.{false}
use Rattle.sml_objects.specs.Views.{maker_of}
use Rattle.sml_graph.specs.declared.node.Node.TheVariants.{Unknown}
use Rattle.sml_graph.specs.Asked.{asked_of, PermitsSame}
use Rattle.sml_graph.specs.CodeWhole.{IsKept, IsFull}
use Rattle.sml_demands.specs.CodeLevels.{BeginsLevel}
use Rattle.sml_demands.proofs.Levelling.{levels-fresh}
use Rattle.sml_demands.proofs.Demanding.{kept-fresh, permits-fresh}
use Rattle.sml_solve.proofs.solver.Solver.fresh.Goals as goal

pub invariant_of-self-2 : goal.invariant_of-self-2
invariant_of-self-2 c _ =
    let u = maker_of c.self.inside.unit in
    let us = c.self.inside.unknowns.items in
    let g = c.self.inside.graph in
    let k : IsKept u g us = (c.self.invariant c.if-self.false).kept in
    let n : c.in-Ok-try_from.at ≡ length g.nodes.items = omega arith in
    let e : c.fill.new.graph.nodes.items ≡ g.nodes.items ++ Unknown ∷ [] = c.in_default-fill.ensures.nodes ∙ (c.in_default-push.ensures.items ∙ ap (λ n. g.nodes.items ++ n ∷ []) c.unknown.ensures) in
    let m : length c.push.new.self.items ≡ length g.nodes.items + 1 = ap length c.in_default-push.ensures.items ∙ simp length-append in
    let full : IsFull c.fill.new.graph = c.in_default-fill.ensures.full (omega (arith, k.whole.full.orders, m)) in
    let v : c.push-2.new.self.items ≡ us ++ length g.nodes.items ∷ [] = rw (← n) c.in_default-push-2.ensures.items in
    let few : length us < 2 ^ 32 = omega (arith, c.in-Ok.ensures) in
    let a = c.self.invariant c.if-self.false in
    let ls = c.self.inside.levels.items in
    let ks = c.begin_level.new.levels.items in
    let q : c.in-Ok.number ≡ length us = omega (arith, c.in-Ok.ensures) in
    let b : BeginsLevel ls (length g.nodes.items) (length us) ks = subst (λ i. BeginsLevel ls i (length us) ks) n (subst (λ i. BeginsLevel ls c.in-Ok-try_from.at i ks) q c.in_default-begin_level.ensures) in
    record {
      kept = kept-fresh u g c.fill.new.graph us c.push-2.new.self.items k e c.in_default-fill.ensures.limits c.in_default-fill.ensures.orders full v few;
      levels = levels-fresh g.nodes.items c.fill.new.graph.nodes.items us c.push-2.new.self.items c.self.inside.left.items ls ks k.owners a.levels e v few b;
    }

pub returns-clause-same : goal.returns-clause-same
returns-clause-same c =
    let u = maker_of c.self.inside.unit in
    let us = c.self.inside.unknowns.items in
    let g = c.self.inside.graph in
    let h = c.fill.new.graph in
    let k : IsKept u g us = (c.self.invariant c.if-self.false).kept in
    let n : c.in-Ok-try_from.at ≡ length g.nodes.items = omega arith in
    let e : h.nodes.items ≡ g.nodes.items ++ Unknown ∷ [] = c.in_default-fill.ensures.nodes ∙ (c.in_default-push.ensures.items ∙ ap (λ n. g.nodes.items ++ n ∷ []) c.unknown.ensures) in
    let v : c.push-2.new.self.items ≡ us ++ length g.nodes.items ∷ [] = rw (← n) c.in_default-push-2.ensures.items in
    subst (λ s. PermitsSame s (asked_of u c.push-2.new.self.items h false)) c.self.view_is
    (permits-fresh u g h us c.push-2.new.self.items c.self.inside.spent false k e c.in_default-fill.ensures.limits v)

pub begin_level-requires : goal.begin_level-requires
begin_level-requires c =
    let a = c.self.invariant c.if-self.false in
    omega (arith, a.levels.within)
