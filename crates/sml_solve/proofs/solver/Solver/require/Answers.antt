use Rattle.std.proofs.Common.{rules, ◌≡◌, ◌∙◌, ap, subst, sym}
use Rattle.std.specs.Prelude.{false}
use Rattle.sml_objects.specs.Views.{type_of, maker_of}
use Rattle.sml_graph.specs.Asked.{asked_of, asks, Demand, Adds, CanMeet, IsFirstUnmet}
use Rattle.sml_graph.specs.CodeWhole.{IsKept}
use Rattle.sml_demands.proofs.Levelling.{levels-grown}
use Rattle.sml_solve.proofs.solver.Solver.require.Goals as goal

pub returns-in-Ok : goal.returns-in-Ok
returns-in-Ok c =
    let u = maker_of c.self.inside.unit in
    let us = c.self.inside.unknowns.items in
    let g = c.self.inside.graph in
    let h = c.impose.new.graph in
    let d : Demand = asks c.args.ask (type_of c.args.ty.now) in
    let view : asked_of u us g false ≡ c.args.self.now = ap (asked_of u us g) (sym c.if-self.false) ∙ c.self.view_is in
    record {
      ok = subst (λ s. Adds s d (asked_of u us h false)) view (subst (λ us. Adds (asked_of u us g false) d (asked_of u us h false)) c.as_slice-unknowns.ensures.value c.in-Ok.ensures.ok);
      met = λ l. subst (λ s. CanMeet l s d) view (subst (λ us. CanMeet l (asked_of u us g false) d) c.as_slice-unknowns.ensures.value (c.in-Ok.ensures.met l));
      unmet = search rules;
      labels = search rules;
      count = search rules;
      returns = search rules;
    }

pub returns-in-Err : goal.returns-in-Err
returns-in-Err c =
    let u = maker_of c.self.inside.unit in
    let us = c.self.inside.unknowns.items in
    let g = c.self.inside.graph in
    let d : Demand = asks c.args.ask (type_of c.args.ty.now) in
    let view : asked_of u us g false ≡ c.args.self.now = ap (asked_of u us g) (sym c.if-self.false) ∙ c.self.view_is in
    record {
      ok = tt;
      met = tt;
      unmet = λ l e. subst (λ s. IsFirstUnmet l s d) view (subst (λ us. IsFirstUnmet l (asked_of u us g false) d) c.as_slice-unknowns.ensures.value (c.in-Err.ensures.unmet l e));
      labels = search rules;
      count = search rules;
      returns = search rules;
    }

pub invariant_of-self : goal.invariant_of-self
invariant_of-self c _ =
    let u = maker_of c.self.inside.unit in
    let us = c.self.inside.unknowns.items in
    let g = c.self.inside.graph in
    let h = c.impose.new.graph in
    let a = c.self.invariant c.if-self.false in
    record {
      kept = subst (IsKept u h) c.as_slice-unknowns.ensures.value c.in-Ok.ensures.kept;
      levels = levels-grown g.nodes.items h.nodes.items us c.self.inside.left.items c.self.inside.levels.items a.kept.owners.few a.levels c.in-Ok.ensures.moves;
    }
