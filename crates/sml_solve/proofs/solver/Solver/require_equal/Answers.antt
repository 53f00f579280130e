use Rattle.std.proofs.Common.{rules, ◌≡◌, ◌++◌, ◌∙◌, ap, subst, sym, Err}
use Rattle.std.specs.Prelude.{false}
use Rattle.sml_objects.specs.Views.{type_of, maker_of}
use Rattle.sml_graph.specs.declared.demand.Refusal.TheVariants.{Unmet}
use Rattle.sml_graph.specs.Asked.{asked_of, equal, Demand, Adds, CanMeet, IsFirstUnmet}
use Rattle.sml_graph.specs.CodeWhole.{IsKept}
use Rattle.sml_demands.proofs.Levelling.{levels-moved}
use Rattle.sml_solve.proofs.solver.Solver.require_equal.Goals as goal

pub returns-in_default : goal.returns-in_default
returns-in_default c =
    let u = maker_of c.self.inside.unit in
    let us = c.self.inside.unknowns.items in
    let g = c.self.inside.graph in
    let h = c.equate.new.graph in
    let d : Demand = equal (type_of c.args.left.now) (type_of c.args.right.now) in
    let view : asked_of u us g false ≡ c.args.self.now = ap (asked_of u us g) (sym c.if-self.false) ∙ c.self.view_is in
    record {
      ok = subst (λ s. Adds s d (asked_of u us h false)) view (subst (λ us. Adds (asked_of u us g false) d (asked_of u us h false)) c.as_slice.ensures.value c.in-Ok.ensures.ok);
      met = λ l. subst (λ s. CanMeet l s d) view (subst (λ us. CanMeet l (asked_of u us g false) d) c.as_slice.ensures.value (c.in-Ok.ensures.met l));
      unmet = search rules;
      labels = search rules;
      count = search rules;
      returns = search rules;
    }

pub returns-in-Err : goal.returns-in-Err
returns-in-Err c =
    let u = maker_of c.self.inside.unit in
    let us = c.self.inside.unknowns.items in
    let g = c.self.inside.graph in
    let d : Demand = equal (type_of c.args.left.now) (type_of c.args.right.now) in
    let view : asked_of u us g false ≡ c.args.self.now = ap (asked_of u us g) (sym c.if-self.false) ∙ c.self.view_is in
    record {
      ok = tt;
      met = tt;
      unmet = λ l e. subst (λ s. IsFirstUnmet l s d) view (subst (λ us. IsFirstUnmet l (asked_of u us g false) d) c.as_slice.ensures.value (let r : c.in-Err.refusal ≡ Unmet l = cc in c.in-Err.ensures.unmet l (ap Err r)));
      labels = search rules;
      count = search rules;
      returns = search rules;
    }

pub invariant_of-self-in-Ok : goal.invariant_of-self-in-Ok
invariant_of-self-in-Ok c _ =
    let u = maker_of c.self.inside.unit in
    let us = c.self.inside.unknowns.items in
    let g = c.self.inside.graph in
    let h = c.equate.new.graph in
    let ls = c.self.inside.levels.items in
    let is = c.self.inside.left.items in
    let js = c.in-Ok.changed.items in
    let a = c.self.invariant c.if-self.false in
    record {
      kept = subst (IsKept u h) c.as_slice.ensures.value c.in-Ok.ensures.kept;
      levels = levels-moved g.nodes.items h.nodes.items us is js c.extend_from_slice.new.self.items ls a.kept.owners.few a.levels c.in-Ok.ensures.moves (c.in_default.ensures.items ∙ ap (λ xs. is ++ xs) c.as_slice-in-Ok.ensures.value);
    }
