use Rattle.std.proofs.Common.{◌≡◌, ◌<◌, ◌∙◌, length, get_or, sym, subst, arith}
use Rattle.std.proofs.lemmas.List.{get_or_default}
use Rattle.std.specs.Bool.{OnTrue, OnFalse}
use Rattle.sml_objects.specs.Views.{maker_of}
use Rattle.sml_layers.specs.declared.layer.Layer.{Layer}
use Rattle.sml_graph.specs.Asked.{asked_of, count, CanMeet}
use Rattle.sml_demands.specs.Overloaded.{IsOverloaded}
use Rattle.sml_graph.specs.CodeWhole.{IsKept}
use Rattle.sml_graph.proofs.Wholeness.{on_true}
use Rattle.sml_demands.proofs.Overloading.{overloaded-if, overloaded-only-if}
use Rattle.sml_solve.proofs.Defaulting.{to_int, can-be-int}
use Rattle.sml_solve.proofs.solver.Solver.is_overloaded.Goals as goal

pub returns-clause-yes : goal.returns-clause-yes
returns-clause-yes c =
    let u = maker_of c.self.inside.unit in
    let us = c.self.inside.unknowns.items in
    let g = c.self.inside.graph in
    let v = c.args.unknown in
    let k : IsKept u g us = (c.self.invariant c.if-self.false).kept in
    let h : v < length us = subst (λ s. v < count s) (sym c.self.view_is) c.requires in
    let at : c.index-at.result.now ≡ get_or us v 0 = c.index-at.ensures ∙ sym (get_or_default us v 0 _ h) in
    let f = rw (c.as_slice-nodes.ensures.value, at) at c.has_several_names.ensures in
    subst (λ s. OnTrue c.has_several_names.result (IsOverloaded s v)) c.self.view_is (overloaded-if u us g c.self.inside.spent k (λ e. omega (arith, e)) v h f.0 f.1 c.has_several_names.result f.3)

pub returns-clause-no : goal.returns-clause-no
returns-clause-no c =
    let u = maker_of c.self.inside.unit in
    let us = c.self.inside.unknowns.items in
    let g = c.self.inside.graph in
    let v = c.args.unknown in
    let k : IsKept u g us = (c.self.invariant c.if-self.false).kept in
    let h : v < length us = subst (λ s. v < count s) (sym c.self.view_is) c.requires in
    let at : c.index-at.result.now ≡ get_or us v 0 = c.index-at.ensures ∙ sym (get_or_default us v 0 _ h) in
    let f = rw (c.as_slice-nodes.ensures.value, at) at c.has_several_names.ensures in
    subst (λ s. OnFalse c.has_several_names.result (IsOverloaded s v → ⊥)) c.self.view_is (overloaded-only-if u us g c.self.inside.spent k (λ e. omega (arith, e)) v h f.0 f.1 c.has_several_names.result f.2 f.3)

pub returns-clause-int : goal.returns-clause-int
returns-clause-int c =
    let u = maker_of c.self.inside.unit in
    let us = c.self.inside.unknowns.items in
    let g = c.self.inside.graph in
    let v = c.args.unknown in
    let k : IsKept u g us = (c.self.invariant c.if-self.false).kept in
    let h : v < length us = subst (λ s. v < count s) (sym c.self.view_is) c.requires in
    let at : c.index-at.result.now ≡ get_or us v 0 = c.index-at.ensures ∙ sym (get_or_default us v 0 _ h) in
    let f = rw (c.as_slice-nodes.ensures.value, at) at c.has_several_names.ensures in
    let d : 0 ≡ u → ⊥ = λ e. omega (arith, e) in
    on_true c.has_several_names.result (IsOverloaded (asked_of u us g c.self.inside.spent) v) ((l : Layer) → CanMeet l c.args.self.now (to_int v)) (overloaded-if u us g c.self.inside.spent k d v h f.0 f.1 c.has_several_names.result f.3) (λ o l.
    subst (λ s. CanMeet l s (to_int v)) c.self.view_is (can-be-int u us g c.self.inside.spent k d v h o l))
