use Rattle.std.proofs.Common.{rules, ◌≡◌, ◌∙◌, length, subst, sym, refl, arith}
use Rattle.std.specs.Prelude.{true, false}
use Rattle.sml_objects.specs.Views.{type_of, maker_of}
use Rattle.sml_layers.specs.declared.layer.Layer.TheVariants.{Finiteness, Rigidity}
use Rattle.sml_layers.specs.Worlds.{finite}
use Rattle.sml_graph.specs.Graphs.{node_at}
use Rattle.sml_graph.specs.Interned.{IsOver, Interns}
use Rattle.sml_graph.specs.Asked.{asked_of, IsOf, PermitsSame}
use Rattle.sml_demands.specs.CodeSettled.{has_labels}
use Rattle.sml_graph.specs.CodeWhole.{IsKept, IsWhole}
use Rattle.sml_demands.proofs.Levelling.{grown-moves, levels-grown}
use Rattle.sml_demands.proofs.Demanding.{Grows, permits-grown, kept-grown}
use Rattle.sml_demands.proofs.Labelling.{labels-same, labels-as, one-set, several}
use Rattle.sml_solve.proofs.solver.Solver.require_labels.Goals as goal

pub returns-then-not-has_labels-clause-several : goal.returns-then-not-has_labels-clause-several
returns-then-not-has_labels-clause-several c _ l =
    let u = maker_of c.self.inside.unit in
    let us = c.self.inside.unknowns.items in
    let g = c.self.inside.graph in
    let h = c.add.new.graph in
    let t = type_of c.args.ty.now in
    let at = c.in-Ok.at in
    let k : IsKept u g us = (c.self.invariant c.if-self.false).kept in
    let i : Interns g.nodes.items us t h.nodes.items at = subst (λ us. Interns g.nodes.items us t h.nodes.items at) c.as_slice.ensures.value c.in-Ok.ensures.interns in
    let x : Grows us t g h at = record { interns = i; limits = c.in-Ok.ensures.limits } in
    let n : IsKept u h us = kept-grown u us t g h at k x (c.in-Ok.ensures.whole u k.whole) in
    let o : IsOver (length us) t = subst (λ s. IsOf s t) (sym c.self.view_is) c.requires in
    let p : PermitsSame c.args.self.now (asked_of u us h false) = subst (λ s. PermitsSame s (asked_of u us h false)) c.self.view_is (permits-grown u us c.self.inside.spent false t g h at k x) in
    let f = rw c.as_slice-2.ensures.value at c.has_labels.ensures in
    let e : has_labels (node_at h.nodes.items f.0) ≡ false = sym f.4 ∙ c.if-not-has_labels.true in
    several u us h false n (λ e. omega (arith, e)) t o at (λ τ m. (i.back finite τ m).1) f.0 f.1 f.2 f.3 e (labels-as Rigidity c.args.self.now (asked_of u us h false) t p l)

pub invariant_of-self-2 : goal.invariant_of-self-2
invariant_of-self-2 c _ =
    let u = maker_of c.self.inside.unit in
    let us = c.self.inside.unknowns.items in
    let g = c.self.inside.graph in
    let h = c.add.new.graph in
    let t = type_of c.args.ty.now in
    let at = c.in-Ok.at in
    let a = c.self.invariant c.if-self.false in
    let k : IsKept u g us = a.kept in
    let i : Interns g.nodes.items us t h.nodes.items at = subst (λ us. Interns g.nodes.items us t h.nodes.items at) c.as_slice.ensures.value c.in-Ok.ensures.interns in
    let x : Grows us t g h at = record { interns = i; limits = c.in-Ok.ensures.limits } in
    let w : IsWhole u h = c.in-Ok.ensures.whole u k.whole in
    record { kept = kept-grown u us t g h at k x w; levels = levels-grown g.nodes.items h.nodes.items us c.self.inside.left.items c.self.inside.levels.items k.owners.few a.levels (grown-moves g.nodes.items us t h.nodes.items at i) }

pub returns-clause-one : goal.returns-clause-one
returns-clause-one c =
    let u = maker_of c.self.inside.unit in
    let us = c.self.inside.unknowns.items in
    let g = c.self.inside.graph in
    let h = c.add.new.graph in
    let t = type_of c.args.ty.now in
    let at = c.in-Ok.at in
    let k : IsKept u g us = (c.self.invariant c.if-self.false).kept in
    let i : Interns g.nodes.items us t h.nodes.items at = subst (λ us. Interns g.nodes.items us t h.nodes.items at) c.as_slice.ensures.value c.in-Ok.ensures.interns in
    let x : Grows us t g h at = record { interns = i; limits = c.in-Ok.ensures.limits } in
    let n : IsKept u h us = kept-grown u us t g h at k x (c.in-Ok.ensures.whole u k.whole) in
    let o : IsOver (length us) t = subst (λ s. IsOf s t) (sym c.self.view_is) c.requires in
    let p : PermitsSame c.args.self.now (asked_of u us h false) = subst (λ s. PermitsSame s (asked_of u us h false)) c.self.view_is (permits-grown u us c.self.inside.spent false t g h at k x) in
    let f = rw c.as_slice-2.ensures.value at c.has_labels.ensures in
    let e : has_labels (node_at h.nodes.items f.0) ≡ true = sym f.4 ∙ c.if-not-has_labels.false in
    labels-same Finiteness c.args.self.now (asked_of u us h false) t p (one-set u us h false n (λ e. omega (arith, e)) t o at (λ τ m. (i.back finite τ m).1) f.0 f.1 (node_at h.nodes.items f.0) refl e)

pub returns-clause-call : goal.returns-clause-call
returns-clause-call c =
    let u = maker_of c.self.inside.unit in
    let us = c.self.inside.unknowns.items in
    let g = c.self.inside.graph in
    let h = c.add.new.graph in
    let t = type_of c.args.ty.now in
    let at = c.in-Ok.at in
    let k : IsKept u g us = (c.self.invariant c.if-self.false).kept in
    let i : Interns g.nodes.items us t h.nodes.items at = subst (λ us. Interns g.nodes.items us t h.nodes.items at) c.as_slice.ensures.value c.in-Ok.ensures.interns in
    let x : Grows us t g h at = record { interns = i; limits = c.in-Ok.ensures.limits } in
    record {
      same = subst (λ s. PermitsSame s (asked_of u us h false)) c.self.view_is (permits-grown u us c.self.inside.spent false t g h at k x);
      count = search rules;
      returns = search rules;
    }
