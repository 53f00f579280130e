use Rattle.std.proofs.Common.{false, ◌≡◌, ◌<◌, [], map, ap, sym, subst, ◌∙◌, arith, refl}
use Rattle.std.specs.Bool.{OnTrue}
use Rattle.sml_objects.proofs.FatesOfVariables.{closed-size}
use Rattle.sml_objects.specs.Initial.{Name}
use Rattle.sml_objects.specs.Objects as O
use Rattle.sml_objects.specs.Sizes.{type_size}
use Rattle.sml_objects.specs.Types.{variables_after}
use Rattle.sml_objects.specs.Views.{type_of, maker_of}
use Rattle.sml_objects.specs.declared.objects.MlType.{MlType}
use Rattle.sml_graph.specs.Asked.{Asked}
use Rattle.sml_graph.specs.CodeWhole.{IsKept}
use Rattle.sml_graph.specs.Graphs.{IsLoose}
use Rattle.sml_schemes.specs.Left.{IsLeft, IsMadeOf, IsReading}
use Rattle.sml_solve.proofs.Loose.{loose-left-all, kept-same}
use Rattle.sml_solve.proofs.solver.Solver.generalise.Goals as goal

pub close_reading-requires-clause-left : goal.close_reading-requires-clause-left
close_reading-requires-clause-left c =
    let u = maker_of c.self.inside.unit in
    let us = c.self.inside.unknowns.items in
    let g = c.self.inside.graph in
    let b = c.self.inside.spent in
    let t = type_of c.args.ty.now in
    let k : IsKept u g us = (c.self.invariant c.if-self.false).kept in
    let loose : IsMadeOf (IsLoose c.as_slice-nodes.result.now c.as_slice.result.now) t =
    subst (λ x. OnTrue x (IsMadeOf (IsLoose c.as_slice-nodes.result.now c.as_slice.result.now) t)) c.if-is_read.true c.in-Ok.ensures in
    let made : IsMadeOf (IsLoose g.nodes.items us) t = rw (c.as_slice-nodes.ensures.value, c.as_slice.ensures.value) at loose in
    subst (λ s. IsMadeOf (IsLeft s) t) c.self.view_is (loose-left-all u us g b t k made)

pub returns-then-size_up_to-limit-clause-scheme : goal.returns-then-size_up_to-limit-clause-scheme
unfolding IsReading
returns-then-size_up_to-limit-clause-scheme c =
    let u = maker_of c.self.inside.unit in
    let us = c.self.inside.unknowns.items in
    let g = c.self.inside.graph in
    let b = c.self.inside.spent in
    let t = type_of c.args.ty.now in
    let k : IsKept u g us = (c.self.invariant c.if-self.false).kept in
    let loose : IsMadeOf (IsLoose c.as_slice-nodes.result.now c.as_slice.result.now) t =
    subst (λ x. OnTrue x (IsMadeOf (IsLoose c.as_slice-nodes.result.now c.as_slice.result.now) t)) c.if-is_read.true c.in-Ok.ensures in
    let made : IsMadeOf (IsLoose g.nodes.items us) t = rw (c.as_slice-nodes.ensures.value, c.as_slice.ensures.value) at loose in
    let left : IsMadeOf (IsLeft c.args.self.now) t = subst (λ s. IsMadeOf (IsLeft s) t) c.self.view_is (loose-left-all u us g b t k made) in
    let same : c.close_reading.new.solver ≡ c.args.self.now = c.in-Ok-close_reading.ensures.same in
    record {
      reading = t;
      reads = (subst (λ s. IsMadeOf (IsLeft s) t) (sym same) left, λ σ p. refl);
      closed = c.in-Ok-close_reading.ensures.scheme;
    }

pub returns-then-size_up_to-limit-clause-call : goal.returns-then-size_up_to-limit-clause-call
returns-then-size_up_to-limit-clause-call c =
    let unspent : c.args.self.now.spent ≡ false = ap (λ (s : Asked). s.spent) (sym c.self.view_is) ∙ c.if-self.false in
    kept-same c.args.self.now c.close_reading.new.solver _ unspent c.in-Ok-close_reading.ensures.same

pub close_reading-requires-in-Ok-Some-clause-left : goal.close_reading-requires-in-Ok-Some-clause-left
unfolding IsReading
close_reading-requires-in-Ok-Some-clause-left c =
    let s = c.reading.new.self in
    let r : IsReading s (type_of c.args.ty.now) (type_of c.in-Ok-Some.reading.value) = rw c.in-Ok-Some.field-0-is at c.in-Ok-Some.ensures.ty in
    subst (λ (t : MlType). IsMadeOf (IsLeft s) (type_of t)) (sym c.deref.ensures) r.0

pub returns-in-Ok-None-clause-none : goal.returns-in-Ok-None-clause-none
returns-in-Ok-None-clause-none c θ x =
    let s = c.reading.new.self in
    let f : (r : O.MlType Name) → IsReading s (type_of c.args.ty.now) r → c.args.limit < type_size r = rw c.in-Ok-None.field-0-is at c.in-Ok-None.ensures.none in
    let l = f x.reading x.reads in
    let e : type_size θ.body ≡ type_size x.reading = ap (λ (η : O.Scheme Name). type_size η.body) x.closed.scheme ∙ closed-size (map x.closed.fate (variables_after [] x.reading)) x.reading in
    omega (arith, l, e)
