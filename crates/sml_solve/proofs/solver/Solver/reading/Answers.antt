use Rattle.std.proofs.Common.{rules, ◌≡◌, ◌+◌, ◌∙◌, length, ap, subst, sym, refl, arith}
use Rattle.std.proofs.Math.Nat.{min-le_left}
use Rattle.std.proofs.lemmas.Bool.{true≢false}
use Rattle.sml_objects.specs.Sizes.{type_size}
use Rattle.std.specs.Prelude.{false}
use Rattle.sml_objects.specs.Views.{type_of, maker_of}
use Rattle.sml_layers.specs.Worlds.{finite}
use Rattle.sml_graph.specs.Interned.{IsOver, Interns}
use Rattle.sml_graph.specs.Asked.{Asked, asked_of, IsOf, PermitsSame}
use Rattle.sml_graph.specs.CodeWhole.{IsKept, IsWhole}
use Rattle.sml_demands.proofs.Levelling.{grown-moves, levels-grown}
use Rattle.sml_demands.proofs.Demanding.{Grows, permits-grown, permits-refl, kept-grown}
use Rattle.sml_schemes.specs.Left.{IsReading}
use Rattle.sml_demands.proofs.Marking.{least-size, least-reading, unread-larger}
use Rattle.sml_demands.proofs.Owning.{readings-are, larges-are}
use Rattle.sml_solve.proofs.solver.Solver.reading.Goals as goal

pub returns-then-limit-size_up_to-clause-none : goal.returns-then-limit-size_up_to-clause-none
returns-then-limit-size_up_to-clause-none c r x =
    let u = maker_of c.self.inside.unit in
    let us = c.self.inside.unknowns.items in
    let g = c.self.inside.graph in
    let t = type_of c.args.ty.now in
    let k : IsKept u g us = (c.self.invariant c.if-self.false).kept in
    let a = least-reading u us g c.self.inside.spent t r k.whole.sound k.whole.rank k.owners (subst (λ s. IsReading s t r) (sym c.self.view_is) x) in
    omega (arith, a, c.size_up_to.ensures, min-le_left (type_size (type_of c.args.ty.now)) (c.args.limit + 1), c.if-limit-size_up_to.true)

pub returns-then-limit-size_up_to-clause-large : goal.returns-then-limit-size_up_to-clause-large
returns-then-limit-size_up_to-clause-large c σ p =
    let a = least-size σ (type_of c.args.ty.now) in
    omega (arith, a, c.size_up_to.ensures, min-le_left (type_size (type_of c.args.ty.now)) (c.args.limit + 1), c.if-limit-size_up_to.true)

pub returns-then-limit-size_up_to-clause-call : goal.returns-then-limit-size_up_to-clause-call
returns-then-limit-size_up_to-clause-call c =
    let new : c.args.self.now.spent ≡ false = ap (λ (s : Asked). s.spent) (sym c.self.view_is) ∙ c.if-self.false in
    record { same = permits-refl c.args.self.now; count = refl; returns = record { unit = refl; kept = new; err = tt; spent = (λ e. cc, λ e. absurd (true≢false (sym e ∙ new))) } }

pub type_up_to-requires-clause-rank : goal.type_up_to-requires-clause-rank
type_up_to-requires-clause-rank c =
    let u = maker_of c.self.inside.unit in
    let us = c.self.inside.unknowns.items in
    let g = c.self.inside.graph in
    let h = c.add.new.graph in
    let t = type_of c.args.ty.now in
    let k : IsKept u g us = (c.self.invariant c.if-self.false).kept in
    let i : Interns g.nodes.items us t h.nodes.items c.in-Ok.at = subst (λ us. Interns g.nodes.items us t h.nodes.items c.in-Ok.at) c.as_slice.ensures.value c.in-Ok.ensures.interns in
    let x : Grows us t g h c.in-Ok.at = record { interns = i; limits = c.in-Ok.ensures.limits } in
    let w : IsWhole u h = c.in-Ok.ensures.whole u k.whole in
    let n : IsKept u h us = kept-grown u us t g h c.in-Ok.at k x w in
    rw c.as_slice-nodes.ensures.value w.rank

pub type_up_to-requires-clause-owners : goal.type_up_to-requires-clause-owners
type_up_to-requires-clause-owners c =
    let u = maker_of c.self.inside.unit in
    let us = c.self.inside.unknowns.items in
    let g = c.self.inside.graph in
    let h = c.add.new.graph in
    let t = type_of c.args.ty.now in
    let k : IsKept u g us = (c.self.invariant c.if-self.false).kept in
    let i : Interns g.nodes.items us t h.nodes.items c.in-Ok.at = subst (λ us. Interns g.nodes.items us t h.nodes.items c.in-Ok.at) c.as_slice.ensures.value c.in-Ok.ensures.interns in
    let x : Grows us t g h c.in-Ok.at = record { interns = i; limits = c.in-Ok.ensures.limits } in
    let w : IsWhole u h = c.in-Ok.ensures.whole u k.whole in
    let n : IsKept u h us = kept-grown u us t g h c.in-Ok.at k x w in
    rw (c.as_slice-nodes.ensures.value, c.as_slice-2.ensures.value) n.owners

pub invariant_of-self-2 : goal.invariant_of-self-2
invariant_of-self-2 c _ =
    let u = maker_of c.self.inside.unit in
    let us = c.self.inside.unknowns.items in
    let g = c.self.inside.graph in
    let h = c.add.new.graph in
    let t = type_of c.args.ty.now in
    let k : IsKept u g us = (c.self.invariant c.if-self.false).kept in
    let i : Interns g.nodes.items us t h.nodes.items c.in-Ok.at = subst (λ us. Interns g.nodes.items us t h.nodes.items c.in-Ok.at) c.as_slice.ensures.value c.in-Ok.ensures.interns in
    let x : Grows us t g h c.in-Ok.at = record { interns = i; limits = c.in-Ok.ensures.limits } in
    let w : IsWhole u h = c.in-Ok.ensures.whole u k.whole in
    let n : IsKept u h us = kept-grown u us t g h c.in-Ok.at k x w in
    let a = c.self.invariant c.if-self.false in
    let m = grown-moves g.nodes.items us t h.nodes.items c.in-Ok.at i in
    record { kept = n; levels = levels-grown g.nodes.items h.nodes.items us c.self.inside.left.items c.self.inside.levels.items k.owners.few a.levels m }

pub returns-clause-ty : goal.returns-clause-ty
returns-clause-ty c =
    let u = maker_of c.self.inside.unit in
    let us = c.self.inside.unknowns.items in
    let g = c.self.inside.graph in
    let h = c.add.new.graph in
    let t = type_of c.args.ty.now in
    let k : IsKept u g us = (c.self.invariant c.if-self.false).kept in
    let i : Interns g.nodes.items us t h.nodes.items c.in-Ok.at = subst (λ us. Interns g.nodes.items us t h.nodes.items c.in-Ok.at) c.as_slice.ensures.value c.in-Ok.ensures.interns in
    let x : Grows us t g h c.in-Ok.at = record { interns = i; limits = c.in-Ok.ensures.limits } in
    let w : IsWhole u h = c.in-Ok.ensures.whole u k.whole in
    let n : IsKept u h us = kept-grown u us t g h c.in-Ok.at k x w in
    let o : IsOver (length us) t = subst (λ s. IsOf s t) (sym c.self.view_is) c.requires.known in
    readings-are u us h false t c.in-Ok.at c.args.limit c.in-Ok-type_up_to.found w.sound w.rank n.owners o (λ τ m. (i.back finite τ m).1)
    (rw (c.as_slice-nodes.ensures.value, c.as_slice-2.ensures.value) at c.in-Ok-type_up_to.ensures.ty)

pub returns-clause-large : goal.returns-clause-large
returns-clause-large c =
    let u = maker_of c.self.inside.unit in
    let us = c.self.inside.unknowns.items in
    let g = c.self.inside.graph in
    let h = c.add.new.graph in
    let t = type_of c.args.ty.now in
    let k : IsKept u g us = (c.self.invariant c.if-self.false).kept in
    let i : Interns g.nodes.items us t h.nodes.items c.in-Ok.at = subst (λ us. Interns g.nodes.items us t h.nodes.items c.in-Ok.at) c.as_slice.ensures.value c.in-Ok.ensures.interns in
    let x : Grows us t g h c.in-Ok.at = record { interns = i; limits = c.in-Ok.ensures.limits } in
    let w : IsWhole u h = c.in-Ok.ensures.whole u k.whole in
    let n : IsKept u h us = kept-grown u us t g h c.in-Ok.at k x w in
    let o : IsOver (length us) t = subst (λ s. IsOf s t) (sym c.self.view_is) c.requires.known in
    larges-are u us h false t c.in-Ok.at c.args.limit c.in-Ok-type_up_to.found o (λ τ m. (i.back finite τ m).1)
    (rw c.as_slice-nodes.ensures.value at c.in-Ok-type_up_to.ensures.large)

pub returns-clause-none : goal.returns-clause-none
returns-clause-none c =
    let u = maker_of c.self.inside.unit in
    let us = c.self.inside.unknowns.items in
    let g = c.self.inside.graph in
    let h = c.add.new.graph in
    let t = type_of c.args.ty.now in
    let k : IsKept u g us = (c.self.invariant c.if-self.false).kept in
    let i : Interns g.nodes.items us t h.nodes.items c.in-Ok.at = subst (λ us. Interns g.nodes.items us t h.nodes.items c.in-Ok.at) c.as_slice.ensures.value c.in-Ok.ensures.interns in
    let x : Grows us t g h c.in-Ok.at = record { interns = i; limits = c.in-Ok.ensures.limits } in
    let w : IsWhole u h = c.in-Ok.ensures.whole u k.whole in
    let n : IsKept u h us = kept-grown u us t g h c.in-Ok.at k x w in
    unread-larger u us h false t c.in-Ok.at c.args.limit c.in-Ok-type_up_to.found w.sound w.rank n.owners (λ τ m. (i.back finite τ m).1)
    (rw (c.as_slice-nodes.ensures.value, c.as_slice-2.ensures.value) at c.in-Ok-type_up_to.ensures.none)

pub returns-clause-call : goal.returns-clause-call
returns-clause-call c =
    let u = maker_of c.self.inside.unit in
    let us = c.self.inside.unknowns.items in
    let g = c.self.inside.graph in
    let h = c.add.new.graph in
    let t = type_of c.args.ty.now in
    let k : IsKept u g us = (c.self.invariant c.if-self.false).kept in
    let i : Interns g.nodes.items us t h.nodes.items c.in-Ok.at = subst (λ us. Interns g.nodes.items us t h.nodes.items c.in-Ok.at) c.as_slice.ensures.value c.in-Ok.ensures.interns in
    let x : Grows us t g h c.in-Ok.at = record { interns = i; limits = c.in-Ok.ensures.limits } in
    let w : IsWhole u h = c.in-Ok.ensures.whole u k.whole in
    let n : IsKept u h us = kept-grown u us t g h c.in-Ok.at k x w in
    record {
      same = subst (λ s. PermitsSame s (asked_of u us h false)) c.self.view_is (permits-grown u us c.self.inside.spent false t g h c.in-Ok.at k x);
      count = search rules;
      returns = search rules;
    }
