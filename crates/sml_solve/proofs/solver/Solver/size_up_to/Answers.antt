use Rattle.std.proofs.Common.{rules, length, subst, sym}
use Rattle.std.specs.Prelude.{false}
use Rattle.sml_objects.specs.Views.{type_of, maker_of}
use Rattle.sml_graph.specs.Interned.{IsOver, Interns}
use Rattle.sml_graph.specs.Asked.{asked_of, IsOf, PermitsSame}
use Rattle.sml_demands.specs.Counted.{IsCounted, IsSizeUpTo}
use Rattle.sml_graph.specs.CodeWhole.{IsKept, IsWhole}
use Rattle.sml_demands.proofs.Levelling.{grown-moves, levels-grown}
use Rattle.sml_demands.proofs.Demanding.{Grows, permits-grown, kept-grown}
use Rattle.sml_demands.proofs.Counting.{counted-size}
use Rattle.sml_solve.proofs.solver.Solver.size_up_to.Goals as goal

pub size_from-requires-clause-rank : goal.size_from-requires-clause-rank
size_from-requires-clause-rank c =
    let u = maker_of c.self.inside.unit in
    let us = c.self.inside.unknowns.items in
    let g = c.self.inside.graph in
    let h = c.add.new.graph in
    let t = type_of c.args.ty.now in
    let k : IsKept u g us = (c.self.invariant c.if-self.false).kept in
    let i : Interns g.nodes.items us t h.nodes.items c.in-Ok.at = subst (λ us. Interns g.nodes.items us t h.nodes.items c.in-Ok.at) c.as_slice.ensures.value c.in-Ok.ensures.interns in
    let x : Grows us t g h c.in-Ok.at = record { interns = i; limits = c.in-Ok.ensures.limits } in
    let w : IsWhole u h = c.in-Ok.ensures.whole u k.whole in
    rw c.as_slice-2.ensures.value w.rank

pub invariant_of-self-2 : goal.invariant_of-self-2
invariant_of-self-2 c _ =
    let u = maker_of c.self.inside.unit in
    let us = c.self.inside.unknowns.items in
    let g = c.self.inside.graph in
    let h = c.add.new.graph in
    let t = type_of c.args.ty.now in
    let k : IsKept u g us = (c.self.invariant c.if-self.false).kept in
    let i : Interns g.nodes.items us t h.nodes.items c.in-Ok.at = subst (λ us. Interns g.nodes.items us t h.nodes.items c.in-Ok.at) c.as_slice.ensures.value c.in-Ok.ensures.interns in
    let x : Grows us t g h c.in-Ok.at = record { interns = i; limits = c.in-Ok.ensures.limits } in
    let w : IsWhole u h = c.in-Ok.ensures.whole u k.whole in
    let a = c.self.invariant c.if-self.false in
    let m = grown-moves g.nodes.items us t h.nodes.items c.in-Ok.at i in
    record { kept = kept-grown u us t g h c.in-Ok.at k x w; levels = levels-grown g.nodes.items h.nodes.items us c.self.inside.left.items c.self.inside.levels.items k.owners.few a.levels m }

pub returns-clause-size : goal.returns-clause-size
returns-clause-size c =
    let u = maker_of c.self.inside.unit in
    let us = c.self.inside.unknowns.items in
    let g = c.self.inside.graph in
    let h = c.add.new.graph in
    let t = type_of c.args.ty.now in
    let k : IsKept u g us = (c.self.invariant c.if-self.false).kept in
    let i : Interns g.nodes.items us t h.nodes.items c.in-Ok.at = subst (λ us. Interns g.nodes.items us t h.nodes.items c.in-Ok.at) c.as_slice.ensures.value c.in-Ok.ensures.interns in
    let x : Grows us t g h c.in-Ok.at = record { interns = i; limits = c.in-Ok.ensures.limits } in
    let w : IsWhole u h = c.in-Ok.ensures.whole u k.whole in
    let o : IsOver (length us) t = subst (λ s. IsOf s t) (sym c.self.view_is) c.requires.known in
    let n : IsCounted h.nodes.items c.in-Ok.at c.args.limit c.in-Ok-size_from.size = subst (λ ns. IsCounted ns c.in-Ok.at c.args.limit c.in-Ok-size_from.size) c.as_slice-2.ensures.value c.in-Ok-size_from.ensures in
    subst (λ s. IsSizeUpTo c.args.limit s t c.in-Ok-size_from.size) c.self.view_is (counted-size u us c.self.inside.spent t g h c.in-Ok.at c.args.limit c.in-Ok-size_from.size k o x n)

pub returns-clause-call : goal.returns-clause-call
returns-clause-call c =
    let u = maker_of c.self.inside.unit in
    let us = c.self.inside.unknowns.items in
    let g = c.self.inside.graph in
    let h = c.add.new.graph in
    let t = type_of c.args.ty.now in
    let k : IsKept u g us = (c.self.invariant c.if-self.false).kept in
    let i : Interns g.nodes.items us t h.nodes.items c.in-Ok.at = subst (λ us. Interns g.nodes.items us t h.nodes.items c.in-Ok.at) c.as_slice.ensures.value c.in-Ok.ensures.interns in
    let x : Grows us t g h c.in-Ok.at = record { interns = i; limits = c.in-Ok.ensures.limits } in
    let w : IsWhole u h = c.in-Ok.ensures.whole u k.whole in
    record {
      same = subst (λ s. PermitsSame s (asked_of u us h false)) c.self.view_is (permits-grown u us c.self.inside.spent false t g h c.in-Ok.at k x);
      count = search rules;
      returns = search rules;
    }
