use Rattle.std.proofs.Common.{◌≡◌, length, ap, sym, ◌∙◌, subst, arith}
use Rattle.std.specs.Prelude.{false}
use Rattle.sml_objects.specs.Views.{type_of, scheme_of, maker_of}
use Rattle.sml_graph.specs.Asked.{Asked, asked_of, count}
use Rattle.sml_graph.specs.Interned.{IsOver}
use Rattle.sml_schemes.specs.Left.{IsLeft}
use Rattle.sml_schemes.specs.Schemes.{IsSchemeOfReading, fate_at}
use Rattle.sml_graph.specs.CodeWhole.{IsKept}
use Rattle.sml_demands.proofs.Fated.{fate-is}
use Rattle.sml_demands.proofs.Owning.{made-over}
use Rattle.sml_solve.proofs.solver.close_reading.Goals as goal

pub closed-requires-clause-known : goal.closed-requires-clause-known
closed-requires-clause-known c =
    let s = c.args.solver.now in
    let t = type_of c.args.ty.now in
    let n : count s ≡ length c.as_slice-unknowns.result.now = sym (ap count c.solver.view_is) ∙ ap length (sym c.as_slice-unknowns.ensures.value) in
    subst (λ n. IsOver n t) n (made-over (IsLeft s) (count s) t (λ v l. l.known) c.requires.left)

pub returns-in-Ok-clause-scheme : goal.returns-in-Ok-clause-scheme
returns-in-Ok-clause-scheme c =
    let u = maker_of c.solver.inside.unit in
    let us = c.solver.inside.unknowns.items in
    let g = c.solver.inside.graph in
    let b = c.solver.inside.spent in
    let bs = c.args.fixed.now in
    let x = c.args.expansive in
    let spent : b ≡ false = ap (λ (s : Asked). s.spent) c.solver.view_is ∙ c.requires.kept in
    let k : IsKept u g us = (c.solver.invariant spent).kept in
    let r : IsSchemeOfReading (asked_of u us g b) bs x (type_of c.args.ty.now) (scheme_of c.in-Ok.scheme) = record {
      fate = fate_at g.nodes.items g.limits us bs x;
      fates = fate-is u us g b k (λ e. omega (arith, e)) bs x;
      scheme = rw (c.as_slice-nodes.ensures.value, c.as_slice-unknowns.ensures.value) at c.in-Ok.ensures.scheme;
    } in
    subst (λ s. IsSchemeOfReading s bs x (type_of c.args.ty.now) (scheme_of c.in-Ok.scheme)) c.solver.view_is r
