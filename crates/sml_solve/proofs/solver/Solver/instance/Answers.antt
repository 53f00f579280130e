use Rattle.std.proofs.Common.{◌≡◌, ◌+◌, length, ap, sym, ◌∙◌, arith}
use Rattle.sml_objects.specs.Types.{instance_from}
use Rattle.sml_objects.specs.Views.{type_of, scheme_of}
use Rattle.sml_graph.specs.Asked.{count}
use Rattle.sml_graph.proofs.Interning.{instance-over}
use Rattle.sml_solve.proofs.solver.Solver.instance.Goals as goal

pub returns-in-Ok-add_unknowns-clause-known : goal.returns-in-Ok-add_unknowns-clause-known
returns-in-Ok-add_unknowns-clause-known c =
    let s = c.args.self.now in
    let σ = scheme_of c.args.scheme.now in
    let v : count s ≡ length c.self.inside.unknowns.items = ap count (sym c.self.view_is) in
    let f : c.in-Ok.from ≡ count s = omega (arith, v, c.in-Ok.ensures) in
    let t : type_of c.in-Ok-instantiate.ty.value ≡ instance_from (count s) σ.body = c.in-Ok-instantiate.ensures ∙ ap (λ k. instance_from k σ.body) f in
    let n : count c.add_unknowns.new.solver ≡ count s + length σ.variables = omega (arith, v, c.in-Ok-add_unknowns.ensures.count, c.len-2.ensures) in
    rw (t, n) (instance-over (length σ.variables) (count s) σ.body c.requires)
