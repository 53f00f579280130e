use Rattle.std.proofs.Common.{◌≡◌, ◌<◌, ℕ, false, slice_index_or, arith, sym, subst, ◌∙◌}
use Rattle.sml_objects.specs.Views.{type_of}
use Rattle.sml_graph.specs.Asked.{count}
use Rattle.sml_asks.proofs.Schemes.{scheme-after}
use Rattle.sml_asks.proofs.asks.ask_scheme.Goals as goal

pub returns-then-fixed-count-clause-ok : goal.returns-then-fixed-count-clause-ok
returns-then-fixed-count-clause-ok c =
    scheme-after c.args.solver.now c.know.new.solver c.generalise.new.self (type_of c.args.ty.now) c.args.fixed.now c.args.fixed.now c.args.expansive c.args.limit c.min-limit.result
    c.know.result c.generalise.result c.know.ensures.same (λ h. omega (arith, c.min-limit.ensures, h)) (λ v k. (λ m. m, λ m. m))
    c.generalise.ensures.scheme c.generalise.ensures.known c.generalise.ensures.within c.generalise.ensures.none c.generalise.ensures.large c.generalise.ensures.call

pub returns-in-Ok-clause-ok : goal.returns-in-Ok-clause-ok
returns-in-Ok-clause-ok c =
    let same : (v : ℕ) → v < count c.know.new.solver → slice_index_or c.deref.result.now v false ≡ slice_index_or c.args.fixed.now v false =
    λ v k. subst (λ all. slice_index_or all v false ≡ slice_index_or c.args.fixed.now v false) (sym c.deref.ensures.value)
    (c.in-Ok.ensures.same v (subst (λ n. v < n) (sym c.unknowns-count.ensures) k)) in
    scheme-after c.args.solver.now c.know.new.solver c.generalise-in-Ok.new.self (type_of c.args.ty.now) c.args.fixed.now c.deref.result.now c.args.expansive c.args.limit c.min-limit.result
    c.know.result c.generalise-in-Ok.result c.know.ensures.same (λ h. omega (arith, c.min-limit.ensures, h))
    (λ v k. (λ m. sym (same v k) ∙ m, λ m. same v k ∙ m))
    c.generalise-in-Ok.ensures.scheme c.generalise-in-Ok.ensures.known c.generalise-in-Ok.ensures.within c.generalise-in-Ok.ensures.none c.generalise-in-Ok.ensures.large c.generalise-in-Ok.ensures.call
