use Rattle.std.proofs.Common.{◌≡◌, false, true, sym, subst, ◌∙◌, arith, ap}
use Rattle.sml_graph.specs.Asked.{count}
use Rattle.sml_asks.proofs.Closing.{AreBelow, general-after, general-never}
use Rattle.sml_asks.proofs.Stepping.{twice-same}
use Rattle.sml_asks.proofs.asks.ask_general.Goals as goal

pub returns-in_err-know_numbers : goal.returns-in_err-know_numbers
returns-in_err-know_numbers c =
    general-never c.args.solver.now c.know_numbers.new.solver c.args.variables.now c.args.first c.args.others.now c.from_residual.result (λ k.
    let p = (c.know_numbers.ensures.same k.0).0 in let q = c.in_err-know_numbers.was in cc)

pub returns-in_err-know_numbers-2 : goal.returns-in_err-know_numbers-2
returns-in_err-know_numbers-2 c =
    general-never c.args.solver.now c.know_numbers-2.new.solver c.args.variables.now c.args.first c.args.others.now c.from_residual-in_err-know_numbers-2.result (λ k.
    let two = twice-same (λ m. AreBelow (count m) c.args.variables.now) (λ m. AreBelow (count m) c.args.others.now) c.args.solver.now c.know_numbers.new.solver c.know_numbers-2.new.solver
    c.know_numbers.result c.know_numbers-2.result c.know_numbers.ensures.same c.know_numbers-2.ensures.same k in
    let p = two.0 in let q = c.in_err-know_numbers-2.was in cc)

pub returns-then-not-are_unknowns : goal.returns-then-not-are_unknowns
returns-then-not-are_unknowns c =
    general-never c.args.solver.now c.know_numbers-2.new.solver c.args.variables.now c.args.first c.args.others.now _ (λ k.
    let two = twice-same (λ m. AreBelow (count m) c.args.variables.now) (λ m. AreBelow (count m) c.args.others.now) c.args.solver.now c.know_numbers.new.solver c.know_numbers-2.new.solver
    c.know_numbers.result c.know_numbers-2.result c.know_numbers.ensures.same c.know_numbers-2.ensures.same k in
    let below = subst (λ n. AreBelow n c.args.variables.now) (sym (c.unknowns-count.ensures ∙ ap count two.1)) k.0 in
    let e : false ≡ true = sym c.if-not-are_unknowns.true ∙ c.are_unknowns.ensures.1 below in
    cc)

pub require_general-requires-clause-variables : goal.require_general-requires-clause-variables
require_general-requires-clause-variables c =
    subst (λ n. AreBelow n c.args.variables.now) c.unknowns-count.ensures (c.are_unknowns.ensures.0 c.if-not-are_unknowns.false)

pub returns : goal.returns
returns c =
    general-after c.args.solver.now c.know_numbers-2.new.solver c.require_general.new.self c.args.variables.now c.args.first c.min.result c.args.others.now c.know_numbers-2.result c.require_general.result
    (twice-same (λ m. AreBelow (count m) c.args.variables.now) (λ m. AreBelow (count m) c.args.others.now) c.args.solver.now c.know_numbers.new.solver c.know_numbers-2.new.solver
    c.know_numbers.result c.know_numbers-2.result c.know_numbers.ensures.same c.know_numbers-2.ensures.same)
    (λ h. omega (arith, c.min.ensures, c.unknowns-count.ensures, h))
    c.require_general.ensures.general c.require_general.ensures.unmet c.require_general.ensures.labels c.require_general.ensures.call
