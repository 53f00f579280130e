use Rattle.std.proofs.Common.{◌≡◌, false, true, sym, subst, ◌∙◌}
use Rattle.sml_objects.specs.Views.{type_of}
use Rattle.sml_graph.specs.Interned.{IsOver}
use Rattle.sml_graph.specs.Asked.{equal, IsOf}
use Rattle.sml_asks.proofs.Stepping.{asks-after, asks-halted, asks-never, twice-same}
use Rattle.sml_asks.proofs.asks.ask_equal.Goals as goal

pub returns-in_err-know : goal.returns-in_err-know
returns-in_err-know c =
    asks-halted c.args.solver.now c.know.new.solver c.know.new.solver (equal (type_of c.args.left.now) (type_of c.args.right.now)) c.know.result c.in_err-know.field-0.0 c.from_residual.result
    (λ k. c.know.ensures.same k.0) c.in_err-know.was

pub returns-in_err-know-2 : goal.returns-in_err-know-2
returns-in_err-know-2 c =
    asks-halted c.args.solver.now c.know-2.new.solver c.know-2.new.solver (equal (type_of c.args.left.now) (type_of c.args.right.now)) c.know-2.result c.in_err-know-2.field-0.0 c.from_residual-in_err-know-2.result
    (twice-same (λ m. IsOf m (type_of c.args.left.now)) (λ m. IsOf m (type_of c.args.right.now)) c.args.solver.now c.know.new.solver c.know-2.new.solver c.know.result c.know-2.result
    c.know.ensures.same c.know-2.ensures.same) c.in_err-know-2.was

pub returns-then-not-is_over : goal.returns-then-not-is_over
returns-then-not-is_over c =
    asks-never c.args.solver.now c.know-2.new.solver (equal (type_of c.args.left.now) (type_of c.args.right.now)) _ (λ k.
    let two = twice-same (λ m. IsOf m (type_of c.args.left.now)) (λ m. IsOf m (type_of c.args.right.now)) c.args.solver.now c.know.new.solver c.know-2.new.solver c.know.result c.know-2.result
    c.know.ensures.same c.know-2.ensures.same k in
    let over = subst (λ n. IsOver n (type_of c.args.left.now)) (sym c.unknowns.ensures) (subst (λ m. IsOf m (type_of c.args.left.now)) (sym two.1) k.0) in
    let e : false ≡ true = sym c.if-not-is_over.true ∙ c.is_over.ensures.1 over in
    cc)

pub returns : goal.returns
returns c =
    asks-after c.args.solver.now c.know-2.new.solver c.require_equal.new.self (equal (type_of c.args.left.now) (type_of c.args.right.now)) c.know-2.result c.require_equal.result
    (twice-same (λ m. IsOf m (type_of c.args.left.now)) (λ m. IsOf m (type_of c.args.right.now)) c.args.solver.now c.know.new.solver c.know-2.new.solver c.know.result c.know-2.result
    c.know.ensures.same c.know-2.ensures.same) c.require_equal.ensures
