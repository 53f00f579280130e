use Rattle.std.proofs.Common.{◌≡◌, false, true, sym, subst, ◌∙◌}
use Rattle.std.specs.List.{AllByRecursion}
use Rattle.sml_objects.specs.Views.{type_of}
use Rattle.sml_graph.specs.Interned.{IsOver, demanded}
use Rattle.sml_graph.specs.Asked.{has_fields, IsOf}
use Rattle.sml_asks.proofs.Stepping.{asks-after, asks-halted, asks-never, twice-same}
use Rattle.sml_asks.proofs.asks.ask_row.Goals as goal

pub returns-in_err-know_fields : goal.returns-in_err-know_fields
returns-in_err-know_fields c =
    asks-halted c.args.solver.now c.know_fields.new.solver c.know_fields.new.solver (has_fields (type_of c.args.ty.now) (demanded c.args.fields.now)) c.know_fields.result
    c.in_err-know_fields.field-0.0 c.from_residual.result (λ k. c.know_fields.ensures k.1) c.in_err-know_fields.was

pub returns-in_err-know : goal.returns-in_err-know
returns-in_err-know c =
    let two = twice-same (λ m. AllByRecursion (λ f. IsOf m f.1) (demanded c.args.fields.now)) (λ m. IsOf m (type_of c.args.ty.now)) c.args.solver.now c.know_fields.new.solver c.know.new.solver
    c.know_fields.result c.know.result c.know_fields.ensures c.know.ensures.same in
    asks-halted c.args.solver.now c.know.new.solver c.know.new.solver (has_fields (type_of c.args.ty.now) (demanded c.args.fields.now)) c.know.result c.in_err-know.field-0.0
    c.from_residual-in_err-know.result (λ k. two (k.1, k.0)) c.in_err-know.was

pub returns-then-not-fields_are_over : goal.returns-then-not-fields_are_over
returns-then-not-fields_are_over c =
    asks-never c.args.solver.now c.know.new.solver (has_fields (type_of c.args.ty.now) (demanded c.args.fields.now)) _ (λ k.
    let two = twice-same (λ m. AllByRecursion (λ f. IsOf m f.1) (demanded c.args.fields.now)) (λ m. IsOf m (type_of c.args.ty.now)) c.args.solver.now c.know_fields.new.solver c.know.new.solver
    c.know_fields.result c.know.result c.know_fields.ensures c.know.ensures.same (k.1, k.0) in
    let over = subst (λ n. AllByRecursion (λ f. IsOver n f.1) (demanded c.args.fields.now)) (sym c.unknowns.ensures)
    (subst (λ m. AllByRecursion (λ f. IsOf m f.1) (demanded c.args.fields.now)) (sym two.1) k.1) in
    let e : false ≡ true = sym c.if-not-fields_are_over.true ∙ c.fields_are_over.ensures.1 over in
    cc)

pub require_row-requires-clause-fields : goal.require_row-requires-clause-fields
require_row-requires-clause-fields c =
    subst (λ n. AllByRecursion (λ f. IsOver n f.1) (demanded c.args.fields.now)) c.unknowns.ensures (c.fields_are_over.ensures.0 c.if-not-fields_are_over.false)

pub returns : goal.returns
returns c =
    let two = twice-same (λ m. AllByRecursion (λ f. IsOf m f.1) (demanded c.args.fields.now)) (λ m. IsOf m (type_of c.args.ty.now)) c.args.solver.now c.know_fields.new.solver c.know.new.solver
    c.know_fields.result c.know.result c.know_fields.ensures c.know.ensures.same in
    asks-after c.args.solver.now c.know.new.solver c.require_row.new.self (has_fields (type_of c.args.ty.now) (demanded c.args.fields.now)) c.know.result c.require_row.result
    (λ k. two (k.1, k.0)) c.require_row.ensures
