use Rattle.std.proofs.Common.{ap, Err}
use Rattle.sml_objects.proofs.TypeViews.{type_of-free}
use Rattle.sml_layers.specs.declared.layer.Layer.{Layer}
use Rattle.sml_graph.specs.Asked.{count, Adds, CanMeet, IsFirstUnmet}
use Rattle.sml_demands.specs.Overloaded.{IsOverloaded}
use Rattle.sml_solve.proofs.Defaulting.{to_int, settled-one, settled-none, int-over, free-over, not-unmet}
use Rattle.sml_solve.proofs.solver.settle_one.Goals as goal

pub require_equal-requires-clause-left : goal.require_equal-requires-clause-left
require_equal-requires-clause-left c = rw (type_of-free c.args.unknown) (free-over c.args.unknown (count c.args.solver.now) c.requires.known)

pub require_equal-requires-clause-right : goal.require_equal-requires-clause-right
require_equal-requires-clause-right c = rw c.int_type-default.ensures (int-over (count c.args.solver.now))

pub returns-in-Ok-clause-ok : goal.returns-in-Ok-clause-ok
returns-in-Ok-clause-ok c =
    let a : Adds c.args.solver.now (to_int c.args.unknown) c.require_equal.new.self = rw (type_of-free c.args.unknown, c.int_type-default.ensures) at c.in-Ok.ensures.ok in
    let o : IsOverloaded c.args.solver.now c.args.unknown = rw c.in-Ok-true.field-0-test at c.in-Ok-true.ensures.yes in
    settled-one c.args.solver.now c.require_equal.new.self c.args.unknown o a

pub unreachable-requires : goal.unreachable-requires
unreachable-requires c =
    let l = c.in-Err-Unmet.field-0-0 in
    let a : IsFirstUnmet l c.args.solver.now (to_int c.args.unknown) = rw (type_of-free c.args.unknown, c.int_type-default.ensures) at (c.in-Err-Unmet.ensures.unmet l (ap Err c.in-Err-Unmet.field-0-is)) in
    let o : (l : Layer) → CanMeet l c.args.solver.now (to_int c.args.unknown) = rw c.in-Ok-true.field-0-test at c.in-Ok-true.ensures.int in
    not-unmet l c.args.solver.now (to_int c.args.unknown) a (o l)

pub returns-in-Ok-false-clause-ok : goal.returns-in-Ok-false-clause-ok
returns-in-Ok-false-clause-ok c =
    let n : IsOverloaded c.args.solver.now c.args.unknown → ⊥ = rw c.in-Ok-false.field-0-test at c.in-Ok-false.ensures.no in
    settled-none c.args.solver.now c.args.unknown n
