use Rattle.std.proofs.Common.{sym, ◌∙◌}
use Rattle.sml_tree.specs.Views.{ident_of}
use Rattle.sml_derived.proofs.Searches.{bound_found, bound_next, bound_nowhere}
use Rattle.sml_derived.proofs.withtype.bound.Goals as goal

pub loop-bind-preserved : goal.loop-bind-preserved
loop-bind-preserved c =
    c.loop-bind.invariant ∙ bound_next (ident_of c.args.constructor.now) c.args.binds.now c.loop-bind.bind-index c.bind-item.result c.is_same.result c.loop-bind-test.true c.bind-item.is c.is_same.ensures c.if-is_same.false

pub returns-then-is_same : goal.returns-then-is_same
returns-then-is_same c =
    sym (c.loop-bind.invariant ∙ bound_found (ident_of c.args.constructor.now) c.args.binds.now c.loop-bind.bind-index c.bind-item.result c.is_same.result c.loop-bind-test.true c.bind-item.is c.is_same.ensures c.if-is_same.true)

pub returns : goal.returns
returns c = sym (c.loop-bind.invariant ∙ bound_nowhere (ident_of c.args.constructor.now) c.args.binds.now c.loop-bind.bind-index c.loop-bind-test.false)
