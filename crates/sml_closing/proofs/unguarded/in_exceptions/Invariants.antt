-- What is left to gather, after what was.
use Rattle.std.proofs.Common.{◌≡◌, map, drop}
use Rattle.sml_tree.specs.ExpressionViews.{exn_bind_of}
use Rattle.sml_core_rules.specs.Closing.{exn_variables}
use Rattle.sml_closing.specs.Gathered.{ids_of, with_all}
use Rattle.sml_closing.proofs.unguarded.in_exceptions.Given as goal

abbrev pub invariant-loop-bind : goal.invariant-loop-bind
invariant-loop-bind l = record {
  left : with_all (ids_of l.found.keys) (exn_variables (map exn_bind_of (drop l.bind-index l.binds))) ≡ with_all (ids_of l.fn.found.keys) (exn_variables (map exn_bind_of (l.binds)));
}
