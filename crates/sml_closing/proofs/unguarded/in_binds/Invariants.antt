-- What is left to gather, after what was.
use Rattle.std.proofs.Common.{◌≡◌, map, drop}
use Rattle.sml_tree.specs.ExpressionViews.{bind_of, binds_of}
use Rattle.sml_core_rules.specs.Closing.{unguarded}
use Rattle.sml_closing.specs.Gathered.{ids_of, with_all}
use Rattle.sml_closing.proofs.unguarded.in_binds.Given as goal

abbrev pub invariant-loop-bind : goal.invariant-loop-bind
invariant-loop-bind l = record {
  left : with_all (ids_of l.found.keys) (unguarded (binds_of (map bind_of (drop l.bind-index l.binds)))) ≡ with_all (ids_of l.fn.found.keys) (unguarded (binds_of (map bind_of (l.binds))));
}
