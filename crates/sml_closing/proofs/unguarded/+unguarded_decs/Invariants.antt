-- What is left to gather, after what was.
use Rattle.std.proofs.Common.{◌≡◌, map, drop}
use Rattle.sml_tree.specs.ExpressionViews.{dec_of, decs_of}
use Rattle.sml_core_rules.specs.Closing.{decs_variables}
use Rattle.sml_closing.specs.Gathered.{ids_of, with_all}
use Rattle.sml_closing.proofs.unguarded.+unguarded_decs.Given as goal

abbrev pub invariant-in_decs-loop-dec : goal.invariant-in_decs-loop-dec
invariant-in_decs-loop-dec l = record {
  left : with_all (ids_of l.found.keys) (decs_variables (decs_of (map dec_of (drop l.dec-index l.decs)))) ≡ with_all (ids_of l.fn.found.keys) (decs_variables (decs_of (map dec_of (l.decs))));
}
