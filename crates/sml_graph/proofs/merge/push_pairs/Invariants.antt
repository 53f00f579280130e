use Rattle.std.proofs.Common.{◌≡◌, ◌++◌, drop}
use Rattle.sml_graph.specs.Graphs.{pairs_of}
use Rattle.sml_graph.proofs.merge.push_pairs.Given as goal

abbrev pub invariant-loop-i : goal.invariant-loop-i
invariant-loop-i l = l.pending.items ++ pairs_of (drop l.i l.lefts) (drop l.i l.rights) ≡ l.initial.pending.items ++ pairs_of l.lefts l.rights
