use Rattle.std.proofs.Common.{◌≡◌, ◌++◌, map, take}
use Rattle.sml_narrowing.specs.CodeMatrix.{wild_at}
use Rattle.sml_narrowing.specs.CodeTasks.{line, labels_of}
use Rattle.sml_narrowing.proofs.narrow.push_wildcards.Given as goal

abbrev pub invariant-loop-label : goal.invariant-loop-label
invariant-loop-label l = line l.row.items ≡ map wild_at (labels_of (take l._label-index l.labels)) ++ line l.fn.row.items
