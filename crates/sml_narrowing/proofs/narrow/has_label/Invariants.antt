use Rattle.std.proofs.Common.{◌≡◌, drop}
use Rattle.sml_tree.specs.Views.{ident_of}
use Rattle.sml_narrowing.specs.CodeTasks.{is_among}
use Rattle.sml_narrowing.proofs.narrow.has_label.Given as goal

abbrev pub invariant-loop-other : goal.invariant-loop-other
invariant-loop-other l = is_among (ident_of l.label) l.labels ≡ is_among (ident_of l.label) (drop l.other-index l.labels)
