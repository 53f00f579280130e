use Rattle.std.proofs.Common.{◌≡◌, map, take}
use Rattle.sml_tree.specs.Views.{ident_of}
use Rattle.sml_objects.specs.Labels.{numbers}
use Rattle.sml_objects.proofs.labels.are_numbers.Given as goal

abbrev pub invariant-loop-index : goal.invariant-loop-index
invariant-loop-index l = map ident_of (take l.index l.list) ≡ numbers 1 l.index
