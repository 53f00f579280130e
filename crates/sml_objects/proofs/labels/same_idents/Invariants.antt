use Rattle.std.proofs.Common.{◌≡◌, map, take}
use Rattle.sml_tree.specs.Views.{ident_of}
use Rattle.sml_objects.proofs.labels.same_idents.Given as goal

abbrev pub invariant-loop-index : goal.invariant-loop-index
invariant-loop-index l = map ident_of (take l.index l.ones) ≡ map ident_of (take l.index l.others)
