use Rattle.std.proofs.Common.{◌≡◌, map, take}
use Rattle.sml_tree.specs.Views.{core_dec_of}
use Rattle.sml_tree.specs.Height.{decs_height, counted}
use Rattle.sml_tree.proofs.height.height_of_cores.Given as goal

abbrev pub invariant-loop-core : goal.invariant-loop-core
invariant-loop-core l = l.most ≡ counted (decs_height (map core_dec_of (take l.core-index l.cores)))
