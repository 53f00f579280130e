use Rattle.std.proofs.Common.{◌≡◌, map, take}
use Rattle.sml_tree.specs.Views.{exp_of, exps_of}
use Rattle.sml_tree.specs.Height.{exps_height, counted}
use Rattle.sml_tree.proofs.height.+height.Given as goal

abbrev pub invariant-height_of_exps-loop-exp : goal.invariant-height_of_exps-loop-exp
invariant-height_of_exps-loop-exp l = l.most ≡ counted (exps_height (exps_of (map exp_of (take l.exp-index l.exps))))
