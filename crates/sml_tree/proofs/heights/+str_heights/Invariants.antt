use Rattle.std.proofs.Common.{◌≡◌, map, take}
use Rattle.sml_tree.specs.Height.{counted}
use Rattle.sml_tree.specs.Heights.{str_decs_height, str_binds_height}
use Rattle.sml_tree.specs.StructureViews.{str_decs_of, str_dec_of, str_binds_of, str_bind_of}
use Rattle.sml_tree.proofs.heights.+str_heights.Given as goal

abbrev pub invariant-height_of_str_decs-loop-dec : goal.invariant-height_of_str_decs-loop-dec
invariant-height_of_str_decs-loop-dec l = l.most ≡ counted (str_decs_height (str_decs_of (map str_dec_of (take l.dec-index l.decs))))

abbrev pub invariant-height_of_str_binds-loop-bind : goal.invariant-height_of_str_binds-loop-bind
invariant-height_of_str_binds-loop-bind l = l.most ≡ counted (str_binds_height (str_binds_of (map str_bind_of (take l.bind-index l.binds))))
