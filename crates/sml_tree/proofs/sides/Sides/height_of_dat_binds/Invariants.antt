-- The greatest height from here on.
use Rattle.std.proofs.Common.{◌≡◌, ◌≤◌, map, drop, length}
use Rattle.sml_tree.specs.BindingViews.{typ_bind_of, dat_bind_of}
use Rattle.sml_tree.specs.Height.{counted}
use Rattle.sml_tree.specs.Heights.{highest, dat_bind_height}
use Rattle.sml_tree.specs.Withtype.{dat_replaced}
use Rattle.sml_tree.proofs.sides.Sides.height_of_dat_binds.Given as goal

abbrev pub invariant-loop-index : goal.invariant-loop-index
invariant-loop-index l = record {
  most : l.most ≡ counted (highest dat_bind_height (map (dat_replaced (map typ_bind_of l.self.types.items)) (map dat_bind_of (drop l.index l.binds))));
  within : l.index ≤ length l.binds;
}
