-- The greatest height from here on.
use Rattle.std.proofs.Common.{◌≡◌, ◌≤◌, map, drop, length}
use Rattle.sml_tree.specs.BindingViews.{typ_bind_of, con_bind_of}
use Rattle.sml_tree.specs.Height.{counted}
use Rattle.sml_tree.specs.Heights.{highest, con_bind_height}
use Rattle.sml_tree.specs.Withtype.{con_replaced}
use Rattle.sml_tree.proofs.sides.Sides.height_of_con_binds.Given as goal

abbrev pub invariant-loop-index : goal.invariant-loop-index
invariant-loop-index l = record {
  most : l.most ≡ counted (highest con_bind_height (map (con_replaced (map typ_bind_of l.self.types.items)) (map con_bind_of (drop l.index l.binds))));
  within : l.index ≤ length l.binds;
}
