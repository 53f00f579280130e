-- The right sides from here on are known.
use Rattle.std.proofs.Common.{◌≤◌, map, drop, length}
use Rattle.sml_tree.specs.BindingViews.{typ_bind_of}
use Rattle.sml_tree.specs.CodeSides.{KnowsSides}
use Rattle.sml_tree.proofs.sides.Sides.new.Given as goal

abbrev pub invariant-loop-index : goal.invariant-loop-index
invariant-loop-index l = record {
  kept : KnowsSides (map typ_bind_of (drop l.index l.types.items)) l.table.entries;
  within : l.index ≤ length l.types.items;
}
