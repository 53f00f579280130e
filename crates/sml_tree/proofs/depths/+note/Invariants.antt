-- The types from here on are noted.
use Rattle.std.proofs.Common.{◌≡◌, ◌≤◌, max, map, drop, length}
use Rattle.sml_tree.specs.Trees.{Id}
use Rattle.sml_tree.specs.TypeViews.{ty_of, tys_of, ty_field_of, ty_fields_of}
use Rattle.sml_tree.specs.CodeDepths.{tys_depth, fields_depth}
use Rattle.sml_tree.specs.CodeSides.{deep}
use Rattle.sml_tree.proofs.depths.+note.Given as goal

abbrev pub invariant-note_all-loop-index : goal.invariant-note_all-loop-index
invariant-note_all-loop-index l = record {
  noted : (v : Id) → deep v l.deepest.entries ≡ max (deep v l.fn.deepest.entries) (tys_depth l.levels v (tys_of (map ty_of (drop l.index l.tys))));
  within : l.index ≤ length l.tys;
}

abbrev pub invariant-note_fields-loop-index : goal.invariant-note_fields-loop-index
invariant-note_fields-loop-index l = record {
  noted : (v : Id) → deep v l.deepest.entries ≡ max (deep v l.fn.deepest.entries) (fields_depth l.levels v (ty_fields_of (map ty_field_of (drop l.index l.fields))));
  within : l.index ≤ length l.fields;
}
