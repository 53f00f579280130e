-- The pattern was noted in the first columns, and not yet in the others.
use Rattle.std.proofs.Common.{◌≡◌, List, [], ◌∷◌, ◌++◌, length, take, drop}
use Rattle.sml_narrowing.specs.Plain.{Plain}
use Rattle.sml_narrowing.specs.Views.{plain_of}
use Rattle.sml_patterns.specs.CodeColumns.{KnowsEach}
use Rattle.sml_patterns.proofs.table.Table.note.Given as goal

abbrev pub invariant-loop-number : goal.invariant-loop-number
invariant-loop-number l = record {
  len : l.number-end ≡ length l.self.columns.items;
  knows : (above : List Plain) → KnowsEach above l.initial.self.columns.items → l.index ≡ length above
      → KnowsEach (above ++ plain_of l.pattern ∷ []) (take l.number l.self.columns.items) × KnowsEach above (drop l.number l.self.columns.items);
}
