-- Nothing was added so far but what has no sequence.
use Rattle.std.proofs.Common.{◌≡◌, ℕ, None, get_or, length}
use Rattle.sml_bare.proofs.source.lengthen.Given as goal

abbrev pub invariant-loop-index : goal.invariant-loop-index
invariant-loop-index l = record {
  same : (n : ℕ) → get_or l.table.items n None ≡ get_or l.fn.table.items n None;
  long : l._index ≡ length l.table.items;
}
