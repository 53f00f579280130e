-- What was taken off so far.
use Rattle.std.proofs.Common.{◌≡◌, ◌∷◌, drop, get_or, reverse}
use Rattle.sml_read.proofs.phrases.pop_ends.Given as goal

abbrev pub invariant-loop-taken : goal.invariant-loop-taken
invariant-loop-taken l = record {
  taken : l.end ≡ get_or (l.first ∷ reverse l.fn.later.items) l._taken l.other;
  left : reverse l.later.items ≡ drop l._taken (reverse l.fn.later.items);
}
