use Rattle.std.proofs.Common.{◌≡◌, length}
use Rattle.sml_derived.specs.CodeHidden.{AreHidden}
use Rattle.sml_derived.proofs.expander.first_hidden.Given as goal

abbrev pub invariant-loop-number : goal.invariant-loop-number
invariant-loop-number l = record {
  kept : AreHidden l.idents.items;
  count : length l.idents.items ≡ l.number;
}
