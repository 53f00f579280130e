use Rattle.std.proofs.Common.{◌≡◌, false, map}
use Rattle.std.specs.Map.Iter.{deref_pair}
use Rattle.sml_objects.specs.Views.{entries_of}
use Rattle.sml_bases.specs.Entries.{some_entry}
use Rattle.sml_bases.specs.Summaries.{keeps_unknown}
use Rattle.sml_bases.proofs.summaries.keep_unknown.Given as goal

abbrev pub invariant-loop-structure : goal.invariant-loop-structure
invariant-loop-structure l = some_entry (λ b. b) (entries_of (λ s. keeps_unknown s.value) (map deref_pair l.yielded)) ≡ false
