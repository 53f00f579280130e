use Rattle.std.proofs.Common.{◌≡◌, false, map}
use Rattle.std.specs.Map.Iter.{deref_pair}
use Rattle.sml_objects.specs.Views.{entries_of, type_of}
use Rattle.sml_core_rules.specs.Values.{has_unknown}
use Rattle.sml_bases.specs.Entries.{some_entry}
use Rattle.sml_bases.proofs.summaries.have_unknown.Given as goal

abbrev pub invariant-loop-value : goal.invariant-loop-value
invariant-loop-value l = some_entry has_unknown (entries_of (λ v. type_of v.scheme.value.body.value) (map deref_pair l.yielded)) ≡ false
