use Rattle.std.proofs.Common.{map}
use Rattle.std.specs.Map.Iter.{deref_pair}
use Rattle.sml_objects.specs.Views.{entries_of}
use Rattle.sml_envs.proofs.SameMaps.{AreIn, nothing}
use Rattle.sml_envs.proofs.comparisons.same_identifiers.Given as goal

abbrev pub invariant-loop-name : goal.invariant-loop-name
invariant-loop-name l = AreIn (entries_of nothing (map deref_pair l.yielded)) (entries_of nothing l.others.entries)
