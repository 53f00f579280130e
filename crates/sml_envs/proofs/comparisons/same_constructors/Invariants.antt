use Rattle.std.proofs.Common.{map}
use Rattle.std.specs.Map.Iter.{deref_pair}
use Rattle.sml_objects.specs.Views.{schemes_of}
use Rattle.sml_envs.proofs.SameMaps.{AreIn}
use Rattle.sml_envs.proofs.comparisons.same_constructors.Given as goal

abbrev pub invariant-loop-name : goal.invariant-loop-name
invariant-loop-name l = AreIn (schemes_of (map deref_pair l.yielded)) (schemes_of l.others.entries)
