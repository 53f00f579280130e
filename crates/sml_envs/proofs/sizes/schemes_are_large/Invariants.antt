use Rattle.std.proofs.Common.{◌≡◌, false, map}
use Rattle.std.specs.Map.Iter.{deref_pair}
use Rattle.sml_objects.specs.Views.{schemes_of}
use Rattle.sml_bases.specs.Entries.{some_entry}
use Rattle.sml_envs.specs.Large.{is_large}
use Rattle.sml_envs.proofs.sizes.schemes_are_large.Given as goal

abbrev pub invariant-loop-scheme : goal.invariant-loop-scheme
invariant-loop-scheme g l =
    some_entry (is_large (g.M.Mapping.bound_gives l.by) (g.M.Mapping.free_gives l.by) (g.M.Mapping.name_gives l.by)) (schemes_of (map deref_pair l.yielded)) ≡ false
