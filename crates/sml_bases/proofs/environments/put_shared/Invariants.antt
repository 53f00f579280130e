use Rattle.std.proofs.Common.{◌≡◌, map}
use Rattle.std.specs.Map.Iter.{deref_pair}
use Rattle.sml_objects.specs.Maps.{join}
use Rattle.sml_objects.specs.Views.{entries_of}
use Rattle.sml_bases.proofs.environments.put_shared.Given as goal

abbrev pub invariant-loop-name : goal.invariant-loop-name
invariant-loop-name g l =
    entries_of (λ x. x.value) l.map.entries ≡ join (entries_of (λ x. x.value) l.initial.map.entries) (entries_of (λ x. x.value) (map deref_pair l.yielded))
