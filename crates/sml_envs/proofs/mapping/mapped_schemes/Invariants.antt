use Rattle.std.proofs.Common.{◌≡◌, map, []}
use Rattle.std.specs.Map.Iter.{deref_pair}
use Rattle.sml_objects.specs.Maps.{join}
use Rattle.sml_objects.specs.Views.{schemes_of}
use Rattle.sml_type_maps.specs.Orders.{AreOrdered, schemes_by}
use Rattle.sml_envs.proofs.mapping.mapped_schemes.Given as goal

abbrev pub invariant-loop-name : goal.invariant-loop-name
invariant-loop-name g l =
    AreOrdered (schemes_of (map deref_pair l.yielded))
    → schemes_of l.copies.entries
    ≡ join [] (schemes_by (g.M.Mapping.bound_gives l.by) (g.M.Mapping.free_gives l.by) (g.M.Mapping.name_gives l.by) (schemes_of (map deref_pair l.yielded)))
