use Rattle.std.proofs.Common.{◌≡◌, map}
use Rattle.std.specs.Map.Iter.{deref_pair}
use Rattle.sml_objects.specs.Views.{entries_of}
use Rattle.sml_core_rules.specs.Objects.{replaced}
use Rattle.sml_bases.specs.Views.{ty_str_of}
use Rattle.sml_envs.specs.Mapped.{Each, HasOrdered, ty_str_by}
use Rattle.sml_envs.proofs.mapping.types_change.Given as goal

abbrev pub invariant-loop-ty : goal.invariant-loop-ty
invariant-loop-ty g l =
    Each HasOrdered (entries_of ty_str_of (map deref_pair l.yielded))
    → replaced (ty_str_by (g.M.Mapping.bound_gives l.by) (g.M.Mapping.free_gives l.by) (g.M.Mapping.name_gives l.by)) (entries_of ty_str_of (map deref_pair l.yielded))
    ≡ entries_of ty_str_of (map deref_pair l.yielded)
