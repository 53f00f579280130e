use Rattle.std.proofs.Common.{◌≡◌, map, filter}
use Rattle.std.specs.Map.Iter.{deref_pair}
use Rattle.sml_objects.specs.Appearance.{firsts_after}
use Rattle.sml_objects.specs.Canonical.{is_new}
use Rattle.sml_objects.specs.Initial.{naming}
use Rattle.sml_objects.specs.Views.{entries_of, maker_of, name_of}
use Rattle.sml_core_rules.specs.Objects.{names_map}
use Rattle.sml_bases.specs.Views.{value_of}
use Rattle.sml_envs.specs.Appearing.{appear_value}
use Rattle.sml_envs.proofs.canonical.add_values.Given as goal

abbrev pub invariant-loop-value : goal.invariant-loop-value
invariant-loop-value l =
    map name_of l.seen.keys
    ≡ firsts_after naming (map name_of l.initial.seen.keys) (filter (is_new (maker_of l.made.unit) l.made.first) (names_map appear_value (entries_of value_of (map deref_pair l.yielded))))
