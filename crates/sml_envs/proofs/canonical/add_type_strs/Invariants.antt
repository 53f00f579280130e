use Rattle.std.proofs.Common.{◌≡◌, map, filter}
use Rattle.std.specs.Map.Iter.{deref_pair}
use Rattle.sml_objects.specs.Appearance.{firsts_after}
use Rattle.sml_objects.specs.Canonical.{is_new}
use Rattle.sml_objects.specs.Initial.{naming}
use Rattle.sml_objects.specs.Views.{entries_of, maker_of, name_of}
use Rattle.sml_core_rules.specs.Objects.{names_map}
use Rattle.sml_bases.specs.Views.{ty_str_of}
use Rattle.sml_envs.specs.Appearing.{appear_ty_str}
use Rattle.sml_envs.proofs.canonical.add_type_strs.Given as goal

abbrev pub invariant-loop-ty : goal.invariant-loop-ty
invariant-loop-ty l =
    map name_of l.seen.keys
    ≡ firsts_after naming (map name_of l.initial.seen.keys) (filter (is_new (maker_of l.made.unit) l.made.first) (names_map appear_ty_str (entries_of ty_str_of (map deref_pair l.yielded))))
