use Rattle.std.proofs.Common.{◌≡◌, map, filter}
use Rattle.std.specs.Map.Iter.{deref_pair}
use Rattle.sml_objects.specs.Appearance.{firsts_after}
use Rattle.sml_objects.specs.Canonical.{is_new}
use Rattle.sml_objects.specs.Initial.{naming}
use Rattle.sml_objects.specs.Views.{entries_of, maker_of, name_of}
use Rattle.sml_core_rules.specs.Objects.{names_map}
use Rattle.sml_bases.specs.Views.{sig_of}
use Rattle.sml_envs.specs.Appearing.{appear_sig}
use Rattle.sml_envs.proofs.canonical.add_signatures.Given as goal

abbrev pub invariant-loop-signature : goal.invariant-loop-signature
invariant-loop-signature l =
    map name_of l.seen.keys
    ≡ firsts_after naming (map name_of l.initial.seen.keys) (filter (is_new (maker_of l.made.unit) l.made.first) (names_map appear_sig (entries_of (λ s. sig_of s.value) (map deref_pair l.yielded))))
