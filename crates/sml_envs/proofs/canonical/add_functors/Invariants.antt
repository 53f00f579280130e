use Rattle.std.proofs.Common.{◌≡◌, map, filter}
use Rattle.std.specs.Map.Iter.{deref_pair}
use Rattle.sml_objects.specs.Appearance.{firsts_after}
use Rattle.sml_objects.specs.Canonical.{is_new}
use Rattle.sml_objects.specs.Initial.{naming}
use Rattle.sml_objects.specs.Views.{entries_of, maker_of, name_of}
use Rattle.sml_core_rules.specs.Objects.{names_map}
use Rattle.sml_bases.specs.Views.{fun_sig_of}
use Rattle.sml_envs.specs.Appearing.{appear_fun_sig}
use Rattle.sml_envs.proofs.canonical.add_functors.Given as goal

abbrev pub invariant-loop-functor : goal.invariant-loop-functor
invariant-loop-functor l =
    map name_of l.seen.keys
    ≡ firsts_after naming (map name_of l.initial.seen.keys) (filter (is_new (maker_of l.made.unit) l.made.first) (names_map appear_fun_sig (entries_of (λ f. fun_sig_of f.value) (map deref_pair l.yielded))))
