use Rattle.std.proofs.Common.{◌≡◌, map, []}
use Rattle.std.specs.Map.Iter.{deref_pair}
use Rattle.sml_objects.specs.Canonical.{renumber}
use Rattle.sml_objects.specs.Maps.{join}
use Rattle.sml_objects.specs.Views.{entries_of, maker_of, name_of}
use Rattle.sml_core_rules.specs.Objects.{rename_fun_sig, replaced}
use Rattle.sml_bases.specs.Views.{fun_sig_of}
use Rattle.sml_envs.specs.Mapped.{AreOrderedInFunctors}
use Rattle.sml_envs.proofs.canonical.Numbering.functors.Given as goal

abbrev pub invariant-loop-name : goal.invariant-loop-name
invariant-loop-name l =
    AreOrderedInFunctors (entries_of (λ f. fun_sig_of f.value) (map deref_pair l.yielded))
    → entries_of (λ f. fun_sig_of f.value) l.numbered.entries
    ≡ join [] (replaced (rename_fun_sig (renumber (maker_of l.self.unit) l.self.count (map name_of l.self.names.now.keys))) (entries_of (λ f. fun_sig_of f.value) (map deref_pair l.yielded)))
