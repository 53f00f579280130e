use Rattle.std.proofs.Common.{◌≡◌, ◌+◌, map}
use Rattle.std.specs.Map.Iter.{deref_pair}
use Rattle.sml_objects.specs.Views.{entries_of}
use Rattle.sml_bases.specs.Entries.{capped, total}
use Rattle.sml_bases.specs.Layers.{bound_env}
use Rattle.sml_bases.specs.Views.{fun_sig_of, sig_of}
use Rattle.sml_envs.specs.Extents.{env_bytes}
use Rattle.sml_envs.proofs.extents.least_text.Given as goal

abbrev pub invariant-loop-signature : goal.invariant-loop-signature
invariant-loop-signature l =
    l.bytes ≡ capped (env_bytes (bound_env l.basis) + total (λ S. env_bytes S.body) (entries_of (λ s. sig_of s.value) (map deref_pair l.yielded)))

abbrev pub invariant-loop-functor : goal.invariant-loop-functor
invariant-loop-functor l =
    l.bytes ≡ capped (l.initial.bytes + total (λ F. env_bytes F.argument.body + env_bytes F.result.body) (entries_of (λ f. fun_sig_of f.value) (map deref_pair l.yielded)))
