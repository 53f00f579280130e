use Rattle.std.proofs.Common.{◌≡◌, ℕ, ◌+◌, length, map}
use Rattle.std.specs.Map.Iter.{deref_pair}
use Rattle.sml_objects.specs.Views.{entries_of}
use Rattle.sml_bases.specs.Entries.{capped}
use Rattle.sml_bases.specs.Views.{env_of}
use Rattle.sml_envs.specs.Extents.{bytes_in, constructor_count, line_bytes, total_by}
use Rattle.sml_envs.proofs.extents.+envs.Given as goal

abbrev pub invariant-structure_bytes-loop-name : goal.invariant-structure_bytes-loop-name
invariant-structure_bytes-loop-name l =
    (p : ℕ) → l.path ≡ capped p
    → l.bytes ≡ capped (total_by (λ x E. line_bytes p x + bytes_in constructor_count (p + length x + 1) E) (entries_of (λ s. env_of s.value) (map deref_pair l.yielded)))
