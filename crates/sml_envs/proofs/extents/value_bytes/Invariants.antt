use Rattle.std.proofs.Common.{◌≡◌, ℕ, map}
use Rattle.std.specs.Map.Iter.{deref_pair}
use Rattle.sml_objects.specs.Views.{entries_of}
use Rattle.sml_bases.specs.Entries.{capped}
use Rattle.sml_bases.specs.Views.{value_of}
use Rattle.sml_envs.specs.Extents.{line_bytes, total_by}
use Rattle.sml_envs.proofs.extents.value_bytes.Given as goal

abbrev pub invariant-loop-name : goal.invariant-loop-name
invariant-loop-name l = (p : ℕ) → l.path ≡ capped p → l.bytes ≡ capped (total_by (λ x v. line_bytes p x) (entries_of value_of (map deref_pair l.yielded)))
