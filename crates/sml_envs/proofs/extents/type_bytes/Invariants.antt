use Rattle.std.proofs.Common.{◌≡◌, ℕ, ◌+◌, ◌*◌, map}
use Rattle.std.specs.Map.Iter.{deref_pair}
use Rattle.sml_objects.specs.Views.{entries_of}
use Rattle.sml_bases.specs.Entries.{capped}
use Rattle.sml_bases.specs.Views.{ty_str_of}
use Rattle.sml_envs.specs.Extents.{constructor_count, line_bytes, total_by}
use Rattle.sml_envs.proofs.extents.type_bytes.Given as goal

abbrev pub invariant-loop-name : goal.invariant-loop-name
invariant-loop-name l =
    (p : ℕ) → l.path ≡ capped p → l.bytes ≡ capped (total_by (λ x t. line_bytes p x + 9 * constructor_count t) (entries_of ty_str_of (map deref_pair l.yielded)))
