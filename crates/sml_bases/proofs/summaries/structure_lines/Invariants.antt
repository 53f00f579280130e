use Rattle.std.proofs.Common.{◌≡◌, ◌+◌, map}
use Rattle.std.specs.Map.Iter.{deref_pair}
use Rattle.sml_objects.specs.Views.{entries_of}
use Rattle.sml_bases.specs.Entries.{capped, total}
use Rattle.sml_bases.specs.Summaries.{kept_lines}
use Rattle.sml_bases.proofs.summaries.structure_lines.Given as goal

abbrev pub invariant-loop-structure : goal.invariant-loop-structure
invariant-loop-structure l = l.lines ≡ capped (total (λ n. n + 1) (entries_of (λ s. kept_lines s.value) (map deref_pair l.yielded)))
