-- The contexts of the parts from here on stand before the others.
use Rattle.std.proofs.Common.{◌≡◌, ◌++◌, ◌-◌, ◌≤◌}
use Rattle.sml_flaws.specs.Marks.{contexts_from}
use Rattle.sml_flaws.specs.CodeContexts.{contexts_of}
use Rattle.sml_flaws.proofs.mark.push_parts.Given as goal

abbrev pub invariant-loop-index : goal.invariant-loop-index
invariant-loop-index l = record {
  kept : contexts_of l.runs ≡ contexts_from l.roles l.inside l.index (l.count - l.index) ++ contexts_of l.fn.runs;
  within : l.index ≤ l.count;
}
