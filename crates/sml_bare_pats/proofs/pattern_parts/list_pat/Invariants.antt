use Rattle.std.proofs.Common.{◌≡◌, map, length}
use Rattle.sml_pat_sequences.specs.LowViews.{low_pat_of, low_pats_of}
use Rattle.sml_bare_pats.specs.PatternRules.{list_pat}
use Rattle.sml_bare_pats.proofs.PatternLists.{list_onto}
use Rattle.sml_bare_pats.proofs.pattern_parts.list_pat.Given as goal

-- the patterns that are left, before the list so far
abbrev pub invariant-loop-pat : goal.invariant-loop-pat
invariant-loop-pat l = list_onto l.fn.place (map low_pat_of l.pats.items) (low_pat_of l.list) ≡ list_pat l.fn.place (low_pats_of l.fn.pats)

abbrev pub decreases-loop-pat : goal.decreases-loop-pat
decreases-loop-pat l = length l.pats.items
