use Rattle.std.proofs.Common.{◌≡◌, [], map, reverse, drop}
use Rattle.sml_tree.specs.PatternViews.{pats_of}
use Rattle.sml_pat_sequences.specs.PatternSequences.{pat_of_steps, list_of_pats}
use Rattle.sml_pat_sequences.specs.LowViews.{building_of, low_pat_of}
use Rattle.sml_pat_sequences.proofs.pattern_sequences.pat_of_steps.Given as goal

-- the steps that are left make the whole
abbrev pub invariant-loop-next : goal.invariant-loop-next
invariant-loop-next l =
    pat_of_steps (drop l.next-index l.steps) (building_of l.building)
    ≡ pat_of_steps l.fn.steps (record { atoms = list_of_pats (pats_of (map low_pat_of (reverse l.fn.atoms.trees.items))); stack = [] })
