use Rattle.std.proofs.Common.{◌≡◌, map, reverse, length}
use Rattle.sml_tree.specs.TypeViews.{tys_of, ty_of}
use Rattle.sml_pat_sequences.specs.PatternSequences.{typed_by}
use Rattle.sml_pat_sequences.specs.LowViews.{low_pat_of}
use Rattle.sml_pat_sequences.proofs.pattern_sequences.typed_by.Given as goal

-- what is left to do makes the whole
abbrev pub invariant-loop-ty : goal.invariant-loop-ty
invariant-loop-ty l =
    typed_by l.fn.place (low_pat_of l.pat) (tys_of (map (λ t. ty_of t.tree) (reverse l.types.items)))
    ≡ typed_by l.fn.place (low_pat_of l.fn.pat) (tys_of (map (λ t. ty_of t.tree) (reverse l.fn.types.trees.items)))

abbrev pub decreases-loop-ty : goal.decreases-loop-ty
decreases-loop-ty l = length l.types.items
