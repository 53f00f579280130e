use Rattle.std.proofs.Common.{map, reverse}
use Rattle.std.specs.Option.{option_map}
use Rattle.sml_tree.specs.PatternViews.{pats_of}
use Rattle.sml_tree.specs.TypeViews.{tys_of, ty_of}
use Rattle.sml_pat_sequences.proofs.PatternSequences.{pat_fails, typed-height}
use Rattle.sml_pat_sequences.specs.PatternSequences.{shaped, pat_place}
use Rattle.sml_pat_sequences.specs.LowViews.{low_pat_of}
use Rattle.sml_fixity.specs.Shapes.{shape_of}
use Rattle.sml_pat_sequences.proofs.pattern_sequences.sequence.Goals as goal

pub returns-in_err-pat : goal.returns-in_err-pat
returns-in_err-pat c =
    let q = shaped (option_map (λ s. shape_of s.now) c.args.shape) (pats_of (map low_pat_of (reverse c.args.atoms.trees.items))) in
    pat_fails q _ c.in_err-pat.field-0.0 c.from_residual.result c.in_err-pat.ensures c.from_residual.ensures.1
    (typed-height (pat_place q) q (tys_of (map (λ t. ty_of t.tree) (reverse c.args.types.trees.items))))
