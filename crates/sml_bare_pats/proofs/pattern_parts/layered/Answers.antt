use Rattle.std.proofs.Common.{◌≡◌, ◌+◌, ◌∙◌, ap, arith}
use Rattle.std.specs.Option.{option_map}
use Rattle.sml_tree.specs.Heights.{pat_height}
use Rattle.sml_tree.specs.TypeViews.{name_of}
use Rattle.sml_tree.specs.PatternViews.{pat_of}
use Rattle.sml_derived.specs.Derived.{layered}
use Rattle.sml_pat_sequences.specs.LowViews.{low_ty_of, low_pat_of}
use Rattle.sml_phrases.proofs.Failures.{fails}
use Rattle.sml_bare_pats.proofs.Layers.{layered_height, layered_parts}
use Rattle.sml_bare_pats.proofs.pattern_parts.layered.Goals as goal

pub returns : goal.returns
returns c = c.in_ok-tree.ensures ∙ layered_parts (name_of c.args.name) _ _ _ _ c.ty_parts-ty.ensures.tree c.pat_parts-pat.ensures.tree

pub invariant_of-result-clause-measured : goal.invariant_of-result-clause-measured
invariant_of-result-clause-measured c =
    let t = option_map low_ty_of c.args.ty in
    let q = option_map low_pat_of c.args.pat in
    let same : pat_of c.in_ok-tree.tree ≡ layered (name_of c.args.name) t q = c.in_ok-tree.ensures ∙ layered_parts (name_of c.args.name) _ _ _ _ c.ty_parts-ty.ensures.tree c.pat_parts-pat.ensures.tree in
    let g = ap pat_height same in
    let h = layered_height (name_of c.args.name) t q in
    let w : pat_height (pat_of c.in_ok-tree.tree) ≡ c.in_ok-height.height = omega (arith, g, h, c.ty_parts-ty.ensures.height, c.pat_parts-pat.ensures.height, c.max.ensures, c.in_ok-height.ensures.sum) in w

pub returns-in_err-height : goal.returns-in_err-height
returns-in_err-height c =
    let h = layered_height (name_of c.args.name) (option_map low_ty_of c.args.ty) (option_map low_pat_of c.args.pat) in
    fails (λ h. h) (λ h. h) low_pat_of pat_height (c.max.result + 1) _ c.in_err-height.field-0.0 c.from_residual.result c.in_err-height.ensures.sum c.from_residual.ensures.1
    (omega (arith, h, c.ty_parts-ty.ensures.height, c.pat_parts-pat.ensures.height, c.max.ensures))
