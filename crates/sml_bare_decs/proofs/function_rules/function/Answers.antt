use Rattle.std.proofs.Common.{◌≡◌, ap, ◌∙◌, map, reverse, arith}
use Rattle.sml_tree.specs.Views.{ident_of}
use Rattle.sml_tree.specs.Heights.{bind_height}
use Rattle.sml_derived.specs.Derived.{function_of}
use Rattle.sml_tree.specs.Clauses.{clause_of}
use Rattle.sml_derived.proofs.Lists.{count_is_length}
use Rattle.sml_bare_decs.proofs.FunctionHeights.{function_height, bind_fails}
use Rattle.sml_bare_decs.proofs.function_rules.function.Goals as goal

pub invariant_of-result-clause-measured : goal.invariant_of-result-clause-measured
invariant_of-result-clause-measured c =
    let g = function_height (ident_of c.args.name.now) (clause_of c.args.first.tree) (map clause_of (reverse c.args.others.trees.items)) in
    let k = count_is_length c.args.first.tree.pats.items in
    ap bind_height c.in_ok-tree.ensures
    ∙ ap (λ xs. bind_height (function_of (ident_of c.args.name.now) (clause_of c.args.first.tree) (map clause_of xs))) c.reverse.ensures.items
    ∙ (let w : bind_height (function_of (ident_of c.args.name.now) (clause_of c.args.first.tree) (map clause_of (reverse c.args.others.trees.items))) ≡ c.in_ok-height.height = omega (arith, g, k, c.args.first.measured, c.args.others.measured, c.args.first.tree.pats.ok.0, c.in_ok-height.ensures.sum) in w)

pub returns-in_err-height : goal.returns-in_err-height
returns-in_err-height c =
    let g = function_height (ident_of c.args.name.now) (clause_of c.args.first.tree) (map clause_of (reverse c.args.others.trees.items)) in
    let k = count_is_length c.args.first.tree.pats.items in
    bind_fails _ (function_of (ident_of c.args.name.now) (clause_of c.args.first.tree) (map clause_of (reverse c.args.others.trees.items))) c.in_err-height.field-0.0 c.from_residual.result c.in_err-height.ensures.sum c.from_residual.ensures.1
    (omega (arith, g, k, c.args.first.measured, c.args.others.measured, c.args.first.tree.pats.ok.0))
