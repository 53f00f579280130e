use Rattle.std.proofs.Common.{ap, sym, ◌∙◌, ◌≡◌, map, reverse, arith, rules}
use Rattle.sml_tree.specs.ExpressionViews.{bind_of, binds_of}
use Rattle.sml_tree.specs.Heights.{binds_height}
use Rattle.sml_bare_decs.proofs.Bindings.{joined_lists, joined_height}
use Rattle.sml_bare_decs.proofs.declaration_lists.joined.Goals as goal

pub invariant_of-result-clause-measured : goal.invariant_of-result-clause-measured
invariant_of-result-clause-measured c =
    ap (λ xs. binds_height (binds_of (map bind_of (reverse xs)))) c.in_ok-append.ensures.items
    ∙ ap binds_height (joined_lists bind_of c.args.others.trees.items c.args.binds.trees.items)
    ∙ joined_height (binds_of (map bind_of (reverse c.args.binds.trees.items))) (binds_of (map bind_of (reverse c.args.others.trees.items)))
    ∙ omega (arith, c.args.binds.measured, c.args.others.measured, c.max-height.ensures)

pub returns : goal.returns
returns c = ap (λ xs. binds_of (map bind_of (reverse xs))) c.in_ok-append.ensures.items ∙ joined_lists bind_of c.args.others.trees.items c.args.binds.trees.items
