use Rattle.std.proofs.Common.{◌∙◌, ◌+◌, ap, ◌++◌, drop}
use Rattle.sml_tree.specs.TypeViews.{names_of}
use Rattle.sml_tree.specs.CodeDepths.{depths}
use Rattle.sml_tree.specs.CodeSides.{deep}
use Rattle.sml_tree.proofs.DepthLists.{depths_on}
use Rattle.sml_tree.proofs.depths.depths_in.Goals as goal

pub loop-variable-preserved : goal.loop-variable-preserved
loop-variable-preserved c =
    let rest = depths (λ v. deep v c.set_depth.new.deepest.entries) (names_of (drop (c.loop-variable.variable-index + 1) c.args.variables.now)) in
    ap (λ ds. ds ++ rest) c.in_ok-push.ensures.items
    ∙ depths_on (λ v. deep v c.loop-variable.deepest.entries) (λ v. deep v c.set_depth.new.deepest.entries) c.loop-variable.found.items c.depth_of.result c.args.variables.now c.loop-variable.variable-index c.variable-item.result c.loop-variable-test.true c.variable-item.is c.depth_of.ensures c.in_ok-set_depth.ensures
    ∙ c.loop-variable.invariant
