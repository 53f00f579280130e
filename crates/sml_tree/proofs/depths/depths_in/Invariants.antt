-- What was found, and what will be found from here on.
use Rattle.std.proofs.Common.{◌≡◌, ◌++◌, drop}
use Rattle.sml_tree.specs.TypeViews.{names_of, ty_of}
use Rattle.sml_tree.specs.CodeDepths.{depth, depths}
use Rattle.sml_tree.specs.CodeSides.{deep}
use Rattle.sml_tree.proofs.depths.depths_in.Given as goal

abbrev pub invariant-loop-variable : goal.invariant-loop-variable
invariant-loop-variable l = l.found.items ++ depths (λ v. deep v l.deepest.entries) (names_of (drop l.variable-index l.variables)) ≡ depths (λ v. depth 0 v (ty_of l.fn.ty)) (names_of l.fn.variables)
