use Rattle.std.proofs.Common.{◌≡◌, map, take}
use Rattle.sml_core_rules.specs.Datatypes.{is_equality}
use Rattle.sml_tree.specs.TypeViews.{names_of}
use Rattle.sml_types.proofs.datatypes.equality_of.Given as goal

abbrev pub invariant-loop-variable : goal.invariant-loop-variable
invariant-loop-variable l = l.equality.items ≡ map (λ x. is_equality x.id) (names_of (take l.variable-index l.variables))
