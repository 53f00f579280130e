use Rattle.std.proofs.Common.{◌≡◌, map, reverse, vec_len}
use Rattle.sml_tree.specs.StructureViews.{str_of}
use Rattle.sml_phrases.specs.PhraseViews.{low_constraint_of}
use Rattle.sml_bare_mods.specs.StructureRules.{constrained}
use Rattle.sml_bare_mods.proofs.structure_rules.constrained.Given as goal

abbrev pub invariant-loop-constraint : goal.invariant-loop-constraint
invariant-loop-constraint l =
    constrained (str_of l.whole.tree) (map low_constraint_of (reverse l.left.items)) ≡ constrained (str_of l.fn.body.tree) (map low_constraint_of (reverse l.fn.constraints.items))

abbrev pub decreases-loop-constraint : goal.decreases-loop-constraint
decreases-loop-constraint l = vec_len l.left
