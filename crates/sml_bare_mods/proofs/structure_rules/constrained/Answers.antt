use Rattle.sml_tree.specs.StructureViews.{str_of}
use Rattle.sml_phrases.specs.PhraseViews.{low_constraint_of}
use Rattle.sml_phrases.specs.declared.low.LowStr.{LowStr}
use Rattle.sml_bare_mods.proofs.Chains.{failed_constraint}
use Rattle.sml_bare_mods.specs.StructureRules.{str_place}
use Rattle.sml_bare_mods.proofs.structure_rules.constrained.Goals as goal

pub returns-in-Err : goal.returns-in-Err
returns-in-Err c =
    failed_constraint (λ (e : LowStr). str_of e.tree) low_constraint_of (str_of c.loop-constraint.whole.tree) _ c.loop-constraint.left.items c.pop.new.self.items c.in-Some.constraint c.in-Err.failure c.in-Some.ensures.items (str_place (str_of c.loop-constraint.whole.tree)) c.in-Err.ensures c.loop-constraint.invariant
