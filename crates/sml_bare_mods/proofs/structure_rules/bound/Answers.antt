use Rattle.std.proofs.Common.{map, reverse}
use Rattle.sml_tree.specs.Heights.{str_height}
use Rattle.sml_tree.specs.StructureViews.{str_of}
use Rattle.sml_phrases.specs.PhraseViews.{low_constraint_of}
use Rattle.sml_phrases.specs.declared.low.LowStr.{LowStr}
use Rattle.sml_phrases.proofs.Failures.{fails}
use Rattle.sml_bare_mods.proofs.Bindings.{own_grows}
use Rattle.sml_bare_mods.specs.StructureRules.{constrained, own_constrained}
use Rattle.sml_bare_mods.proofs.structure_rules.bound.Goals as goal

pub returns-in_err-body : goal.returns-in_err-body
returns-in_err-body c =
    let own = map low_constraint_of (reverse c.args.own.items) in
    let body = constrained (str_of c.args.body.tree) (map low_constraint_of (reverse c.args.constraints.items)) in
    fails (λ (e : LowStr). str_of e.tree) str_height (λ (e : LowStr). str_of e.tree) str_height body (own_constrained c.args.place own body) c.in_err-body.field-0.0 c.from_residual.result c.in_err-body.ensures c.from_residual.ensures.1 (own_grows c.args.place own body)
