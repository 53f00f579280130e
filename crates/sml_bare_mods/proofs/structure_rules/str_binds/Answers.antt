use Rattle.std.proofs.Common.{◌≡◌, map, reverse, ap, ◌∙◌, sym, arith}
use Rattle.sml_tree.specs.Heights.{str_binds_height, str_height}
use Rattle.sml_tree.specs.StructureViews.{str_bind_of, str_binds_of, str_of}
use Rattle.sml_tree.specs.TypeViews.{name_of}
use Rattle.sml_phrases.specs.Phrases.{of_begun_str_bind, at, first}
use Rattle.sml_phrases.specs.PhraseViews.{low_constraint_of, phrase_of, seen}
use Rattle.sml_phrases.specs.declared.low.LowStr.{LowStr}
use Rattle.sml_phrases.specs.declared.low.LowStrBinds.{LowStrBinds}
use Rattle.sml_phrases.specs.declared.phrase.Phrase.TheVariants.{Structures}
use Rattle.sml_phrases.proofs.Failures.{fails}
use Rattle.sml_bare_mods.proofs.Bindings.{str_bind_made, str_bind_measured, str_bind_pushed, str_bind_within}
use Rattle.sml_bare_mods.proofs.Refused.{none_given}
use Rattle.sml_bare_mods.specs.StructureRules.{constrained, own_constrained, str_binds}
use Rattle.sml_bare_mods.proofs.structure_rules.str_binds.Goals as goal

pub returns-in-Structures-BegunStrBind-clause-made : goal.returns-in-Structures-BegunStrBind-clause-made
returns-in-Structures-BegunStrBind-clause-made c =
    let it = c.in-Structures-BegunStrBind in
    let v = seen c.args.stack.now in
    let own = map low_constraint_of (reverse it.own.items) in
    let opened : of_begun_str_bind (name_of it.name) own (str_of it.body.tree) ≡ first v = ap (λ f. phrase_of (Structures f)) (sym it.field-0-is) ∙ it.ensures.value in
    let popped = c.pop_str_binds-equations.ensures in
    str_bind_pushed _ _ it.name c.in_ok-body-in-Structures-BegunStrBind.body.tree c.in_ok-push-in-Structures-BegunStrBind.ensures.items
    ∙ str_bind_made v _ _ _ _ _ _ _ opened c.pop-first.ensures.rest popped.constraints popped.binds c.in_ok-body-in-Structures-BegunStrBind.ensures

pub returns-in_err-body-in-Structures-BegunStrBind-clause-made : goal.returns-in_err-body-in-Structures-BegunStrBind-clause-made
returns-in_err-body-in-Structures-BegunStrBind-clause-made c =
    let it = c.in-Structures-BegunStrBind in
    let v = seen c.args.stack.now in
    let own = map low_constraint_of (reverse it.own.items) in
    let opened : of_begun_str_bind (name_of it.name) own (str_of it.body.tree) ≡ first v = ap (λ f. phrase_of (Structures f)) (sym it.field-0-is) ∙ it.ensures.value in
    let popped = c.pop_str_binds-equations.ensures in
    let failure = c.in_err-body-in-Structures-BegunStrBind in
    fails (λ (e : LowStr). str_of e.tree) str_height (λ (bs : LowStrBinds). str_binds_of (map str_bind_of (reverse bs.trees.items))) str_binds_height
    (own_constrained it.name.place own (constrained (str_of it.body.tree) (map low_constraint_of (reverse c.pop_str_binds-equations.result.1.items)))) (str_binds (at v 0) (at v 1)) failure.field-0.0 c.from_residual.result failure.ensures c.from_residual.ensures.1
    (str_bind_within v _ _ _ _ _ _ opened c.pop-first.ensures.rest popped.constraints popped.binds)

pub invariant_of-result : goal.invariant_of-result
invariant_of-result c = record {
  measured = str_bind_measured _ _ c.in-Structures-BegunStrBind.name c.in_ok-body-in-Structures-BegunStrBind.body.tree _ _ _ c.in_ok-push-in-Structures-BegunStrBind.ensures.items c.pop_str_binds-equations.result.2.measured c.in_ok-body-in-Structures-BegunStrBind.body.measured c.max.ensures;
  low = omega arith;
}

pub returns-in_err-body-in-Structures-BegunStrBind-clause-rest : goal.returns-in_err-body-in-Structures-BegunStrBind-clause-rest
returns-in_err-body-in-Structures-BegunStrBind-clause-rest c = none_given _ _ c.from_residual.ensures.0

pub returns-in_err-push-in-Structures-BegunStrBind-clause-rest : goal.returns-in_err-push-in-Structures-BegunStrBind-clause-rest
returns-in_err-push-in-Structures-BegunStrBind-clause-rest c = none_given _ _ c.from_residual-in_err-push-in-Structures-BegunStrBind.ensures.0
