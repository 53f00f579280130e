use Rattle.std.proofs.Common.{◌≡◌, map, reverse, ap, ◌∙◌, sym}
use Rattle.sml_tree.specs.Heights.{fun_bind_height, highest, str_height}
use Rattle.sml_tree.specs.SignatureViews.{sig_of, spec_of, specs_of}
use Rattle.sml_tree.specs.StructureViews.{fun_bind_of, str_of}
use Rattle.sml_tree.specs.TypeViews.{name_of}
use Rattle.sml_phrases.specs.PhraseHeights.{low}
use Rattle.sml_phrases.specs.Phrases.{of_begun_fun_bind, of_begun_functor, at, first}
use Rattle.sml_phrases.specs.PhraseViews.{low_constraint_of, phrase_of, seen}
use Rattle.sml_phrases.specs.declared.low.LowFunBinds.{LowFunBinds}
use Rattle.sml_phrases.specs.declared.low.LowStr.{LowStr}
use Rattle.sml_phrases.specs.declared.phrase.Phrase.TheVariants.{Structures}
use Rattle.sml_phrases.proofs.Answers.{on_ok}
use Rattle.sml_phrases.proofs.Drops.{two_off}
use Rattle.sml_phrases.proofs.Failures.{fails}
use Rattle.sml_bare_mods.proofs.Bindings.{fun_bind_made, fun_bind_within, functor_made, functor_within, gives_same}
use Rattle.sml_bare_mods.specs.StructureRules.{constrained, fun_binds, own_constrained}
use Rattle.sml_phrases.specs.declared.low.LowSig.{LowSig}
use Rattle.sml_bare_mods.proofs.functor_rules.fun_binds.Goals as goal

pub returns-in-Structures-BegunFunBind-clause-made : goal.returns-in-Structures-BegunFunBind-clause-made
returns-in-Structures-BegunFunBind-clause-made c =
    let it = c.in-Structures-BegunFunBind in
    let v = seen c.args.stack.now in
    let own = map low_constraint_of (reverse it.own.items) in
    let opened : of_begun_fun_bind (name_of it.name) (name_of it.argument) (sig_of c.into_inner.result.tree) own (str_of it.body.tree) ≡ first v =
    ap (λ (s : LowSig). of_begun_fun_bind (name_of it.name) (name_of it.argument) (sig_of s.tree) own (str_of it.body.tree)) c.into_inner.ensures
    ∙ ap (λ f. phrase_of (Structures f)) (sym it.field-0-is) ∙ it.ensures.value in
    let popped = c.pop_fun_binds-equations.ensures in
    gives_same (λ (bs : LowFunBinds). map fun_bind_of (reverse bs.trees.items)) (λ bs. low (highest fun_bind_height bs)) _ _ c.and_fun_bind.result
    (fun_bind_made v _ _ _ _ _ _ _ _ _ opened c.pop-first.ensures.rest popped.constraints popped.binds c.in_ok-body-in-Structures-BegunFunBind.ensures)
    c.and_fun_bind.ensures

pub returns-in-Structures-BegunFunBind-clause-rest : goal.returns-in-Structures-BegunFunBind-clause-rest
returns-in-Structures-BegunFunBind-clause-rest c =
    on_ok c.and_fun_bind.result _ (two_off (seen c.args.stack.now) (seen c.pop-first.new.self) _ c.pop-first.ensures.rest c.pop_fun_binds-equations.ensures.rest)

pub returns-in_err-body-in-Structures-BegunFunBind-clause-made : goal.returns-in_err-body-in-Structures-BegunFunBind-clause-made
returns-in_err-body-in-Structures-BegunFunBind-clause-made c =
    let it = c.in-Structures-BegunFunBind in
    let v = seen c.args.stack.now in
    let own = map low_constraint_of (reverse it.own.items) in
    let opened : of_begun_fun_bind (name_of it.name) (name_of it.argument) (sig_of it.signature.value.tree) own (str_of it.body.tree) ≡ first v = ap (λ f. phrase_of (Structures f)) (sym it.field-0-is) ∙ it.ensures.value in
    let popped = c.pop_fun_binds-equations.ensures in
    let failure = c.in_err-body-in-Structures-BegunFunBind in
    fails (λ (e : LowStr). str_of e.tree) str_height (λ (bs : LowFunBinds). map fun_bind_of (reverse bs.trees.items)) (highest fun_bind_height)
    (own_constrained it.name.place own (constrained (str_of it.body.tree) (map low_constraint_of (reverse c.pop_fun_binds-equations.result.1.items)))) (fun_binds (at v 0) (at v 1)) failure.field-0.0 c.from_residual.result failure.ensures c.from_residual.ensures.1
    (fun_bind_within v _ _ _ _ _ _ _ _ opened c.pop-first.ensures.rest popped.constraints popped.binds)

pub returns-in-Structures-BegunFunctor-clause-made : goal.returns-in-Structures-BegunFunctor-clause-made
returns-in-Structures-BegunFunctor-clause-made c =
    let it = c.in-Structures-BegunFunctor in
    let v = seen c.args.stack.now in
    let own = map low_constraint_of (reverse it.own.items) in
    let opened : of_begun_functor (name_of it.name) (specs_of (map spec_of (reverse it.specs.trees.items))) own (str_of it.body.tree) ≡ first v = ap (λ f. phrase_of (Structures f)) (sym it.field-0-is) ∙ it.ensures.value in
    let popped = c.pop_fun_binds-equations.ensures in
    gives_same (λ (bs : LowFunBinds). map fun_bind_of (reverse bs.trees.items)) (λ bs. low (highest fun_bind_height bs)) _ _ c.and_open_functor.result
    (functor_made v _ _ _ _ _ _ _ _ opened c.pop-first.ensures.rest popped.constraints popped.binds c.in_ok-body-in-Structures-BegunFunctor.ensures)
    c.and_open_functor.ensures

pub returns-in-Structures-BegunFunctor-clause-rest : goal.returns-in-Structures-BegunFunctor-clause-rest
returns-in-Structures-BegunFunctor-clause-rest c =
    on_ok c.and_open_functor.result _ (two_off (seen c.args.stack.now) (seen c.pop-first.new.self) _ c.pop-first.ensures.rest c.pop_fun_binds-equations.ensures.rest)

pub returns-in_err-body-in-Structures-BegunFunctor-clause-made : goal.returns-in_err-body-in-Structures-BegunFunctor-clause-made
returns-in_err-body-in-Structures-BegunFunctor-clause-made c =
    let it = c.in-Structures-BegunFunctor in
    let v = seen c.args.stack.now in
    let own = map low_constraint_of (reverse it.own.items) in
    let opened : of_begun_functor (name_of it.name) (specs_of (map spec_of (reverse it.specs.trees.items))) own (str_of it.body.tree) ≡ first v = ap (λ f. phrase_of (Structures f)) (sym it.field-0-is) ∙ it.ensures.value in
    let popped = c.pop_fun_binds-equations.ensures in
    let failure = c.in_err-body-in-Structures-BegunFunctor in
    fails (λ (e : LowStr). str_of e.tree) str_height (λ (bs : LowFunBinds). map fun_bind_of (reverse bs.trees.items)) (highest fun_bind_height)
    (own_constrained it.name.place own (constrained (str_of it.body.tree) (map low_constraint_of (reverse c.pop_fun_binds-equations.result.1.items)))) (fun_binds (at v 0) (at v 1)) failure.field-0.0 c.from_residual-in_err-body-in-Structures-BegunFunctor.result failure.ensures c.from_residual-in_err-body-in-Structures-BegunFunctor.ensures.1
    (functor_within v _ _ _ _ _ _ _ opened c.pop-first.ensures.rest popped.constraints popped.binds)

pub returns-in_err-body-in-Structures-BegunFunBind-clause-rest : goal.returns-in_err-body-in-Structures-BegunFunBind-clause-rest
returns-in_err-body-in-Structures-BegunFunBind-clause-rest c =
    on_ok c.from_residual.result _ (two_off (seen c.args.stack.now) (seen c.pop-first.new.self) _ c.pop-first.ensures.rest c.pop_fun_binds-equations.ensures.rest)

pub returns-in_err-body-in-Structures-BegunFunctor-clause-rest : goal.returns-in_err-body-in-Structures-BegunFunctor-clause-rest
returns-in_err-body-in-Structures-BegunFunctor-clause-rest c =
    on_ok c.from_residual-in_err-body-in-Structures-BegunFunctor.result _ (two_off (seen c.args.stack.now) (seen c.pop-first.new.self) _ c.pop-first.ensures.rest c.pop_fun_binds-equations.ensures.rest)
