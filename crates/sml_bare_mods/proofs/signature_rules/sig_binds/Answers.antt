use Rattle.std.proofs.Common.{◌≡◌, map, reverse, ap, ◌∙◌, sym, arith}
use Rattle.sml_tree.specs.Heights.{highest, sig_bind_height, sig_height}
use Rattle.sml_tree.specs.SignatureViews.{sig_of}
use Rattle.sml_tree.specs.StructureViews.{sig_bind_of}
use Rattle.sml_tree.specs.TypeViews.{name_of}
use Rattle.sml_phrases.specs.Phrases.{of_begun_sig_bind, at, first}
use Rattle.sml_phrases.specs.PhraseViews.{low_where_of, phrase_of, seen}
use Rattle.sml_phrases.specs.declared.low.LowSig.{LowSig}
use Rattle.sml_phrases.specs.declared.low.LowSigBinds.{LowSigBinds}
use Rattle.sml_phrases.specs.declared.phrase.Phrase.TheVariants.{Signatures}
use Rattle.sml_phrases.proofs.Failures.{fails}
use Rattle.sml_bare_mods.proofs.Bindings.{sig_bind_made, sig_bind_within}
use Rattle.sml_bare_mods.proofs.Pushes.{highest_pushed, pushed}
use Rattle.sml_bare_mods.proofs.Refused.{none_given}
use Rattle.sml_bare_mods.specs.SignatureRules.{sig_binds, with_wheres}
use Rattle.sml_bare_mods.proofs.signature_rules.sig_binds.Goals as goal

pub returns-in_ok-push-in-Signatures-BegunSigBind-clause-made : goal.returns-in_ok-push-in-Signatures-BegunSigBind-clause-made
returns-in_ok-push-in-Signatures-BegunSigBind-clause-made c =
    let it = c.in-Signatures-BegunSigBind in
    let v = seen c.args.stack.now in
    let opened : of_begun_sig_bind (name_of it.name) (sig_of it.signature.tree) ≡ first v = ap (λ f. phrase_of (Signatures f)) (sym it.field-0-is) ∙ it.ensures.value in
    let popped = c.pop_sig_binds-equations.ensures in
    pushed sig_bind_of _ _ _ c.in_ok-push-in-Signatures-BegunSigBind.ensures.items
    ∙ sig_bind_made v _ _ _ _ _ _ opened c.pop-first.ensures.rest popped.wheres popped.binds c.in_ok-signature-in-Signatures-BegunSigBind.ensures

pub returns-in_err-signature-in-Signatures-BegunSigBind-clause-made : goal.returns-in_err-signature-in-Signatures-BegunSigBind-clause-made
returns-in_err-signature-in-Signatures-BegunSigBind-clause-made c =
    let it = c.in-Signatures-BegunSigBind in
    let v = seen c.args.stack.now in
    let opened : of_begun_sig_bind (name_of it.name) (sig_of it.signature.tree) ≡ first v = ap (λ f. phrase_of (Signatures f)) (sym it.field-0-is) ∙ it.ensures.value in
    let popped = c.pop_sig_binds-equations.ensures in
    let failure = c.in_err-signature-in-Signatures-BegunSigBind in
    fails (λ (s : LowSig). sig_of s.tree) sig_height (λ (bs : LowSigBinds). map sig_bind_of (reverse bs.trees.items)) (highest sig_bind_height)
    (with_wheres (sig_of it.signature.tree) (map low_where_of (reverse c.pop_sig_binds-equations.result.0.items))) (sig_binds (at v 0) (at v 1)) failure.field-0.0 c.from_residual.result failure.ensures c.from_residual.ensures.1
    (sig_bind_within v _ _ _ _ _ opened c.pop-first.ensures.rest popped.wheres popped.binds)

pub returns-in_err-signature-in-Signatures-BegunSigBind-clause-rest : goal.returns-in_err-signature-in-Signatures-BegunSigBind-clause-rest
returns-in_err-signature-in-Signatures-BegunSigBind-clause-rest c = none_given _ _ c.from_residual.ensures.0

pub returns-in_err-push-in-Signatures-BegunSigBind-clause-rest : goal.returns-in_err-push-in-Signatures-BegunSigBind-clause-rest
returns-in_err-push-in-Signatures-BegunSigBind-clause-rest c = none_given _ _ c.from_residual-in_err-push-in-Signatures-BegunSigBind.ensures.0

pub invariant_of-result : goal.invariant_of-result
invariant_of-result c = record {
  measured = highest_pushed sig_bind_height sig_bind_of _ _ _ _ _ _ c.in_ok-push-in-Signatures-BegunSigBind.ensures.items c.pop_sig_binds-equations.result.1.measured c.in_ok-signature-in-Signatures-BegunSigBind.signature.measured c.max.ensures;
  low = omega arith;
}
