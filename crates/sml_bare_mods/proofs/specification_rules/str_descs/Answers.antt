use Rattle.std.proofs.Common.{◌≡◌, map, reverse, ap, ◌∙◌, sym, arith}
use Rattle.sml_tree.specs.Heights.{sig_height, str_descs_height}
use Rattle.sml_tree.specs.SignatureViews.{sig_of, str_desc_of, str_descs_of}
use Rattle.sml_tree.specs.TypeViews.{name_of}
use Rattle.sml_phrases.specs.Phrases.{of_begun_str_desc, at, first}
use Rattle.sml_phrases.specs.PhraseViews.{low_where_of, phrase_of, seen}
use Rattle.sml_phrases.specs.declared.low.LowSig.{LowSig}
use Rattle.sml_phrases.specs.declared.low.LowStrDescs.{LowStrDescs}
use Rattle.sml_phrases.specs.declared.phrase.Phrase.TheVariants.{Signatures}
use Rattle.sml_phrases.proofs.Failures.{fails}
use Rattle.sml_bare_mods.proofs.Descriptions.{desc_made, desc_measured, desc_pushed, desc_within}
use Rattle.sml_bare_mods.proofs.Refused.{none_given}
use Rattle.sml_bare_mods.specs.SignatureRules.{with_wheres}
use Rattle.sml_bare_mods.specs.SpecificationRules.{str_descs}
use Rattle.sml_bare_mods.proofs.specification_rules.str_descs.Goals as goal

pub returns-in_ok-push-in-Signatures-BegunStrDesc-clause-made : goal.returns-in_ok-push-in-Signatures-BegunStrDesc-clause-made
returns-in_ok-push-in-Signatures-BegunStrDesc-clause-made c =
    let it = c.in-Signatures-BegunStrDesc in
    let v = seen c.args.stack.now in
    let opened : of_begun_str_desc (name_of it.name) (sig_of it.signature.tree) ≡ first v = ap (λ f. phrase_of (Signatures f)) (sym it.field-0-is) ∙ it.ensures.value in
    let popped = c.pop_str_descs-equations.ensures in
    desc_pushed _ _ it.name c.in_ok-signature-in-Signatures-BegunStrDesc.signature.tree c.in_ok-push-in-Signatures-BegunStrDesc.ensures.items
    ∙ desc_made v _ _ _ _ _ _ opened c.pop-first.ensures.rest popped.wheres popped.descs c.in_ok-signature-in-Signatures-BegunStrDesc.ensures

pub returns-in_err-signature-in-Signatures-BegunStrDesc-clause-made : goal.returns-in_err-signature-in-Signatures-BegunStrDesc-clause-made
returns-in_err-signature-in-Signatures-BegunStrDesc-clause-made c =
    let it = c.in-Signatures-BegunStrDesc in
    let v = seen c.args.stack.now in
    let opened : of_begun_str_desc (name_of it.name) (sig_of it.signature.tree) ≡ first v = ap (λ f. phrase_of (Signatures f)) (sym it.field-0-is) ∙ it.ensures.value in
    let popped = c.pop_str_descs-equations.ensures in
    let failure = c.in_err-signature-in-Signatures-BegunStrDesc in
    fails (λ (s : LowSig). sig_of s.tree) sig_height (λ (ds : LowStrDescs). str_descs_of (map str_desc_of (reverse ds.trees.items))) str_descs_height
    (with_wheres (sig_of it.signature.tree) (map low_where_of (reverse c.pop_str_descs-equations.result.0.items))) (str_descs (at v 0) (at v 1)) failure.field-0.0 c.from_residual.result failure.ensures c.from_residual.ensures.1
    (desc_within v _ _ _ _ _ opened c.pop-first.ensures.rest popped.wheres popped.descs)

pub invariant_of-result : goal.invariant_of-result
invariant_of-result c = record {
  measured = desc_measured _ _ c.in-Signatures-BegunStrDesc.name c.in_ok-signature-in-Signatures-BegunStrDesc.signature.tree _ _ _ c.in_ok-push-in-Signatures-BegunStrDesc.ensures.items c.pop_str_descs-equations.result.1.measured c.in_ok-signature-in-Signatures-BegunStrDesc.signature.measured c.max.ensures;
  low = omega arith;
}

pub returns-in_err-signature-in-Signatures-BegunStrDesc-clause-rest : goal.returns-in_err-signature-in-Signatures-BegunStrDesc-clause-rest
returns-in_err-signature-in-Signatures-BegunStrDesc-clause-rest c = none_given _ _ c.from_residual.ensures.0

pub returns-in_err-push-in-Signatures-BegunStrDesc-clause-rest : goal.returns-in_err-push-in-Signatures-BegunStrDesc-clause-rest
returns-in_err-push-in-Signatures-BegunStrDesc-clause-rest c = none_given _ _ c.from_residual-in_err-push-in-Signatures-BegunStrDesc.ensures.0
