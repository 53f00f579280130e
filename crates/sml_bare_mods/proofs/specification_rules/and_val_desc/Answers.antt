use Rattle.std.proofs.Common.{◌∷◌, map, reverse, ap, ◌∙◌, arith}
use Rattle.sml_tree.specs.Heights.{val_desc_height}
use Rattle.sml_tree.specs.SignatureViews.{val_desc_of}
use Rattle.sml_phrases.specs.Phrases.{at, first, val_desc_in, val_descs_in}
use Rattle.sml_phrases.specs.PhraseViews.{seen}
use Rattle.sml_bare_mods.proofs.Pushes.{highest_pushed, pushed}
use Rattle.sml_bare_mods.proofs.Refused.{none_given}
use Rattle.sml_bare_mods.proofs.specification_rules.and_val_desc.Goals as goal

pub returns-clause-made : goal.returns-clause-made
returns-clause-made c =
    let v = seen c.args.stack.now in
    pushed val_desc_of _ _ _ c.in_ok-push.ensures.items
    ∙ ap (λ d. d ∷ map val_desc_of (reverse c.val_descs-trees.result.trees.items)) c.in_ok-name.ensures.value
    ∙ ap (λ ds. val_desc_in (at v 0) ∷ ds) (c.val_descs-trees.ensures.value ∙ ap (λ l. val_descs_in (first l)) c.in_ok-name.ensures.rest)

pub invariant_of-result : goal.invariant_of-result
invariant_of-result c = record {
  measured = highest_pushed val_desc_height val_desc_of _ _ _ _ _ _ c.in_ok-push.ensures.items c.val_descs-trees.result.measured c.in_ok-name.ty.measured c.max.ensures;
  low = omega arith;
}

pub returns-in_err-name-clause-rest : goal.returns-in_err-name-clause-rest
returns-in_err-name-clause-rest c = none_given _ _ c.from_residual.ensures.0

pub returns-in_err-push-clause-rest : goal.returns-in_err-push-clause-rest
returns-in_err-push-clause-rest c = none_given _ _ c.from_residual-in_err-push.ensures.0
