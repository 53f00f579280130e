use Rattle.std.proofs.Common.{◌≡◌, map, reverse, refl, ap, ◌∙◌, sym, arith}
use Rattle.sml_tree.specs.BindingViews.{typ_bind_of}
use Rattle.sml_tree.specs.Heights.{typ_bind_height}
use Rattle.sml_tree.specs.SignatureViews.{typ_desc_of}
use Rattle.sml_tree.specs.TypeViews.{name_of, names_of, ty_of}
use Rattle.sml_phrases.specs.Phrases.{of_typ_binds, of_typ_descs, of_type_rest}
use Rattle.sml_phrases.specs.PhraseViews.{phrase_of, seen}
use Rattle.sml_phrases.specs.declared.phrase.Phrase.TheVariants.{Signatures}
use Rattle.sml_phrases.proofs.Answers.{puts_same}
use Rattle.sml_bare_mods.proofs.Pushes.{highest_pushed, pushed}
use Rattle.sml_bare_mods.specs.SpecificationRules.{type_rest}
use Rattle.sml_bare_mods.proofs.specification_rules.type_rest_of.Goals as goal

pub returns-in_ok-push-in-Signatures-TypeRest : goal.returns-in_ok-push-in-Signatures-TypeRest
returns-in_ok-push-in-Signatures-TypeRest c =
    let it = c.in-Signatures-TypeRest in
    let shape : phrase_of c.args.rest ≡ of_type_rest (ty_of it.ty.tree) (map typ_bind_of (reverse it.binds.trees.items)) = ap phrase_of it.is ∙ ap (λ f. phrase_of (Signatures f)) it.field-0-is in
    puts_same _ _ 0 (seen c.args.stack.now) _ _ c.put.result
    (ap of_typ_binds (pushed typ_bind_of _ _ _ c.in_ok-push-in-Signatures-TypeRest.ensures.items) ∙ ap (type_rest (names_of c.args.variables.items) (name_of c.args.name)) (sym shape))
    refl
    c.put.ensures

pub invariant_of-put : goal.invariant_of-put
invariant_of-put c = record {
  measured = highest_pushed typ_bind_height typ_bind_of _ _ _ _ _ _ c.in_ok-push-in-Signatures-TypeRest.ensures.items c.in-Signatures-TypeRest.binds.measured c.in-Signatures-TypeRest.ty.measured c.max-height.ensures;
  low = omega arith;
}

pub returns-in_ok-push-in-Signatures-TypDescs : goal.returns-in_ok-push-in-Signatures-TypDescs
returns-in_ok-push-in-Signatures-TypDescs c =
    let it = c.in-Signatures-TypDescs in
    let shape : phrase_of c.args.rest ≡ of_typ_descs (map typ_desc_of (reverse it.descs.items)) = ap phrase_of it.is ∙ ap (λ f. phrase_of (Signatures f)) it.field-0-is in
    puts_same _ _ 0 (seen c.args.stack.now) _ _ c.put-in-Signatures-TypDescs.result
    (ap of_typ_descs (pushed typ_desc_of _ _ _ c.in_ok-push-in-Signatures-TypDescs.ensures.items) ∙ ap (type_rest (names_of c.args.variables.items) (name_of c.args.name)) (sym shape))
    refl
    c.put-in-Signatures-TypDescs.ensures
