use Rattle.std.proofs.Common.{◌≡◌, map, reverse, refl, ap, ◌∙◌, sym}
use Rattle.sml_tree.specs.StructureViews.{str_dec_of, str_decs_of}
use Rattle.sml_tree.specs.TypeViews.{name_of}
use Rattle.sml_derived.specs.Derived.{functor_apply_decs}
use Rattle.sml_phrases.specs.Phrases.{of_str, of_str_decs}
use Rattle.sml_phrases.specs.PhraseViews.{phrase_of, seen}
use Rattle.sml_phrases.specs.declared.phrase.Phrase.TheVariants.{Structures}
use Rattle.sml_phrases.proofs.Answers.{puts_same}
use Rattle.sml_bare_mods.proofs.Applications.{decs_applied, decs_fail}
use Rattle.sml_bare_mods.specs.StructureRules.{applied}
use Rattle.sml_bare_mods.proofs.structure_rules.applied_of.Goals as goal

pub returns-in_err-height-in-Structures-StrDecs : goal.returns-in_err-height-in-Structures-StrDecs
returns-in_err-height-in-Structures-StrDecs c =
    let it = c.in-Structures-StrDecs in
    let shape : phrase_of c.args.argument ≡ of_str_decs (str_decs_of (map str_dec_of (reverse it.decs.trees.items))) = ap phrase_of it.is ∙ ap (λ f. phrase_of (Structures f)) it.field-0-is in
    let failure = c.in_err-height-in-Structures-StrDecs in
    let back = c.from_residual-in_err-height-in-Structures-StrDecs in
    decs_fail (name_of c.args.name) _ _ it.decs.height 0 (seen c.args.stack.now) (seen c.args.stack.now) failure.field-0.0 back.result shape it.decs.measured failure.ensures.sum back.ensures.1

pub invariant_of-put_str-in-Structures-StrDecs : goal.invariant_of-put_str-in-Structures-StrDecs
invariant_of-put_str-in-Structures-StrDecs c =
    let f = name_of c.args.name in
    record {
      measured = decs_applied f _ _ _ _ (c.in_ok-tree-in-Structures-StrDecs.ensures ∙ ap (λ ds. functor_apply_decs f (str_decs_of (map str_dec_of ds))) c.reverse.ensures.items) c.in-Structures-StrDecs.decs.measured c.in_ok-height-in-Structures-StrDecs.ensures.sum;
      low = c.in_ok-height-in-Structures-StrDecs.ensures.within;
    }

pub returns-in_ok-tree-in-Structures-StrDecs : goal.returns-in_ok-tree-in-Structures-StrDecs
returns-in_ok-tree-in-Structures-StrDecs c =
    let f = name_of c.args.name in
    let it = c.in-Structures-StrDecs in
    let shape : phrase_of c.args.argument ≡ of_str_decs (str_decs_of (map str_dec_of (reverse it.decs.trees.items))) = ap phrase_of it.is ∙ ap (λ f. phrase_of (Structures f)) it.field-0-is in
    puts_same _ _ 0 (seen c.args.stack.now) _ _ c.put_str-in-Structures-StrDecs.result
    (ap of_str (c.in_ok-tree-in-Structures-StrDecs.ensures ∙ ap (λ ds. functor_apply_decs f (str_decs_of (map str_dec_of ds))) c.reverse.ensures.items ∙ ap (applied f) (sym shape)))
    refl
    c.put_str-in-Structures-StrDecs.ensures
