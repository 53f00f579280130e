use Rattle.std.proofs.Common.{◌++◌, ◌∷◌, [], ap, map, sym, ◌∙◌, take}
use Rattle.std.proofs.lemmas.Grind.{take_at_read}
use Rattle.sml_core_rules.specs.Datatypes.{is_equality}
use Rattle.sml_tree.specs.TypeViews.{names_of}
use Rattle.sml_types.proofs.Losing.{equality-push}
use Rattle.sml_types.proofs.datatypes.equality_of.Goals as goal

pub loop-variable-preserved : goal.loop-variable-preserved
loop-variable-preserved c =
    let xs = c.args.variables.now in
    let x = c.variable-item.result in
    let i = c.loop-variable.variable-index in
    let taken = (take_at_read xs i x c.loop-variable-test.true).1 ∙ ap (λ y. take i xs ++ (y ∷ [])) (sym c.variable-item.is) in
    c.in_ok-push.ensures.items
    ∙ (λ j. c.loop-variable.invariant j ++ (c.is_equality_variable.ensures j ∷ []))
    ∙ sym (equality-push (take i xs) x)
    ∙ ap (λ l. map (λ x. is_equality x.id) (names_of l)) (sym taken)
