use Rattle.std.proofs.Common.{◌≡◌, length, map, ap, sym, subst, ◌∙◌}
use Rattle.std.specs.Option.{option_map}
use Rattle.std.proofs.lemmas.List.{length-map}
use Rattle.sml_lex.specs.Faults.{fault_of}
use Rattle.sml_lex.specs.Pieces.{Spells}
use Rattle.sml_tree.specs.Views.{dec_of}
use Rattle.sml_tree.specs.StructureViews.{top_of}
use Rattle.sml_parse.specs.Trees.{AreTrees}
use Rattle.sml_objects.specs.Views.{maker_of}
use Rattle.sml_projects.specs.Orders.{unit_text_of}
use Rattle.sml_units.specs.Checked.{AreSpelt}
use Rattle.sml_units.specs.CodeUnits.{AreBegunAndEnded}
use Rattle.sml_units.specs.Complete.{AreTo}
use Rattle.sml_units.proofs.Replying.{if_ok, answered_unit}
use Rattle.sml_units.proofs.project.check_unit.Goals as goal

pub returns-clause-replies : goal.returns-clause-replies
returns-clause-replies c = λ fs Ss ready.
    let u = unit_text_of c.args.unit.now in
    let l = c.in_ok-lexed.lexed in
    let p = c.in_ok-declarations.field-0 in
    let tops = map top_of p.declarations.items in
    let ds = map dec_of p.piece.items in
    let last = option_map fault_of p.fault in
    let trees = subst (λ bytes. AreTrees bytes l.tokens.items l.end tops ds last) (c.in_ok-lexed.ensures.0 ∙ c.deref.ensures.value) c.in_ok-declarations.ensures in
    let spelt : AreSpelt u.text ds last = record { tokens = l.tokens.items; end = l.end; tokens_spelt = subst (λ bytes. Spells bytes l.tokens.items l.end) c.deref.ensures.value c.in_ok-lexed.ensures.1; tops = tops; trees = trees } in
    let n = length c.deref-2.result.now in
    let all : n ≡ length tops = ap length c.deref-2.ensures.value ∙ sym (length-map p.declarations.items top_of) in
    if_ok _ _ c.answer_unit-answer.result
    (λ r h. answered_unit fs Ss u ds last spelt n all r.0.items r.1 (subst (λ xs. AreBegunAndEnded (maker_of c.args.unit.now.id) fs Ss u.needs (map dec_of xs) n last r.0.items r.1) c.deref-3.ensures.value h))
    (c.answer_unit-answer.ensures.replies fs Ss ready)

pub returns-clause-count : goal.returns-clause-count
returns-clause-count c =
    let u = unit_text_of c.args.unit.now in
    let l = c.in_ok-lexed.lexed in
    let p = c.in_ok-declarations.field-0 in
    let tops = map top_of p.declarations.items in
    let ds = map dec_of p.piece.items in
    let last = option_map fault_of p.fault in
    let trees = subst (λ bytes. AreTrees bytes l.tokens.items l.end tops ds last) (c.in_ok-lexed.ensures.0 ∙ c.deref.ensures.value) c.in_ok-declarations.ensures in
    let spelt : AreSpelt u.text ds last = record { tokens = l.tokens.items; end = l.end; tokens_spelt = subst (λ bytes. Spells bytes l.tokens.items l.end) c.deref.ensures.value c.in_ok-lexed.ensures.1; tops = tops; trees = trees } in
    if_ok _ _ c.answer_unit-answer.result
    (λ r h. record { declarations = ds; last = last; spelt = spelt; number = h ∙ ap length c.deref-2.ensures.value ∙ sym (length-map p.declarations.items top_of) })
    c.answer_unit-answer.ensures.count

pub returns-clause-complete : goal.returns-clause-complete
returns-clause-complete c =
    let u = unit_text_of c.args.unit.now in
    let l = c.in_ok-lexed.lexed in
    let p = c.in_ok-declarations.field-0 in
    let tops = map top_of p.declarations.items in
    let ds = map dec_of p.piece.items in
    let last = option_map fault_of p.fault in
    let trees = subst (λ bytes. AreTrees bytes l.tokens.items l.end tops ds last) (c.in_ok-lexed.ensures.0 ∙ c.deref.ensures.value) c.in_ok-declarations.ensures in
    let spelt : AreSpelt u.text ds last = record { tokens = l.tokens.items; end = l.end; tokens_spelt = subst (λ bytes. Spells bytes l.tokens.items l.end) c.deref.ensures.value c.in_ok-lexed.ensures.1; tops = tops; trees = trees } in
    if_ok _ _ c.answer_unit-answer.result
    (λ r h. record {
      declarations = ds;
      last = last;
      spelt = spelt;
      replies = subst (λ n. AreTo n last r.0.items) (ap length c.deref-2.ensures.value ∙ sym (length-map p.declarations.items top_of)) h;
    })
    c.answer_unit-answer.ensures.complete
