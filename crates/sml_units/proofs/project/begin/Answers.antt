use Rattle.std.proofs.Common.{IfOk, map, true, refl, sym, subst, ◌∙◌}
use Rattle.sml_units.specs.Checked.{AreNumbered}
use Rattle.sml_tree.specs.Views.{dec_of}
use Rattle.sml_objects.specs.Initial.{initial_basis}
use Rattle.sml_objects.specs.Views.{maker_of}
use Rattle.sml_rules.specs.Every.{Every}
use Rattle.sml_piece.specs.Elaborated.{IsBelow}
use Rattle.sml_units.specs.CodeUnits.{IsBegun, NeedsGive}
use Rattle.sml_units.specs.Runs.{start, all_names}
use Rattle.sml_units.proofs.Replying.{start_is, none_begun}
use Rattle.sml_units.proofs.project.begin.Goals as goal

pub returns-in-Some-clause-begun : goal.returns-in-Some-clause-begun
returns-in-Some-clause-begun c = λ fs Ss ready.
    let p = c.in-Some.basis in
    let ks = c.args.needs.now in
    let ds = map dec_of c.args.declarations.now in
    let B = start initial_basis Ss ks in
    let given = subst (NeedsGive fs Ss ks c.in_ok-basis.basis.unit) c.in-Some.is (c.in_ok-basis-2.ensures fs Ss ready.kept c.in_ok-basis.ensures.env c.in_ok-basis.ensures.names) in
    let unit = given.3 ∙ c.in_ok-basis.ensures.unit in
    subst (λ b. IfOk c.answer_piece.result (IsBegun (maker_of c.args.id) b B ds)) (sym given.0)
    (subst (λ u. IfOk c.answer_piece.result (IsBegun (maker_of u) true B ds)) unit
    (c.answer_piece.ensures.begun B (start_is p Ss ks given.1 given.2 (subst (λ u. Every (IsBelow (maker_of u) 0) (all_names Ss)) (sym unit) ready.below) ready.opened)))

pub returns-in-None-clause-begun : goal.returns-in-None-clause-begun
returns-in-None-clause-begun c = λ fs Ss ready.
    let given = subst (NeedsGive fs Ss c.args.needs.now c.in_ok-basis.basis.unit) c.in-None.is (c.in_ok-basis-2.ensures fs Ss ready.kept c.in_ok-basis.ensures.env c.in_ok-basis.ensures.names) in
    none_begun _ _ _ _ _ given c.new.ensures.items c.empty.ensures refl

pub returns-in-None-clause-numbered : goal.returns-in-None-clause-numbered
returns-in-None-clause-numbered c = subst (AreNumbered 1) (sym c.new.ensures.items) tt
