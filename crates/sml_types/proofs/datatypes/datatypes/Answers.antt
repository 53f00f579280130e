use Rattle.std.proofs.Common.{◌≡◌, map, ap, sym, subst, ◌∙◌, length}
use Rattle.std.specs.Option.{option_copied}
use Rattle.sml_tree.specs.BindingViews.{dat_bind_of}
use Rattle.sml_objects.specs.Views.{maker_of}
use Rattle.sml_core_rules.specs.Datatypes.{arguments_of}
use Rattle.sml_types.specs.DatatypeAnswers.{DatatypesAnswer, first_place}
use Rattle.sml_types.specs.Datatypes.{names_from}
use Rattle.sml_types.proofs.GivenDatatypes.{first-none, first-some}
use Rattle.sml_types.proofs.InnerScopes.{binds-stay}
use Rattle.sml_types.proofs.datatypes.datatypes.Goals as goal
use Rattle.sml_types.proofs.datatypes.datatypes.Goals.{in-Some, in-None}

pub returns : goal.returns
returns c = λ C tells list.
    let ds = c.args.binds.now in
    let place : c.match-first.place ≡ first_place ds = elim c.match-first.branch [
      | in-Some w ↦ w.place-is ∙ sym (first-some ds w.in-Some.bind.now (sym (ap option_copied w.in-Some.is) ∙ c.first.ensures.value))
      | in-None w ↦ w.place-is ∙ sym (first-none ds (sym (ap option_copied w.in-None.is) ∙ c.first.ensures.value))
    ] in
    let unit = c.new-new.ensures.unit in
    let next = c.new-new.ensures.next in
    subst (λ (A : Type 0). A)
    (λ i. DatatypesAnswer c.datatypes_with.result (place i) (record { unit = unit i; first = next i; count = length ds }) ds (names_from (maker_of (unit i)) (next i) (map dat_bind_of ds))
    (arguments_of C (binds-stay (map dat_bind_of ds) i) (names_from (maker_of (unit i)) (next i) (map dat_bind_of ds))))
    (c.datatypes_with.ensures.answer C tells tt list tt)
