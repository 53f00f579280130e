use Rattle.std.proofs.Common.{◌≡◌, ◌∷◌, [], ◌++◌, List, ℕ, map, take, ap, sym, ◌∙◌}
use Rattle.std.proofs.lemmas.List.{map-append}
use Rattle.sml_projects.specs.Orders.{UnitText, unit_text_of}
use Rattle.sml_units.specs.declared.project.Source.{Source}
use Rattle.sml_units.specs.Complete.{texts_of}
use Rattle.sml_units.proofs.Complete.{units_more}
use Rattle.sml_units.proofs.project.sources_of.Goals as goal

pub loop-unit-preserved : goal.loop-unit-preserved
loop-unit-preserved c =
    let xs = c.as_slice-unit-items.result.now in
    let i = c.loop-unit.unit-index in
    let u = c.unit-item.result in
    let text : UnitText → List ℕ = λ u. u.text in
    let same = c.in_ok-from_slice.ensures.items ∙ c.as_slice.ensures.value in
    ap texts_of c.in_ok-push.ensures.items
    ∙ map-append (λ (s : Source). s.text.items) c.loop-unit.sources.items (_ ∷ [])
    ∙ (λ j. c.loop-unit.invariant j ++ same j ∷ [])
    ∙ sym (ap (map text) (units_more xs i u c.loop-unit-test.true c.unit-item.is) ∙ map-append text (map unit_text_of (take i xs)) (unit_text_of u ∷ []))
