use Rattle.std.proofs.Common.{◌≡◌, ◌<◌, ◌+◌, ℕ, suc, List, [], ◌∷◌, ◌++◌, length, map, take, get_or, ap, sym, subst, ◌∙◌, arith}
use Rattle.std.proofs.Math.Seq.{take-length}
use Rattle.std.proofs.lemmas.List.{length-map, take_all}
use Rattle.sml_projects.specs.Orders.{unit_text_of}
use Rattle.sml_units.specs.Runs.{specified}
use Rattle.sml_units.specs.Checked.{HaveOwnPlaces}
use Rattle.sml_units.specs.CodeUnits.{AreExported, AreReady}
use Rattle.sml_units.specs.Complete.{AreAllComplete}
use Rattle.sml_units.specs.Counts.{IsCountOf}
use Rattle.sml_units.proofs.Complete.{complete_push, units_more}
use Rattle.sml_units.proofs.Counting.{count_none, count_push}
use Rattle.sml_units.proofs.Replying.{project_sound}
use Rattle.sml_units.proofs.Several.{AreAnswered, flags_after, exported_after, answered_none, answered_push, places_push}
use Rattle.sml_units.proofs.project.check.Goals as goal

pub loop-unit-init : goal.loop-unit-init
loop-unit-init c = (
  (λ own. subst (AreAnswered [] _) (sym c.new-exports.ensures.items) (subst (λ rs. AreAnswered [] rs []) (sym c.new-units.ensures.items) answered_none)),
  count_none,
  subst (AreAllComplete []) (sym c.new-units.ensures.items) tt,
)

pub loop-unit-preserved : goal.loop-unit-preserved
loop-unit-preserved c =
    let xs = c.as_slice-unit-items.result.now in
    let i = c.loop-unit.unit-index in
    let u = c.unit-item.result in
    let v = c.loop-unit.invariant in
    let us = map unit_text_of (take i xs) in
    let t = unit_text_of u in
    let more = units_more xs i u c.loop-unit-test.true c.unit-item.is in (
      (λ own.
          let places = places_push us t (subst HaveOwnPlaces more own) in
          let a = v.0 places.0 in
          let fs = flags_after [] a.sources in
          let Ss = exported_after [] a.answers in
          let ready : AreReady (suc t.place) fs Ss c.deref.result.now = record { kept = subst (AreExported fs Ss) (sym c.deref.ensures.value) a.kept; below = a.below (suc t.place) places.1; opened = a.opened } in
          subst (λ us. AreAnswered us c.push.new.self.items c.push-in-loop-unit.new.self.items) (sym more)
          (subst (λ rs. AreAnswered (us ++ t ∷ []) rs c.push-in-loop-unit.new.self.items) (sym c.in_ok-push.ensures.items)
          (subst (AreAnswered (us ++ t ∷ []) _) (sym c.in_ok-push-2.ensures.items)
          (answered_push us c.loop-unit.units.items c.loop-unit.exports.items t _ _ a c.in_ok-name.ensures.cases (c.in_ok-replies.ensures.replies fs Ss ready))))),
      subst (λ us. IsCountOf us c.saturating_add-readings.result) (sym more)
          (count_push us t _ _ _ v.1 c.in_ok-replies.ensures.count c.saturating_add-readings.ensures),
      subst (λ us. AreAllComplete us c.push.new.self.items) (sym more)
          (subst (AreAllComplete (us ++ t ∷ [])) (sym c.in_ok-push.ensures.items)
          (complete_push us c.loop-unit.units.items t _ v.2 (c.in_ok-name.ensures.cases, c.in_ok-replies.ensures.complete))),
    )

pub returns-clause-replies : goal.returns-clause-replies
returns-clause-replies c = λ own.
    let xs = c.as_slice-unit-items.result.now in
    let units = c.args.project.now.units.items in
    let all : take c.loop-unit.unit-index xs ≡ units = take_all c.loop-unit.unit-index xs c.loop-unit-test.false ∙ c.as_slice-unit-items.ensures.value in
    let a = subst (λ us. (HaveOwnPlaces (map unit_text_of us) → AreAnswered (map unit_text_of us) c.loop-unit.units.items c.loop-unit.exports.items)) all c.loop-unit.invariant.0 own in
    record { sources = a.sources; sources_are = a.sources_are; answers = a.answers; run = a.run; sound = project_sound [] (specified a.sources) a.answers a.run; replies = a.replies }

pub returns-clause-readings : goal.returns-clause-readings
returns-clause-readings c =
    let xs = c.as_slice-unit-items.result.now in
    let units = c.args.project.now.units.items in
    let all : take c.loop-unit.unit-index xs ≡ units = take_all c.loop-unit.unit-index xs c.loop-unit-test.false ∙ c.as_slice-unit-items.ensures.value in
    subst (λ us. IsCountOf (map unit_text_of us) c.loop-unit.readings) all c.loop-unit.invariant.1

pub returns-clause-complete : goal.returns-clause-complete
returns-clause-complete c =
    let xs = c.as_slice-unit-items.result.now in
    let units = c.args.project.now.units in
    let us = map unit_text_of units.items in
    let all : take c.loop-unit.unit-index xs ≡ units.items = take_all c.loop-unit.unit-index xs c.loop-unit-test.false ∙ c.as_slice-unit-items.ensures.value in
    let count : length c.in_ok-vec.field-0.items ≡ length us =
    (let a = c.in_ok-vec.ensures.len in let b = c.in_ok-vec.field-0.ok.0 in let d = c.len.ensures in let e = units.ok.0 in let f = length-map units.items unit_text_of in omega (arith, a, b, d, e, f)) in
    record {
      texts = c.in_ok-sources_of.ensures;
      replies = subst (λ l. AreAllComplete l c.loop-unit.units.items) (sym (ap (λ k. take k us) count ∙ take-length us))
          (subst (λ xs. AreAllComplete (map unit_text_of xs) c.loop-unit.units.items) all c.loop-unit.invariant.2);
    }
