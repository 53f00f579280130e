use Rattle.std.proofs.Common.{◌≡◌, ◌<◌, ◌≤◌, ◌+◌, length, map, get_or, ap, sym, subst, ◌∙◌, arith}
use Rattle.std.proofs.lemmas.List.{get_or-map, length-map}
use Rattle.sml_projects.specs.Orders.{unit_text_of}
use Rattle.sml_units.specs.declared.recheck.Rechecking.{Rechecking}
use Rattle.sml_units.specs.Complete.{IsMadeOf}
use Rattle.sml_units.proofs.Complete.{one_more}
use Rattle.sml_units.proofs.recheck.Rechecking.go_on.Goals as goal
use Rattle.sml_units.proofs.recheck.Rechecking.go_on.Goals.{in-Some+in_ok-take, in_default}

pub loop-place-preserved : goal.loop-place-preserved
loop-place-preserved c =
    let xs = c.args.project.now.units.items in
    let us = map unit_text_of xs in
    let p = c.loop-place.place in
    let v = c.loop-place.invariant in
    let below = c.loop-place-test.true in
    let old = c.loop-place.self.checked in
    elim c.match-get.branch [
      | in-Some+in_ok-take w ↦
          let u = w.in-Some.unit.now in
          let less : p < length xs = subst (λ l. p < length l) c.deref.ensures.value w.in-Some.ensures.lookup.3.0 in
          let is : u ≡ get_or xs p u = subst (λ l. u ≡ get_or l p u) c.deref.ensures.value w.in-Some.ensures.lookup.1 in
          let many : length old.kept.items ≡ p = v.0 (omega (arith, less)) in
          let done = w.in_ok-take.ensures.done in
          let here : unit_text_of u ≡ get_or us p (unit_text_of u) = ap unit_text_of is ∙ sym (get_or-map unit_text_of xs p u (unit_text_of u) less) in (
            (λ h. subst (λ (s : Rechecking). length s.checked.kept.items ≡ p + 1) (sym w.self-is) (done ∙ ap (λ n. n + 1) many)),
            (λ h. omega (arith, below)),
            λ vs made begun. subst (λ (s : Rechecking). IsMadeOf us s.checked) (sym w.self-is)
                (one_more us old w.take.new.self.checked (unit_text_of u) (let n = length-map xs unit_text_of in omega (arith, n, many, less))
                (subst (λ k. unit_text_of u ≡ get_or us k (unit_text_of u)) (sym many) here)
                (v.2 vs made begun) done (w.in_ok-take.ensures.complete (w.before_of-before.ensures vs made))),
          )
      | in_default w ↦
          let past : length xs ≤ p = subst (λ l. length l ≤ p) c.deref.ensures.value w.in_default.ensures.lookup.3 in (
            (λ h. absurd (omega (arith, h, past))),
            (λ h. omega (arith, below)),
            λ vs made begun. subst (λ (s : Rechecking). IsMadeOf us s.checked) (sym w.self-is) (v.2 vs made begun),
          )
    ]
