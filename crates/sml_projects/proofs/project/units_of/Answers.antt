use Rattle.std.proofs.Common.{◌+◌, ◌<◌, [], ◌∷◌, ℕ, Vec, Global, map, length, get_or, ap, sym, subst, ◌∙◌, arith}
use Rattle.std.proofs.lemmas.List.{length-map, get_or-map, map-append}
use Rattle.sml_objects.specs.declared.objects.UnitId.{UnitId}
use Rattle.sml_projects.specs.Orders.{IsUnitText, AreNeeds, unit_at, unit_text_of}
use Rattle.sml_projects.specs.ProjectFiles.{units_in}
use Rattle.sml_projects.proofs.Needs.{units-length, unit-name, own-names}
use Rattle.sml_projects.proofs.Placing.{Making, making-more, needs-placed}
use Rattle.sml_projects.proofs.project.units_of.Goals as goal

pub unit_at-requires-clause-named : goal.unit_at-requires-clause-named
unit_at-requires-clause-named c =
    let order = c.args.order.now in
    let i = c.loop-id.id-index in
    let b = c.loop-id-test.true in
    let long = length-map order (λ (u : UnitId). u.index) in
    let at = get_or-map (λ (u : UnitId). u.index) order i (record { index = 0 }) 0 b in
    let listed = (c.requires.ordered.next i (omega (arith, b, long))).may.listed in
    let n = units-length c.args.manifest.now in
    omega (arith, at, listed, n)

pub unit_at-requires-clause-needed : goal.unit_at-requires-clause-needed
unit_at-requires-clause-needed c = c.requires.count ∙ units-length c.args.manifest.now

pub loop-id-preserved : goal.loop-id-preserved
loop-id-preserved c =
    let m = c.args.manifest.now in
    let us = units_in m in
    let order = c.args.order.now in
    let ids = map (λ (u : UnitId). u.index) order in
    let i = c.loop-id.id-index in
    let b = c.loop-id-test.true in
    let long = length-map order (λ (u : UnitId). u.index) in
    let h : i < length ids = omega (arith, b, long) in
    let at = get_or-map (λ (u : UnitId). u.index) order i (record { index = 0 }) 0 b in
    let k = get_or ids i 0 in
    let own = own-names m c.len.ensures.unique in
    let places = c.in_ok-places.places.items in
    let waiting = map (λ (n : Vec ℕ Global). n.items) c.args.needed.now in
    let needed = length-map c.args.needed.now (λ (n : Vec ℕ Global). n.items) in
    let count = c.requires.count in
    let listed = (c.requires.ordered.next i h).may.listed in
    let waits = c.requires.needed k (omega (arith, needed, count, listed)) in
    let placed = needs-placed us ids places (get_or waiting k []) i own c.requires.ordered (λ j l. c.in_ok-places.ensures j (omega (arith, l, long))) h waits in
    let u = c.in_ok-unit.unit in
    let made = c.in_ok-unit.ensures.made in
    let left = map (λ (t : Vec ℕ Global). t.items) c.loop-id.texts.items in
    let needs = made.needs
    ∙ ap (λ l. map (λ p. get_or l p 0) (get_or waiting (get_or order i (record { index = 0 })).index [])) c.deref.ensures.value
    ∙ ap (λ j. map (λ p. get_or places p 0) (get_or waiting j [])) (sym at) in
    let text : IsUnitText us left ids k (unit_text_of u) = record {
      place = made.place ∙ sym at;
      name = made.name ∙ sym (unit-name m (get_or order i (record { index = 0 })).index) ∙ ap (λ j. (unit_at us j).name) (sym at);
      text = made.text ∙ ap (λ j. get_or left j []) (sym at);
      needs = subst (AreNeeds us ids (unit_at us k).needs) (sym needs) placed;
    } in
    let more = ap (map unit_text_of) c.in_ok-push.ensures.items ∙ map-append unit_text_of c.loop-id.units.items (u ∷ []) in
    subst (Making us (map (λ (t : Vec ℕ Global). t.items) c.args.texts.items) ids (i + 1) (map (λ (t : Vec ℕ Global). t.items) c.unit_at.new.texts.items)) (sym more)
    (making-more us (map (λ (t : Vec ℕ Global). t.items) c.args.texts.items) ids i left (map (λ (t : Vec ℕ Global). t.items) c.unit_at.new.texts.items) (map unit_text_of c.loop-id.units.items) (unit_text_of u) h c.requires.ordered
    text (λ j ne. c.in_ok-unit.ensures.others j (λ q. ne (q ∙ sym at))) c.loop-id.invariant)
