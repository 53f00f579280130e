use Rattle.std.proofs.Common.{rules, ◌<◌, ◌++◌, ◌∷◌, [], ℕ, Vec, Global, false, true, length, map, take, drop, count_by, ap, sym, subst, ◌∙◌, arith, MatchOption}
use Rattle.std.proofs.Math.ListN.{set, replicate}
use Rattle.std.proofs.lemmas.List.{length-map, map-append}
use Rattle.sml_projects.specs.ProjectFiles.{units_in}
use Rattle.sml_projects.specs.Orders.{IsNext, IsFirstLeft, MayCome, Stands}
use Rattle.sml_projects.proofs.Needs.{units-length, own-names, known-all, places_in}
use Rattle.sml_projects.proofs.InOrder.{Taking, need-fault, taking-none, taking-more, is-order, is-cycle, written-whole}
use Rattle.sml_projects.proofs.orders.order.Goals as goal

pub returns-in_err-waiting-clause-fault : goal.returns-in_err-waiting-clause-fault
returns-in_err-waiting-clause-fault c =
    let m = c.args.manifest.now in
    let h = need-fault (units_in m) m.lines.items c.in_err-waiting.field-0.0 c.in_err-waiting.ensures.fault in
    search rules

pub units-init : goal.units-init
units-init c =
    let m = c.args.manifest.now in
    let us = units_in m in
    let n = units-length m in
    let a = c.len-count.ensures.len in
    let count = c.in_ok-waiting.ensures.count in
    let ok = c.in_ok-waiting.waiting.ok.0 in
    let long = length-map c.in_ok-waiting.waiting.items (λ (places : Vec ℕ Global). places.items) in
    let t = taking-none us c.len-count.result (places_in c.in_ok-waiting.waiting.items) (own-names m c.len-count.ensures.unique) (omega (arith, n, a)) (omega (arith, count, ok, long)) c.in_ok-waiting.ensures.places in
    let marks = c.in_ok-taken.ensures.items_if_clones_equal (search rules) in
    record {
      taking = subst (λ ms. Taking us (map (λ u. u.index) c.new-order.result.items) ms (places_in c.in_ok-waiting.waiting.items)) (sym marks) (subst (λ ids. Taking us (map (λ u. u.index) ids) (replicate c.len-count.result false) (places_in c.in_ok-waiting.waiting.items)) (sym c.new-order.ensures.items) t);
      few = omega arith;
    }

pub first_left-requires-clause-lines : goal.first_left-requires-clause-lines
first_left-requires-clause-lines c =
    let m = c.args.manifest.now in
    let n = units-length m in
    let count = c.units.invariant.taking.stands.marked.count in
    let same = ap length c.deref-in_default.ensures.value in
    let p = m.lines_paired in
    omega (arith, n, count, same, p)

pub first_left-requires-clause-left : goal.first_left-requires-clause-left
first_left-requires-clause-left c =
    let m = c.args.manifest.now in
    let n = units-length m in
    let a = c.len-count.ensures.len in
    let marked = c.units.invariant.taking.stands.marked in
    let number = marked.number in
    let count = marked.count in
    let long = length-map c.units.order.items (λ u. u.index) in
    let ok = c.units.order.ok.0 in
    subst (λ ms. count_by (λ t. t) ms < length ms) (sym c.deref-in_default.ensures.value) (omega (arith, n, a, number, count, long, ok))

pub returns-in_default-clause-fault : goal.returns-in_default-clause-fault
returns-in_default-clause-fault c =
    let m = c.args.manifest.now in
    let us = units_in m in
    let ids = map (λ u. u.index) c.units.order.items in
    let t = c.units.invariant.taking in
    let count = c.in_ok-waiting.ensures.count in
    let ok = c.in_ok-waiting.waiting.ok.0 in
    let long = length-map c.in_ok-waiting.waiting.items (λ (places : Vec ℕ Global). places.items) in
    let s = subst (λ ms. Stands us ids ms (places_in c.deref_mut.result.now)) (sym c.deref.ensures.value) (subst (λ vs. Stands us ids c.units.taken.items (places_in vs)) (sym c.deref_mut.ensures.value) t.stands) in
    let stuck = subst (λ r. MatchOption r ((k : ℕ) → ¬ (MayCome us ids k)) (IsNext us ids)) c.in_default.is (c.next.ensures.next us ids s) in
    let first = subst (λ ms. IsFirstLeft ms m.lines.items c.first_left.result) c.deref-in_default.ensures.value c.first_left.ensures in
    is-cycle us m.lines.items ids c.units.taken.items (places_in c.units.waiting.items) c.first_left.result t stuck (known-all us (places_in c.in_ok-waiting.waiting.items) (omega (arith, count, ok, long)) c.in_ok-waiting.ensures.places) first

pub overflow_cast-index : goal.overflow_cast-index
overflow_cast-index c =
    let m = c.args.manifest.now in
    let n = units-length m in
    let few = m.few in
    let within = c.in-Some.ensures.within in
    let count = c.units.invariant.taking.stands.marked.count in
    let same = ap length c.deref.ensures.value in
    let small : c.in-Some.index < 4097 = omega (arith, n, few, within, count, same) in
    search rules

pub units-preserved : goal.units-preserved
units-preserved c =
    let m = c.args.manifest.now in
    let us = units_in m in
    let ids = map (λ u. u.index) c.units.order.items in
    let t = c.units.invariant.taking in
    let i = c.in-Some.index in
    let s = subst (λ ms. Stands us ids ms (places_in c.deref_mut.result.now)) (sym c.deref.ensures.value) (subst (λ vs. Stands us ids c.units.taken.items (places_in vs)) (sym c.deref_mut.ensures.value) t.stands) in
    let n : IsNext us ids i = subst (λ r. MatchOption r ((k : ℕ) → ¬ (MayCome us ids k)) (IsNext us ids)) c.in-Some.is (c.next.ensures.next us ids s) in
    let after = subst (λ ms. Stands us ids ms (places_in c.next.new.waiting)) c.deref.ensures.value (c.next.ensures.stands us ids s) in
    let same = ap length c.deref_mut.ensures.value in
    let kept = c.next.auto.waiting in
    let ok = c.units.waiting.ok.0 in
    let whole = written-whole c.next.new.waiting (drop (length c.next.new.waiting) c.units.waiting.items) c.units.waiting.len (omega (arith, same, kept, ok)) in
    let grown : Taking us ids c.units.taken.items (places_in c.next.new.waiting) = record { stands = after; next = t.next } in
    let more = taking-more us ids c.units.taken.items (places_in c.next.new.waiting) i grown n in
    let order = ap (map (λ u. u.index)) c.in_ok-push.ensures.items ∙ map-append (λ u. u.index) c.units.order.items (record { index = i } ∷ []) in
    record {
      taking = subst (λ o. Taking us o (set c.units.taken.items i true) (places_in (take c.units.waiting.len (c.next.new.waiting ++ drop (length c.next.new.waiting) c.units.waiting.items)))) (sym order) (subst (λ vs. Taking us (ids ++ i ∷ []) (set c.units.taken.items i true) (places_in vs)) (sym whole) more);
      few = omega arith;
    }

pub returns-clause-order : goal.returns-clause-order
returns-clause-order c =
    let m = c.args.manifest.now in
    let n = units-length m in
    let a = c.len-count.ensures.len in
    let long = length-map c.units.order.items (λ u. u.index) in
    let ok = c.units.order.ok.0 in
    let few = c.units.invariant.few in
    is-order (units_in m) (map (λ u. u.index) c.units.order.items) c.units.taken.items (places_in c.units.waiting.items) c.units.invariant.taking (omega (arith, n, a, long, ok, few))
