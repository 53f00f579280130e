use Rattle.std.proofs.Common.{◌≡◌, ◌+◌, ◌<◌, [], length, map, get_or, ap, subst, ◌∙◌, arith, string_bytes}
use Rattle.std.specs.Option.{IfSome, IfNone}
use Rattle.std.specs.List.{Any, All}
use Rattle.std.proofs.lemmas.List.{length_push}
use Rattle.sml_projects.specs.Orders.{Waits}
use Rattle.sml_projects.specs.ProjectFiles.{units_in}
use Rattle.sml_projects.proofs.Needs.{units-length, needed-more, need-unknown}
use Rattle.sml_projects.proofs.orders.needed.Goals as goal

pub returns-in_default-clause-fault : goal.returns-in_default-clause-fault
returns-in_default-clause-fault c =
    let m = c.args.manifest.now in
    let i = c.loop-index.index in
    let v = c.needs-item.result in
    let same = c.deref-needs-items.ensures.value in
    let long = ap length same in
    let b : i < length m.needs.items = omega (arith, long) in
    let listed : c.deref.result.now ≡ (get_or m.needs.items i v).items = c.deref.ensures.value ∙ ap (λ own. own.items) c.needs-item.is ∙ ap (λ l. (get_or l i v).items) same in
    let any = subst (λ found. IfNone found (Any (λ need. All (λ u. ¬ (u.name ≡ need)) (units_in m)) (map string_bytes c.deref.result.now))) c.in_default.is c.in_ok-places.ensures.unknown in
    need-unknown m c.loop-index.all.items i v c.fault.result b c.loop-index.invariant.count c.loop-index.invariant.places (subst (λ l. Any (λ need. All (λ u. ¬ (u.name ≡ need)) (units_in m)) (map string_bytes l)) listed any) c.fault.ensures

pub loop-index-preserved : goal.loop-index-preserved
loop-index-preserved c =
    let m = c.args.manifest.now in
    let i = c.loop-index.index in
    let v = c.needs-item.result in
    let w = c.in-Some.places in
    let same = c.deref-needs-items.ensures.value in
    let long = ap length same in
    let b : i < length m.needs.items = omega (arith, long) in
    let listed : c.deref.result.now ≡ (get_or m.needs.items i v).items = c.deref.ensures.value ∙ ap (λ own. own.items) c.needs-item.is ∙ ap (λ l. (get_or l i v).items) same in
    let waits = subst (λ found. IfSome found (λ places. Waits (units_in m) [] (map string_bytes c.deref.result.now) places.items)) c.in-Some.is c.in_ok-places.ensures.places in
    record {
      count = ap length c.in_ok-push.ensures.items ∙ length_push c.loop-index.all.items w ∙ ap (λ n. n + 1) c.loop-index.invariant.count;
      places = needed-more m c.loop-index.all.items c.push.new.self.items i v w b c.loop-index.invariant.count c.in_ok-push.ensures.items (subst (λ l. Waits (units_in m) [] (map string_bytes l) w.items) listed waits) c.loop-index.invariant.places;
    }

pub returns-clause-count : goal.returns-clause-count
returns-clause-count c =
    let m = c.args.manifest.now in
    let long = ap length c.deref-needs-items.ensures.value in
    let n = units-length m in
    let p = m.needs_paired in
    let q = m.needs.ok.0 in
    let r = c.loop-index.all.ok.0 in
    let count = c.loop-index.invariant.count in
    omega (arith, long, n, p, q, r, count)
