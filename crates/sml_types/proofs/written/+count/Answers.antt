use Rattle.std.proofs.Common.{◌≡◌, ◌≤◌, ◌<◌, ℕ, ◌+◌, ◌*◌, IfOk, ap, sym, subst, ◌∙◌, get_or, length, min, vec_len, arith, refl}
use Rattle.std.proofs.lemmas.Bool.{ltb-false}
use Rattle.std.proofs.lemmas.Result.{IfOk-weaker}
use Rattle.sml_objects.specs.Objects as O
use Rattle.sml_objects.specs.Types.{argument, replace_type}
use Rattle.sml_objects.specs.Views.{type_of}
use Rattle.sml_type_maps.specs.Counted.{HasAddedType, uses_in}
use Rattle.sml_type_maps.specs.declared.sizes.Count.{Count}
use Rattle.sml_type_maps.proofs.AppliedSizes.{counted}
use Rattle.sml_type_maps.proofs.Counts.{arrow-added, none-added, parts-added}
use Rattle.sml_type_maps.proofs.Replacing.{HasAddedBody, body-for, end-body, next-body, start-body, unused-added}
use Rattle.sml_types.specs.Meant.{all_meant, meant}
use Rattle.sml_types.proofs.Counting.{argument-given, argument-past, next-part, parts-meant}
use Rattle.sml_types.proofs.Meanings.{meanings, meant-arrow, meant-applied, meant-side}
use Rattle.sml_types.proofs.written.+count.Goals as goal
use Rattle.sml_types.proofs.written.+count.Goals.{add_applied-then-uses-gt0+in-Some+in_ok-add-in-Some, add_applied-then-uses-gt0+in-None+in_ok-number_of-in-None, add_applied-else-uses-gt0}

pub add-returns-in-Row : goal.add-returns-in-Row
add-returns-in-Row t c =
    let parts = parts-meant c.args.written.now c.in-Row.parts c.in-Row.is in
    IfOk-weaker c.add_all.result _ _
    (λ _ h. parts-added c.args.count.now c.add_all.new.count c.args.times parts.0 (meanings c.in-Row.parts.items) (meanings c.deref-in-Row.result.now) _
    (ap meanings c.deref-in-Row.ensures.value) parts.1 h) c.add_all.ensures

pub add-returns-in_ok-add-in-Arrow : goal.add-returns-in_ok-add-in-Arrow
add-returns-in_ok-add-in-Arrow t c =
    let whole = ap meant c.in-Arrow.is ∙ meant-arrow c.in-Arrow.from c.in-Arrow.to
    ∙ (λ i. O.arrow_of (ap meant (sym c.deref-in-Arrow.ensures) i) (ap meant (sym c.deref-in-Arrow-2.ensures) i)) in
    IfOk-weaker c.add-in-Arrow-2.result _ _
    (λ _ h. arrow-added c.args.count.now c.add.new.self c.add-in-Arrow.new.count c.add-in-Arrow-2.new.count c.args.times _ _ _ whole
    c.add.ensures.nodes c.add.ensures.uses c.in_ok-add-in-Arrow.ensures h) c.add-in-Arrow-2.ensures

pub add-returns-in_ok-body-in-Applied : goal.add-returns-in_ok-body-in-Applied
add-returns-in_ok-body-in-Applied t c =
    let args = c.deref-in-Applied-4.result.now in
    let body = type_of c.in-Applied.function.value.body.value in
    let n = c.counted_variables-variables.result in
    let count = counted n c.in_ok-body-in-Applied.body c.add_type-in-Applied.new.self _ body
    (ap type_of c.deref-in-Applied-3.ensures ∙ ap (λ s. type_of s.body.value) c.deref-in-Applied-2.ensures) c.in_ok-body-in-Applied.ensures.0
    c.in_ok-body-in-Applied.ensures.1 c.add_type-in-Applied.ensures in
    let long : length args ≤ n =
    omega (arith, c.counted_variables-variables.ensures.first, c.len.ensures, c.in-Applied.arguments.ok.0, ap length c.deref-in-Applied-4.ensures.value) in
    let given = body-for n (length args) (vec_len c.args.count.now.uses) body c.add_type-in-Applied.new.self count long
    (λ k l b. sym (ap (λ s. uses_in (type_of s.body.value) k) c.deref-in-Applied.ensures) ∙ c.counted_variables-variables.ensures.others k l b) in
    subst (λ u. IfOk c.add_applied.result (λ _. HasAddedType c.args.count.now c.add_applied.new.count c.args.times u))
    (ap (λ l. replace_type (argument (all_meant l)) O.free body) c.deref-in-Applied-4.ensures.value
    ∙ sym (ap meant c.in-Applied.is ∙ meant-applied c.in-Applied.function c.in-Applied.arguments)) (c.add_applied.ensures body given)

pub add-returns-in_ok-add-in-Side : goal.add-returns-in_ok-add-in-Side
add-returns-in_ok-add-in-Side t c =
    let args = c.deref-in-Side-2.result.now in
    let body = meant c.in-Side.side.value in
    let n = c.max.result in
    let count = counted n c.in_ok-body-in-Side.body c.add-in-Side.new.count _ body (ap meant c.deref-in-Side.ensures) c.in_ok-body-in-Side.ensures.0
    c.in_ok-body-in-Side.ensures.1 c.in_ok-add-in-Side.ensures in
    let long : length args ≤ n = omega (arith, c.max.ensures, c.len-in-Side.ensures, c.in-Side.arguments.ok.0, ap length c.deref-in-Side-2.ensures.value) in
    let given = body-for n (length args) (vec_len c.args.count.now.uses) body c.add-in-Side.new.count count long
    (λ k l b. absurd (omega (arith, l, b, c.max.ensures, c.len-in-Side-2.ensures))) in
    subst (λ u. IfOk c.add_applied-in-Side.result (λ _. HasAddedType c.args.count.now c.add_applied-in-Side.new.count c.args.times u))
    (ap (λ l. replace_type (argument (all_meant l)) O.free body) c.deref-in-Side-2.ensures.value
    ∙ sym (ap meant c.in-Side.is ∙ meant-side c.in-Side.side c.in-Side.arguments)) (c.add_applied-in-Side.ensures body given)

pub add_all-loop-part-init : goal.add_all-loop-part-init
add_all-loop-part-init t c = none-added c.args.count.now c.add.new.self c.args.times c.add.ensures.nodes c.add.ensures.uses

pub add_all-loop-part-preserved : goal.add_all-loop-part-preserved
add_all-loop-part-preserved t c =
    next-part c.args.count.now c.loop-part.count c.add-in-loop-part.new.count c.args.times c.loop-part.part-index c.args.parts.now c.part-item.result
    (meant c.deref.result.now) c.loop-part-test.true c.part-item.is (ap meant c.deref.ensures) c.loop-part.invariant c.in_ok-add.ensures

pub add_applied-loop-variable-init : goal.add_applied-loop-variable-init
add_applied-loop-variable-init t c = λ u given.
    start-body c.args.count.now c.add.new.self c.args.body.now c.args.times _ c.saturating_mul.result u (argument (all_meant c.args.arguments.now)) given.is
    c.saturating_mul.ensures c.add.ensures.nodes c.add.ensures.uses

pub add_applied-loop-variable-preserved : goal.add_applied-loop-variable-preserved
add_applied-loop-variable-preserved t c = λ u given.
    let before = c.args.count.now in
    let old = c.loop-variable.count in
    let body = c.args.body.now in
    let times = c.args.times in
    let i = c.loop-variable.variable in
    let ws = c.args.arguments.now in
    let m = vec_len body.uses in
    let stands = argument (all_meant ws) in
    let vs = c.deref-uses-items.result.now in
    let same : vs ≡ body.uses.items = c.deref-uses-items.ensures.value in
    let used : get_or vs i 0 ≡ get_or body.uses.items i 0 = ap (λ xs. get_or xs i 0) same in
    let within : i < m = omega (arith, c.loop-variable-test.true, ap length same, body.uses.ok.0) in
    let done : (n : Count) (r : ℕ) → r ≡ min (times * get_or vs i 0) 4294967295 → HasAddedType old n r (stands i) → HasAddedBody before n times u m stands (i + 1) =
    λ n r e added. next-body before old n body times m i (i + 1) r (get_or vs i 0) u stands given.is within used e refl (c.loop-variable.invariant u given) added in
    elim c.if-uses-gt0.branch [
      | add_applied-then-uses-gt0+in-Some+in_ok-add-in-Some w ↦
          let at = w.in-Some.ensures.lookup in
          let stood : meant w.deref.result.now ≡ stands i = ap meant w.deref.ensures ∙ sym (argument-given ws i w.in-Some.argument.now at.3.0 at.1) in
          subst (λ n. HasAddedBody before n times u m stands (i + 1)) (sym w.count-is)
          (done w.add-in-Some.new.count _ w.saturating_mul-times.ensures
          (subst (HasAddedType old w.add-in-Some.new.count w.saturating_mul-times.result) stood w.in_ok-add-in-Some.ensures))
      | add_applied-then-uses-gt0+in-None+in_ok-number_of-in-None w ↦
          let stood : O.bound w.in_ok-number_of-in-None.field-0 ≡ stands i =
          ap (λ k. O.bound k) w.in_ok-number_of-in-None.ensures ∙ sym (argument-past ws i (ltb-false _ _ (sym w.in-None.ensures.lookup.0))) in
          subst (λ n. HasAddedBody before n times u m stands (i + 1)) (sym w.count-is)
          (done w.add_bound.new.self _ w.saturating_mul-times.ensures
          (subst (HasAddedType old w.add_bound.new.self w.saturating_mul-times.result) stood w.add_bound.ensures))
      | add_applied-else-uses-gt0 w ↦
          subst (λ n. HasAddedBody before n times u m stands (i + 1)) (sym w.count-is)
          (done old _ refl (unused-added old times (get_or vs i 0) (stands i) (omega (arith, w.if-uses-gt0.false))))
    ]

pub add_applied-returns : goal.add_applied-returns
add_applied-returns t c = λ u given.
    let before = c.args.count.now in
    let ws = c.args.arguments.now in
    let m = vec_len c.args.body.now.uses in
    let stands = argument (all_meant ws) in
    let end : c.loop-variable.variable ≡ m =
    omega (arith, c.loop-variable-test.false, c.loop-variable.auto.variable-end, ap length c.deref-uses-items.ensures.value, c.args.body.now.uses.ok.0) in
    end-body before c.loop-variable.count c.args.times m u stands (λ j l. argument-past ws j (omega (arith, l, given.first))) given.others
    (subst (HasAddedBody before c.loop-variable.count c.args.times u m stands) end (c.loop-variable.invariant u given))
