use Rattle.std.proofs.Common.{◌≡◌, [], refl, sym, ◌∙◌}
use Rattle.sml_objects.specs.Objects as O
use Rattle.sml_objects.specs.Views.{type_of}
use Rattle.sml_type_maps.specs.Mapped.{bound_at}
use Rattle.sml_type_maps.specs.Orders.{bound_after}
use Rattle.sml_type_maps.proofs.Orders.{at-own, names-stay, ordered-as, variables-stay}
use Rattle.sml_type_maps.proofs.order.in_order.Goals as goal

pub returns-then-is_ascending : goal.returns-then-is_ascending
returns-then-is_ascending c =
    let t = type_of c.args.body.value in
    let order = c.in_ok-collect_bound.ensures ∙ (λ i. bound_after (c.new-order.ensures.empty i) (type_of (c.deref.ensures i))) in
    ordered-as c.args.equality.now t c.in_ok-variables.variables.items t c.collect_bound.new.seen.keys order c.in_ok-variables.ensures
    (sym (variables-stay (bound_at c.collect_bound.new.seen.keys) (at-own c.collect_bound.new.seen.keys (c.if-is_ascending.ensures refl)) t))

pub returns : goal.returns
returns c =
    let t = type_of c.args.body.value in
    let order = c.in_ok-collect_bound.ensures ∙ (λ i. bound_after (c.new-order.ensures.empty i) (type_of (c.deref.ensures i))) in
    ordered-as c.args.equality.now t c.in_ok-variables.variables.items (type_of c.in_ok-body.body.value) c.collect_bound.new.seen.keys order c.in_ok-variables.ensures
    (c.in_ok-body.ensures ∙ names-stay (bound_at c.collect_bound.new.seen.keys) O.free t)
