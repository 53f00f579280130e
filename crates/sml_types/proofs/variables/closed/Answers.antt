use Rattle.std.proofs.Common.{◌∙◌}
use Rattle.sml_objects.specs.Types.{variables_after}
use Rattle.sml_objects.specs.Views.{type_of}
use Rattle.sml_types.proofs.Closings.{constructor-scheme-as}
use Rattle.sml_types.proofs.variables.closed.Goals as goal

pub returns : goal.returns
returns c =
    let t = type_of c.args.ty.now.value in
    let order = c.in_ok-collect_free.ensures ∙ (λ i. variables_after (c.new-order.ensures.empty i) (type_of (c.deref.ensures i))) in
    constructor-scheme-as c.args.equality.now t c.in_ok-variables.variables.items (type_of c.in_ok-body.body.value) c.collect_free.new.seen.keys order c.in_ok-variables.ensures c.in_ok-body.ensures
