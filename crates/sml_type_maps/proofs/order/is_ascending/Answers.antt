use Rattle.std.proofs.Common.{◌≡◌, ◌<◌, arith}
use Rattle.sml_type_maps.proofs.Orders.{own-places}
use Rattle.sml_type_maps.proofs.order.is_ascending.Goals as goal

pub returns : goal.returns
returns c = λ t k i p.
    own-places c.args.order.now.keys (λ j l. c.loop-place.invariant j (omega (arith, l, c.loop-place-test.false, c.len-place-end.ensures.len))) k i p
