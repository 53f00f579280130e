use Rattle.std.proofs.Common.{◌+◌, take, length-take, arith}
use Rattle.std.proofs.lemmas.List.Sums.{sum_by_more}
use Rattle.sml_client.specs.Positions.{width}
use Rattle.sml_client.proofs.Places.{few_units}
use Rattle.sml_client.proofs.positions.units_in.Goals as goal

pub loop-byte-preserved : goal.loop-byte-preserved
loop-byte-preserved c =
    let bytes = c.args.bytes.now in
    let i = c.loop-byte.byte-index in
    let more = sum_by_more (width c.args.encoding) bytes i 0 c.loop-byte-test.true in
    let few = few_units c.args.encoding (take (i + 1) bytes) in
    let size = length-take (i + 1) bytes in
    let so_far = c.loop-byte.invariant in
    let next = c.width.ensures in
    let add = c.saturating_add-passed.ensures in
    omega (arith, more, few, size, so_far, next, add)
