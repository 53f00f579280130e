use Rattle.std.proofs.Common.{◌≡◌, min, take}
use Rattle.sml_client.specs.Lengths.{most_told, number_after}
use Rattle.sml_client.proofs.heads.number_in.Given as goal

abbrev pub invariant-loop-digit : goal.invariant-loop-digit
invariant-loop-digit l = l.value ≡ min (number_after 0 (take l.digit-index l.digits)) most_told
