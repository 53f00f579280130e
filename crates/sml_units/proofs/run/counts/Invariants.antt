use Rattle.std.proofs.Common.{◌≡◌, ◌++◌, take}
use Rattle.sml_units.specs.Written.{replies_of, summary_of}
use Rattle.sml_units.proofs.run.counts.Given as goal

abbrev pub invariant-loop-unit : goal.invariant-loop-unit
invariant-loop-unit l = l.summary ≡ summary_of (replies_of (take l.unit-index l.units))

abbrev pub invariant-loop-reply : goal.invariant-loop-reply
invariant-loop-reply l = l.summary ≡ summary_of (replies_of (take l.unit-index l.units) ++ take l.reply-index l.reply-items)
