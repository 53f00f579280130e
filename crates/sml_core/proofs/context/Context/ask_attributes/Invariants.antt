use Rattle.std.proofs.Common.{Ok, take}
use Rattle.sml_core.specs.Answered.{AsksAttributes}
use Rattle.sml_core.proofs.context.Context.ask_attributes.Given as goal

abbrev pub invariant-loop-index : goal.invariant-loop-index
invariant-loop-index l = AsksAttributes l.initial.self l.place l.from (take l.index l.attributes) l.self (Ok tt)
