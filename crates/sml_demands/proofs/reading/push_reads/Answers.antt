use Rattle.std.proofs.Common.{◌++◌, map, ap, ◌∙◌}
use Rattle.std.proofs.lemmas.List.{take_all}
use Rattle.sml_demands.specs.declared.reading.Task.TheVariants.{Read}
use Rattle.sml_demands.proofs.reading.push_reads.Goals as goal

pub returns : goal.returns
returns c = c.loop-kid.invariant ∙ ap (λ ks. c.args.tasks.now.items ++ map Read ks) (take_all c.loop-kid.kid-index c.args.kids.now c.loop-kid-test.false)
