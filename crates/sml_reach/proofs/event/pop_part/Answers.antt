use Rattle.std.proofs.Common.{◌∙◌}
use Rattle.sml_reach.specs.Founds.{nothing}
use Rattle.sml_reach.proofs.Parting.{part_is, rest_is}
use Rattle.sml_reach.proofs.event.pop_part.Goals as goal

pub returns-then-index-count-clause-value : goal.returns-then-index-count-clause-value
returns-then-index-count-clause-value c = λ vs e. c.pop.ensures.value ∙ part_is _ vs c.args.count c.args.index nothing c.if-index-count.true e

pub returns-then-index-count-clause-rest : goal.returns-then-index-count-clause-rest
returns-then-index-count-clause-rest c = λ vs e. c.pop.ensures.rest ∙ rest_is _ vs c.args.count c.args.index c.if-index-count.true e
