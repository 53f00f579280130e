use Rattle.std.proofs.Common.{◌∙◌}
use Rattle.sml_flaws.specs.Flaws.{arity_by}
use Rattle.sml_flaws.proofs.flaw.Judge.arity_at.Goals as goal

pub returns : goal.returns
returns c = λ fits before f k. c.arity.ensures ∙ (λ i. arity_by (c.head_at.ensures fits f i) (c.count_at.ensures _ before k i))
