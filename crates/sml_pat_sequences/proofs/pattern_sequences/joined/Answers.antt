use Rattle.sml_pat_sequences.proofs.PatternSequences.{pat_fails, joined-next-height}
use Rattle.sml_pat_sequences.specs.PatternSequences.{paired}
use Rattle.sml_pat_sequences.specs.LowViews.{low_pat_of}
use Rattle.sml_pat_sequences.proofs.pattern_sequences.joined.Goals as goal

pub returns-in_err-whole : goal.returns-in_err-whole
returns-in_err-whole c =
    pat_fails (paired (low_pat_of c.in-Some.pat) (low_pat_of c.loop-pat.whole)) _ c.in_err-whole.field-0.0 c.from_residual.result c.in_err-whole.ensures c.from_residual.ensures.1
    (joined-next-height (low_pat_of c.loop-pat.whole) _ c.loop-pat.stack.items c.pop.new.self.items c.in-Some.pat c.in-Some.ensures.items c.loop-pat.invariant)
