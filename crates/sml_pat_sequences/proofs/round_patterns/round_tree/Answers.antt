use Rattle.std.proofs.Common.{◌∙◌}
use Rattle.sml_derived.proofs.Views.{pat_of-tuple}
use Rattle.sml_pat_sequences.proofs.RoundPatterns.{round-others}
use Rattle.sml_pat_sequences.proofs.round_patterns.round_tree.Goals as goal

pub returns-then-len-ne1 : goal.returns-then-len-ne1
returns-then-len-ne1 c =
    pat_of-tuple c.args.place c.args.pats ∙ round-others c.args.place c.args.pats.items (λ e. c.if-len-ne1.true (c.len.ensures ∙ c.args.pats.ok.0 ∙ e))
