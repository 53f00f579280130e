use Rattle.std.proofs.Common.{ap, ◌∙◌}
use Rattle.sml_phrases.specs.Phrases.{of_pats}
use Rattle.sml_phrases.specs.PhraseViews.{seen}
use Rattle.sml_pat_sequences.specs.LowViews.{low_pat_of}
use Rattle.sml_phrases.proofs.Answers.{puts_same}
use Rattle.sml_phrases.proofs.Drops.{two_off}
use Rattle.sml_bare_decs.proofs.Clauses.{pats_made}
use Rattle.sml_bare_decs.proofs.function_rules.pat_before.Goals as goal

pub returns : goal.returns
returns c =
    let v = seen c.args.stack.now in
    puts_same _ _ 2 v (seen c.pats-others.new.self) _ c.put_pats.result
    (ap (λ qs. of_pats qs) (c.in_ok-all.ensures ∙ pats_made v (seen c.pat-first.new.self) (low_pat_of c.pat-first.result) _ c.pat-first.ensures.rest c.pat-first.ensures.value c.pats-others.ensures.value))
    (two_off v (seen c.pat-first.new.self) _ c.pat-first.ensures.rest c.pats-others.ensures.rest)
    c.put_pats.ensures
