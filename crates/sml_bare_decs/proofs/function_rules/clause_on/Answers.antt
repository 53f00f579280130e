use Rattle.sml_phrases.specs.PhraseViews.{seen}
use Rattle.sml_phrases.proofs.Answers.{on_ok}
use Rattle.sml_phrases.proofs.Drops.{two_off}
use Rattle.sml_bare_decs.proofs.function_rules.clause_on.Goals as goal

pub returns-clause-rest : goal.returns-clause-rest
returns-clause-rest c = on_ok c.clause_from.result _ (two_off (seen c.args.stack.now) (seen c.pat-first.new.self) _ c.pat-first.ensures.rest c.pop_right_side-right.ensures.rest)
