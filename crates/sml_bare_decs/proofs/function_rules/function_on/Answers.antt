use Rattle.std.proofs.Common.{map, reverse}
use Rattle.std.specs.Option.{option_map}
use Rattle.sml_tree.specs.PatternViews.{pat_of}
use Rattle.sml_tree.specs.Clauses.{clause_of}
use Rattle.sml_phrases.specs.Phrases.{at, pat_in, clauses_in}
use Rattle.sml_phrases.specs.PhraseViews.{seen}
use Rattle.sml_fixity.specs.Shapes.{shape_of}
use Rattle.sml_pat_sequences.specs.PatternSequences.{pat_place}
use Rattle.sml_bare_decs.specs.FunctionRules.{right_side_in, function_from}
use Rattle.sml_bare_decs.specs.FunctionViews.{right_side_of}
use Rattle.sml_phrases.proofs.Answers.{on_ok}
use Rattle.sml_bare_decs.proofs.Clauses.{function_parts, bind_same}
use Rattle.sml_phrases.proofs.Drops.{three_off}
use Rattle.sml_bare_decs.proofs.function_rules.function_on.Goals as goal

pub returns-clause-made : goal.returns-clause-made
returns-clause-made c =
    let shape = option_map (λ s. shape_of s.now) c.args.shape in
    let v = seen c.args.stack.now in
    bind_same (function_from shape c.pat_place-place.result (pat_of c.pat-first.result.tree) (right_side_of c.pop_right_side-right.result) (map clause_of (reverse c.clauses-others.result.trees.items)))
    (function_from shape (pat_place (pat_in (at v 0))) (pat_in (at v 0)) (right_side_in (at v 1)) (clauses_in (at v 2))) c.function_from.result
    (function_parts shape v (seen c.pat-first.new.self) (seen c.pop_right_side-right.new.stack) c.pat_place-place.result (pat_of c.pat-first.result.tree) (right_side_of c.pop_right_side-right.result) (map clause_of (reverse c.clauses-others.result.trees.items)) c.pat-first.ensures.rest c.pop_right_side-right.ensures.rest c.pat_place-place.ensures c.pat-first.ensures.value c.pop_right_side-right.ensures.value c.clauses-others.ensures.value)
    c.function_from.ensures

pub returns-clause-rest : goal.returns-clause-rest
returns-clause-rest c = on_ok c.function_from.result _ (three_off (seen c.args.stack.now) (seen c.pat-first.new.self) (seen c.pop_right_side-right.new.stack) _ c.pat-first.ensures.rest c.pop_right_side-right.ensures.rest c.clauses-others.ensures.rest)
