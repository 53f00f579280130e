use Rattle.std.proofs.Common.{◌≡◌, true, map, Bool, sym, subst, arith}
use Rattle.sml_tree.specs.PatternViews.{pat_of}
use Rattle.sml_tree.specs.ExpressionViews.{rule_of, rules_of}
use Rattle.sml_tree.specs.declared.expressions.Rule.{out-Rule}
use Rattle.sml_core_rules.specs.Expressions.{rule_patterns}
use Rattle.sml_warnings.specs.Meanings.{meaning_in}
use Rattle.sml_warnings.specs.Named.{is_everything}
use Rattle.sml_warnings.specs.Lost.{IsLost, StandsIn, StandsInPatterns}
use Rattle.sml_warnings.specs.Added.{is_clear}
use Rattle.sml_warnings.proofs.Telling.{told}
use Rattle.sml_warnings.proofs.Losing.{fault_on}
use Rattle.sml_warnings.proofs.Ruled.{clear_many, clear_handle, clear_one, stands_first}
use Rattle.sml_warnings.proofs.matches.is_clear.Goals as goal

pub returns-then-rules-gt1-clause-answer : goal.returns-then-rules-gt1-clause-answer
returns-then-rules-gt1-clause-answer c = λ C m. clear_many (meaning_in C) c.args.kind c.args.rules.now (omega arith)

pub returns-in-Handle-clause-answer : goal.returns-in-Handle-clause-answer
returns-in-Handle-clause-answer c = λ C m.
    subst (λ k. true ≡ is_clear (meaning_in C) k (rule_patterns (rules_of (map rule_of c.args.rules.now)))) (sym c.in-Handle.is) (clear_handle (meaning_in C) c.args.rules.now (omega arith))

pub returns-in-Some-clause-answer : goal.returns-in-Some-clause-answer
returns-in-Some-clause-answer c =
    let ps = rule_patterns (rules_of (map rule_of c.args.rules.now)) in
    told c.args.scopes.now (λ C. is_clear (meaning_in C) c.args.kind ps) (λ C. is_everything (meaning_in C) (pat_of (out-Rule c.in-Some.rule.now).pat)) c.matches_everything.result
    (λ C. subst (λ k. is_everything (meaning_in C) (pat_of (out-Rule c.in-Some.rule.now).pat) ≡ is_clear (meaning_in C) k ps) (sym c.in-Fn.is) (clear_one (meaning_in C) c.args.rules.now c.in-Some.rule.now (omega arith) c.in-Some.ensures.value))
    c.matches_everything.ensures.answer

pub returns-in-Some-clause-fault : goal.returns-in-Some-clause-fault
returns-in-Some-clause-fault c = λ C m.
    fault_on Bool c.matches_everything.result (λ g. StandsIn (IsLost C g) (pat_of (out-Rule c.in-Some.rule.now).pat)) (λ g. StandsInPatterns (IsLost C g) (rule_patterns (rules_of (map rule_of c.args.rules.now))))
    (λ g. stands_first (IsLost C g) c.args.rules.now c.in-Some.rule.now c.in-Some.ensures.value) (c.matches_everything.ensures.fault C m)
