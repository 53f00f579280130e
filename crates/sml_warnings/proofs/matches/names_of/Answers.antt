use Rattle.std.proofs.Common.{map, ap, sym, ◌∙◌}
use Rattle.std.proofs.lemmas.List.{take_all}
use Rattle.sml_tree.specs.PatternViews.{pat_of}
use Rattle.sml_tree.specs.declared.expressions.Rule.{out-Rule}
use Rattle.sml_tree.specs.ExpressionViews.{rule_of, rules_of}
use Rattle.sml_core_rules.specs.Expressions.{rule_patterns}
use Rattle.sml_patterns.specs.Views.{meanings}
use Rattle.sml_patterns.specs.declared.names.Meaning.TheVariants as M
use Rattle.sml_patterns.specs.declared.names.Names.{Names}
use Rattle.sml_warnings.specs.Meanings.{meaning_in}
use Rattle.sml_warnings.specs.Named.{after_patterns}
use Rattle.sml_warnings.proofs.Ruled.{pattern_of, patterns_are, noted_more, stands_at}
use Rattle.sml_warnings.specs.Lost.{IsLost, StandsIn, StandsInPatterns}
use Rattle.sml_warnings.proofs.Losing.{fault_through}
use Rattle.sml_warnings.proofs.matches.names_of.Goals as goal

pub loop-rule-preserved : goal.loop-rule-preserved
loop-rule-preserved c = λ C m x.
    noted_more (meaning_in C) c.args.rules.now c.loop-rule.rule-index c.rule-item.result x M.Variable (meanings c.loop-rule.names x) (meanings c.name_meanings.new.names x) c.loop-rule-test.true c.rule-item.is (c.in_ok-name_meanings.ensures.names C m x) (c.loop-rule.invariant C m x)

pub returns-clause-names : goal.returns-clause-names
returns-clause-names c = λ C m x.
    c.loop-rule.invariant C m x
    ∙ ap (λ rs. after_patterns (meaning_in C) (map pattern_of rs) x M.Variable) (take_all c.loop-rule.rule-index c.args.rules.now c.loop-rule-test.false)
    ∙ ap (λ ps. after_patterns (meaning_in C) ps x M.Variable) (sym (patterns_are c.args.rules.now))

pub returns-in_err-name_meanings-clause-fault : goal.returns-in_err-name_meanings-clause-fault
returns-in_err-name_meanings-clause-fault c = λ C m.
    fault_through (Unit {0}) Names c.from_residual.result c.in_err-name_meanings.field-0.0 (λ g. StandsIn (IsLost C g) (pat_of (out-Rule c.rule-item.result).pat)) (λ g. StandsInPatterns (IsLost C g) (rule_patterns (rules_of (map rule_of c.args.rules.now)))) c.from_residual.ensures.1
    (λ g. stands_at (IsLost C g) c.args.rules.now c.loop-rule.rule-index c.rule-item.result c.loop-rule-test.true c.rule-item.is) (c.in_err-name_meanings.ensures.fault C m)
