use Rattle.std.proofs.Common.{map, ap, sym, subst, ◌∙◌}
use Rattle.sml_tree.specs.ExpressionViews.{rule_of, rules_of}
use Rattle.sml_core_rules.specs.Expressions.{rule_patterns}
use Rattle.sml_patterns.specs.Views.{meanings}
use Rattle.sml_patterns.specs.Warnings.{written}
use Rattle.sml_warnings.specs.Meanings.{meaning_in}
use Rattle.sml_warnings.specs.Added.{Adds, holder_of}
use Rattle.sml_warnings.proofs.Adding.{adds_clear, adds_noted}
use Rattle.sml_warnings.proofs.matches.judge_rules.Goals as goal

pub returns-then-branch-clause-warned : goal.returns-then-branch-clause-warned
returns-then-branch-clause-warned c = λ C m t.
    adds_clear (meaning_in C) c.args.kind c.args.place (rule_patterns (rules_of (map rule_of c.args.rules.now))) c.args.warnings.now.items (sym (c.in_ok-is_clear.ensures.answer C m) ∙ c.if-branch.true)

pub returns-clause-warned : goal.returns-clause-warned
returns-clause-warned c = λ C m t.
    let K = meanings c.in_ok-names.names in
    let h = holder_of c.args.kind c.args.place in
    let old = c.args.warnings.now.items in
    let new = c.warn.new.warnings.items in
    adds_noted (meaning_in C) K h (rule_patterns (rules_of (map rule_of c.args.rules.now))) old new (λ x. c.in_ok-names.ensures.names C m x) t
    (subst (λ ps. Adds K h ps old new) (ap written c.deref.ensures.value ∙ c.in_ok-patterns.ensures) (subst (λ k. Adds K k (written c.deref.result.now) old new) c.holder_of.ensures c.in_ok-warn.ensures))
