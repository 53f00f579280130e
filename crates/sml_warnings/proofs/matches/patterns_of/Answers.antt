use Rattle.std.proofs.Common.{map, refl, ap, sym, ◌∙◌}
use Rattle.std.proofs.lemmas.List.{take_all}
use Rattle.sml_warnings.proofs.Ruled.{pattern_of, patterns_are, pattern_more}
use Rattle.sml_warnings.proofs.matches.patterns_of.Goals as goal

pub loop-rule-preserved : goal.loop-rule-preserved
loop-rule-preserved c =
    pattern_more c.args.rules.now c.loop-rule.rule-index c.rule-item.result c.loop-rule.patterns.items c.push.new.self.items _ c.loop-rule-test.true c.rule-item.is c.in_ok-push.ensures.items refl c.loop-rule.invariant

pub returns : goal.returns
returns c =
    c.loop-rule.invariant ∙ ap (map pattern_of) (take_all c.loop-rule.rule-index c.args.rules.now c.loop-rule-test.false) ∙ sym (patterns_are c.args.rules.now)
