use Rattle.std.proofs.Common.{rules, refl}
use Rattle.sml_patterns.specs.Views.{meanings}
use Rattle.sml_patterns.proofs.Trees.{rules_go, rules_end}
use Rattle.sml_patterns.proofs.judge.rules.Goals as goal

pub loop-written-preserved : goal.loop-written-preserved
loop-written-preserved c =
    rules_go (meanings c.args.names.now) c.args.patterns.now c.loop-written.written-index c.written-item.result c.loop-written.rules.items c.push.new.self.items (record { place = c.written-item.result.0; pattern = c.in_ok-pattern.pattern }) c.loop-written-test.true c.written-item.is c.loop-written.invariant refl c.in_ok-pattern.ensures (search rules)

pub returns : goal.returns
returns c =
    rules_end (meanings c.args.names.now) c.args.patterns.now c.loop-written.written-index c.loop-written.rules.items (search rules) c.loop-written.invariant
