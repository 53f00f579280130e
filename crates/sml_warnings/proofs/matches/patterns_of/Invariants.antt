-- What was pushed is what the first rules have.
use Rattle.std.proofs.Common.{◌≡◌, map, take}
use Rattle.sml_patterns.specs.Warnings.{written}
use Rattle.sml_warnings.proofs.Ruled.{pattern_of}
use Rattle.sml_warnings.proofs.matches.patterns_of.Given as goal

abbrev pub invariant-loop-rule : goal.invariant-loop-rule
invariant-loop-rule l = written l.patterns.items ≡ map pattern_of (take l.rule-index l.rules)
