use Rattle.std.proofs.Common.{◌≡◌, take}
use Rattle.sml_patterns.specs.CodeTasks.{warnings_of}
use Rattle.sml_patterns.proofs.judge.warnings.Given as goal

abbrev pub invariant-loop-found : goal.invariant-loop-found
invariant-loop-found l = l.warnings.items ≡ warnings_of (take l.found-index l.findings)
