-- What is found of the rules so far stands, and the table knows them.
use Rattle.std.proofs.Common.{◌≡◌, ◌++◌, [], take, drop}
use Rattle.sml_patterns.specs.CodeTasks.{open_at, plains, redundant_from, rules_of, warnings_of}
use Rattle.sml_patterns.specs.CodeColumns.{KnowsEach}
use Rattle.sml_patterns.proofs.judge.collect.Given as goal

abbrev pub invariant-loop-index : goal.invariant-loop-index
invariant-loop-index l = record {
  found : open_at (rules_of l.rules) l.fn.holder ++ redundant_from [] (rules_of l.rules) ≡ warnings_of l.found.items ++ redundant_from (rules_of (take l.index l.rules)) (rules_of (drop l.index l.rules));
  known : KnowsEach (plains (rules_of (take l.index l.rules))) l.table.columns.items;
}
