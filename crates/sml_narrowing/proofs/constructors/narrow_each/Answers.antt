use Rattle.std.proofs.Common.{rules, ap, ◌∙◌}
use Rattle.sml_narrowing.specs.CodeTasks.{lines, group_at}
use Rattle.sml_narrowing.proofs.Grouping.{still_empty}
use Rattle.sml_narrowing.proofs.constructors.narrow_each.Goals as goal

pub loop-number-preserved : goal.loop-number-preserved
loop-number-preserved c = record {
  len = search rules;
  empty = λ k. ap (λ gs. group_at gs k) c.in_ok-push.ensures.items ∙ still_empty c.loop-number.groups.items c.new.result (ap lines c.new.ensures.items) c.loop-number.invariant.empty k;
}
