use Rattle.std.proofs.Common.{rules, ◌<◌}
use Rattle.std.proofs.lemmas.List.Sorted.{IsNonDecreasingBy-from_sort_by_key}
use Rattle.sml_demands.specs.CodeLevels.{level_rank}
use Rattle.sml_graph.proofs.Changing.{all-sorted, covered-sorted}
use Rattle.sml_demands.proofs.levels.by_level.Goals as goal

pub returns-clause-order : goal.returns-clause-order
returns-clause-order c = IsNonDecreasingBy-from_sort_by_key (λ c'. level_rank c.args.levels.now c'.node) _ c.in_ok-sort_by_key.ensures.sorted (λ a r q k. search rules)

pub returns-clause-covers : goal.returns-clause-covers
returns-clause-covers c = covered-sorted c.args.changes.items c.in_ok-few.few.items c.sort_by_key.new.self.items c.in_ok-sort_by_key.ensures.permutation c.in_ok-few.ensures.covers

pub returns-clause-inside : goal.returns-clause-inside
returns-clause-inside c n a = all-sorted (λ d. d.node < n) c.in_ok-few.few.items c.sort_by_key.new.self.items c.in_ok-sort_by_key.ensures.permutation (c.in_ok-few.ensures.inside n a)
