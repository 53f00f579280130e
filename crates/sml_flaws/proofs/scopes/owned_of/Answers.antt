use Rattle.std.proofs.Common.{rules, subst}
use Rattle.std.specs.List.Sorted.{IsPermutation}
use Rattle.std.proofs.lemmas.List.Sorted.{IsNonDecreasingBy-from_sort_by_key}
use Rattle.sml_flaws.proofs.scopes.owned_of.Goals as goal

pub returns : goal.returns
returns c = record {
  same = subst (λ owned. IsPermutation owned c.sort_by_key.new.self.items) c.in_ok-owned.ensures c.in_ok-sort_by_key.ensures.permutation;
  ascending = IsNonDecreasingBy-from_sort_by_key (λ v. v.owner) _ c.in_ok-sort_by_key.ensures.sorted (λ a r q k. search rules);
}
