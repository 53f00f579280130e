use Rattle.std.proofs.lemmas.List.Filters.{dedup_is}
use Rattle.std.proofs.lemmas.List.Kept.{IsStrictlySortedBy-dedup, Contains-dedup, Contains-from_dedup}
use Rattle.std.proofs.lemmas.List.Sorted.{Contains-permutation, IsPermutation-sym}
use Rattle.sml_patterns.proofs.judge.sort_distinct.Goals as goal

pub returns-clause-rises : goal.returns-clause-rises
returns-clause-rises g c =
    rw (dedup_is _ _ _ c.dedup.ensures.filtered) (IsStrictlySortedBy-dedup g.met.T.Ord.total g.met.T.Ord.matches_eq _ c.sort_unstable.ensures.sorted)

pub returns-clause-adds_none : goal.returns-clause-adds_none
returns-clause-adds_none g c = λ x h.
    Contains-permutation _ _ x (IsPermutation-sym _ _ c.sort_unstable.ensures.permutation) (Contains-from_dedup _ _ x (rw (dedup_is _ _ _ c.dedup.ensures.filtered) at h))

pub returns-clause-keeps : goal.returns-clause-keeps
returns-clause-keeps g c = λ ties x h.
    rw (dedup_is _ _ _ c.dedup.ensures.filtered) (Contains-dedup g.met.T.Eq.laws ties _ x (Contains-permutation _ _ x c.sort_unstable.ensures.permutation h))
