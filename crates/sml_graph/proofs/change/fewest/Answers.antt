use Rattle.std.proofs.Common.{◌≡◌, ◌+◌, ◌<◌, ◌∷◌, [], ◌++◌, length, take, get_or, ap, ◌∙◌, subst, arith, rules}
use Rattle.std.proofs.Math.Seq.{take-length}
use Rattle.std.proofs.lemmas.List.{get_or_default}
use Rattle.std.proofs.lemmas.List.Sorted.{IsNonDecreasingBy-from_sort_by_key}
use Rattle.std.specs.List.Sorted.{IsPermutation, IsNonDecreasingBy}
use Rattle.sml_graph.specs.declared.change.Change.{Change}
use Rattle.sml_graph.specs.Changes.{AreCovered, HasChange, IsNoLater}
use Rattle.sml_graph.proofs.Interning.{all-at, take-next}
use Rattle.sml_graph.proofs.Changing.{all-sorted, all-unsorted, covered-more, covered-then}
use Rattle.sml_graph.proofs.change.fewest.Goals as goal

pub loop-change-init : goal.loop-change-init
loop-change-init c = record { covers = tt; inside = λ n a. rw c.new-few.ensures.items tt; rise = rw c.new-few.ensures.items tt; below = λ k d h l. rw c.new-few.ensures.items tt }

pub loop-change-preserved : goal.loop-change-preserved
loop-change-preserved c =
    let cs = c.as_slice-change-items.result.now in
    let i = c.loop-change.change-index in
    let none : Change = record { node = 0; from = 0 } in
    let d : Change = get_or cs i none in
    let few = c.loop-change.few.items in
    let v = c.loop-change.invariant in
    let a = c.in_ok-add_change.ensures in
    let next : take (i + 1) cs ≡ take i cs ++ d ∷ [] = take-next cs i d c.loop-change-test.true (get_or_default cs i none d c.loop-change-test.true) in
    let sorted : IsNonDecreasingBy (λ (c' : Change). c'.node) cs = rw c.as_slice-change-items.ensures.value (IsNonDecreasingBy-from_sort_by_key (λ c'. c'.node) _ c.in_ok-sort_by_key.ensures.sorted (λ a r q k. search rules)) in
    record {
      covers = covered-more (take i cs) (take (i + 1) cs) c.add_change.new.few.items d (covered-then (take i cs) few c.add_change.new.few.items v.covers a.covers) next a.new;
      inside = λ n b. a.inside n (v.inside n b) (all-at (λ c. c.node < n) cs i none b c.loop-change-test.true);
      rise = a.rise v.rise (v.below i none (omega arith) c.loop-change-test.true);
      below = λ k e h l. a.inside ((get_or cs k e).node + 1) (v.below k e (omega (arith, h)) l) (let z = sorted i k e (omega (arith, h)) l in let q = get_or_default cs i none e c.loop-change-test.true in omega (arith, z, ap (λ (c : Change). c.node) q));
    }

module _ (c : goal.After-drop-changes-2) where
  sorted : IsPermutation c.args.changes.items c.as_slice-change-items.result.now
  sorted = rw c.as_slice-change-items.ensures.value c.in_ok-sort_by_key.ensures.permutation

  all : AreCovered c.as_slice-change-items.result.now c.loop-change.few.items
  all =
      let cs = c.as_slice-change-items.result.now in
      let e : c.loop-change.change-index ≡ length cs = omega (arith, c.loop-change-test.false, c.loop-change.auto.change-index-end) in
      subst (λ xs. AreCovered xs c.loop-change.few.items) (ap (λ n. take n cs) e ∙ take-length cs) c.loop-change.invariant.covers

pub returns-clause-covers : goal.returns-clause-covers
returns-clause-covers c = all-unsorted (λ b. HasChange (IsNoLater b) c.loop-change.few.items) c.args.changes.items c.as_slice-change-items.result.now (sorted c) (all c)

pub returns-clause-inside : goal.returns-clause-inside
returns-clause-inside c n a = c.loop-change.invariant.inside n (all-sorted (λ d. d.node < n) c.args.changes.items c.as_slice-change-items.result.now (sorted c) a)
