-- The orders that searches leave, and the rank that they show.
use Rattle.std.proofs.Common.{◌≡◌, ℕ, ◌+◌, ◌<◌, ◌≤◌, ◌⊎◌, inl, inr, List, [], ◌∷◌, ◌++◌, length, take, drop, ap, refl, arith}
use Rattle.std.proofs.lemmas.Bool.{cases_lt}
use Rattle.std.specs.List.{AllByRecursion}
use Rattle.sml_objects.specs.Appearance.{Stands}
use Rattle.sml_objects.proofs.Standing as Standing
use Rattle.sml_graph.specs.declared.change.Change.{Change}
use Rattle.sml_graph.specs.declared.node.Node.{Node}
use Rattle.sml_graph.specs.Graphs.{node_at, parts}
use Rattle.sml_graph.specs.Changes.{IsChange, SameOutside}
use Rattle.sml_graph.specs.CodeRanks.{HasRank, no_order, order_at, AreBelow, AreOrdered, IsOrderedTo, AreOrderedBut, AreOrderedBeside, FindsUnordered, IsFoundIn, AreFrom, IsDone, IsSearch, Gives}
use Rattle.sml_graph.proofs.Merging.{same_or_not, all-append}
use Rattle.sml_graph.proofs.Changing.{has-map, has-all, all-changes, all-both, first-kept}
use Rattle.sml_graph.proofs.Limiting.{all-among}
use Rattle.sml_graph.proofs.Searching.{all-parts}

-- parts that are looked at

pub finds-none : (os is : List ℕ) (n : ℕ) → FindsUnordered os [] n is is
finds-none os is n = record { grows = λ i m. m; inside = λ a. a; found = tt }

all-found : (os is js : List ℕ) (n : ℕ) (ks : List ℕ) → ((i : ℕ) → Stands i is → Stands i js) → AllByRecursion (λ k. (order_at os k < n) ⊎ Stands k is) ks → AllByRecursion (λ k. (order_at os k < n) ⊎ Stands k js) ks
all-found os is js n ks g a = all-parts (λ k. (order_at os k < n) ⊎ Stands k is) (λ k. (order_at os k < n) ⊎ Stands k js) ks (λ k h. elim h [ inl l ↦ inl l | inr m ↦ inr (g k m) ]) a

pub finds-more : (os ks ls is js hs : List ℕ) (k n : ℕ) → FindsUnordered os ks n hs is → ls ≡ ks ++ k ∷ [] → js ≡ is ++ k ∷ [] → k < length os → FindsUnordered os ls n hs js
unfolding Stands
finds-more os ks ls is js hs k n f e q l = rw (e, q) record {
  grows = λ i m. Standing.left i is (k ∷ []) (f.grows i m);
  inside = λ a. all-append (λ i. i < length os) is (k ∷ []) (f.inside a) (l, tt);
  found =
      let P : ℕ → Type 0 = λ j. (order_at os j < n) ⊎ Stands j (is ++ k ∷ []) in
      all-append P ks (k ∷ []) (all-found os is (is ++ k ∷ []) n ks (λ i m. Standing.left i is (k ∷ []) m) f.found) (inr (Standing.right k is (k ∷ []) (inl refl)), tt);
}

pub finds-below : (os ks ls is hs : List ℕ) (k n : ℕ) → FindsUnordered os ks n hs is → ls ≡ ks ++ k ∷ [] → order_at os k < n → FindsUnordered os ls n hs is
finds-below os ks ls is hs k n f e l = rw e record {
  grows = f.grows;
  inside = f.inside;
  found = all-append (λ j. (order_at os j < n) ⊎ Stands j is) ks (k ∷ []) f.found (inl l, tt);
}

pub rest-more : (ns : List Node) (os is js : List ℕ) (bs cs : List Change) (c : Change) → AllByRecursion (IsFoundIn ns os is) bs → cs ≡ bs ++ c ∷ [] → FindsUnordered os (drop c.from (parts (node_at ns c.node))) (order_at os c.node) is js → AllByRecursion (IsFoundIn ns os js) cs
rest-more ns os is js bs cs c a e f =
    rw e
    (all-append (IsFoundIn ns os js) bs (c ∷ []) (all-changes (IsFoundIn ns os is) (IsFoundIn ns os js) bs (λ b h. all-found os is js (order_at os b.node) (drop b.from (parts (node_at ns b.node))) f.grows h) a) (f.found, tt))

-- after a search

pub all-positive : (ns : List Node) (e : ℕ) (os : List ℕ) → IsSearch ns e os [] → (i : ℕ) → 0 < order_at os i
all-positive ns e os s i = elim (same_or_not (order_at os i) 0) [ inl q ↦ absurd (s.begun i q) | inr d ↦ omega (arith, d) ]

pub from-given : (ns : List Node) (low b e : ℕ) (os ps : List ℕ) → low ≤ b → AreFrom b os → IsSearch ns e ps [] → Gives ns low e os ps → AreFrom low ps
from-given ns low b e os ps l f s g i =
    let x = f i in
    elim (g.given i (all-positive ns e ps s i)) [ inl q ↦ omega (arith, q, x, l) | inr y ↦ y.0 ]

-- a search that stops at whatever has an order

still-below : (ns : List Node) (low : ℕ) (os ps : List ℕ) (i : ℕ) (ks : List ℕ) → order_at os i < no_order → order_at ps i ≡ order_at os i → Gives ns low no_order os ps → AreBelow os i ks → AreBelow ps i ks
still-below ns low os ps i ks l q g o = all-parts (λ k. (0 < order_at os k) × (order_at os k < order_at os i)) (λ k. (0 < order_at ps k) × (order_at ps k < order_at ps i)) ks (λ k x.
    let y = x.0 in
    let z = x.1 in
    let r = g.keeps k (y, omega (arith, z, l)) in
    (omega (arith, r, y), omega (arith, r, q, z))) o

pub ordered-new : (ns : List Node) (low : ℕ) (os ps : List ℕ) (cs : List Change) → AreOrderedBut ns os cs → IsSearch ns no_order ps [] → Gives ns low no_order os ps → AreOrderedBut ns ps cs
ordered-new ns low os ps cs a s g i h =
    elim (g.given i (all-positive ns no_order ps s i)) [
      | inr x ↦ inl x.2
      | inl q ↦
          let l : order_at os i < no_order = omega (arith, q, h) in
          elim (a i l) [
            | inr m ↦ inr (has-map (IsOrderedTo ns os i) (IsOrderedTo ns ps i) cs (λ c x. (x.0, still-below ns low os ps i (take c.from (parts (node_at ns i))) l q g x.1)) m)
            | inl o ↦ inl (still-below ns low os ps i (parts (node_at ns i)) l q g o)
          ]
    ]

-- what is left to do is among the parts that were found
pub ordered-beside : (ns : List Node) (os : List ℕ) (cs : List Change) (js : List ℕ) → ((i : ℕ) → 0 < order_at os i) → AreOrderedBut ns os cs → AllByRecursion (IsFoundIn ns os js) cs → AreOrderedBeside ns os js
ordered-beside ns os cs js p a r i h =
    let P : ℕ → Type 0 = λ k. ((0 < order_at os k) × (order_at os k < order_at os i)) ⊎ Stands k js in
    let own : (ks : List ℕ) → AreBelow os i ks → AllByRecursion P ks = λ ks o. all-parts (λ k. (0 < order_at os k) × (order_at os k < order_at os i)) P ks (λ k x. inl x) o in
    elim (a i h) [
      | inl o ↦ own (parts (node_at ns i)) o
      | inr m ↦ has-all (IsFoundIn ns os js) (IsOrderedTo ns os i) (AllByRecursion P (parts (node_at ns i))) cs (λ c f x.
          let new : AllByRecursion (λ k. (order_at os k < order_at os i) ⊎ Stands k js) (drop c.from (parts (node_at ns i))) = rw x.0 at f in
          all-both P c.from (parts (node_at ns i)) (own (take c.from (parts (node_at ns i))) x.1)
          (all-parts (λ k. (order_at os k < order_at os i) ⊎ Stands k js) P (drop c.from (parts (node_at ns i))) (λ k y. elim y [ inl l ↦ inl (p k, l) | inr z ↦ inr z ]) new)) r m
    ]

pub ordered-none : (ns : List Node) (os is : List ℕ) → length is ≡ 0 → AreOrderedBeside ns os is → AreOrdered ns os
unfolding Stands
ordered-none ns os [] e a i h = all-parts (λ k. ((0 < order_at os k) × (order_at os k < order_at os i)) ⊎ Stands k []) (λ k. (0 < order_at os k) × (order_at os k < order_at os i)) (parts (node_at ns i)) (λ k x. elim x [ inl o ↦ o | inr m ↦ absurd m ]) (a i h)
ordered-none ns os (k ∷ is) e a i h = absurd (omega (arith, e))

-- a search below all orders, from all parts that aren't below their nodes
pub ordered-below : (ns : List Node) (low b : ℕ) (os ps is : List ℕ) → AreFrom b os → AreOrderedBeside ns os is → IsSearch ns b ps [] → AllByRecursion (λ i. IsDone b (order_at ps i)) is → Gives ns low b os ps → AreOrdered ns ps
ordered-below ns low b os ps is f a s d g i h =
    elim (g.given i (all-positive ns b ps s i)) [
      | inr x ↦ x.2
      | inl q ↦
          let l : order_at os i < no_order = omega (arith, q, h) in
          let high = f i in
          all-parts (λ k. ((0 < order_at os k) × (order_at os k < order_at os i)) ⊎ Stands k is) (λ k. (0 < order_at ps k) × (order_at ps k < order_at ps i)) (parts (node_at ns i)) (λ k x.
          elim x [
            | inr m ↦ let y = all-among (λ i. IsDone b (order_at ps i)) is k d m in let w = y.1 in (y.0, omega (arith, w, q, high))
            | inl o ↦
                let z = o.1 in
                let p = all-positive ns b ps s k in
                (p, elim (g.given k p) [ inl r ↦ omega (arith, r, q, z) | inr y ↦ let w = y.1 in omega (arith, w, q, high) ])
          ]) (a i l)
    ]

-- what was changed is left to do
pub changed-ordered : (ns ms : List Node) (os : List ℕ) (cs : List Change) → AreOrdered ns os → SameOutside ns ms cs → AreOrderedBut ms os cs
changed-ordered ns ms os cs a o i h =
    elim (o i) [
      | inl e ↦ inl (rw e (a i h))
      | inr m ↦ inr (has-map (IsChange i (node_at ns i) (node_at ms i)) (IsOrderedTo ms os i) cs (λ c x. (x.0, first-kept (λ k. (0 < order_at os k) × (order_at os k < order_at os i)) c.from (node_at ns i) (node_at ms i) x.1 (a i h))) m)
    ]

-- all that was changed has an order

-- the order of the change's node
abbrev pub IsNumbered : List ℕ → Change → Type 0
IsNumbered os c = order_at os c.node < no_order

pub has-new : (os is : List ℕ) (cs : List Change) → AllByRecursion (λ c. Stands c.node is) cs → AllByRecursion (λ i. IsDone no_order (order_at os i)) is → AllByRecursion (IsNumbered os) cs
has-new os is cs a d = all-changes (λ c. Stands c.node is) (IsNumbered os) cs (λ c m. (all-among (λ i. IsDone no_order (order_at os i)) is c.node d m).1) a

pub has-below : (ns : List Node) (low b : ℕ) (os ps : List ℕ) (cs : List Change) → AreFrom b os → IsSearch ns b ps [] → Gives ns low b os ps → AllByRecursion (IsNumbered os) cs → AllByRecursion (IsNumbered ps) cs
has-below ns low b os ps cs f s g a =
    all-changes (IsNumbered os) (IsNumbered ps) cs (λ c x.
    let y = f c.node in
    elim (g.given c.node (all-positive ns b ps s c.node)) [ inl q ↦ omega (arith, q, x) | inr z ↦ let w = z.1 in omega (arith, w, x, y) ]) a

pub grounded : (before ns : List Node) (os : List ℕ) (cs : List Change) → HasRank before → SameOutside before ns cs → AreOrdered ns os → AllByRecursion (IsNumbered os) cs → HasRank ns
grounded before ns os cs h o a n =
    let rank : ℕ → ℕ = λ i. elim (cases_lt (order_at os i) no_order) [ inl _ ↦ order_at os i | inr _ ↦ no_order + h.rank i ] in
    let low : (i : ℕ) → order_at os i < no_order → rank i ≡ order_at os i = λ i l. elim (cases_lt (order_at os i) no_order) as (λ d. elim d as (λ _. ℕ) [ inl _ ↦ order_at os i | inr _ ↦ no_order + h.rank i ] ≡ order_at os i) [ inl _ ↦ refl | inr g ↦ absurd (omega (arith, l, g)) ] in
    let high : (i : ℕ) → no_order ≤ order_at os i → rank i ≡ no_order + h.rank i = λ i g. elim (cases_lt (order_at os i) no_order) as (λ d. elim d as (λ _. ℕ) [ inl _ ↦ order_at os i | inr _ ↦ no_order + h.rank i ] ≡ no_order + h.rank i) [ inl l ↦ absurd (omega (arith, l, g)) | inr _ ↦ refl ] in
    record {
      rank = rank;
      ranked = λ i.
          elim (cases_lt (order_at os i) no_order) [
            | inl l ↦
                let x = low i l in
                all-parts (λ k. (0 < order_at os k) × (order_at os k < order_at os i)) (λ k. rank k < rank i) (parts (node_at ns i)) (λ k p. let z = p.1 in let y = low k (omega (arith, z, l)) in omega (arith, x, y, z)) (a i l)
            | inr g ↦
                elim (o i) [
                  | inr m ↦ absurd (has-all (IsNumbered os) (IsChange i (node_at before i) (node_at ns i)) ⊥ cs (λ c x y. let q = ap (order_at os) y.0 in omega (arith, x, q, g)) n m)
                  | inl same ↦
                      let x = high i g in
                      all-parts (λ k. h.rank k < h.rank i) (λ k. rank k < rank i) (parts (node_at ns i)) (λ k p.
                      elim (cases_lt (order_at os k) no_order) [
                        | inl l ↦ let y = low k l in omega (arith, x, y, l)
                        | inr e ↦ let y = high k e in omega (arith, x, y, p)
                      ]) (rw same (h.ranked i))
                ]
          ];
    }
