-- A search through the nodes, and what it finds.
use Rattle.std.proofs.Common.{◌≡◌, ◌≢◌, ℕ, zero, suc, ◌+◌, ◌-◌, ◌<◌, ◌≤◌, ◌⊎◌, inl, inr, cond, nat_lt, List, [], ◌∷◌, ◌++◌, length, get_or, set, sym, ◌∙◌, ap, subst, refl, arith, get_or-set_same, get_or-set_other}
use Rattle.std.proofs.lemmas.Bool.Decides.{nat_tests}
use Rattle.std.proofs.Math.ListN.{length-set}
use Rattle.std.proofs.lemmas.List.{get_or_default}
use Rattle.std.specs.List.{AllByRecursion}
use Rattle.sml_graph.specs.declared.finite.Visit.{Visit}
use Rattle.sml_graph.specs.declared.node.Node.{Node}
use Rattle.sml_graph.specs.declared.node.Node.TheVariants.{Unknown}
use Rattle.sml_graph.specs.Graphs.{node_at, parts, IsSound}
use Rattle.sml_graph.specs.CodeRanks.{IsRanked, HasRank, no_order, order_at, IsAbove, IsDone, IsVisit, IsFalling, IsVisited, IsApart, IsSearch, IsGiven, Gives, fresh_weight, visit_weight}
use Rattle.sml_graph.proofs.Merging.{same_or_not, all-append}
use Rattle.sml_graph.proofs.Interning.{parts-inside, inside-at, all-at}

-- the root is being visited or done
abbrev pub Reaches : ℕ → ℕ → List ℕ → List Visit → Type 0
Reaches e root os vs = IsDone e (order_at os root) ⊎ IsVisited root vs

-- visits, and one more

all-last : (P : Visit → Type 0) (vs : List Visit) (v : Visit) → AllByRecursion P (vs ++ v ∷ []) → AllByRecursion P vs × P v
all-last P [] v a = (tt, a.0)
all-last P (u ∷ vs) v a = let r = all-last P vs v a.1 in ((a.0, r.0), r.1)

all-map : (P Q : Visit → Type 0) (vs : List Visit) → ((u : Visit) → IsVisited u.node vs → P u → Q u) → AllByRecursion P vs → AllByRecursion Q vs
all-map P Q [] f a = tt
all-map P Q (u ∷ vs) f a = (f u (inl refl) a.0, all-map P Q vs (λ w m. f w (inr m)) a.1)

visited-front : (i : ℕ) (vs : List Visit) (v : Visit) → IsVisited i vs → IsVisited i (vs ++ v ∷ [])
visited-front i [] v m = absurd m
visited-front i (u ∷ vs) v m = elim m [ inl e ↦ inl e | inr r ↦ inr (visited-front i vs v r) ]

pub visited-last : (i : ℕ) (vs : List Visit) (v : Visit) → i ≡ v.node → IsVisited i (vs ++ v ∷ [])
visited-last i [] v e = inl e
visited-last i (u ∷ vs) v e = inr (visited-last i vs v e)

visited-cases : (i : ℕ) (vs : List Visit) (v : Visit) → IsVisited i (vs ++ v ∷ []) → IsVisited i vs ⊎ (i ≡ v.node)
visited-cases i [] v m = elim m [ inl e ↦ inr e | inr r ↦ absurd r ]
visited-cases i (u ∷ vs) v m =
    elim m [
      | inl e ↦ inl (inl e)
      | inr r ↦ elim (visited-cases i vs v r) [ inl a ↦ inl (inr a) | inr e ↦ inr e ]
    ]

falling-front : (r : ℕ → ℕ) (vs : List Visit) (v : Visit) → IsFalling r (vs ++ v ∷ []) → IsFalling r vs
falling-front r [] v f = tt
falling-front r (u ∷ vs) v f = ((all-last (λ x. r x.node < r u.node) vs v f.0).0, falling-front r vs v f.1)

falling-last : (r : ℕ → ℕ) (vs : List Visit) (v : Visit) → IsFalling r (vs ++ v ∷ []) → (i : ℕ) → IsVisited i vs → r v.node < r i
falling-last r [] v f i m = absurd m
falling-last r (u ∷ vs) v f i m =
    elim m [
      | inl e ↦ rw e (all-last (λ x. r x.node < r u.node) vs v f.0).1
      | inr a ↦ falling-last r vs v f.1 i a
    ]

push : (P : Visit → Type 0) (vs : List Visit) (w : Visit) → AllByRecursion P vs → P w → AllByRecursion P (vs ++ w ∷ [])
push P vs w a h = all-append P vs (w ∷ []) a (h, tt)

falling-push : (r : ℕ → ℕ) (vs : List Visit) (w : Visit) → IsFalling r vs → ((i : ℕ) → IsVisited i vs → r w.node < r i) → IsFalling r (vs ++ w ∷ [])
falling-push r [] w f h = (tt, tt)
falling-push r (u ∷ vs) w f h = (push (λ x. r x.node < r u.node) vs w f.0 (h u.node (inl refl)), falling-push r vs w f.1 (λ i m. h i (inr m)))

apart-front : (vs : List Visit) (v : Visit) → IsApart (vs ++ v ∷ []) → IsApart vs
apart-front [] v a = tt
apart-front (u ∷ vs) v a = (λ m. a.0 (visited-front u.node vs v m), apart-front vs v a.1)

apart-last : (vs : List Visit) (v : Visit) → IsApart (vs ++ v ∷ []) → IsVisited v.node vs → ⊥
apart-last [] v a m = m
apart-last (u ∷ vs) v a m =
    elim m [
      | inl e ↦ a.0 (visited-last u.node vs v (sym e))
      | inr r ↦ apart-last vs v a.1 r
    ]

apart-push : (vs : List Visit) (w : Visit) → IsApart vs → (IsVisited w.node vs → ⊥) → IsApart (vs ++ w ∷ [])
apart-push [] w a h = (λ m. m, tt)
apart-push (u ∷ vs) w a h = (
  λ m. elim (visited-cases u.node vs w m) [ inl x ↦ a.0 x | inr e ↦ h (inl (sym e)) ],
  apart-push vs w a.1 (λ m. h (inr m)),
)

-- orders

pub all-parts : (P Q : ℕ → Type 0) (ks : List ℕ) → ((k : ℕ) → P k → Q k) → AllByRecursion P ks → AllByRecursion Q ks
all-parts P Q [] f a = tt
all-parts P Q (k ∷ ks) f a = (f k a.0, all-parts P Q ks f a.1)

all-index : (P : ℕ → Type 0) (ks : List ℕ) → ((x : ℕ) → x < length ks → P (get_or ks x 0)) → AllByRecursion P ks
all-index P [] f = tt
all-index P (k ∷ ks) f = (f 0 (omega arith), all-index P ks (λ x l. f (suc x) (omega (arith, l))))

visited-order : (ns : List Node) (os : List ℕ) (e : ℕ) (vs : List Visit) → AllByRecursion (IsVisit ns e os) vs → (i : ℕ) → IsVisited i vs → order_at os i ≡ 0
visited-order ns os e [] a i m = absurd m
visited-order ns os e (v ∷ vs) a i m = elim m [ inl q ↦ ap (order_at os) q ∙ a.0.2 | inr r ↦ visited-order ns os e vs a.1 i r ]

order-same : (os : List ℕ) (i m : ℕ) → i < length os → order_at (set os i m) i ≡ m
order-same os i m h = get_or-set_same os i m no_order h

order-other : (os : List ℕ) (i j m : ℕ) → j ≢ i → order_at (set os i m) j ≡ order_at os j
order-other os i j m d = get_or-set_other os i j m no_order d

-- no order below the limit is changed
abbrev pub Keeps : ℕ → List ℕ → List ℕ → Type 0
Keeps e os ps = (i : ℕ) → IsDone e (order_at os i) → order_at ps i ≡ order_at os i

done-keeps : (e : ℕ) (os ps : List ℕ) (i : ℕ) → order_at ps i ≡ order_at os i → IsDone e (order_at os i) → IsDone e (order_at ps i)
done-keeps e os ps i q d = let x = d.0 in let y = d.1 in (omega (arith, q, x), omega (arith, q, y))

pub given-keeps : (ns : List Node) (low e : ℕ) (os ps : List ℕ) (i : ℕ) → 0 < low → Keeps e os ps → IsGiven ns low e os i → IsGiven ns low e ps i
given-keeps ns low e os ps i z k g =
    let l = g.0 in
    let h = g.1 in
    let q = k i (omega (arith, l, z), h) in (
      omega (arith, q, l),
      omega (arith, q, h),
      all-parts (λ j. (0 < order_at os j) × (order_at os j < order_at os i)) (λ j. (0 < order_at ps j) × (order_at ps j < order_at ps i)) (parts (node_at ns i)) (λ j x.
          let a = x.0 in
          let b = x.1 in
          let y = k j (a, omega (arith, b, h)) in
          (omega (arith, y, a), omega (arith, y, b, q))) g.2,
    )

pub gives-none : (ns : List Node) (low e : ℕ) (os : List ℕ) → Gives ns low e os os
gives-none ns low e os = record { keeps = λ i d. refl; given = λ i h. inl refl }

pub gives-then : (ns : List Node) (low e : ℕ) (os ps qs : List ℕ) → 0 < low → Gives ns low e os ps → Gives ns low e ps qs → Gives ns low e os qs
gives-then ns low e os ps qs z a b = record {
  keeps = λ i d. b.keeps i (done-keeps e os ps i (a.keeps i d) d) ∙ a.keeps i d;
  given = λ i h.
      elim (b.given i h) [
        | inl q ↦
            elim (a.given i (omega (arith, h, q))) [
              | inl r ↦ inl (q ∙ r)
              | inr g ↦ inr (given-keeps ns low e ps qs i z b.keeps g)
            ]
        | inr g ↦ inr g
      ];
}

-- a node that is new is visited, below those that are being visited
pub keep-begin : (e : ℕ) (os : List ℕ) (k : ℕ) → e ≤ order_at os k → Keeps e os (set os k 0)
keep-begin e os k m i d =
    let n : i ≢ k = λ q. let x : order_at os i ≡ order_at os k = ap (order_at os) q in let y = d.1 in omega (arith, m, x, y) in
    order-other os k i 0 n

pub search-begin : (ns : List Node) (e : ℕ) (os : List ℕ) (vs : List Visit) (k : ℕ) (w : Visit) → IsSearch ns e os vs → k < length ns → e ≤ order_at os k → w.node ≡ k → w.next ≡ 0 → ((r : ℕ → ℕ) → IsRanked ns r → (i : ℕ) → IsVisited i vs → r k < r i) → IsSearch ns e (set os k 0) (vs ++ w ∷ [])
search-begin ns e os vs k w s below m wn wx low =
    let len = s.len in
    let z = s.positive in
    let inside : k < length os = omega (arith, below, len) in
    let new : IsVisited k vs → ⊥ = λ a. let x : order_at os k ≡ 0 = visited-order ns os e vs s.visits k a in omega (arith, x, m, z) in
    let still : (i : ℕ) → IsDone e (order_at os i) → IsDone e (order_at (set os k 0) i) = λ i d. done-keeps e os (set os k 0) i (keep-begin e os k m i d) d in
    record {
      len = length-set os k 0 ∙ s.len;
      positive = z;
      begun = λ i q.
          elim (same_or_not i k) [
            | inl a ↦ visited-last i vs w (a ∙ sym wn)
            | inr d ↦ visited-front i vs w (s.begun i (sym (order-other os k i 0 d) ∙ q))
          ];
      visits = push (IsVisit ns e (set os k 0)) vs w
          (all-map (IsVisit ns e os) (IsVisit ns e (set os k 0)) vs (λ u at x.
          let d : u.node ≢ k = λ q. let y : order_at os u.node ≡ order_at os k = ap (order_at os) q in let o = x.2 in omega (arith, y, o, m, z) in
          (x.0, x.1, order-other os k u.node 0 d ∙ x.2, λ y l. still (get_or (parts (node_at ns u.node)) y 0) (x.3 y l))) s.visits)
          (rw wn below, omega (arith, wx), rw wn (order-same os k 0 inside), λ x l. absurd (omega (arith, l, wx)));
      apart = apart-push vs w s.apart (λ a. new (subst (λ x. IsVisited x vs) wn a));
      falls = λ r a. falling-push r vs w (s.falls r a) (λ i b. let x = low r a i b in let y : r w.node ≡ r k = ap r wn in omega (arith, x, y));
    }

pub gives-begin : (ns : List Node) (low e : ℕ) (os ps : List ℕ) (k : ℕ) → 0 < low → k < length ps → e ≤ order_at ps k → Gives ns low e os ps → Gives ns low e os (set ps k 0)
gives-begin ns low e os ps k z inside m g = record {
  keeps = λ i d. keep-begin e ps k m i (done-keeps e os ps i (g.keeps i d) d) ∙ g.keeps i d;
  given = λ i h.
      let n : i ≢ k = λ q. let x : order_at (set ps k 0) i ≡ 0 = rw q (order-same ps k 0 inside) in omega (arith, x, h) in
      let y = order-other ps k i 0 n in
      elim (g.given i (omega (arith, y, h))) [
        | inl q ↦ inl (y ∙ q)
        | inr x ↦ inr (given-keeps ns low e ps (set ps k 0) i z (keep-begin e ps k m) x)
      ];
}

pub reach-begin : (e : ℕ) (os : List ℕ) (k root : ℕ) (vs : List Visit) (w : Visit) → e ≤ order_at os k → Reaches e root os vs → Reaches e root (set os k 0) (vs ++ w ∷ [])
reach-begin e os k root vs w m h = elim h [ inl d ↦ inl (done-keeps e os (set os k 0) root (keep-begin e os k m root d) d) | inr a ↦ inr (visited-front root vs w a) ]

-- a node as the code reads it
pub read_at : (ns : List Node) (i : ℕ) (x : Node) → i < length ns → x ≡ get_or ns i x → node_at ns i ≡ x
read_at ns i x h a = get_or_default ns i Unknown x h ∙ sym a

module _ (ns : List Node) (e : ℕ) (os : List ℕ) (vs : List Visit) (v : Visit) where
  abbrev pub part : ℕ → Type 0
  part k = (v.next < length (parts (node_at ns v.node))) × (k ≡ get_or (parts (node_at ns v.node)) v.next 0)

  pub search-node : IsSearch ns e os (vs ++ v ∷ []) → v.node < length ns
  search-node s = (all-last (IsVisit ns e os) vs v s.visits).1.0

  node-order : IsSearch ns e os (vs ++ v ∷ []) → order_at os v.node ≡ 0
  node-order s = (all-last (IsVisit ns e os) vs v s.visits).1.2

  -- a node all of whose parts are done
  pub keep-close : (n : ℕ) → IsSearch ns e os (vs ++ v ∷ []) → Keeps e os (set os v.node n)
  keep-close n s i d =
      let was = node-order s in
      let x : i ≢ v.node = λ q. let y : order_at os i ≡ order_at os v.node = ap (order_at os) q in let z = d.0 in omega (arith, y, z, was) in
      order-other os v.node i n x

  pub search-close : (n : ℕ) → 0 < n → IsSearch ns e os (vs ++ v ∷ []) → IsSearch ns e (set os v.node n) vs
  search-close n p s =
      let both = all-last (IsVisit ns e os) vs v s.visits in
      let len = s.len in
      let inside : v.node < length os = omega (arith, both.1.0, len) in
      let still : (k : ℕ) → IsDone e (order_at os k) → IsDone e (order_at (set os v.node n) k) = λ k d. done-keeps e os (set os v.node n) k (keep-close n s k d) d in
      record {
        len = length-set os v.node n ∙ s.len;
        positive = s.positive;
        begun = λ i m.
            elim (same_or_not i v.node) [
              | inl q ↦ let x : order_at (set os v.node n) i ≡ n = rw q (order-same os v.node n inside) in absurd (omega (arith, x, m, p))
              | inr d ↦ elim (visited-cases i vs v (s.begun i (sym (order-other os v.node i n d) ∙ m))) [ inl a ↦ a | inr q ↦ absurd (d q) ]
            ];
        visits = all-map (IsVisit ns e os) (IsVisit ns e (set os v.node n)) vs (λ u at p.
            let d : u.node ≢ v.node = λ q. apart-last vs v s.apart (subst (λ x. IsVisited x vs) q at) in
            (p.0, p.1, order-other os v.node u.node n d ∙ p.2, λ x l. still (get_or (parts (node_at ns u.node)) x 0) (p.3 x l))) both.0;
        apart = apart-front vs v s.apart;
        falls = λ r a. falling-front r vs v (s.falls r a);
      }

  parts-done : IsSearch ns e os (vs ++ v ∷ []) → length (parts (node_at ns v.node)) ≤ v.next → AllByRecursion (λ k. IsDone e (order_at os k)) (parts (node_at ns v.node))
  parts-done s h =
      let both = all-last (IsVisit ns e os) vs v s.visits in
      all-index (λ k. IsDone e (order_at os k)) (parts (node_at ns v.node)) (λ x l. both.1.3 x (omega (arith, l, h)))

  all-two : (P Q R : ℕ → Type 0) (ks : List ℕ) → ((k : ℕ) → P k → Q k → R k) → AllByRecursion P ks → AllByRecursion Q ks → AllByRecursion R ks
  all-two P Q R [] f a b = tt
  all-two P Q R (k ∷ ks) f a b = (f k a.0 b.0, all-two P Q R ks f a.1 b.1)

  pub gives-close : (low n : ℕ) (ls : List ℕ) → 0 < low → low ≤ n → n < e → IsAbove os (node_at ns v.node) n → IsSearch ns e os (vs ++ v ∷ []) → length (parts (node_at ns v.node)) ≤ v.next → Gives ns low e ls os → Gives ns low e ls (set os v.node n)
  gives-close low n ls z l b up s h g =
      let len = s.len in
      let here = search-node s in
      let inside : v.node < length os = omega (arith, here, len) in
      let ps = set os v.node n in
      let o : order_at ps v.node ≡ n = order-same os v.node n inside in
      let given : IsGiven ns low e ps v.node = (
        omega (arith, o, l),
        omega (arith, o, b),
        all-two (λ k. IsDone e (order_at os k)) (λ k. order_at os k < n) (λ k. (0 < order_at ps k) × (order_at ps k < order_at ps v.node)) (parts (node_at ns v.node)) (λ k d x.
            let q = keep-close n s k d in
            let y = d.0 in
            (omega (arith, q, y), omega (arith, q, x, o))) (parts-done s h) up,
      ) in
      record {
        keeps = λ i d. keep-close n s i (done-keeps e ls os i (g.keeps i d) d) ∙ g.keeps i d;
        given = λ i p.
            elim (same_or_not i v.node) [
              | inl q ↦ inr (subst (IsGiven ns low e ps) (sym q) given)
              | inr d ↦
                  let y = order-other os v.node i n d in
                  elim (g.given i (omega (arith, y, p))) [
                    | inl q ↦ inl (y ∙ q)
                    | inr x ↦ inr (given-keeps ns low e os ps i z (keep-close n s) x)
                  ]
            ];
      }

  pub reach-close : (n root : ℕ) → 0 < n → n < e → IsSearch ns e os (vs ++ v ∷ []) → Reaches e root os (vs ++ v ∷ []) → Reaches e root (set os v.node n) vs
  reach-close n root p b s h =
      let len = s.len in
      let here = search-node s in
      elim h [
        | inl d ↦ inl (done-keeps e os (set os v.node n) root (keep-close n s root d) d)
        | inr a ↦
            elim (visited-cases root vs v a) [
              | inl b ↦ inr b
              | inr q ↦
                  let o : order_at (set os v.node n) root ≡ n = rw q (order-same os v.node n (omega (arith, here, len))) in
                  inl (omega (arith, o, p), omega (arith, o, b))
            ]
      ]

  -- a part that is done is passed
  pub search-next : (k : ℕ) (w : Visit) → IsSearch ns e os (vs ++ v ∷ []) → part k → IsDone e (order_at os k) → w.node ≡ v.node → w.next ≡ v.next + 1 → IsSearch ns e os (vs ++ w ∷ [])
  search-next k w s p m wn wx =
      let both = all-last (IsVisit ns e os) vs v s.visits in
      record {
        len = s.len;
        positive = s.positive;
        begun = λ i q. elim (visited-cases i vs v (s.begun i q)) [ inl a ↦ visited-front i vs w a | inr a ↦ visited-last i vs w (a ∙ sym wn) ];
        visits = push (IsVisit ns e os) vs w both.0 (
          rw wn both.1.0,
          rw (wn, wx) (omega (arith, p.0)),
          rw wn both.1.2,
          λ x l.
              let q : get_or (parts (node_at ns w.node)) x 0 ≡ get_or (parts (node_at ns v.node)) x 0 = ap (λ n. get_or (parts (node_at ns n)) x 0) wn in
              elim (same_or_not x v.next) [
                | inl y ↦ subst (λ j. IsDone e (order_at os j)) (sym (q ∙ (ap (λ z. get_or (parts (node_at ns v.node)) z 0) y ∙ sym p.1))) m
                | inr d ↦ subst (λ j. IsDone e (order_at os j)) (sym q) (both.1.3 x (omega (arith, l, d, wx)))
              ],
        );
        apart = apart-push vs w (apart-front vs v s.apart) (λ a. apart-last vs v s.apart (subst (λ x. IsVisited x vs) wn a));
        falls = λ r a. falling-push r vs w (falling-front r vs v (s.falls r a)) (λ i b. let c = falling-last r vs v (s.falls r a) i b in let d : r w.node ≡ r v.node = ap r wn in omega (arith, c, d));
      }

  pub search-part : (k : ℕ) → IsSound ns → IsSearch ns e os (vs ++ v ∷ []) → part k → k < length ns
  search-part k sound s p = rw p.1 (inside-at (length ns) (parts (node_at ns v.node)) v.next (parts-inside (length ns) v.node (node_at ns v.node) (search-node s) (sound v.node)) p.0)

  -- a part that is new is visited
  pub search-deeper : (k : ℕ) (w : Visit) → IsSound ns → IsSearch ns e os (vs ++ v ∷ []) → part k → e ≤ order_at os k → w.node ≡ k → w.next ≡ 0 → IsSearch ns e (set os k 0) ((vs ++ v ∷ []) ++ w ∷ [])
  search-deeper k w sound s p m wn wx = search-begin ns e os (vs ++ v ∷ []) k w s (search-part k sound s p) m wn wx (λ r a i b.
      let lower : r k < r v.node = rw p.1 (all-at (λ j. r j < r v.node) (parts (node_at ns v.node)) v.next 0 (a v.node) p.0) in
      elim (visited-cases i vs v b) [
        | inl c ↦ let x = falling-last r vs v (s.falls r a) i c in omega (arith, x, lower)
        | inr q ↦ let x : r i ≡ r v.node = ap r q in omega (arith, x, lower)
      ])

  pub reach-next : (root : ℕ) (w : Visit) → w.node ≡ v.node → Reaches e root os (vs ++ v ∷ []) → Reaches e root os (vs ++ w ∷ [])
  reach-next root w wn h =
      elim h [
        | inl m ↦ inl m
        | inr a ↦ inr (elim (visited-cases root vs v a) [ inl b ↦ visited-front root vs w b | inr q ↦ visited-last root vs w (q ∙ sym wn) ])
      ]

  -- a part that is being visited
  pub search-cycle : (k : ℕ) → IsSearch ns e os (vs ++ v ∷ []) → part k → order_at os k ≡ 0 → HasRank ns → ⊥
  search-cycle k s p m h =
      let r = h.rank in
      let f = s.falls r h.ranked in
      let lower : r k < r v.node = rw p.1 (all-at (λ j. r j < r v.node) (parts (node_at ns v.node)) v.next 0 (h.ranked v.node) p.0) in
      elim (visited-cases k vs v (s.begun k m)) [
        | inl c ↦ let x = falling-last r vs v f k c in omega (arith, x, lower)
        | inr q ↦ let x : r k ≡ r v.node = ap r q in omega (arith, x, lower)
      ]

-- how much is left

fresh-set : (e : ℕ) (ns : List Node) (os : List ℕ) (i m : ℕ) → length os ≡ length ns → i < length os → fresh_weight e ns (set os i m) + cond (nat_lt (order_at os i) e) 0 (length (parts (node_at ns i)) + 2) ≡ fresh_weight e ns os + cond (nat_lt m e) 0 (length (parts (node_at ns i)) + 2)
fresh-set e ns [] i m n h = absurd (omega (arith, h))
fresh-set e [] (x ∷ os) i m n h = absurd (omega (arith, n))
fresh-set e (y ∷ ns) (x ∷ os) zero m n h = omega arith
fresh-set e (y ∷ ns) (x ∷ os) (suc i) m n h = let r = fresh-set e ns os i m (omega (arith, n)) (omega (arith, h)) in omega (arith, r)

less-is : (m e : ℕ) (a b : ℕ) → m < e → cond (nat_lt m e) a b ≡ a
less-is m e a b h = grind (arith, nat_tests)

more-is : (m e : ℕ) (a b : ℕ) → e ≤ m → cond (nat_lt m e) a b ≡ b
more-is m e a b h = grind (arith, nat_tests)

weight-last : (ns : List Node) (vs : List Visit) (v : Visit) → visit_weight ns (vs ++ v ∷ []) ≡ visit_weight ns vs + suc (length (parts (node_at ns v.node)) - v.next)
weight-last ns [] v = omega arith
weight-last ns (u ∷ vs) v = let r = weight-last ns vs v in omega (arith, r)

module _ (ns : List Node) (e : ℕ) (os : List ℕ) (vs us : List Visit) (v : Visit) where
  pub less-close : (m : ℕ) → m < e → IsSearch ns e os us → us ≡ vs ++ v ∷ [] → fresh_weight e ns (set os v.node m) + visit_weight ns vs < fresh_weight e ns os + visit_weight ns us
  less-close m h s q =
      let s' : IsSearch ns e os (vs ++ v ∷ []) = rw q at s in
      let both = all-last (IsVisit ns e os) vs v s'.visits in
      let len = s'.len in
      let z = s'.positive in
      let a = fresh-set e ns os v.node m len (omega (arith, both.1.0, len)) in
      let b = less-is (order_at os v.node) e 0 (length (parts (node_at ns v.node)) + 2) (let x = both.1.2 in omega (arith, x, z)) in
      let c = less-is m e 0 (length (parts (node_at ns v.node)) + 2) h in
      let d : visit_weight ns us ≡ visit_weight ns vs + suc (length (parts (node_at ns v.node)) - v.next) = ap (visit_weight ns) q ∙ weight-last ns vs v in
      omega (arith, a, b, c, d)

  pub less-next : (w : Visit) (ws : List Visit) → us ≡ vs ++ v ∷ [] → ws ≡ vs ++ w ∷ [] → w.node ≡ v.node → w.next ≡ v.next + 1 → v.next < length (parts (node_at ns v.node)) → fresh_weight e ns os + visit_weight ns ws < fresh_weight e ns os + visit_weight ns us
  less-next w ws q r wn wx h =
      let d : visit_weight ns us ≡ visit_weight ns vs + suc (length (parts (node_at ns v.node)) - v.next) = ap (visit_weight ns) q ∙ weight-last ns vs v in
      let f : visit_weight ns ws ≡ visit_weight ns vs + suc (length (parts (node_at ns w.node)) - w.next) = ap (visit_weight ns) r ∙ weight-last ns vs w in
      let n : length (parts (node_at ns w.node)) ≡ length (parts (node_at ns v.node)) = ap (λ x. length (parts (node_at ns x))) wn in
      omega (arith, d, f, n, wx, h)

  pub less-deeper : (k : ℕ) (w : Visit) (ws : List Visit) → IsSearch ns e os us → ws ≡ us ++ w ∷ [] → k < length ns → e ≤ order_at os k → w.node ≡ k → w.next ≡ 0 → fresh_weight e ns (set os k 0) + visit_weight ns ws < fresh_weight e ns os + visit_weight ns us
  less-deeper k w ws s r l m wn wx =
      let len = s.len in
      let z = s.positive in
      let a = fresh-set e ns os k 0 len (omega (arith, l, len)) in
      let b = more-is (order_at os k) e 0 (length (parts (node_at ns k)) + 2) m in
      let c = less-is 0 e 0 (length (parts (node_at ns k)) + 2) z in
      let d : visit_weight ns ws ≡ visit_weight ns us + suc (length (parts (node_at ns w.node)) - w.next) = ap (visit_weight ns) r ∙ weight-last ns us w in
      let n : length (parts (node_at ns w.node)) ≡ length (parts (node_at ns k)) = ap (λ x. length (parts (node_at ns x))) wn in
      omega (arith, a, b, c, d, n, wx)

-- where nothing is being visited, what is below the limit is done
pub done-or-new : (ns : List Node) (e : ℕ) (os : List ℕ) (i : ℕ) → IsSearch ns e os [] → order_at os i < e → IsDone e (order_at os i)
done-or-new ns e os i s h = (elim (same_or_not (order_at os i) 0) [ inl q ↦ absurd (s.begun i q) | inr d ↦ omega (arith, d) ], h)

pub all-done-more : (e : ℕ) (os ps : List ℕ) (is js : List ℕ) (i : ℕ) → AllByRecursion (λ i. IsDone e (order_at os i)) is → Keeps e os ps → IsDone e (order_at ps i) → js ≡ is ++ i ∷ [] → AllByRecursion (λ i. IsDone e (order_at ps i)) js
all-done-more e os ps is js i a k m q =
    rw q (all-append (λ i. IsDone e (order_at ps i)) is (i ∷ []) (all-parts (λ i. IsDone e (order_at os i)) (λ i. IsDone e (order_at ps i)) is (λ j d. done-keeps e os ps j (k j d) d) a) (m, tt))

-- an order as the code reads it
pub order-is : (ns : List Node) (e : ℕ) (os : List ℕ) (vs : List Visit) (v : Visit) (k : ℕ) → IsSound ns → IsSearch ns e os (vs ++ v ∷ []) → part ns e os vs v k → get_or os k 0 ≡ order_at os k
order-is ns e os vs v k sound s p =
    let l = search-part ns e os vs v k sound s p in
    let len = s.len in
    get_or_default os k 0 no_order (omega (arith, l, len))

pub done-part : (e : ℕ) (os : List ℕ) (k : ℕ) → get_or os k 0 ≡ order_at os k → get_or os k 0 ≢ 0 → get_or os k 0 < e → IsDone e (order_at os k)
done-part e os k q d h = (omega (arith, q, d), omega (arith, q, h))

-- numbers above the orders of some nodes, and of one more
pub above-more : (os ks js : List ℕ) (k n m : ℕ) → AllByRecursion (λ i. order_at os i < n) ks → n ≤ m → order_at os k < m → js ≡ ks ++ k ∷ [] → AllByRecursion (λ i. order_at os i < m) js
above-more os ks js k n m a l h q = rw q (all-append (λ i. order_at os i < m) ks (k ∷ []) (all-parts (λ i. order_at os i < n) (λ i. order_at os i < m) ks (λ i x. omega (arith, x, l)) a) (h, tt))
