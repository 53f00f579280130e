-- Limits that are handed on.
use Rattle.std.proofs.Common.{◌≡◌, ◌≢◌, ℕ, zero, suc, ◌+◌, ◌<◌, ◌⊎◌, inl, inr, Bool, true, false, ◌&&◌, Option, Some, None, List, [], ◌∷◌, ◌++◌, length, take, drop, set, sym, ◌∙◌, ap, subst, refl, arith, length-append, get_or-set_same, get_or-set_other}
use Rattle.std.proofs.Math.ListN.{length-set}
use Rattle.std.specs.List.{AllByRecursion}
use Rattle.std.specs.Option.{IfSome}
use Rattle.sml_objects.specs.Appearance.{Stands}
use Rattle.sml_objects.proofs.Standing as Standing
use Rattle.sml_objects.specs.Initial.{Name}
use Rattle.sml_objects.specs.Objects.{MlType}
use Rattle.sml_layers.specs.declared.layer.Layer.{Layer}
use Rattle.sml_layers.specs.declared.layer.Layer.TheVariants.{Equations, Finiteness, Newness, Locality, Equality, Classes, Rigidity}
use Rattle.sml_graph.specs.declared.limits.Limit.{Limit}
use Rattle.sml_graph.specs.declared.change.Change.{Change}
use Rattle.sml_graph.specs.declared.node.Node.{Node}
use Rattle.sml_graph.specs.declared.node.Node.TheVariants.{Unknown, Link, App, Open}
use Rattle.sml_layers.specs.Worlds.{finite}
use Rattle.sml_graph.specs.Worlds.{Assignment}
use Rattle.sml_graph.specs.Graphs.{node_at, parts, head_over}
use Rattle.sml_graph.specs.Changes.{IsOfAll, IsOpenRow, IsAlike, KeepsFirst, AreInside}
use Rattle.sml_graph.specs.Limits.{no_limit, limit_at, MeetsEquality, MeetsAt, KeepsAt, IsUnder, IsOfBoth, both, IsFitNode, asks_parts, handed, AreUnder, IsClosedNode, IsClosedTo, IsClosed, IsFit, IsBefore, IsDoneBut, SameLimits, NoneKeeps, height, heights, Lowers}
use Rattle.sml_graph.proofs.Merging.{same_or_not, all-append}
use Rattle.sml_graph.proofs.Changing.{has-back, has-more, has-map, has-cases, inside-both, begins-self, begins-one, begins-then, all-first, all-both, all-rest}
use Rattle.sml_graph.proofs.Searching.{all-parts}
use Rattle.sml_graph.proofs.Asking.{both-left, both-right, both-meets, none-meets, node-fits, node-parts}

-- limits that are lowered

pub under-refl : (a : Limit) → IsUnder a a
under-refl a l u t w = w

pub under-trans : (a b c : Limit) → IsUnder a b → IsUnder b c → IsUnder a c
under-trans a b c f g l u t w = g l u t (f l u t w)

limit-same : (ls : List Limit) (i : ℕ) (a : Limit) → i < length ls → limit_at (set ls i a) i ≡ a
limit-same ls i a h = get_or-set_same ls i a no_limit h

limit-other : (ls : List Limit) (i j : ℕ) (a : Limit) → j ≢ i → limit_at (set ls i a) j ≡ limit_at ls j
limit-other ls i j a d = get_or-set_other ls i j a no_limit d

heights-set : (ls : List Limit) (i : ℕ) (a : Limit) → i < length ls → heights (set ls i a) + height (limit_at ls i) ≡ heights ls + height a
heights-set [] i a h = absurd (omega (arith, h))
heights-set (x ∷ ls) zero a h = omega arith
heights-set (x ∷ ls) (suc i) a h = let r = heights-set ls i a (omega (arith, h)) in omega (arith, r)

pub lowers-none : (ls : List Limit) (is : List Change) (a : Limit) → Lowers ls is [] a ls is
lowers-none ls is a = record {
  len = refl;
  reach = tt;
  under = λ i. under-refl (limit_at ls i);
  moved = λ i. inl refl;
  grows = begins-self is;
  inside = λ m. m;
  less = omega arith;
}

pub lowers-low : (ls : List Limit) (is : List Change) (at : ℕ) (a : Limit) → both (limit_at ls at) a ≡ limit_at ls at → Lowers ls is (at ∷ []) a ls is
lowers-low ls is at a e = record {
  len = refl;
  reach = (subst (λ x. IsUnder x a) e (both-right (limit_at ls at) a), tt);
  under = λ i. under-refl (limit_at ls i);
  moved = λ i. inl refl;
  grows = begins-self is;
  inside = λ m. m;
  less = omega arith;
}

pub lowers-one : (ls : List Limit) (is : List Change) (at : ℕ) (a x : Limit) → at < length ls → x ≡ both (limit_at ls at) a → height x < height (limit_at ls at) → Lowers ls is (at ∷ []) a (set ls at x) (is ++ record { node = at; from = 0 } ∷ [])
unfolding Stands
lowers-one ls is at a x h e b = record {
  len = length-set ls at x;
  reach = (rw (limit-same ls at x h, e) (both-right (limit_at ls at) a), tt);
  under = λ i.
      elim (same_or_not i at) [
        | inl q ↦ rw (q, limit-same ls at x h, e) (both-left (limit_at ls at) a)
        | inr d ↦ rw (limit-other ls at i x d) (under-refl (limit_at ls i))
      ];
  moved = λ i.
      elim (same_or_not i at) [
        | inl q ↦ inr (rw (q, limit-same ls at x h, e) (both-meets (limit_at ls at) a), inl q, has-back (IsOfAll i) is (record { node = at; from = 0 } ∷ []) (inl (sym q, refl)))
        | inr d ↦ inl (limit-other ls at i x d)
      ];
  grows = begins-one is (is ++ record { node = at; from = 0 } ∷ []) (record { node = at; from = 0 }) refl;
  inside = λ m. inside-both (length ls) is (record { node = at; from = 0 } ∷ []) m (h, tt);
  less = let y = heights-set ls at x h in simp length-append (omega (arith, y, b));
}

pub lowers-then : (ls ms ns : List Limit) (is js ps : List Change) (ks ks' : List ℕ) (a : Limit) → Lowers ls is ks a ms js → Lowers ms js ks' a ns ps → Lowers ls is (ks ++ ks') a ns ps
lowers-then ls ms ns is js ps ks ks' a f g =
    let len = f.len in
    let x = f.less in
    let y = g.less in
    record {
      len = g.len ∙ f.len;
      reach = all-append (λ k. IsUnder (limit_at ns k) a) ks ks' (all-parts (λ k. IsUnder (limit_at ms k) a) (λ k. IsUnder (limit_at ns k) a) ks (λ k. under-trans (limit_at ns k) (limit_at ms k) a (g.under k)) f.reach) g.reach;
      under = λ i. under-trans (limit_at ns i) (limit_at ms i) (limit_at ls i) (g.under i) (f.under i);
      moved = λ i.
          elim (g.moved i) [
            | inl e ↦
                elim (f.moved i) [
                  | inl q ↦ inl (e ∙ q)
                  | inr q ↦ inr (rw e q.0, Standing.left i ks ks' q.1, has-more (IsOfAll i) js ps g.grows q.2)
                ]
            | inr e ↦
                elim (f.moved i) [
                  | inl q ↦ inr (subst (λ z. IsOfBoth z a (limit_at ns i)) q e.0, Standing.right i ks ks' e.1, e.2)
                  | inr q ↦ inr (λ l u t v w. e.0 l u t (q.0 l u t v w) w, Standing.right i ks ks' e.1, e.2)
                ]
          ];
      grows = begins-then is js ps f.grows g.grows;
      inside = λ m. subst (λ k. AreInside k ps) len (g.inside (subst (λ k. AreInside k js) (sym len) (f.inside m)));
      less = omega (arith, x, y);
    }

-- one more node is done

under-still : (ls ms : List Limit) (i : ℕ) (x : Node) (ks : List ℕ) → ((k : ℕ) → IsUnder (limit_at ms k) (limit_at ls k)) → limit_at ms i ≡ limit_at ls i → AreUnder ls (handed x (limit_at ls i)) ks → AreUnder ms (handed x (limit_at ms i)) ks
under-still ls ms i x ks f e c =
    rw e (all-parts (λ k. IsUnder (limit_at ls k) (handed x (limit_at ls i))) (λ k. IsUnder (limit_at ms k) (handed x (limit_at ls i))) ks (λ k. under-trans (limit_at ms k) (limit_at ls k) (handed x (limit_at ls i)) (f k)) c)

pub closed-still : (ls ms : List Limit) (i : ℕ) (x : Node) → ((k : ℕ) → IsUnder (limit_at ms k) (limit_at ls k)) → limit_at ms i ≡ limit_at ls i → IsClosedNode ls i x → IsClosedNode ms i x
closed-still ls ms i x f e c = under-still ls ms i x (parts x) f e c

-- all parts of the node are left to do
left-all : (ls : List Limit) (i : ℕ) (x : Node) (c : Change) → IsOfAll i c → IsClosedTo ls i x c
left-all ls i x c o = (o.0, rw o.1 tt)

-- the change's first parts were done, and now the others are
rest-done : (ls : List Limit) (i : ℕ) (x : Node) (c : Change) → IsClosedTo ls i x c → AreUnder ls (handed x (limit_at ls i)) (drop c.from (parts x)) → IsClosedNode ls i x
rest-done ls i x c a b = all-both (λ k. IsUnder (limit_at ls k) (handed x (limit_at ls i))) c.from (parts x) a.1 b

pub among-cases : (i : ℕ) (xs : List ℕ) (x : ℕ) → Stands i (xs ++ x ∷ []) → Stands i xs ⊎ (i ≡ x)
unfolding Stands
among-cases i [] x a = elim a [ inl e ↦ inr e | inr r ↦ absurd r ]
among-cases i (y ∷ xs) x a =
    elim a [
      | inl e ↦ inl (inl e)
      | inr r ↦ elim (among-cases i xs x r) [ inl b ↦ inl (inr b) | inr e ↦ inr e ]
    ]

pub front-inside : {A : Type 0} (P : A → Type 0) (xs : List A) (x : A) → AllByRecursion P (xs ++ x ∷ []) → AllByRecursion P xs × P x
front-inside P [] x a = (tt, a.0)
front-inside P (y ∷ xs) x a = let r = front-inside P xs x a.1 in ((a.0, r.0), r.1)

pub all-among : (P : ℕ → Type 0) (ks : List ℕ) (i : ℕ) → AllByRecursion P ks → Stands i ks → P i
unfolding Stands
all-among P [] i a m = absurd m
all-among P (k ∷ ks) i a m = elim m [ inl e ↦ rw e a.0 | inr r ↦ all-among P ks i a.1 r ]

pub but-handed : (u : ℕ) (a : Limit) (ns : List Node) (ls ms : List Limit) (f g : Option Layer) (is js : List Change) (c : Change) → IsDoneBut u ns ls f (is ++ c ∷ []) → limit_at ls c.node ≡ a → ((l : Layer) → IsBefore l g → IsBefore l f) → ((l : Layer) → IsBefore l g → IsFitNode l u a (node_at ns c.node)) → Lowers ls is (drop c.from (parts (node_at ns c.node))) (handed (node_at ns c.node) a) ms js → IsDoneBut u ns ms g js
but-handed u a ns ls ms f g is js c b e before fit low i =
    elim (low.moved i) [
      | inr q ↦ inr (has-map (IsOfAll i) (IsClosedTo ms i (node_at ns i)) js (left-all ms i (node_at ns i)) q.2)
      | inl q ↦
          elim (b i) [
            | inl d ↦ inl (closed-still ls ms i (node_at ns i) low.under q d.0, λ l k. rw q (d.1 l (before l k)))
            | inr m ↦
                elim (has-cases (IsClosedTo ls i (node_at ns i)) is c m) [
                  | inl n ↦ inr (has-map (IsClosedTo ls i (node_at ns i)) (IsClosedTo ms i (node_at ns i)) js (λ d x. (x.0, under-still ls ms i (node_at ns i) (take d.from (parts (node_at ns i))) low.under q x.1)) (has-more (IsClosedTo ls i (node_at ns i)) is js low.grows n))
                  | inr n ↦
                      let x = node_at ns i in
                      let at : node_at ns c.node ≡ x = ap (node_at ns) n.0 in
                      let here : limit_at ls i ≡ a = ap (limit_at ls) (sym n.0) ∙ e in
                      let new : AreUnder ms (handed x (limit_at ms i)) (drop c.from (parts x)) = rw (q, here, ← at) low.reach in
                      inl (rest-done ms i x c (n.0, under-still ls ms i x (take c.from (parts x)) low.under q n.1) new, λ l k. rw (q, here, ← at) (fit l k))
                ]
          ]
    ]

pub same-handed : (u : ℕ) (a : Limit) (ns : List Node) (ls ms : List Limit) (is js : List Change) (at n : ℕ) → limit_at ls at ≡ a → Lowers ls is (drop n (parts (node_at ns at))) (handed (node_at ns at) a) ms js → SameLimits u ns ls ms
same-handed u a ns ls ms is js at n e low l σ m = (
  λ k i.
      elim (low.moved i) [
        | inl q ↦ rw q (k i)
        | inr q ↦
            let w : MeetsAt l u a (σ at) = rw e at (k at) in
            let P : ℕ → Type 0 = λ k. MeetsAt l u (handed (node_at ns at) a) (σ k) in
            q.0 l u (σ i) (k i) (all-among P (drop n (parts (node_at ns at))) i (all-rest P n (parts (node_at ns at)) (node-parts l u a σ at (node_at ns at) (m at) w)) q.1)
      ],
  λ k i. low.under i l u (σ i) (k i),
)

pub same-then : (u : ℕ) (ns : List Node) (ls ms ks : List Limit) → SameLimits u ns ls ms → SameLimits u ns ms ks → SameLimits u ns ls ks
same-then u ns ls ms ks a b l σ m = (λ k. (b l σ m).0 ((a l σ m).0 k), λ k. (a l σ m).1 ((b l σ m).1 k))

-- a head that isn't as asked
pub unfit-fails : (u : ℕ) (ns : List Node) (ls ms : List Limit) (at : ℕ) (a : Limit) (f : Option Layer) → limit_at ms at ≡ a → SameLimits u ns ls ms → IfSome f (λ l. IsFitNode l u a (node_at ns at) → ⊥) → IfSome f (NoneKeeps u ns ls)
unfit-fails u ns ls ms at a None e s n = tt
unfit-fails u ns ls ms at a (Some l) e s n = λ σ m k. n (node-fits l u a σ at (node_at ns at) (m at) (λ j h. rw e at ((s j σ m).0 (k j h) at)))

-- what was changed is left to do

alike-handed : (a b : Node) (x : Limit) → IsAlike a b → handed b x ≡ handed a x
alike-handed a b x m = elim m [ inl e ↦ ap (λ z. handed z x) e | inr o ↦ both-open a b o.0 o.1 ] where
  both-open : (a b : Node) → IsOpenRow a → IsOpenRow b → handed b x ≡ handed a x
  both-open Unknown b p q = absurd p
  both-open (Link j) b p q = absurd p
  both-open (App h kids) b p q = absurd p
  both-open (Open fs) Unknown p q = absurd q
  both-open (Open fs) (Link j) p q = absurd q
  both-open (Open fs) (App h kids) p q = absurd q
  both-open (Open fs) (Open gs) p q = refl

pub closed-first : (ls : List Limit) (i n : ℕ) (a b : Node) → KeepsFirst n a b → IsClosedNode ls i a → AreUnder ls (handed b (limit_at ls i)) (take n (parts b))
closed-first ls i n a b k c =
    elim k [
      | inl e ↦ rw e tt
      | inr q ↦ rw (alike-handed a b (limit_at ls i) q.0, q.1) (all-first (λ k. IsUnder (limit_at ls k) (handed a (limit_at ls i))) n (parts a) c)
    ]

-- limits that were just lowered

pub but-lowered : (u : ℕ) (a : Limit) (ns : List Node) (ls ms : List Limit) (ks : List ℕ) (js : List Change) → IsClosed ns ls → ((l : Layer) → IsFit l u ns ls) → Lowers ls [] ks a ms js → IsDoneBut u ns ms None js
but-lowered u a ns ls ms ks js c f low i =
    elim (low.moved i) [
      | inl q ↦ inl (closed-still ls ms i (node_at ns i) low.under q (c i), λ l k. rw q (f l i))
      | inr q ↦ inr (has-map (IsOfAll i) (IsClosedTo ms i (node_at ns i)) js (left-all ms i (node_at ns i)) q.2)
    ]

pub lowered-keeps : (l : Layer) (u : ℕ) (a : Limit) (r : ℕ) (ls ms : List Limit) (js : List Change) (τ : Assignment finite) → Lowers ls [] (r ∷ []) a ms js → KeepsAt l u ls τ → MeetsAt l u a (τ r) → KeepsAt l u ms τ
unfolding Stands
lowered-keeps l u a r ls ms js τ low k w i =
    elim (low.moved i) [
      | inl q ↦ rw q (k i)
      | inr q ↦ elim q.1 [ inl e ↦ q.0 l u (τ i) (k i) (rw e w) | inr x ↦ absurd x ]
    ]

pub keeps-lowered : (l : Layer) (u : ℕ) (a : Limit) (r : ℕ) (ls ms : List Limit) (js : List Change) (τ : Assignment finite) → Lowers ls [] (r ∷ []) a ms js → KeepsAt l u ms τ → KeepsAt l u ls τ × MeetsAt l u a (τ r)
keeps-lowered l u a r ls ms js τ low k = (λ i. low.under i l u (τ i) (k i), low.reach.0 l u (τ r) (k r))

-- nodes of which nothing is asked

none-handed : (l : Layer) (u : ℕ) (x : Node) (t : MlType Name) → MeetsAt l u (handed x no_limit) t
none-handed l u Unknown t = none-meets l u t
none-handed l u (Link j) t = none-meets l u t
none-handed Equations u (App h kids) t = tt
none-handed Finiteness u (App h kids) t = tt
none-handed Newness u (App h kids) t = tt
none-handed Locality u (App h kids) t = tt
none-handed Equality u (App h kids) t = off (asks_parts (head_over h (length kids.items))) where
  off : (b : Bool) → MeetsEquality (b && false) t
  off true = tt
  off false = tt
none-handed Classes u (App h kids) t = tt
none-handed Rigidity u (App h kids) t = tt
none-handed Equations u (Open fs) t = tt
none-handed Finiteness u (Open fs) t = tt
none-handed Newness u (Open fs) t = tt
none-handed Locality u (Open fs) t = tt
none-handed Equality u (Open fs) t = tt
none-handed Classes u (Open fs) t = tt
none-handed Rigidity u (Open fs) t = tt

pub none-closed : (ls : List Limit) (i : ℕ) (x : Node) → limit_at ls i ≡ no_limit → IsClosedNode ls i x
none-closed ls i x e = rw e (every (parts x)) where
  every : (ks : List ℕ) → AllByRecursion (λ k. IsUnder (limit_at ls k) (handed x no_limit)) ks
  every [] = tt
  every (k ∷ ks) = (λ l u t w. none-handed l u x t, every ks)

pub none-fits : (l : Layer) (u : ℕ) (x : Node) → IsFitNode l u no_limit x
none-fits Equations u Unknown = tt
none-fits Finiteness u Unknown = tt
none-fits Newness u Unknown = tt
none-fits Locality u Unknown = tt
none-fits Equality u Unknown = tt
none-fits Classes u Unknown = tt
none-fits Rigidity u Unknown = tt
none-fits l u (Link j) = tt
none-fits Equations u (App h kids) = tt
none-fits Finiteness u (App h kids) = tt
none-fits Newness u (App h kids) = tt
none-fits Locality u (App h kids) = tt
none-fits Equality u (App h kids) = tt
none-fits Classes u (App h kids) = tt
none-fits Rigidity u (App h kids) = tt
none-fits Equations u (Open fs) = tt
none-fits Finiteness u (Open fs) = tt
none-fits Newness u (Open fs) = tt
none-fits Locality u (Open fs) = tt
none-fits Equality u (Open fs) = tt
none-fits Classes u (Open fs) = tt
none-fits Rigidity u (Open fs) = tt

-- the same limits in other lists
pub closed-as : (ks ls : List Limit) (i : ℕ) (x : Node) → ((i : ℕ) → limit_at ls i ≡ limit_at ks i) → IsClosedNode ks i x → IsClosedNode ls i x
closed-as ks ls i x f c = closed-still ks ls i x (λ k. rw (f k) (under-refl (limit_at ks k))) (f i) c

-- the earlier of two layers fails
pub either-fails : (u : ℕ) (ns : List Node) (ls : List Limit) (a b r : Option Layer) → (r ≡ a) ⊎ (r ≡ b) → IfSome a (NoneKeeps u ns ls) → IfSome b (NoneKeeps u ns ls) → IfSome r (NoneKeeps u ns ls)
either-fails u ns ls a b r e f g = elim e [ inl p ↦ rw p f | inr p ↦ rw p g ]

pub done-fits : (u : ℕ) (ns : List Node) (ls : List Limit) (f : Option Layer) (is : List Change) → IsDoneBut u ns ls f is → length is ≡ 0 → (l : Layer) → IsBefore l f → IsFit l u ns ls
done-fits u ns ls f [] b e l h i = elim (b i) [ inl c ↦ c.1 l h | inr m ↦ absurd m ]
done-fits u ns ls f (c ∷ is) b e l h k = absurd (omega (arith, e))
