-- Levels of nodes.
use Rattle.std.proofs.Common.{◌≡◌, ◌≢◌, ℕ, zero, suc, ◌+◌, ◌<◌, ◌≤◌, ◌^◌, inl, inr, Option, None, List, [], ◌∷◌, ◌++◌, length, take, drop, set, get_or, sym, ◌∙◌, ap, subst, refl, arith, length-append, get_or-set_same, get_or-set_other}
use Rattle.std.proofs.Math.ListN.{length-set}
use Rattle.std.proofs.lemmas.Bool.{cases_lt}
use Rattle.std.proofs.lemmas.List.{append-nil, get_or_past}
use Rattle.sml_objects.specs.Appearance.{Stands}
use Rattle.sml_objects.proofs.Standing as Standing
use Rattle.sml_objects.specs.Initial.{Name}
use Rattle.sml_objects.specs.Objects.{MlType}
use Rattle.sml_graph.specs.declared.change.Change.{Change}
use Rattle.sml_graph.specs.declared.node.Node.{Node}
use Rattle.sml_graph.specs.declared.node.Node.TheVariants.{Unknown}
use Rattle.sml_layers.specs.Worlds.{finite}
use Rattle.sml_graph.specs.Worlds.{Assignment}
use Rattle.sml_graph.specs.Graphs.{node_at, parts, Meets, AreOwners}
use Rattle.sml_graph.specs.Changes.{HasChange, IsChange, IsOfAll, AreInside, AreCovered}
use Rattle.sml_graph.specs.Interned.{Interns}
use Rattle.sml_schemes.specs.Fixed.{IsFixedBy}
use Rattle.sml_demands.specs.CodeLevels.{level_of, level_at, AreAtMost, IsHandedNode, IsHandedTo, AreHandedBut, IsLevelOf, AreLevels, Moves, BeginsLevel, levels_sum, LowersLevels, HandsLevels}
use Rattle.sml_graph.proofs.Interning.{get_or-left, get_or-right}
use Rattle.sml_graph.proofs.Merging.{same_or_not, all-append}
use Rattle.sml_graph.proofs.Searching.{all-parts}
use Rattle.sml_graph.proofs.Limiting.{all-among}
use Rattle.sml_graph.proofs.Changing.{all-fewer, has-covered, has-front, has-back, has-more, has-map, has-cases, has-two, inside-both, inside-grown, begins-one, begins-then, all-both, all-rest, first-kept, first-still, first-fewer}
use Rattle.sml_demands.proofs.Reaching.{parts-fixed}
use Rattle.sml_graph.proofs.Wholeness.{get_or-push}

level-same : (ls : List (Option ℕ)) (i : ℕ) (a : Option ℕ) → i < length ls → level_at (set ls i a) i ≡ level_of a
level-same ls i a h = ap level_of (get_or-set_same ls i a None h)

level-other : (ls : List (Option ℕ)) (i j : ℕ) (a : Option ℕ) → j ≢ i → level_at (set ls i a) j ≡ level_at ls j
level-other ls i j a d = ap level_of (get_or-set_other ls i j a None d)

sum-set : (ls : List (Option ℕ)) (i : ℕ) (a : Option ℕ) → i < length ls → levels_sum (set ls i a) + level_at ls i ≡ levels_sum ls + level_of a
sum-set [] i a h = absurd (omega (arith, h))
sum-set (x ∷ ls) zero a h = omega arith
sum-set (x ∷ ls) (suc i) a h = let r = sum-set ls i a (omega (arith, h)) in omega (arith, r)

-- nodes that have no level yet
pub padded : (old new : List (Option ℕ)) (m n : ℕ) → m ≡ length old → m ≤ n → length new ≡ n → ((k : ℕ) (d : Option ℕ) → k < n → k < m → get_or new k d ≡ get_or old k d) → ((k : ℕ) (d : Option ℕ) → m ≤ k → k < n → get_or new k d ≡ None) → (i : ℕ) → level_at new i ≡ level_at old i
padded old new m n e h l f g i =
    elim (cases_lt i n) [
      | inl a ↦
          elim (cases_lt i m) [
            | inl b ↦ ap level_of (f i None a b)
            | inr b ↦ ap level_of (g i None b a ∙ sym (get_or_past old i None (omega (arith, b, e))))
          ]
      | inr a ↦ ap level_of (get_or_past new i None (omega (arith, a, l)) ∙ sym (get_or_past old i None (omega (arith, a, h, e))))
    ]

-- levels that are lowered

pub levels-one : (ls : List (Option ℕ)) (is : List Change) (at : ℕ) (x : Option ℕ) → at < length ls → level_of x < level_at ls at → LowersLevels ls is (at ∷ []) (level_of x) (set ls at x) (is ++ record { node = at; from = 0 } ∷ [])
unfolding Stands
levels-one ls is at x h b =
    let new : Change = record { node = at; from = 0 } in
    let here = level-same ls at x h in
    record {
      len = length-set ls at x;
      reach = (omega (arith, here), tt);
      under = λ i.
          elim (same_or_not i at) [
            | inl q ↦ rw q (omega (arith, here, b))
            | inr d ↦ let o = level-other ls at i x d in omega (arith, o)
          ];
      moved = λ i.
          elim (same_or_not i at) [
            | inl q ↦ inr (rw q here, inl q, has-back (IsOfAll i) is (new ∷ []) (inl (sym q, refl)))
            | inr d ↦ inl (level-other ls at i x d)
          ];
      grows = begins-one is (is ++ new ∷ []) new refl;
      inside = λ m. inside-both (length ls) is (new ∷ []) m (h, tt);
      less = let y = sum-set ls at x h in simp length-append (omega (arith, y, b));
    }

pub levels-then : (ls ms ns : List (Option ℕ)) (is js ps : List Change) (ks ks' : List ℕ) (a : ℕ) → LowersLevels ls is ks a ms js → LowersLevels ms js ks' a ns ps → LowersLevels ls is (ks ++ ks') a ns ps
levels-then ls ms ns is js ps ks ks' a f g =
    let len = f.len in
    let x = f.less in
    let y = g.less in
    record {
      len = g.len ∙ f.len;
      reach = all-append (λ k. level_at ns k ≤ a) ks ks' (all-parts (λ k. level_at ms k ≤ a) (λ k. level_at ns k ≤ a) ks (λ k h. let z = g.under k in omega (arith, z, h)) f.reach) g.reach;
      under = λ i. let p = f.under i in let q = g.under i in omega (arith, p, q);
      moved = λ i.
          elim (g.moved i) [
            | inl e ↦
                elim (f.moved i) [
                  | inl q ↦ inl (e ∙ q)
                  | inr q ↦ inr (e ∙ q.0, Standing.left i ks ks' q.1, has-more (IsOfAll i) js ps g.grows q.2)
                ]
            | inr e ↦ inr (e.0, Standing.right i ks ks' e.1, e.2)
          ];
      grows = begins-then is js ps f.grows g.grows;
      inside = λ m. subst (λ k. AreInside k ps) len (g.inside (subst (λ k. AreInside k js) (sym len) (f.inside m)));
      less = omega (arith, x, y);
    }

-- one more node is done

most-still : (ls ms : List (Option ℕ)) (i : ℕ) (ks : List ℕ) → ((k : ℕ) → level_at ms k ≤ level_at ls k) → level_at ms i ≡ level_at ls i → AreAtMost ls (level_at ls i) ks → AreAtMost ms (level_at ms i) ks
most-still ls ms i ks f e c = all-parts (λ k. level_at ls k ≤ level_at ls i) (λ k. level_at ms k ≤ level_at ms i) ks (λ k h. let z = f k in omega (arith, z, h, e)) c

pub handed-still : (ls ms : List (Option ℕ)) (i : ℕ) (x : Node) → ((k : ℕ) → level_at ms k ≤ level_at ls k) → level_at ms i ≡ level_at ls i → IsHandedNode ls i x → IsHandedNode ms i x
handed-still ls ms i x f e c = most-still ls ms i (parts x) f e c

pub left-still : (ls ms : List (Option ℕ)) (i : ℕ) (x : Node) (cs : List Change) → ((k : ℕ) → level_at ms k ≤ level_at ls k) → level_at ms i ≡ level_at ls i → HasChange (IsHandedTo ls i x) cs → HasChange (IsHandedTo ms i x) cs
left-still ls ms i x cs f e m = has-map (IsHandedTo ls i x) (IsHandedTo ms i x) cs (λ c h. (h.0, most-still ls ms i (take c.from (parts x)) f e h.1)) m

pub handed-covered : (ns : List Node) (ls : List (Option ℕ)) (is js : List Change) → AreCovered is js → AreHandedBut ns ls is → AreHandedBut ns ls js
handed-covered ns ls is js a h i =
    elim (h i) [
      | inl x ↦ inl x
      | inr m ↦ inr (has-covered (IsHandedTo ls i (node_at ns i)) is js (λ c d l x. (l.0 ∙ x.0, all-fewer (λ k. level_at ls k ≤ level_at ls i) d.from c.from (parts (node_at ns i)) l.1 x.1)) a m)
    ]

pub but-lower : (ns : List Node) (ls ms : List (Option ℕ)) (is js : List Change) (c : Change) → AreHandedBut ns ls (is ++ c ∷ []) → LowersLevels ls is (drop c.from (parts (node_at ns c.node))) (level_at ls c.node) ms js → AreHandedBut ns ms js
but-lower ns ls ms is js c b low i =
    elim (low.moved i) [
      | inr q ↦ inr (has-map (IsOfAll i) (IsHandedTo ms i (node_at ns i)) js (λ d o. (o.0, rw o.1 tt)) q.2)
      | inl q ↦
          elim (b i) [
            | inl d ↦ inl (handed-still ls ms i (node_at ns i) low.under q d)
            | inr m ↦
                elim (has-cases (IsHandedTo ls i (node_at ns i)) is c m) [
                  | inl n ↦ inr (left-still ls ms i (node_at ns i) js low.under q (has-more (IsHandedTo ls i (node_at ns i)) is js low.grows n))
                  | inr n ↦
                      let x = node_at ns i in
                      let at : node_at ns c.node ≡ x = ap (node_at ns) n.0 in
                      let here : level_at ls c.node ≡ level_at ms i = ap (level_at ls) n.0 ∙ sym q in
                      let new : AreAtMost ms (level_at ms i) (drop c.from (parts x)) = rw (← here, ← at) low.reach in
                      inl (all-both (λ k. level_at ms k ≤ level_at ms i) c.from (parts x) (most-still ls ms i (take c.from (parts x)) low.under q n.1) new)
                ]
          ]
    ]

pub from-lower : (ns : List Node) (ls ks ms : List (Option ℕ)) (is js : List Change) (at n : ℕ) → ((i : ℕ) → (j : ℕ) × (level_at ks i ≡ level_at ls j) × IsFixedBy ns (j ∷ []) i) → LowersLevels ks is (drop n (parts (node_at ns at))) (level_at ks at) ms js → (i : ℕ) → (j : ℕ) × (level_at ms i ≡ level_at ls j) × IsFixedBy ns (j ∷ []) i
from-lower ns ls ks ms is js at n from low i =
    elim (low.moved i) [
      | inl q ↦ let w = from i in (w.0, q ∙ w.1, w.2)
      | inr q ↦
          let w = from at in
          let all = parts-fixed ns (w.0 ∷ []) at w.2 in
          (w.0, q.0 ∙ w.1, all-among (IsFixedBy ns (w.0 ∷ [])) (drop n (parts (node_at ns at))) i (all-rest (IsFixedBy ns (w.0 ∷ [])) n (parts (node_at ns at)) all) q.1)
    ]

pub fixed-self : (ns : List Node) (i : ℕ) → IsFixedBy ns (i ∷ []) i
fixed-self ns i σ τ a b e = e.0

fixed-then : (ns : List Node) (i j k : ℕ) → IsFixedBy ns (i ∷ []) j → IsFixedBy ns (j ∷ []) k → IsFixedBy ns (i ∷ []) k
fixed-then ns i j k f g σ τ a b e = g σ τ a b (f σ τ a b e, tt)

pub none-left : (ns : List Node) (ls : List (Option ℕ)) (is : List Change) → AreHandedBut ns ls is → length is ≡ 0 → (i : ℕ) → IsHandedNode ls i (node_at ns i)
none-left ns ls [] b e i = elim (b i) [ inl c ↦ c | inr m ↦ absurd m ]
none-left ns ls (c ∷ is) b e i = absurd (omega (arith, e))

-- the levels of a solver's nodes

pub levels-none : (ns : List Node) (us : List ℕ) (ls : List (Option ℕ)) (is : List Change) → ns ≡ [] → us ≡ [] → ls ≡ [] → is ≡ [] → AreLevels ns us ls is
levels-none ns us ls is e f g h = record {
  within = rw (g, e) (omega arith);
  begun = λ v l. let n = ap length f in absurd (omega (arith, l, n));
  handed = λ i. inl (rw e tt);
  exact = λ i. rw g (inl refl);
  inside = rw h tt;
}

level-most : (ns : List Node) (us : List ℕ) (n i : ℕ) → length us ≤ 2 ^ 32 → IsLevelOf ns us n i → n ≤ 2 ^ 32
level-most ns us n i few x = elim x [ inl e ↦ omega (arith, e) | inr h ↦ let z = h.0 in omega (arith, few, z) ]

level-narrow : (ns ms : List Node) (us : List ℕ) (n i : ℕ) → ((σ : Assignment finite) → Meets finite ms σ → Meets finite ns σ) → IsLevelOf ns us n i → IsLevelOf ms us n i
level-narrow ns ms us n i f x = elim x [ inl e ↦ inl e | inr h ↦ inr (h.0, λ σ τ a b e. h.1 σ τ (f σ a) (f τ b) e) ]

all-most : (ls : List (Option ℕ)) (ks : List ℕ) (a : ℕ) → ((k : ℕ) → level_at ls k ≤ a) → AreAtMost ls a ks
all-most ls [] a f = tt
all-most ls (k ∷ ks) a f = (f k, all-most ls ks a f)

-- the changes of both lists are left to do
both-left : (ms : List Node) (ls : List (Option ℕ)) (i : ℕ) (a : Node) (is js : List Change) → HasChange (IsHandedTo ls i a) is → HasChange (IsChange i a (node_at ms i)) js → HasChange (IsHandedTo ls i (node_at ms i)) (is ++ js)
both-left ms ls i a is js m k =
    let P : Change → Type 0 = IsHandedTo ls i a in
    let Q : Change → Type 0 = IsChange i a (node_at ms i) in
    has-two P Q (IsHandedTo ls i (node_at ms i)) (is ++ js) (λ c d x y.
    elim (cases_lt d.from c.from) [
      | inl l ↦ inr (y.0, first-still (λ k. level_at ls k ≤ level_at ls i) d.from c.from a (node_at ms i) (omega (arith, l)) y.1 x.1)
      | inr g ↦ inl (x.0, first-fewer (λ k. level_at ls k ≤ level_at ls i) c.from d.from a (node_at ms i) g y.1 x.1)
    ]) (has-front P is js m) (has-back Q is js k)

moved-but : (ns ms : List Node) (us : List ℕ) (is js : List Change) (ls : List (Option ℕ)) → length us ≤ 2 ^ 32 → AreLevels ns us ls is → Moves ns ms js → AreHandedBut ms ls (is ++ js)
moved-but ns ms us is js ls few x m i =
    elim (cases_lt i (length ns)) [
      | inl h ↦
          elim (m.outside i h) [
            | inl e ↦ elim (x.handed i) [ inl y ↦ inl (rw e y) | inr a ↦ inr (has-front (IsHandedTo ls i (node_at ms i)) is js (rw e a)) ]
            | inr a ↦
                elim (x.handed i) [
                  | inl y ↦ inr (has-back (IsHandedTo ls i (node_at ms i)) is js (has-map (IsChange i (node_at ns i) (node_at ms i)) (IsHandedTo ls i (node_at ms i)) js (λ c k. (k.0, first-kept (λ k. level_at ls k ≤ level_at ls i) c.from (node_at ns i) (node_at ms i) k.1 y)) a))
                  | inr y ↦ inr (both-left ms ls i (node_at ns i) is js y a)
                ]
          ]
      | inr h ↦
          let w = x.within in
          let e : level_at ls i ≡ 2 ^ 32 = ap level_of (get_or_past ls i None (omega (arith, h, w))) in
          inl (rw e (all-most ls (parts (node_at ms i)) (2 ^ 32) (λ k. level-most ns us (level_at ls k) k few (x.exact k))))
    ]

pub levels-moved : (ns ms : List Node) (us : List ℕ) (is js ps : List Change) (ls : List (Option ℕ)) → length us ≤ 2 ^ 32 → AreLevels ns us ls is → Moves ns ms js → ps ≡ is ++ js → AreLevels ms us ls ps
levels-moved ns ms us is js ps ls few x m e = rw e record {
  within = let a = x.within in let b = m.len in omega (arith, a, b);
  begun = x.begun;
  handed = moved-but ns ms us is js ls few x m;
  exact = λ i. level-narrow ns ms us (level_at ls i) i m.narrows (x.exact i);
  inside = inside-both (length ms) is js (inside-grown (length ns) (length ms) is m.len x.inside) m.inside;
}

pub levels-grown : (ns ms : List Node) (us : List ℕ) (is : List Change) (ls : List (Option ℕ)) → length us ≤ 2 ^ 32 → AreLevels ns us ls is → Moves ns ms [] → AreLevels ms us ls is
levels-grown ns ms us is ls few x m = levels-moved ns ms us is [] is ls few x m (sym (append-nil is))

level-from : (ns : List Node) (us : List ℕ) (n m i j : ℕ) → m ≡ n → IsFixedBy ns (j ∷ []) i → IsLevelOf ns us n j → IsLevelOf ns us m i
level-from ns us n m i j e f x =
    rw e
    (elim x [
      | inl z ↦ inl z
      | inr h ↦ inr (h.0, fixed-then ns (get_or us n 0) j i h.1 f)
    ])

pub levels-handed : (ns : List Node) (us : List ℕ) (is js : List Change) (ls ks : List (Option ℕ)) → AreLevels ns us ls is → HandsLevels ns ls ks → js ≡ [] → AreLevels ns us ks js
levels-handed ns us is js ls ks x h e = record {
  within = h.within;
  begun = λ v l. let a = x.begun v l in let b = h.under (get_or us v 0) in omega (arith, a, b);
  handed = λ i. inl (h.handed i);
  exact = λ i. let w = h.from i in level-from ns us (level_at ls w.0) (level_at ks i) i w.0 w.1 w.2 (x.exact w.0);
  inside = rw e tt;
}

level-more : (ns : List Node) (us : List ℕ) (k n i : ℕ) → length us < 2 ^ 32 → IsLevelOf ns us n i → IsLevelOf ns (us ++ k ∷ []) n i
level-more ns us k n i few x =
    elim x [
      | inl e ↦ inl e
      | inr h ↦
          let z = h.0 in
          let e : get_or (us ++ k ∷ []) n 0 ≡ get_or us n 0 = get_or-left us (k ∷ []) n 0 z in
          inr (simp length-append (omega (arith, z)), subst (λ a. IsFixedBy ns (a ∷ []) i) (sym e) h.1)
    ]

pub levels-fresh : (ns ms : List Node) (us vs : List ℕ) (is : List Change) (ls ks : List (Option ℕ)) → AreOwners ns us → AreLevels ns us ls is → ms ≡ ns ++ Unknown ∷ [] → vs ≡ us ++ length ns ∷ [] → length us < 2 ^ 32 → BeginsLevel ls (length ns) (length us) ks → AreLevels ms vs ks is
levels-fresh ns ms us vs is ls ks o x e f few b =
    let n : length ms ≡ length ns + 1 = ap length e ∙ simp length-append in
    let m : length vs ≡ length us + 1 = ap length f ∙ simp length-append in
    let here = b.here in
    let same : (i : ℕ) → node_at ms i ≡ node_at ns i = λ i. ap (λ z. node_at z i) e ∙ get_or-push ns Unknown i in
    let gone : level_at ls (length ns) ≡ 2 ^ 32 = let w = x.within in ap level_of (get_or_past ls (length ns) None w) in
    let under : (k : ℕ) → level_at ks k ≤ level_at ls k = λ k.
    elim (same_or_not k (length ns)) [
      | inl q ↦ rw q (omega (arith, here, gone, few))
      | inr d ↦ let z = b.others k d in omega (arith, z)
    ] in
    let narrow : (σ : Assignment finite) → Meets finite ms σ → Meets finite ns σ = λ σ z i. rw (same i) at (z i) in
    record {
      within = let z = b.len in omega (arith, z, n);
      begun = λ v h.
          elim (cases_lt v (length us)) [
            | inl c ↦
                let old : get_or vs v 0 ≡ get_or us v 0 = ap (λ xs. get_or xs v 0) f ∙ get_or-left us (length ns ∷ []) v 0 c in
                let a = x.begun v c in
                let l = under (get_or us v 0) in
                rw old (omega (arith, a, l))
            | inr c ↦
                let q : v ≡ length us + 0 = omega (arith, h, m, c) in
                let new : get_or vs v 0 ≡ length ns = ap (λ xs. get_or xs v 0) f ∙ (ap (λ k. get_or (us ++ length ns ∷ []) k 0) q ∙ get_or-right us (length ns ∷ []) 0 0) in
                rw new (omega (arith, here, c))
          ];
      handed = λ i.
          elim (same_or_not i (length ns)) [
            | inl q ↦ inl (rw (same i, q, get_or_past ns (length ns) Unknown (omega arith)) tt)
            | inr d ↦ elim (x.handed i) [ inl y ↦ inl (rw (same i) (handed-still ls ks i (node_at ns i) under (b.others i d) y)) | inr a ↦ inr (rw (same i) (left-still ls ks i (node_at ns i) is under (b.others i d) a)) ]
          ];
      inside = inside-grown (length ns) (length ms) is (omega (arith, n)) x.inside;
      exact = λ i.
          elim (same_or_not i (length ns)) [
            | inl q ↦
                let new : get_or vs (length us) 0 ≡ length ns = ap (λ xs. get_or xs (length us) 0) f ∙ (ap (λ k. get_or (us ++ length ns ∷ []) k 0) (let z : length us ≡ length us + 0 = omega arith in z) ∙ get_or-right us (length ns ∷ []) 0 0) in
                inr (rw (q, here) (omega (arith, m)), rw (q, here, new) (fixed-self ms (length ns)))
            | inr d ↦ rw (b.others i d, f) (level-narrow ns ms (us ++ length ns ∷ []) (level_at ls i) i narrow (level-more ns us (length ns) (level_at ls i) i few (x.exact i)))
          ];
    }

-- nodes for a type more

pub grown-moves : (ns : List Node) (us : List ℕ) (t : MlType Name) (ms : List Node) (r : ℕ) → Interns ns us t ms r → Moves ns ms []
grown-moves ns us t ms r x = record {
  len = x.len;
  outside = λ i h. inl (x.before i h);
  inside = tt;
  narrows = λ σ m. (x.back finite σ m).0;
}

pub moves-then : (ns ms ls : List Node) (is : List Change) → Moves ns ms [] → Moves ms ls is → Moves ns ls is
moves-then ns ms ls is a b =
    let n = a.len in
    let m = b.len in
    record {
      len = omega (arith, n, m);
      outside = λ i h.
          elim (b.outside i (omega (arith, n, h))) [
            | inl e ↦ elim (a.outside i h) [ inl f ↦ inl (e ∙ f) | inr x ↦ absurd x ]
            | inr x ↦ elim (a.outside i h) [ inl f ↦ inr (rw f at x) | inr y ↦ absurd y ]
          ];
      inside = b.inside;
      narrows = λ σ x. a.narrows σ (b.narrows σ x);
    }

pub moves-same : (ns ms ls : List Node) (is : List Change) → ls ≡ ms → Moves ns ms is → Moves ns ls is
moves-same ns ms ls is e x = rw e x
