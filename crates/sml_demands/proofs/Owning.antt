-- Unknowns and the nodes that say ints.
use Rattle.std.proofs.Common.{◌≡◌, ◌≢◌, ℕ, zero, suc, ◌+◌, ◌^◌, ◌<◌, ◌≤◌, ◌⊎◌, inl, inr, Option, Some, None, List, [], ◌∷◌, ◌++◌, length, map, get_or, sym, ◌∙◌, ap, subst, refl, arith, length-append, Box, Global}
use Rattle.std.proofs.lemmas.Bool.{cases_lt}
use Rattle.std.proofs.lemmas.List.{get_or_past}
use Rattle.std.specs.Prelude.{Bool}
use Rattle.std.specs.List.{AllByRecursion}
use Rattle.std.specs.Option.{IfSome, IfNone}
use Rattle.std.specs.declared.rc.Rc.{Rc}
use Rattle.sml_objects.specs.Initial.{Name}
use Rattle.sml_objects.specs.Objects as O
use Rattle.sml_objects.specs.Types.{assign, replace_type, replace_types}
use Rattle.sml_objects.specs.Sizes.{type_size}
use Rattle.sml_objects.specs.Objects.{types_of}
use Rattle.sml_objects.specs.Views.{type_of}
use Rattle.sml_objects.specs.declared.objects.MlType.{MlType}
use Rattle.sml_graph.specs.declared.graph.Graph.{Graph}
use Rattle.sml_layers.specs.declared.layer.Layer.{Layer}
use Rattle.sml_layers.specs.declared.layer.Layer.TheVariants.{Equations, Finiteness, Newness, Locality, Equality, Classes, Rigidity}
use Rattle.sml_graph.specs.declared.node.Node.{Node}
use Rattle.sml_graph.specs.declared.node.Node.TheVariants.{Unknown, Link, App, Open}
use Rattle.sml_layers.specs.Worlds.{finite, make, typed}
use Rattle.sml_graph.specs.Worlds.{Assignment}
use Rattle.smallvec.specs.SmallVec.{SmallVec}
use Rattle.sml_tree.specs.Trees.{Id}
use Rattle.sml_objects.specs.Maps.{lookup}
use Rattle.sml_graph.specs.declared.fields.Fields.{Fields}
use Rattle.sml_graph.specs.declared.node.Head.{Head}
use Rattle.sml_layers.specs.Rows.{fields_at}
use Rattle.sml_graph.specs.Rows.{HasFields, kids_of}
use Rattle.sml_graph.specs.Graphs.{node_at, head_over, parts, fields_of, Agrees, Meets, IsSame, IsSound, IsSoundNode, IsRootNode, IsKnown, AreOwners, IsLoose}
use Rattle.sml_graph.specs.Interned.{IsOver, AreOver, Interns, through}
use Rattle.sml_graph.specs.CodeRanks.{IsRanked, HasRank}
use Rattle.sml_graph.specs.Asked.{Asked, asked_of, count, Permits}
use Rattle.sml_graph.specs.Limits.{no_limit, limit_at, MeetsAt, KeepsThrough}
use Rattle.sml_graph.specs.CodeWhole.{IsWhole, IsKept}
use Rattle.sml_schemes.specs.Left.{IsMadeOf, AreMadeOf, IsFree, IsFlexible, IsUndetermined, IsLeft, IsReading, MayBe, HasOneSetOfLabels, KeepsFields, IsMostGeneral}
use Rattle.sml_demands.specs.CodeReads.{IsTypeAt}
use Rattle.sml_graph.proofs.Interning.{inside-at, inside-more, get_or-left, get_or-right, typed-same, typed-free, typed-app, map-alike, parts-inside}
use Rattle.sml_graph.proofs.Merging.{same_or_not, all-append}
use Rattle.sml_graph.proofs.Asking.{value, nothing-asked, none-meets}
use Rattle.sml_graph.proofs.Rowing.{labels_in, components, open_row, has-these, lookup-here}
use Rattle.sml_demands.proofs.Opening.{fresh_label, fresh-none, IsNone, none-front, none-back, head_labels, component-head, one_row, component-more, component-none}
use Rattle.sml_graph.proofs.Ranking.{all-both, solution, ints, solution-value, solution-meets, solution-unknown, solution-open, solution-keeps, finite_of}
use Rattle.sml_graph.proofs.Searching.{all-parts}
use Rattle.sml_graph.proofs.Wholeness.{get_or-push}

-- Where a node leads to.

pub record LeadsTo (ns : List Node) (i r : ℕ) : Type 0 where
  pub same : IsSame ns i r
  pub below : r ≤ i
  pub root : (j : ℕ) → node_at ns r ≡ Link j → ⊥

leads-node : (ns : List Node) (i : ℕ) (x : Node) → node_at ns i ≡ x → IsSoundNode (length ns) i x → ((j : ℕ) → j < i → (r : ℕ) × LeadsTo ns j r) → (r : ℕ) × LeadsTo ns i r
leads-node ns i Unknown e s f = (i, record { same = λ w σ m. refl; below = omega arith; root = λ j q. absurd (apart j (sym e ∙ q)) }) where
  apart : (j : ℕ) → Unknown ≡ Link j → ⊥
  apart j q = cc
leads-node ns i (Link k) e s f =
    let g = f k s in
    let l = g.1.below in
    (g.0, record { same = λ w σ m. let a : σ i ≡ σ k = rw e at (m i) in a ∙ g.1.same w σ m; below = omega (arith, l, s); root = g.1.root })
leads-node ns i (Open fs) e s f = (i, record { same = λ w σ m. refl; below = omega arith; root = λ j q. absurd (apart j (sym e ∙ q)) }) where
  apart : (j : ℕ) → Open fs ≡ Link j → ⊥
  apart j q = cc
leads-node ns i (App h kids) e s f = (i, record { same = λ w σ m. refl; below = omega arith; root = λ j q. absurd (apart j (sym e ∙ q)) }) where
  apart : (j : ℕ) → App h kids ≡ Link j → ⊥
  apart j q = cc

pub leads-below : (ns : List Node) → IsSound ns → (n i : ℕ) → i < n → (r : ℕ) × LeadsTo ns i r
leads-below ns s zero i h = absurd (omega (arith, h))
leads-below ns s (suc n) i h = leads-node ns i (node_at ns i) refl (s i) (λ j l. leads-below ns s n j (omega (arith, h, l)))

pub root-node : (ns : List Node) (i r : ℕ) (x : Node) → LeadsTo ns i r → node_at ns r ≡ x → IsRootNode x
root-node ns i r Unknown t e = tt
root-node ns i r (Link j) t e = t.root j e
root-node ns i r (App h kids) t e = tt
root-node ns i r (Open fs) t e = tt

-- Types of open nodes.

-- the labels that a node has at least
abbrev pub node_labels : Node → List Id
node_labels Unknown = []
node_labels (Link j) = []
node_labels (App h kids) = head_labels (head_over h (length kids.items))
node_labels (Open fs) = labels_in (fields_of fs.value)

module _ (ns : List Node) (ρ : Assignment finite) (h : HasRank ns) where
  abbrev solved : Assignment finite
  solved = solution ns ρ h.rank

  pub solution-row : (i : ℕ) (fs : Box Fields Global) → node_at ns i ≡ Open fs → solved i ≡ open_row (ρ i) (fields_at solved (fields_of fs.value))
  solution-row i fs e = solution-value ns ρ h.rank h.ranked i ∙ ap (value solved (ρ i)) e

  -- a label more
  pub solution-more : (i : ℕ) (l : Id) (t : O.MlType Name) (x : Node) → node_at ns i ≡ x → (IsKnown x → ⊥) → ρ i ≡ one_row l t → IsNone l (node_labels x) → lookup l (components (solved i)) ≡ Some t
  solution-more i l t Unknown e n q a = ap (λ t. lookup l (components t)) (solution-unknown ns ρ h.rank i e ∙ q) ∙ lookup-here l (l, t) [] refl
  solution-more i l t (Link j) e n q a = absurd (n tt)
  solution-more i l t (App f kids) e n q a = absurd (n tt)
  solution-more i l t (Open fs) e n q a = ap (λ t. lookup l (components t)) (solution-row i fs e ∙ ap (λ t. open_row t (fields_at solved (fields_of fs.value))) q) ∙ component-more solved l t (fields_of fs.value) a

  -- no label more
  pub solution-none : (i : ℕ) (l : Id) (x : Node) → node_at ns i ≡ x → IsRootNode x → components (ρ i) ≡ [] → IsNone l (node_labels x) → lookup l (components (solved i)) ≡ None
  solution-none i l Unknown e r q a = ap (λ t. lookup l (components t)) (solution-unknown ns ρ h.rank i e) ∙ ap (lookup l) q
  solution-none i l (Link j) e r q a = absurd r
  solution-none i l (App f kids) e r q a =
      let b : solved i ≡ make finite (head_over f (length kids.items)) (map solved kids.items) = rw e at (solution-meets ns ρ h.rank h.ranked i) in
      ap (λ t. lookup l (components t)) b ∙ component-head l (head_over f (length kids.items)) (types_of (map solved kids.items)) a
  solution-none i l (Open fs) e r q a = ap (λ t. lookup l (components t)) (solution-row i fs e) ∙ component-none solved l (ρ i) (fields_of fs.value) q a

-- An unknown can differ from every node before it.

pub not-free : (h : O.Head Name) (ts : O.MlTypes Name) (v : ℕ) (t : O.MlType Name) → t ≡ O.app h ts → t ≡ O.free v → ⊥
not-free h ts v t e f = let g : O.app h ts ≡ O.free v = sym e ∙ f in cc

pub row-not-free : (fs : List (Id × O.MlType Name)) (v : ℕ) (t : O.MlType Name) → HasFields finite t fs → t ≡ O.free v → ⊥
row-not-free fs v t h f = not-free (O.row h.labels) (types_of h.types) v t h.is_row f

pub found-or-not : (l : Id) (a b t : O.MlType Name) → a ≡ b → lookup l (components a) ≡ None → lookup l (components b) ≡ Some t → ⊥
found-or-not l a b t e n s = let f : None ≡ Some t = sym n ∙ (ap (λ x. lookup l (components x)) e ∙ s) in cc

-- one place with a type, and all others with int
abbrev pub only : ℕ → O.MlType Name → Assignment finite
only i t x = elim (same_or_not x i) [ inl _ ↦ t | inr _ ↦ ints x ]

pub only-here : (i : ℕ) (t : O.MlType Name) → only i t i ≡ t
only-here i t = elim (same_or_not i i) as (λ d. elim d as (λ _. O.MlType Name) [ inl _ ↦ t | inr _ ↦ ints i ] ≡ t) [ inl _ ↦ refl | inr d ↦ absurd (d refl) ]

pub only-there : (i : ℕ) (t : O.MlType Name) (x : ℕ) → x ≢ i → only i t x ≡ ints x
only-there i t x n = elim (same_or_not x i) as (λ d. elim d as (λ _. O.MlType Name) [ inl _ ↦ t | inr _ ↦ ints x ] ≡ ints x) [ inl e ↦ absurd (n e) | inr d ↦ refl ]

no-free : (ns : List Node) (i r : ℕ) (t : O.MlType Name) (h : HasRank ns) (y : Node) → node_at ns r ≡ y → IsRootNode y → r ≢ i → solution ns (only i t) h.rank r ≢ O.free 0
no-free ns i r t h Unknown e f d q = not-free _ O.no_type 0 (solution ns (only i t) h.rank r) (solution-unknown ns (only i t) h.rank r e ∙ only-there i t r d) q
no-free ns i r t h (Link j) e f d q = f
no-free ns i r t h (App g kids) e f d q =
    let a : solution ns (only i t) h.rank r ≡ make finite (head_over g (length kids.items)) (map (solution ns (only i t) h.rank) kids.items) = rw e at (solution-meets ns (only i t) h.rank h.ranked r) in
    not-free _ _ 0 (solution ns (only i t) h.rank r) a q
no-free ns i r t h (Open fs) e f d q =
    let a : Agrees finite (solution ns (only i t) h.rank) r (Open fs) = rw e at (solution-meets ns (only i t) h.rank h.ranked r) in
    row-not-free _ 0 (solution ns (only i t) h.rank r) a q

no-int : (i : ℕ) → components (ints i) ≡ []
no-int i = refl

differs-root : (ns : List Node) (i r : ℕ) (h : HasRank ns) (x y : Node) → node_at ns i ≡ x → (IsKnown x → ⊥) → node_at ns r ≡ y → IsRootNode y → r ≢ i → (σ : Assignment finite) × Meets finite ns σ × (σ r ≢ σ i)
differs-root ns i r h Unknown y e n f g d =
    let σ = solution ns (only i (O.free 0)) h.rank in
    (σ, solution-meets ns (only i (O.free 0)) h.rank h.ranked, λ q. no-free ns i r (O.free 0) h y f g d (q ∙ (solution-unknown ns (only i (O.free 0)) h.rank i e ∙ only-here i (O.free 0))))
differs-root ns i r h (Link j) y e n f g d = absurd (n tt)
differs-root ns i r h (App k kids) y e n f g d = absurd (n tt)
differs-root ns i r h (Open fs) y e n f g d =
    let l = fresh_label (node_labels (Open fs) ++ node_labels y) in
    let fresh = fresh-none (node_labels (Open fs) ++ node_labels y) in
    let t = one_row l (ints i) in
    let σ = solution ns (only i t) h.rank in
    let more : lookup l (components (σ i)) ≡ Some (ints i) = solution-more ns (only i t) h i l (ints i) (Open fs) e (λ z. z) (only-here i t) (none-front l (node_labels (Open fs)) (node_labels y) fresh) in
    let none : lookup l (components (σ r)) ≡ None = solution-none ns (only i t) h r l y f g (ap components (only-there i t r d)) (none-back l (node_labels (Open fs)) (node_labels y) fresh) in
    (σ, solution-meets ns (only i t) h.rank h.ranked, λ q. found-or-not l (σ r) (σ i) (ints i) q none more)

pub differs : (ns : List Node) (i j : ℕ) → IsSound ns → HasRank ns → (IsKnown (node_at ns i) → ⊥) → j < i → (σ : Assignment finite) × Meets finite ns σ × (σ j ≢ σ i)
differs ns i j s h n l =
    let t = leads-below ns s (suc j) j (omega arith) in
    let b = t.1.below in
    let d = differs-root ns i t.0 h (node_at ns i) (node_at ns t.0) refl n refl (root-node ns j t.0 (node_at ns t.0) t.1 refl) (λ q. omega (arith, q, b, l)) in
    (d.0, d.1, λ q. d.2 (sym (t.1.same finite d.0 d.1) ∙ q))

-- Nodes that are merged say no less than before.

app-still : (ms : List Node) (i : ℕ) (f : Head) (kids : SmallVec ℕ) (x : Node) → HasRank ms → ((σ : Assignment finite) → Meets finite ms σ → Agrees finite σ i (App f kids)) → node_at ms i ≡ x → (IsKnown x → ⊥) → ⊥
app-still ms i f kids Unknown h a e n =
    let σ = solution ms (only i (O.free 0)) h.rank in
    not-free _ _ 0 (σ i) (a σ (solution-meets ms (only i (O.free 0)) h.rank h.ranked)) (solution-unknown ms (only i (O.free 0)) h.rank i e ∙ only-here i (O.free 0))
app-still ms i f kids (Link j) h a e n = n tt
app-still ms i f kids (App g ks) h a e n = n tt
app-still ms i f kids (Open fs) h a e n =
    let ks = head_labels (head_over f (length kids.items)) in
    let l = fresh_label (node_labels (Open fs) ++ ks) in
    let fresh = fresh-none (node_labels (Open fs) ++ ks) in
    let t = one_row l (ints i) in
    let σ = solution ms (only i t) h.rank in
    let more : lookup l (components (σ i)) ≡ Some (ints i) = solution-more ms (only i t) h i l (ints i) (Open fs) e (λ z. z) (only-here i t) (none-front l (node_labels (Open fs)) ks fresh) in
    found-or-not l (make finite (head_over f (length kids.items)) (map σ kids.items)) (σ i) (ints i) (sym (a σ (solution-meets ms (only i t) h.rank h.ranked))) (component-head l (head_over f (length kids.items)) (types_of (map σ kids.items)) (none-back l (node_labels (Open fs)) ks fresh)) more

still-loose : (ns ms : List Node) (i : ℕ) (x : Node) → IsSound ns → IsSound ms → HasRank ms → ((σ : Assignment finite) → Meets finite ms σ → Meets finite ns σ) → (IsKnown (node_at ms i) → ⊥) → node_at ns i ≡ x → IsKnown x → ⊥
still-loose ns ms i Unknown s s' h f n d k = k
still-loose ns ms i (Link j) s s' h f n d k =
    let l : j < i = rw d at (s i) in
    let w = differs ms i j s' h n l in
    let q : w.0 i ≡ w.0 j = rw d at (f w.0 w.1 i) in
    w.2 (sym q)
still-loose ns ms i (App g kids) s s' h f n d k = app-still ms i g kids (node_at ms i) h (λ σ m. rw d at (f σ m i)) refl n
still-loose ns ms i (Open fs) s s' h f n d k = k

pub owners-merged : (ns ms : List Node) (us : List ℕ) → AreOwners ns us → length ms ≡ length ns → IsSound ns → IsSound ms → HasRank ms → ((σ : Assignment finite) → Meets finite ms σ → Meets finite ns σ) → AreOwners ms us
owners-merged ns ms us o n s s' h f = record {
  inside = rw n o.inside;
  rising = o.rising;
  owned = λ i l e. o.owned i (omega (arith, l, n)) (still-loose ns ms i (node_at ns i) s s' h f e refl);
  few = o.few;
}

pub owners-grown : (ns : List Node) (us : List ℕ) (t : O.MlType Name) (ms : List Node) (r : ℕ) → AreOwners ns us → Interns ns us t ms r → AreOwners ms us
owners-grown ns us t ms r o x = record {
  inside = inside-more (length ns) (length ms) us x.len o.inside;
  rising = o.rising;
  owned = λ i l e.
      elim (cases_lt i (length ns)) [
        | inl b ↦ o.owned i b (λ k. e (subst IsKnown (sym (x.before i b)) k))
        | inr g ↦ absurd (e (x.filled i g l))
      ];
  few = o.few;
}

pub owners-fresh : (ns ms : List Node) (us vs : List ℕ) → AreOwners ns us → ms ≡ ns ++ Unknown ∷ [] → vs ≡ us ++ length ns ∷ [] → length us < 2 ^ 32 → AreOwners ms vs
owners-fresh ns ms us vs o e f h =
    let n : length ms ≡ length ns + 1 = ap length e ∙ simp length-append in
    let m : length vs ≡ length us + 1 = ap length f ∙ simp length-append in
    let old : (v : ℕ) → v < length us → get_or vs v 0 ≡ get_or us v 0 = λ v l. ap (λ xs. get_or xs v 0) f ∙ get_or-left us (length ns ∷ []) v 0 l in
    let new : (v : ℕ) → v ≡ length us → get_or vs v 0 ≡ length ns = λ v q. ap (λ xs. get_or xs v 0) f ∙ (ap (λ k. get_or (us ++ length ns ∷ []) k 0) (let z : v ≡ length us + 0 = omega (arith, q) in z) ∙ get_or-right us (length ns ∷ []) 0 0) in
    record {
      inside = rw f (all-append (λ i. i < length ms) us (length ns ∷ []) (inside-more (length ns) (length ms) us (omega (arith, n)) o.inside) (omega (arith, n), tt));
      rising = λ v w l b.
          let a = old v (omega (arith, l, b, m)) in
          elim (cases_lt w (length us)) [
            | inl c ↦ let d = old w c in let z = o.rising v w l c in omega (arith, a, d, z)
            | inr c ↦
                let d = new w (omega (arith, c, b, m)) in
                let z = inside-at (length ns) us v o.inside (omega (arith, l, b, m)) in
                omega (arith, a, d, z)
          ];
      owned = λ i l q.
          elim (cases_lt i (length ns)) [
            | inl b ↦
                let same : node_at ns i ≡ node_at ms i = sym (get_or-push ns Unknown i) ∙ ap (λ xs. node_at xs i) (sym e) in
                let x = o.owned i b (λ k. q (subst IsKnown same k)) in
                (x.0, omega (arith, x.1, m), old x.0 x.1 ∙ x.2)
            | inr g ↦ (length us, omega (arith, m), new (length us) refl ∙ omega (arith, g, l, n))
          ];
      few = omega (arith, m, h);
    }

pub owners-none : (ns : List Node) (us : List ℕ) → ns ≡ [] → us ≡ [] → AreOwners ns us
owners-none ns us e f = record {
  inside = rw f tt;
  rising = λ v w l b. let n = ap length f in absurd (omega (arith, b, n));
  owned = λ i l q. let n = ap length e in absurd (omega (arith, l, n));
  few = let n = ap length f in omega (arith, n);
}

-- Unknowns that are left.

pub permitted : (u : ℕ) (us : List ℕ) (g : Graph) (b : Bool) (τ : Assignment finite) → Meets finite g.nodes.items τ → Permits Finiteness (asked_of u us g b) (through finite us τ)
unfolding Permits
permitted u us g b τ m = (τ, m, nothing-asked u g.limits τ, λ v l. refl)

pub through-permitted : (u : ℕ) (us : List ℕ) (g : Graph) (b : Bool) (σ : Assignment finite) → Permits Finiteness (asked_of u us g b) σ → (τ : Assignment finite) × Meets finite g.nodes.items τ × ((v : ℕ) → v < length us → through finite us τ v ≡ σ v)
unfolding Permits
through-permitted u us g b σ p = (p.0, p.1, p.3)

owned-once : (us : List ℕ) (v w : ℕ) → ((v w : ℕ) → v < w → w < length us → get_or us v 0 < get_or us w 0) → v < length us → w < length us → get_or us v 0 ≡ get_or us w 0 → v ≡ w
owned-once us v w r h l e =
    elim (cases_lt v w) [
      | inl b ↦ let z = r v w b l in absurd (omega (arith, z, e))
      | inr c ↦
          elim (cases_lt w v) [
            | inl b ↦ let z = r w v b h in absurd (omega (arith, z, e))
            | inr d ↦ omega (arith, c, d)
          ]
    ]

pub unknown-free : (u : ℕ) (us : List ℕ) (g : Graph) (b : Bool) (v : ℕ) → HasRank g.nodes.items → node_at g.nodes.items (get_or us v 0) ≡ Unknown → IsFree (asked_of u us g b) v
unfolding MayBe
unknown-free u us g b v h e t =
    let σ = solution g.nodes.items (λ _. t) h.rank in
    (through finite us σ, permitted u us g b σ (solution-meets g.nodes.items (λ _. t) h.rank h.ranked), solution-unknown g.nodes.items (λ _. t) h.rank (get_or us v 0) e)

pub open-flexible : (u : ℕ) (us : List ℕ) (g : Graph) (b : Bool) (v : ℕ) (fs : Box Fields Global) → HasRank g.nodes.items → v < length us → node_at g.nodes.items (get_or us v 0) ≡ Open fs → IsFlexible (asked_of u us g b) v
unfolding HasOneSetOfLabels
open-flexible u us g b v fs h l e =
    record {
      is_row = λ σ p.
          let q = through-permitted u us g b σ p in
          let a : Agrees finite q.0 (get_or us v 0) (Open fs) = rw e at (q.1 (get_or us v 0)) in
          subst (λ t. HasFields finite t []) (q.2 v l) (has-these finite (q.0 (get_or us v 0)) (fields_at q.0 (fields_of fs.value)) [] a tt);
      several = λ o.
          let i = get_or us v 0 in
          let k = fresh_label (node_labels (Open fs) ++ o.0) in
          let fresh = fresh-none (node_labels (Open fs) ++ o.0) in
          let t = one_row k (ints i) in
          let σ = solution g.nodes.items (only i t) h.rank in
          let w = o.1 (through finite us σ) (permitted u us g b σ (solution-meets g.nodes.items (only i t) h.rank h.ranked)) in
          let q : make finite (O.row o.0) w.0 ≡ σ i = sym w.1 ∙ typed-free finite (through finite us σ) v in
          let more : lookup k (components (σ i)) ≡ Some (ints i) = solution-more g.nodes.items (only i t) h i k (ints i) (Open fs) e (λ z. z) (only-here i t) (none-front k (node_labels (Open fs)) o.0 fresh) in
          found-or-not k (make finite (O.row o.0) w.0) (σ i) (ints i) q (component-head k (O.row o.0) (types_of w.0) (none-back k (node_labels (Open fs)) o.0 fresh)) more;
    }

undetermined-node : (u : ℕ) (us : List ℕ) (g : Graph) (b : Bool) (v : ℕ) (x : Node) → HasRank g.nodes.items → v < length us → node_at g.nodes.items (get_or us v 0) ≡ x → (IsKnown x → ⊥) → IsUndetermined (asked_of u us g b) v
undetermined-node u us g b v Unknown h l e n = inl (unknown-free u us g b v h e)
undetermined-node u us g b v (Link j) h l e n = absurd (n tt)
undetermined-node u us g b v (App f kids) h l e n = absurd (n tt)
undetermined-node u us g b v (Open fs) h l e n = inr (open-flexible u us g b v fs h l e)

pub free-not-flexible : (s : Asked) (v : ℕ) → IsFree s v → IsFlexible s v → ⊥
unfolding MayBe
free-not-flexible s v f x = let m = f (O.free 0) in row-not-free [] 0 (m.0 v) (x.is_row m.0 m.1) m.2

pub loose-left : (u : ℕ) (us : List ℕ) (g : Graph) (b : Bool) (v : ℕ) → IsSound g.nodes.items → HasRank g.nodes.items → AreOwners g.nodes.items us → IsLoose g.nodes.items us v → IsLeft (asked_of u us g b) v
loose-left u us g b v s h o l = record {
  known = l.0;
  undetermined = undetermined-node u us g b v (node_at g.nodes.items (get_or us v 0)) h l.0 refl l.1;
  first = λ w k.
      let d = differs g.nodes.items (get_or us v 0) (get_or us w 0) s h l.1 (o.rising w v k l.0) in
      (through finite us d.0, permitted u us g b d.0 d.1, d.2);
}

pub row-head : (h : O.Head Name) (ls : List Id) (ts us : O.MlTypes Name) → O.app h ts ≡ O.app (O.row ls) us → h ≡ O.row ls
row-head h ls ts us e = cc

-- the unknown that leads to a head is determined
pub app-determined : (u : ℕ) (us : List ℕ) (g : Graph) (b : Bool) (v r : ℕ) (h : Head) (kids : SmallVec ℕ) → HasRank g.nodes.items → v < length us → IsSame g.nodes.items (get_or us v 0) r → node_at g.nodes.items r ≡ App h kids → IsUndetermined (asked_of u us g b) v → ⊥
unfolding MayBe HasOneSetOfLabels
app-determined u us g b v r h kids rank l same e d =
    let n = length kids.items in
    let made : (σ : Assignment finite) → (p : Permits Finiteness (asked_of u us g b) σ) → (ts : List (O.MlType Name)) × (σ v ≡ make finite (head_over h n) ts) = (λ σ p.
    let q = through-permitted u us g b σ p in
    let a : q.0 r ≡ make finite (head_over h n) (map q.0 kids.items) = rw e at (q.1 r) in
    (map q.0 kids.items, sym (q.2 v l) ∙ (same finite q.0 q.1 ∙ a))) in
    elim d [
      | inl f ↦ let m = f (O.free 0) in let t = made m.0 m.1 in not-free _ _ 0 (m.0 v) t.1 m.2
      | inr f ↦
          let one = finite_of g.nodes.items rank in
          let p = permitted u us g b one.0 one.1 in
          let t = made (through finite us one.0) p in
          let w = f.is_row (through finite us one.0) p in
          let k : head_over h n ≡ O.row w.labels = row-head (head_over h n) w.labels (types_of t.0) (types_of w.types) (sym t.1 ∙ w.is_row) in
          f.several (w.labels, λ σ p. let t = made σ p in (t.0, typed-free finite σ v ∙ (t.1 ∙ ap (λ k. make finite k t.0) k)))
    ]

left-owner : (u : ℕ) (us : List ℕ) (g : Graph) (b : Bool) (v r : ℕ) → AreOwners g.nodes.items us → IsLeft (asked_of u us g b) v → LeadsTo g.nodes.items (get_or us v 0) r → (IsKnown (node_at g.nodes.items r) → ⊥) → IsKnown (node_at g.nodes.items (get_or us v 0)) → ⊥
left-owner u us g b v r o l t e k =
    let i = get_or us v 0 in
    let inside = inside-at (length g.nodes.items) us v o.inside l.known in
    let w = t.below in
    let x = o.owned r (omega (arith, inside, w)) e in
    elim (cases_lt x.0 v) [
      | inl k ↦
          let f = l.first x.0 k in
          let p = through-permitted u us g b f.0 f.1 in
          let q : f.0 x.0 ≡ f.0 v = sym (p.2 x.0 x.1) ∙ (ap p.0 x.2 ∙ (sym (t.same finite p.0 p.1) ∙ p.2 v l.known)) in
          f.2 q
      | inr c ↦
          elim (cases_lt v x.0) [
            | inl m ↦ let z = o.rising v x.0 m x.1 in let y = x.2 in absurd (omega (arith, z, y, w))
            | inr m ↦ let q : x.0 ≡ v = omega (arith, c, m) in let z : i ≡ r = ap (λ k. get_or us k 0) (sym q) ∙ x.2 in e (subst (λ i. IsKnown (node_at g.nodes.items i)) z k)
          ]
    ]

left-node : (u : ℕ) (us : List ℕ) (g : Graph) (b : Bool) (v r : ℕ) (x : Node) → HasRank g.nodes.items → AreOwners g.nodes.items us → IsLeft (asked_of u us g b) v → LeadsTo g.nodes.items (get_or us v 0) r → node_at g.nodes.items r ≡ x → IsKnown (node_at g.nodes.items (get_or us v 0)) → ⊥
left-node u us g b v r Unknown h o l t e k = left-owner u us g b v r o l t (λ k. subst IsKnown e k) k
left-node u us g b v r (Link j) h o l t e k = t.root j e
left-node u us g b v r (App f kids) h o l t e k = app-determined u us g b v r f kids h l.known t.same e l.undetermined
left-node u us g b v r (Open fs) h o l t e k = left-owner u us g b v r o l t (λ k. subst IsKnown e k) k

pub left-loose : (u : ℕ) (us : List ℕ) (g : Graph) (b : Bool) (v : ℕ) → IsSound g.nodes.items → HasRank g.nodes.items → AreOwners g.nodes.items us → IsLeft (asked_of u us g b) v → IsLoose g.nodes.items us v
left-loose u us g b v s h o l =
    let t = leads-below g.nodes.items s (suc (get_or us v 0)) (get_or us v 0) (omega arith) in
    (l.known, left-node u us g b v t.0 (node_at g.nodes.items t.0) h o l t.1 refl)

-- Types that are chosen for the unknowns that are left.

pub known_or_not : (x : Node) → IsKnown x ⊎ (IsKnown x → ⊥)
known_or_not Unknown = inr (λ k. k)
known_or_not (Link j) = inl tt
known_or_not (App h kids) = inl tt
known_or_not (Open fs) = inr (λ k. k)

module _ (ns : List Node) (us : List ℕ) (o : AreOwners ns us) (ρ : Assignment finite) where
  abbrev pub choice : Assignment finite
  choice i = elim (known_or_not (node_at ns i)) [ inl _ ↦ ints i | inr n ↦ elim (cases_lt i (length ns)) [ inl l ↦ ρ (o.owned i l n).0 | inr _ ↦ ints i ] ]

  pub choice-is : (v : ℕ) → v < length us → (IsKnown (node_at ns (get_or us v 0)) → ⊥) → choice (get_or us v 0) ≡ ρ v
  choice-is v l n =
      let p = get_or us v 0 in
      let inside = inside-at (length ns) us v o.inside l in
      elim (known_or_not (node_at ns p)) as (λ d. elim d as (λ _. O.MlType Name) [ inl _ ↦ ints p | inr n ↦ elim (cases_lt p (length ns)) as (λ _. O.MlType Name) [ inl l ↦ ρ (o.owned p l n).0 | inr _ ↦ ints p ] ] ≡ ρ v) [
        | inl k ↦ absurd (n k)
        | inr m ↦
            elim (cases_lt p (length ns)) as (λ d. elim d as (λ _. O.MlType Name) [ inl l ↦ ρ (o.owned p l m).0 | inr _ ↦ ints p ] ≡ ρ v) [
              | inl b ↦ let w = o.owned p b m in ap ρ (owned-once us w.0 v o.rising w.1 l w.2)
              | inr c ↦ absurd (omega (arith, inside, c))
            ]
      ]

-- nodes whose unknowns have the same types have the same types

pub made-app : (P : ℕ → Type 0) (h : O.Head Name) (ts : List (O.MlType Name)) → AllByRecursion (IsMadeOf P) ts → IsMadeOf P (O.app h (types_of ts))
unfolding IsMadeOf AreMadeOf
made-app P h [] a = tt
made-app P h (t ∷ ts) a = (a.0, made-app P h ts a.1)

-- What a node is read as: a type over unknowns of which P holds, which stands for what the node does.
abbrev IsRead : List Node → List ℕ → (ℕ → Type 0) → ℕ → Type 0
IsRead ns us P i = (t : O.MlType Name) × IsMadeOf P t × ((τ : Assignment finite) → Meets finite ns τ → assign (through finite us τ) t ≡ τ i)

-- the same of some nodes
abbrev AreRead : List Node → List ℕ → (ℕ → Type 0) → List ℕ → Type 0
AreRead ns us P is = (ts : List (O.MlType Name)) × AllByRecursion (IsMadeOf P) ts × ((τ : Assignment finite) → Meets finite ns τ → map (assign (through finite us τ)) ts ≡ map τ is)

are-read : (ns : List Node) (us : List ℕ) (P : ℕ → Type 0) (is : List ℕ) → AllByRecursion (IsRead ns us P) is → AreRead ns us P is
are-read ns us P [] a = ([], tt, λ τ m. refl)
are-read ns us P (i ∷ is) a =
    let r = are-read ns us P is a.1 in
    (a.0.0 ∷ r.0, (a.0.1, r.1), λ τ m. (λ j. a.0.2 τ m j ∷ r.2 τ m j))

mutual
  unfolding IsMadeOf AreMadeOf

  pub made-more : (P Q : ℕ → Type 0) (t : O.MlType Name) → ((v : ℕ) → P v → Q v) → IsMadeOf P t → IsMadeOf Q t
  made-more P Q (O.bound k) f m = m
  made-more P Q (O.free v) f m = f v m
  made-more P Q (O.app h ts) f m = mades-more P Q ts f m

  mades-more : (P Q : ℕ → Type 0) (ts : O.MlTypes Name) → ((v : ℕ) → P v → Q v) → AreMadeOf P ts → AreMadeOf Q ts
  mades-more P Q O.no_type f m = tt
  mades-more P Q (O.and_type t ts) f m = (made-more P Q t f m.0, mades-more P Q ts f m.1)

mutual
  unfolding IsMadeOf AreMadeOf replace_type replace_types

  pub assigned-alike : (σ τ : Assignment finite) (t : O.MlType Name) → IsMadeOf (λ v. σ v ≡ τ v) t → assign σ t ≡ assign τ t
  assigned-alike σ τ (O.bound k) m = absurd m
  assigned-alike σ τ (O.free v) m = m
  assigned-alike σ τ (O.app h ts) m = ap (O.app h) (all-assigned-alike σ τ ts m)

  all-assigned-alike : (σ τ : Assignment finite) (ts : O.MlTypes Name) → AreMadeOf (λ v. σ v ≡ τ v) ts → replace_types O.bound σ ts ≡ replace_types O.bound τ ts
  all-assigned-alike σ τ O.no_type m = refl
  all-assigned-alike σ τ (O.and_type t ts) m = λ i. O.and_type (assigned-alike σ τ t m.0 i) (all-assigned-alike σ τ ts m.1 i)

-- the fields of a row, each with what its node is read as
abbrev with_types : List (Id × ℕ) → List (O.MlType Name) → List (Id × O.MlType Name)
with_types [] ts = []
with_types (f ∷ fs) [] = []
with_types (f ∷ fs) (t ∷ ts) = (f.0, t) ∷ with_types fs ts

with_types-at : (g : O.MlType Name → O.MlType Name) (τ : Assignment finite) (fs : List (Id × ℕ)) (ts : List (O.MlType Name)) → map g ts ≡ map τ (kids_of fs) → fields_at g (with_types fs ts) ≡ fields_at τ fs
with_types-at g τ [] ts e = refl
with_types-at g τ (f ∷ fs) [] e = absurd (let z : [] ≡ τ f.1 ∷ map τ (kids_of fs) = e in cc)
with_types-at g τ (f ∷ fs) (t ∷ ts) e =
    let z : g t ∷ map g ts ≡ τ f.1 ∷ map τ (kids_of fs) = e in
    let a : g t ≡ τ f.1 = cc in
    let b : map g ts ≡ map τ (kids_of fs) = cc in
    let r = with_types-at g τ fs ts b in
    λ i. (f.0, a i) ∷ r i

all-with_types : (P : O.MlType Name → Type 0) (fs : List (Id × ℕ)) (ts : List (O.MlType Name)) → AllByRecursion P ts → AllByRecursion (λ f. P f.1) (with_types fs ts)
all-with_types P [] ts a = tt
all-with_types P (f ∷ fs) [] a = tt
all-with_types P (f ∷ fs) (t ∷ ts) a = (a.0, all-with_types P fs ts a.1)

map-same : {A : Type 0} (f g : A → O.MlType Name) (xs : List A) → AllByRecursion (λ x. f x ≡ g x) xs → map f xs ≡ map g xs
map-same f g [] a = refl
map-same f g (x ∷ xs) a = let r = map-same f g xs a.1 in λ i. a.0 i ∷ r i

all-of : {A : Type 0} (P Q : A → Type 0) (xs : List A) → ((x : A) → P x → Q x) → AllByRecursion P xs → AllByRecursion Q xs
all-of P Q [] f a = tt
all-of P Q (x ∷ xs) f a = (f x a.0, all-of P Q xs f a.1)

module _ (ns : List Node) (us : List ℕ) (s : IsSound ns) (o : AreOwners ns us) (r : ℕ → ℕ) (ranked : IsRanked ns r) where
  -- the place of the unknown isn't known, and is below a rank
  abbrev IsLooseBelow : ℕ → ℕ → Type 0
  IsLooseBelow n v = IsLoose ns us v × (r (get_or us v 0) < n)

  read-loose : (n i : ℕ) → i < length ns → r i < suc n → (IsKnown (node_at ns i) → ⊥) → IsRead ns us (IsLooseBelow (suc n)) i
  unfolding IsMadeOf
  read-loose n i h l k =
      let w = o.owned i h k in (
        O.free w.0,
        ((w.1, λ q. k (subst (λ i. IsKnown (node_at ns i)) w.2 q)), subst (λ i. r i < suc n) (sym w.2) l),
        λ τ m. typed-free finite (through finite us τ) w.0 ∙ ap τ w.2,
      )

  read-more : (n i : ℕ) → IsRead ns us (IsLooseBelow n) i → IsRead ns us (IsLooseBelow (suc n)) i
  read-more n i x = (x.0, made-more (IsLooseBelow n) (IsLooseBelow (suc n)) x.0 (λ v p. (p.0, let l = p.1 in omega (arith, l))) x.1, x.2)

  read-node : (n i : ℕ) (x : Node) → i < length ns → r i < suc n → node_at ns i ≡ x → AllByRecursion (IsRead ns us (IsLooseBelow n)) (parts x) → IsRead ns us (IsLooseBelow (suc n)) i
  read-node n i Unknown h l e a = read-loose n i h l (λ k. subst IsKnown e k)
  read-node n i (Link j) h l e a =
      let x = read-more n j a.0 in
      (x.0, x.1, λ τ m. x.2 τ m ∙ sym (rw e at (m i)))
  read-node n i (App f kids) h l e a =
      let g = head_over f (length kids.items) in
      let x = are-read ns us (IsLooseBelow n) kids.items a in (
        O.app g (types_of x.0),
        made-app (IsLooseBelow (suc n)) g x.0 (all-of (IsMadeOf (IsLooseBelow n)) (IsMadeOf (IsLooseBelow (suc n))) x.0 (λ t m. made-more (IsLooseBelow n) (IsLooseBelow (suc n)) t (λ v p. (p.0, let l = p.1 in omega (arith, l))) m) x.1),
        λ τ m. typed-app finite (through finite us τ) g x.0 ∙ (ap (make finite g) (x.2 τ m) ∙ sym (rw e at (m i))),
      )
  read-node n i (Open fs) h l e a = read-loose n i h l (λ k. subst IsKnown e k)

  -- each node is read as a type
  read-below : (n i : ℕ) → i < length ns → r i < n → IsRead ns us (IsLooseBelow n) i
  read-below zero i h l = absurd (omega (arith, l))
  read-below (suc n) i h l =
      read-node n i (node_at ns i) h l refl (all-parts (λ k. (k < length ns) × (r k < r i)) (IsRead ns us (IsLooseBelow n)) (parts (node_at ns i)) (λ k b. read-below n k b.0 (let z = b.1 in omega (arith, z, l))) (all-both (λ k. k < length ns) (λ k. r k < r i) (parts (node_at ns i)) (parts-inside (length ns) i (node_at ns i) h (s i)) (ranked i)))

pub same-node : (σ τ : Assignment finite) (i : ℕ) (x : Node) → Agrees finite σ i x → Agrees finite τ i x → ((IsKnown x → ⊥) → σ i ≡ τ i) → AllByRecursion (λ k. σ k ≡ τ k) (parts x) → σ i ≡ τ i
same-node σ τ i Unknown a b f c = f (λ k. k)
same-node σ τ i (Link j) a b f c = a ∙ (c.0 ∙ sym b)
same-node σ τ i (App h kids) a b f c = a ∙ (ap (make finite (head_over h (length kids.items))) (map-alike finite σ τ kids.items c) ∙ sym b)
same-node σ τ i (Open fs) a b f c = f (λ k. k)

same-below : (ns : List Node) (r : ℕ → ℕ) (σ τ : Assignment finite) → IsSound ns → IsRanked ns r → Meets finite ns σ → Meets finite ns τ → ((i : ℕ) → i < length ns → (IsKnown (node_at ns i) → ⊥) → σ i ≡ τ i) → (n i : ℕ) → i < length ns → r i < n → σ i ≡ τ i
same-below ns r σ τ s a m m' f zero i h l = absurd (omega (arith, l))
same-below ns r σ τ s a m m' f (suc n) i h l =
    same-node σ τ i (node_at ns i) (m i) (m' i) (f i h) (all-parts (λ k. (k < length ns) × (r k < r i)) (λ k. σ k ≡ τ k) (parts (node_at ns i)) (λ k b. same-below ns r σ τ s a m m' f n k b.0 (let z = b.1 in omega (arith, z, l))) (all-both (λ k. k < length ns) (λ k. r k < r i) (parts (node_at ns i)) (parts-inside (length ns) i (node_at ns i) h (s i)) (a i)))

-- types that are chosen so that each is possible are possible together, and fix all others
module _ (u : ℕ) (us : List ℕ) (g : Graph) (b : Bool) (w : IsWhole u g) (o : AreOwners g.nodes.items us) (l : Layer) (ρ : Assignment finite) (kept : KeepsFields finite (asked_of u us g b) ρ) where
  abbrev ns : List Node
  ns = g.nodes.items

  abbrev s : Asked
  s = asked_of u us g b

  abbrev chosen-types : Assignment finite
  chosen-types = solution ns (choice ns us o ρ) w.rank.rank

  chosen-meets : Meets finite ns chosen-types
  chosen-meets = solution-meets ns (choice ns us o ρ) w.rank.rank w.rank.ranked

  -- the fields of a place that isn't known, as it is chosen
  chosen-has : (n v : ℕ) (fs : Box Fields Global) → IsLeft s v → node_at ns (get_or us v 0) ≡ Open fs → w.rank.rank (get_or us v 0) < suc n → ((v : ℕ) → w.rank.rank (get_or us v 0) < n → IsLeft s v → chosen-types (get_or us v 0) ≡ ρ v) → HasFields finite (ρ v) (fields_at chosen-types (fields_of fs.value))
  unfolding KeepsFields
  chosen-has n v fs left e h below =
      let i = get_or us v 0 in
      let r = w.rank.rank in
      let P = IsLooseBelow ns us w.sound o r w.rank.ranked n in
      let inside : AllByRecursion (λ k. k < length ns) (kids_of (fields_of fs.value)) = rw e at (parts-inside (length ns) i (node_at ns i) (inside-at (length ns) us v o.inside left.known) (w.sound i)) in
      let lower : AllByRecursion (λ k. r k < r i) (kids_of (fields_of fs.value)) = rw e at (w.rank.ranked i) in
      let x = are-read ns us P (kids_of (fields_of fs.value)) (all-parts (λ k. (k < length ns) × (r k < r i)) (IsRead ns us P) (kids_of (fields_of fs.value)) (λ k b. read-below ns us w.sound o r w.rank.ranked n k b.0 (let z = b.1 in omega (arith, z, h))) (all-both (λ k. k < length ns) (λ k. r k < r i) (kids_of (fields_of fs.value)) inside lower)) in
      let gs = with_types (fields_of fs.value) x.0 in
      let made : AllByRecursion (λ f. IsMadeOf (IsLeft s) f.1) gs =
      all-with_types (IsMadeOf (IsLeft s)) (fields_of fs.value) x.0 (all-of (IsMadeOf P) (IsMadeOf (IsLeft s)) x.0 (λ t m. made-more P (IsLeft s) t (λ v p. loose-left u us g b v w.sound w.rank o p.0) m) x.1) in
      let has : (σ : Assignment finite) → Permits Finiteness s σ → HasFields finite (σ v) (fields_at (assign σ) gs) = (λ σ p.
      let q = through-permitted u us g b σ p in
      let a : Agrees finite q.0 i (Open fs) = rw e at (q.1 i) in
      let same : map (assign σ) x.0 ≡ map q.0 (kids_of (fields_of fs.value)) =
      map-same (assign σ) (assign (through finite us q.0)) x.0 (all-of (IsMadeOf P) (λ t. assign σ t ≡ assign (through finite us q.0) t) x.0 (λ t m. assigned-alike σ (through finite us q.0) t (made-more P (λ v. σ v ≡ through finite us q.0 v) t (λ v p. sym (q.2 v p.0.0)) m)) x.1) ∙ x.2 q.0 q.1 in
      subst (λ t. HasFields finite t (fields_at (assign σ) gs)) (q.2 v left.known) (subst (HasFields finite (q.0 i)) (sym (with_types-at (assign σ) q.0 (fields_of fs.value) x.0 same)) a)) in
      let same : map (assign ρ) x.0 ≡ map chosen-types (kids_of (fields_of fs.value)) =
      map-same (assign ρ) (assign (through finite us chosen-types)) x.0 (all-of (IsMadeOf P) (λ t. assign ρ t ≡ assign (through finite us chosen-types) t) x.0 (λ t m.
      assigned-alike ρ (through finite us chosen-types) t (made-more P (λ v. ρ v ≡ through finite us chosen-types v) t (λ v p. sym (below v p.1 (loose-left u us g b v w.sound w.rank o p.0))) m)) x.1) ∙ x.2 chosen-types chosen-meets in
      subst (HasFields finite (ρ v)) (with_types-at (assign ρ) chosen-types (fields_of fs.value) x.0 same) (kept v gs left made has)

  chosen-node : (n v : ℕ) (x : Node) → IsLeft s v → node_at ns (get_or us v 0) ≡ x → (IsKnown x → ⊥) → w.rank.rank (get_or us v 0) < suc n → ((v : ℕ) → w.rank.rank (get_or us v 0) < n → IsLeft s v → chosen-types (get_or us v 0) ≡ ρ v) → chosen-types (get_or us v 0) ≡ ρ v
  chosen-node n v Unknown left e k h below = solution-unknown ns (choice ns us o ρ) w.rank.rank (get_or us v 0) e ∙ choice-is ns us o ρ v left.known (λ q. subst IsKnown e q)
  chosen-node n v (Link j) left e k h below = absurd (k tt)
  chosen-node n v (App f kids) left e k h below = absurd (k tt)
  chosen-node n v (Open fs) left e k h below =
      let i = get_or us v 0 in
      let c : choice ns us o ρ i ≡ ρ v = choice-is ns us o ρ v left.known (λ q. subst IsKnown e q) in
      solution-open ns (choice ns us o ρ) w.rank.rank w.rank.ranked i fs e (subst (λ t. HasFields finite t (fields_at chosen-types (fields_of fs.value))) (sym c) (chosen-has n v fs left e h below)) ∙ c

  chosen-below : (n v : ℕ) → w.rank.rank (get_or us v 0) < n → IsLeft s v → chosen-types (get_or us v 0) ≡ ρ v
  chosen-below zero v h left = absurd (omega (arith, h))
  chosen-below (suc n) v h left =
      let k = left-loose u us g b v w.sound w.rank o left in
      chosen-node n v (node_at ns (get_or us v 0)) left refl k.1 h (λ v h left. chosen-below n v h left)

  chosen-left : (v : ℕ) → IsLeft s v → chosen-types (get_or us v 0) ≡ ρ v
  chosen-left v left = chosen-below (suc (w.rank.rank (get_or us v 0))) v (omega arith) left

  chosen-once : (τ : Assignment finite) → Meets finite ns τ → ((v : ℕ) → IsLeft s v → τ (get_or us v 0) ≡ ρ v) → (v : ℕ) → v < length us → τ (get_or us v 0) ≡ chosen-types (get_or us v 0)
  chosen-once τ m q v k =
      let one : (i : ℕ) → i < length ns → (IsKnown (node_at ns i) → ⊥) → τ i ≡ chosen-types i = (λ i k e.
      let x = o.owned i k e in
      let left = loose-left u us g b x.0 w.sound w.rank o (x.1, λ q. e (subst (λ i. IsKnown (node_at ns i)) x.2 q)) in
      ap τ (sym x.2) ∙ (q x.0 left ∙ (sym (chosen-left x.0 left) ∙ ap chosen-types x.2))) in
      let inside = inside-at (length ns) us v o.inside k in
      same-below ns w.rank.rank τ chosen-types w.sound w.rank.ranked m chosen-meets one (suc (w.rank.rank (get_or us v 0))) (get_or us v 0) inside (omega arith)

  chosen-keeps : ((v : ℕ) → IsLeft s v → (τ : Assignment finite) × KeepsThrough l u g.limits τ × (τ (get_or us v 0) ≡ ρ v)) → KeepsThrough l u g.limits chosen-types
  chosen-keeps may j h =
      solution-keeps j u ns g.limits (choice ns us o ρ) w.rank.rank w.rank.ranked w.closed (w.fit j) (λ i e.
      elim (cases_lt i (length ns)) [
        | inl k ↦
            let x = o.owned i k e in
            let loose : IsLoose ns us x.0 = (x.1, λ q. e (subst (λ i. IsKnown (node_at ns i)) x.2 q)) in
            let t = may x.0 (loose-left u us g b x.0 w.sound w.rank o loose) in
            let y : choice ns us o ρ (get_or us x.0 0) ≡ ρ x.0 = choice-is ns us o ρ x.0 x.1 loose.1 in
            subst (λ i. MeetsAt j u (limit_at g.limits i) (choice ns us o ρ i)) x.2 (rw (y, ← t.2) (t.1 j h (get_or us x.0 0)))
        | inr k ↦ rw (get_or_past g.limits i no_limit (let z = w.full.limits in omega (arith, k, z))) (none-meets j u (choice ns us o ρ i))
      ])

abbrev PermitsThrough : Layer → Asked → Assignment finite → Type 0
PermitsThrough l s σ = (τ : Assignment finite) × Meets finite s.nodes τ × KeepsThrough l s.unit s.limits τ × ((v : ℕ) → v < count s → through finite s.unknowns τ v ≡ σ v)

one-for-each : (u : ℕ) (us : List ℕ) (g : Graph) (b : Bool) → IsKept u g us → (l : Layer) (ρ : Assignment finite)
    → ((v : ℕ) → IsLeft (asked_of u us g b) v → (σ : Assignment finite) × PermitsThrough l (asked_of u us g b) σ × (σ v ≡ ρ v)) → KeepsFields finite (asked_of u us g b) ρ
    → (σ : Assignment finite) × PermitsThrough l (asked_of u us g b) σ × ((v : ℕ) → IsLeft (asked_of u us g b) v → σ v ≡ ρ v)
    × ((τ : Assignment finite) → PermitsThrough l (asked_of u us g b) τ → ((v : ℕ) → IsLeft (asked_of u us g b) v → τ v ≡ ρ v) → (v : ℕ) → v < length us → τ v ≡ σ v)
one-for-each u us g b k l ρ may f =
    let t = chosen-types u us g b k.whole k.owners l ρ f in (
      through finite us t,
      (t, chosen-meets u us g b k.whole k.owners l ρ f, chosen-keeps u us g b k.whole k.owners l ρ f (λ v h. let p = may v h in (p.1.0, p.1.2, p.1.3 v h.known ∙ p.2)), λ v h. refl),
      chosen-left u us g b k.whole k.owners l ρ f,
      λ τ p q v h. sym (p.3 v h) ∙ chosen-once u us g b k.whole k.owners l ρ f p.0 p.1 (λ v h. p.3 v h.known ∙ q v h) v h,
    )

pub most-general : (u : ℕ) (us : List ℕ) (g : Graph) (b : Bool) → IsKept u g us → IsMostGeneral (asked_of u us g b)
unfolding IsMostGeneral Permits MayBe
most-general u us g b k Equations h = absurd (omega (arith, h))
most-general u us g b k Finiteness h = one-for-each u us g b k Finiteness
most-general u us g b k Newness h = one-for-each u us g b k Newness
most-general u us g b k Locality h = one-for-each u us g b k Locality
most-general u us g b k Equality h = one-for-each u us g b k Equality
most-general u us g b k Classes h = one-for-each u us g b k Classes
most-general u us g b k Rigidity h = one-for-each u us g b k Rigidity

-- Types that are read back.

mutual
  unfolding IsMadeOf AreMadeOf IsOver AreOver

  pub made-over : (P : ℕ → Type 0) (n : ℕ) (t : O.MlType Name) → ((v : ℕ) → P v → v < n) → IsMadeOf P t → IsOver n t
  made-over P n (O.bound k) f m = m
  made-over P n (O.free v) f m = f v m
  made-over P n (O.app h ts) f m = made-overs P n ts f m

  made-overs : (P : ℕ → Type 0) (n : ℕ) (ts : O.MlTypes Name) → ((v : ℕ) → P v → v < n) → AreMadeOf P ts → AreOver n ts
  made-overs P n O.no_type f m = tt
  made-overs P n (O.and_type t ts) f m = (made-over P n t f m.0, made-overs P n ts f m.1)

pub reading-is : (u : ℕ) (us : List ℕ) (g : Graph) (b : Bool) (t r : O.MlType Name) (at limit : ℕ) → IsSound g.nodes.items → HasRank g.nodes.items → AreOwners g.nodes.items us → IsOver (length us) t → ((τ : Assignment finite) → Meets finite g.nodes.items τ → τ at ≡ typed finite (through finite us τ) t) → IsTypeAt g.nodes.items us at limit r → IsReading (asked_of u us g b) t r
unfolding IsReading
reading-is u us g b t r at limit s h o k back x = (
  made-more (IsLoose g.nodes.items us) (IsLeft (asked_of u us g b)) r (λ v l. loose-left u us g b v s h o l) x.over,
  λ σ p.
      let q = through-permitted u us g b σ p in
      let over : IsOver (length us) r = made-over (IsLoose g.nodes.items us) (length us) r (λ v l. l.0) x.over in
      let one = typed-same finite (through finite us q.0) σ (length us) r q.2 over in
      let two = typed-same finite (through finite us q.0) σ (length us) t q.2 k in
      sym one ∙ (x.same q.0 q.1 ∙ (back q.0 q.1 ∙ two)),
)

pub large-is : (u : ℕ) (us : List ℕ) (g : Graph) (b : Bool) (t : O.MlType Name) (at limit : ℕ) → IsOver (length us) t → ((τ : Assignment finite) → Meets finite g.nodes.items τ → τ at ≡ typed finite (through finite us τ) t) → ((τ : Assignment finite) → Meets finite g.nodes.items τ → limit < type_size (τ at)) → (σ : Assignment finite) → Permits Finiteness (asked_of u us g b) σ → limit < type_size (assign σ t)
large-is u us g b t at limit k back f σ p =
    let q = through-permitted u us g b σ p in
    let e : type_size (q.0 at) ≡ type_size (assign σ t) = ap type_size (back q.0 q.1 ∙ typed-same finite (through finite us q.0) σ (length us) t q.2 k) in
    let l = f q.0 q.1 in
    omega (arith, e, l)

pub readings-are : (u : ℕ) (us : List ℕ) (g : Graph) (b : Bool) (t : O.MlType Name) (at limit : ℕ) (o : Option (Rc MlType Global)) → IsSound g.nodes.items → HasRank g.nodes.items → AreOwners g.nodes.items us → IsOver (length us) t → ((τ : Assignment finite) → Meets finite g.nodes.items τ → τ at ≡ typed finite (through finite us τ) t) → IfSome o (λ r. IsTypeAt g.nodes.items us at limit (type_of r.value)) → IfSome o (λ r. IsReading (asked_of u us g b) t (type_of r.value))
readings-are u us g b t at limit None s h a k back x = tt
readings-are u us g b t at limit (Some r) s h a k back x = reading-is u us g b t (type_of r.value) at limit s h a k back x

pub larges-are : (u : ℕ) (us : List ℕ) (g : Graph) (b : Bool) (t : O.MlType Name) (at limit : ℕ) (o : Option (Rc MlType Global)) → IsOver (length us) t → ((τ : Assignment finite) → Meets finite g.nodes.items τ → τ at ≡ typed finite (through finite us τ) t) → IfNone o ((τ : Assignment finite) → Meets finite g.nodes.items τ → limit < type_size (τ at)) → IfNone o ((σ : Assignment finite) → Permits Finiteness (asked_of u us g b) σ → limit < type_size (assign σ t))
larges-are u us g b t at limit None k back f = large-is u us g b t at limit k back f
larges-are u us g b t at limit (Some r) k back f = tt
