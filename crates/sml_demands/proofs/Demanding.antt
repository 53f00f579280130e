-- What a demand does to the types that are permitted.
use Rattle.std.proofs.Common.{◌≡◌, ℕ, ◌+◌, ◌<◌, ◌≤◌, ◌^◌, ◌↔◌, inl, inr, None, List, [], ◌∷◌, ◌++◌, length, get_or, sym, ◌∙◌, ap, subst, refl, arith, length-append}
use Rattle.std.specs.Prelude.{Bool}
use Rattle.std.proofs.lemmas.Bool.{cases_lt}
use Rattle.std.proofs.lemmas.List.{get_or_past}
use Rattle.std.specs.List.{AllByRecursion}
use Rattle.sml_objects.specs.Initial.{Name}
use Rattle.sml_objects.specs.Objects.{MlType}
use Rattle.sml_graph.specs.declared.graph.Graph.{Graph}
use Rattle.sml_graph.specs.declared.demand.Ask.{Ask}
use Rattle.sml_graph.specs.declared.demand.Ask.TheVariants as A
use Rattle.sml_layers.specs.declared.layer.Bound.TheVariants as B
use Rattle.sml_layers.specs.declared.layer.Layer.{Layer}
use Rattle.sml_layers.specs.declared.layer.Layer.TheVariants.{Equations, Finiteness, Newness, Locality, Equality, Classes, Rigidity}
use Rattle.sml_graph.specs.declared.limits.Limit.{Limit}
use Rattle.sml_graph.specs.declared.change.Change.{Change}
use Rattle.sml_graph.specs.declared.node.Node.{Node}
use Rattle.sml_graph.specs.declared.node.Node.TheVariants.{Unknown}
use Rattle.sml_layers.specs.Worlds.{World, finite, infinite, typed, world}
use Rattle.sml_graph.specs.Worlds.{Assignment}
use Rattle.sml_graph.specs.Graphs.{node_at, Meets, IsSound}
use Rattle.sml_graph.specs.Changes.{IsChange, SameOutside, AreInside}
use Rattle.sml_graph.specs.Interned.{IsOver, through, Interns}
use Rattle.sml_graph.specs.CodeRanks.{HasRank, no_order, order_at}
use Rattle.sml_graph.specs.Limits.{no_limit, limit_at, MeetsAt, KeepsAt, KeepsThrough, IsClosed, IsClosedTo, IsFit, IsDoneBut, Lowers}
use Rattle.sml_layers.specs.Layers.{index_of}
use Rattle.sml_graph.specs.Asked.{Asked, asked_of, count, KeepsUpTo, Permits, layer_of, limit_of, IsAsAsked, Demand, equal, asks, Holds, CanMeet, IsFirstUnmet, Adds, IsMet, PermitsSame}
use Rattle.sml_graph.specs.CodeWhole.{IsFull, IsWhole, IsChanged, Finishes, FailsFirst, FailsAt, LowersLimit, IsKept}
use Rattle.sml_graph.proofs.Changing.{has-map}
use Rattle.sml_graph.proofs.Interning.{inside-at, typed-same, sound-more, get_or-left, get_or-right, beyond, beyond-below, beyond-above, meets-beyond}
use Rattle.sml_graph.proofs.Asking.{nothing-asked, none-meets}
use Rattle.sml_graph.proofs.Limiting.{none-fits, closed-first, lowered-keeps, keeps-lowered, but-lowered}
use Rattle.sml_graph.proofs.Ranking.{rank_of, finite_of, solution, stand_ins, solution-meets, stands-keep}
use Rattle.sml_graph.proofs.Walks.{has_infinite}
use Rattle.sml_graph.proofs.Wholeness.{ordered-more, get_or-push, closed-more, fit-more}
use Rattle.sml_demands.proofs.Owning.{owners-none, owners-fresh, owners-grown, owners-merged}

-- limits and assignments that agree

keeps-agree : (l : Layer) (u n : ℕ) (ls : List Limit) (τ υ : Assignment finite) → length ls ≡ n → ((i : ℕ) → i < n → υ i ≡ τ i) → KeepsAt l u ls τ → KeepsAt l u ls υ
keeps-agree l u n ls τ υ len e k i =
    elim (cases_lt i n) [
      | inl h ↦ rw (e i h) (k i)
      | inr g ↦ rw (get_or_past ls i no_limit (omega (arith, g, len))) (none-meets l u (υ i))
    ]

keeps-as : (l : Layer) (u : ℕ) (ks ls : List Limit) (τ : Assignment finite) → ((i : ℕ) → limit_at ls i ≡ limit_at ks i) → KeepsAt l u ks τ → KeepsAt l u ls τ
keeps-as l u ks ls τ e k i = rw (e i) (k i)

pub upto-agree : (l : Layer) (u n : ℕ) (ls : List Limit) (τ υ : Assignment (world l)) → length ls ≡ n → ((i : ℕ) → i < n → υ i ≡ τ i) → KeepsUpTo l u ls τ → KeepsUpTo l u ls υ
upto-agree Equations u n ls τ υ a e k = tt
upto-agree Finiteness u n ls τ υ a e k = λ j h. keeps-agree j u n ls τ υ a e (k j h)
upto-agree Newness u n ls τ υ a e k = λ j h. keeps-agree j u n ls τ υ a e (k j h)
upto-agree Locality u n ls τ υ a e k = λ j h. keeps-agree j u n ls τ υ a e (k j h)
upto-agree Equality u n ls τ υ a e k = λ j h. keeps-agree j u n ls τ υ a e (k j h)
upto-agree Classes u n ls τ υ a e k = λ j h. keeps-agree j u n ls τ υ a e (k j h)
upto-agree Rigidity u n ls τ υ a e k = λ j h. keeps-agree j u n ls τ υ a e (k j h)

pub upto-as : (l : Layer) (u : ℕ) (ks ls : List Limit) (τ : Assignment (world l)) → ((i : ℕ) → limit_at ls i ≡ limit_at ks i) → KeepsUpTo l u ks τ → KeepsUpTo l u ls τ
upto-as Equations u ks ls τ e k = tt
upto-as Finiteness u ks ls τ e k = λ j h. keeps-as j u ks ls τ e (k j h)
upto-as Newness u ks ls τ e k = λ j h. keeps-as j u ks ls τ e (k j h)
upto-as Locality u ks ls τ e k = λ j h. keeps-as j u ks ls τ e (k j h)
upto-as Equality u ks ls τ e k = λ j h. keeps-as j u ks ls τ e (k j h)
upto-as Classes u ks ls τ e k = λ j h. keeps-as j u ks ls τ e (k j h)
upto-as Rigidity u ks ls τ e k = λ j h. keeps-as j u ks ls τ e (k j h)

through-finish : (l : Layer) (u : ℕ) (g h : Graph) (τ : Assignment finite) → Finishes u g h → Meets finite g.nodes.items τ → KeepsThrough l u g.limits τ ↔ KeepsThrough l u h.limits τ
through-finish l u g h τ f m = (λ k j p. (f.limits j τ m).0 (k j p), λ k j p. (f.limits j τ m).1 (k j p))

upto-finish : (l : Layer) (u : ℕ) (g h : Graph) (τ : Assignment (world l)) → Finishes u g h → Meets (world l) g.nodes.items τ → KeepsUpTo l u g.limits τ ↔ KeepsUpTo l u h.limits τ
upto-finish Equations u g h τ f m = (λ k. tt, λ k. tt)
upto-finish Finiteness u g h τ f m = through-finish Finiteness u g h τ f m
upto-finish Newness u g h τ f m = through-finish Newness u g h τ f m
upto-finish Locality u g h τ f m = through-finish Locality u g h τ f m
upto-finish Equality u g h τ f m = through-finish Equality u g h τ f m
upto-finish Classes u g h τ f m = through-finish Classes u g h τ f m
upto-finish Rigidity u g h τ f m = through-finish Rigidity u g h τ f m

-- A graph in which a demand stands: its types are those that were permitted and meet the demand.
pub record Stands (s : Asked) (d : Demand) (g : Graph) : Type 0 where
  pub forth : (l : Layer) (σ : Assignment (world l)) → Permits l s σ → Holds l s.unit σ d
      → (υ : Assignment (world l)) × Meets (world l) g.nodes.items υ × KeepsUpTo l s.unit g.limits υ
      × ((v : ℕ) → v < count s → through (world l) s.unknowns υ v ≡ σ v)
  pub back : (l : Layer) (υ : Assignment (world l)) → Meets (world l) g.nodes.items υ → KeepsUpTo l s.unit g.limits υ
      → (σ : Assignment (world l)) → ((v : ℕ) → v < count s → through (world l) s.unknowns υ v ≡ σ v) → Permits l s σ × Holds l s.unit σ d

can : (s : Asked) (d : Demand) (g : Graph) → Stands s d g → (l : Layer) (υ : Assignment (world l)) → Meets (world l) g.nodes.items υ → KeepsUpTo l s.unit g.limits υ → CanMeet l s d
unfolding CanMeet
can s d g x l υ m k =
    let σ : Assignment (world l) = through (world l) s.unknowns υ in
    let b = x.back l υ m k σ (λ v h. refl) in
    (σ, b.0, b.1)

cannot : (s : Asked) (d : Demand) (g : Graph) → Stands s d g → (l : Layer) → ((υ : Assignment (world l)) → Meets (world l) g.nodes.items υ → KeepsUpTo l s.unit g.limits υ → ⊥) → CanMeet l s d → ⊥
unfolding CanMeet
cannot s d g x l never c = let f = x.forth l c.0 c.1 c.2 in never f.0 f.1 f.2

can-equations : (s : Asked) (d : Demand) (g : Graph) → Stands s d g → IsSound g.nodes.items → CanMeet Equations s d
can-equations s d g x sound = let t = has_infinite g.nodes.items sound in can s d g x Equations t.0 t.1 tt

can-finite : (s : Asked) (d : Demand) (g : Graph) → Stands s d g → HasRank g.nodes.items → CanMeet Finiteness s d
can-finite s d g x r = let t = finite_of g.nodes.items r in can s d g x Finiteness t.0 t.1 (nothing-asked s.unit g.limits t.0)

-- what stands in a finished graph

finished-types : (u : ℕ) (g h : Graph) → (0 ≡ u → ⊥) → Finishes u g h → (σ : Assignment finite) × Meets finite g.nodes.items σ × ((k : Layer) → KeepsAt k u g.limits σ)
finished-types u g h d f =
    let w = f.whole in
    let ρ = stand_ins h.limits in
    let σ = solution h.nodes.items ρ w.rank.rank in
    let m : Meets finite g.nodes.items σ = rw (sym f.nodes) (solution-meets h.nodes.items ρ w.rank.rank w.rank.ranked) in
    (σ, m, λ k. (f.limits k σ m).1 (stands-keep k u h.nodes.items h.limits w.rank.rank d w.rank.ranked w.closed w.fit))

pub finished-met : (s : Asked) (d : Demand) (g h : Graph) → (0 ≡ s.unit → ⊥) → Stands s d g → Finishes s.unit g h → (l : Layer) → CanMeet l s d
finished-met s d g h n x f l = go l (finished-types s.unit g h n f) where
  go : (l : Layer) → ((σ : Assignment finite) × Meets finite g.nodes.items σ × ((k : Layer) → KeepsAt k s.unit g.limits σ)) → CanMeet l s d
  go Equations t = can-equations s d g x (rw (sym f.nodes) f.whole.sound)
  go Finiteness t = can s d g x Finiteness t.0 t.1 (λ k h. t.2 k)
  go Newness t = can s d g x Newness t.0 t.1 (λ k h. t.2 k)
  go Locality t = can s d g x Locality t.0 t.1 (λ k h. t.2 k)
  go Equality t = can s d g x Equality t.0 t.1 (λ k h. t.2 k)
  go Classes t = can s d g x Classes t.0 t.1 (λ k h. t.2 k)
  go Rigidity t = can s d g x Rigidity t.0 t.1 (λ k h. t.2 k)

pub finished-adds : (s : Asked) (d : Demand) (g h : Graph) (b : Bool) → Stands s d g → Finishes s.unit g h → Adds s d (asked_of s.unit s.unknowns h b)
unfolding Adds Permits
finished-adds s d g h b x f l σ = (
  λ p.
      let m : Meets (world l) g.nodes.items p.0 = rw (sym f.nodes) p.1 in
      x.back l p.0 m ((upto-finish l s.unit g h p.0 f m).1 p.2) σ p.3,
  λ p.
      let y = x.forth l σ p.0 p.1 in
      (y.0, rw f.nodes y.1, (upto-finish l s.unit g h y.0 f y.1).0 y.2, y.3),
)

-- what fails in a graph is the first layer that can't be met

before-met : (s : Asked) (d : Demand) (g : Graph) (l : Layer) → Stands s d g → IsSound g.nodes.items → FailsFirst l s.unit g → (k : Layer) → index_of k < index_of l → CanMeet k s d
before-met s d g l x sound f Equations h = can-equations s d g x sound
before-met s d g l x sound f Finiteness h = can s d g x Finiteness f.types f.meets (λ j q. f.keeps j (omega (arith, q, h)))
before-met s d g l x sound f Newness h = can s d g x Newness f.types f.meets (λ j q. f.keeps j (omega (arith, q, h)))
before-met s d g l x sound f Locality h = can s d g x Locality f.types f.meets (λ j q. f.keeps j (omega (arith, q, h)))
before-met s d g l x sound f Equality h = can s d g x Equality f.types f.meets (λ j q. f.keeps j (omega (arith, q, h)))
before-met s d g l x sound f Classes h = can s d g x Classes f.types f.meets (λ j q. f.keeps j (omega (arith, q, h)))
before-met s d g l x sound f Rigidity h = can s d g x Rigidity f.types f.meets (λ j q. f.keeps j (omega (arith, q, h)))

pub failing-first : (s : Asked) (d : Demand) (g : Graph) → Stands s d g → IsSound g.nodes.items → (l : Layer) → FailsAt l s.unit g → IsFirstUnmet l s d
unfolding IsFirstUnmet
failing-first s d g x sound Equations f = absurd f
failing-first s d g x sound Finiteness f = (
  cannot s d g x Finiteness (λ υ m k. f (rank_of g.nodes.items sound (υ, m))),
  λ k. elim k as (λ k. index_of k < 1 → CanMeet k s d) [
    | Equations ↦ λ h. can-equations s d g x sound
    | Finiteness ↦ λ h. absurd (omega (arith, h))
    | Newness ↦ λ h. absurd (omega (arith, h))
    | Locality ↦ λ h. absurd (omega (arith, h))
    | Equality ↦ λ h. absurd (omega (arith, h))
    | Classes ↦ λ h. absurd (omega (arith, h))
    | Rigidity ↦ λ h. absurd (omega (arith, h))
  ],
)
failing-first s d g x sound Newness f = (cannot s d g x Newness (λ υ m k. f.none υ m k), before-met s d g Newness x sound f)
failing-first s d g x sound Locality f = (cannot s d g x Locality (λ υ m k. f.none υ m k), before-met s d g Locality x sound f)
failing-first s d g x sound Equality f = (cannot s d g x Equality (λ υ m k. f.none υ m k), before-met s d g Equality x sound f)
failing-first s d g x sound Classes f = (cannot s d g x Classes (λ υ m k. f.none υ m k), before-met s d g Classes x sound f)
failing-first s d g x sound Rigidity f = (cannot s d g x Rigidity (λ υ m k. f.none υ m k), before-met s d g Rigidity x sound f)

-- A graph with nodes for a type more.
pub record Grows (us : List ℕ) (t : MlType Name) (g h : Graph) (r : ℕ) : Type 0 where
  pub interns : Interns g.nodes.items us t h.nodes.items r
  pub limits : (i : ℕ) → limit_at h.limits i ≡ limit_at g.limits i

module _ (us : List ℕ) (t : MlType Name) (g h : Graph) (r u : ℕ) (l : Layer) where
  pub grown-forth : Grows us t g h r → IsFull g → (τ : Assignment (world l)) → Meets (world l) g.nodes.items τ → KeepsUpTo l u g.limits τ
      → (υ : Assignment (world l)) × Meets (world l) h.nodes.items υ × KeepsUpTo l u h.limits υ × ((i : ℕ) → i < length g.nodes.items → υ i ≡ τ i)
  grown-forth x f τ m k =
      let y = x.interns.forth (world l) τ m in (
        y.0,
        y.1,
        upto-as l u g.limits h.limits y.0 x.limits (upto-agree l u (length g.nodes.items) g.limits τ y.0 f.limits y.2 k),
        y.2,
      )

  pub grown-back : Grows us t g h r → (υ : Assignment (world l)) → Meets (world l) h.nodes.items υ → KeepsUpTo l u h.limits υ
      → Meets (world l) g.nodes.items υ × KeepsUpTo l u g.limits υ × (υ r ≡ typed (world l) (through (world l) us υ) t)
  grown-back x υ m k =
      let y = x.interns.back (world l) υ m in
      (y.0, upto-as l u h.limits g.limits υ (λ i. sym (x.limits i)) k, y.1)

pub through-agree : (w : World) (us : List ℕ) (n : ℕ) (τ υ : Assignment w) (σ : Assignment w) → AllByRecursion (λ u. u < n) us → ((i : ℕ) → i < n → υ i ≡ τ i) → ((v : ℕ) → v < length us → through w us τ v ≡ σ v) → (v : ℕ) → v < length us → through w us υ v ≡ σ v
through-agree w us n τ υ σ a e s v h = e (get_or us v 0) (inside-at n us v a h) ∙ s v h

-- two types are made equal
pub stands-equal : (u : ℕ) (us : List ℕ) (b : Bool) (t v : MlType Name) (g h k m : Graph) (x y : ℕ) → IsFull g → IsFull h → AllByRecursion (λ i. i < length g.nodes.items) us → IsOver (length us) t → IsOver (length us) v
    → Grows us t g h x → Grows us v h k y
    → ((w : World) (σ : Assignment w) → Meets w m.nodes.items σ ↔ (Meets w k.nodes.items σ × (σ x ≡ σ y)))
    → m.limits ≡ k.limits
    → Stands (asked_of u us g b) (equal t v) m
unfolding Permits
stands-equal u us b t v g h k m x y fg fh a ot ov gx gy same en = record {
  forth = λ l σ p q.
      let one = grown-forth us t g h x u l gx fg p.0 p.1 p.2 in
      let two = grown-forth us v h k y u l gy fh one.0 one.1 one.2 in
      let υ = two.0 in
      let e1 = through-agree (world l) us (length g.nodes.items) p.0 one.0 σ a one.3 p.3 in
      let n1 = gx.interns.len in
      let e2 = through-agree (world l) us (length g.nodes.items) one.0 υ σ a (λ i z. two.3 i (omega (arith, z, n1))) e1 in
      let by = grown-back us v h k y u l gy υ two.1 two.2 in
      let bx = grown-back us t g h x u l gx υ by.0 by.1 in
      let tx = typed-same (world l) (through (world l) us υ) σ (length us) t e2 ot in
      let ty = typed-same (world l) (through (world l) us υ) σ (length us) v e2 ov in
      (υ, (same (world l) υ).1 (two.1, bx.2 ∙ (tx ∙ (q ∙ (sym ty ∙ sym by.2)))), upto-as l u k.limits m.limits υ (λ i. ap (λ z. limit_at z i) en) two.2, e2);
  back = λ l υ z w σ e.
      let mk = (same (world l) υ).0 z in
      let kk = upto-as l u m.limits k.limits υ (λ i. ap (λ z. limit_at z i) (sym en)) w in
      let by = grown-back us v h k y u l gy υ mk.0 kk in
      let bx = grown-back us t g h x u l gx υ by.0 by.1 in
      let tx = typed-same (world l) (through (world l) us υ) σ (length us) t e ot in
      let ty = typed-same (world l) (through (world l) us υ) σ (length us) v e ov in
      ((υ, bx.0, bx.1, e), sym tx ∙ (sym bx.2 ∙ (mk.1 ∙ (by.2 ∙ ty))));
}

-- where two nodes can't be made equal
pub clash-first : (u : ℕ) (us : List ℕ) (b : Bool) (t v : MlType Name) (g h k : Graph) (x y : ℕ) → IsFull g → IsFull h → AllByRecursion (λ i. i < length g.nodes.items) us → IsOver (length us) t → IsOver (length us) v
    → Grows us t g h x → Grows us v h k y
    → ((w : World) (σ : Assignment w) → Meets w k.nodes.items σ → σ x ≡ σ y → ⊥)
    → IsFirstUnmet Equations (asked_of u us g b) (equal t v)
unfolding IsFirstUnmet CanMeet Permits
clash-first u us b t v g h k x y fg fh a ot ov gx gy never = (
  λ c.
      let σ = c.0 in
      let p = c.1 in
      let one = grown-forth us t g h x u Equations gx fg p.0 p.1 p.2 in
      let two = grown-forth us v h k y u Equations gy fh one.0 one.1 one.2 in
      let υ = two.0 in
      let e1 = through-agree infinite us (length g.nodes.items) p.0 one.0 σ a one.3 p.3 in
      let n1 = gx.interns.len in
      let e2 = through-agree infinite us (length g.nodes.items) one.0 υ σ a (λ i z. two.3 i (omega (arith, z, n1))) e1 in
      let by = grown-back us v h k y u Equations gy υ two.1 two.2 in
      let bx = grown-back us t g h x u Equations gx υ by.0 by.1 in
      let tx = typed-same infinite (through infinite us υ) σ (length us) t e2 ot in
      let ty = typed-same infinite (through infinite us υ) σ (length us) v e2 ov in
      never infinite υ two.1 (bx.2 ∙ (tx ∙ (c.2 ∙ (sym ty ∙ sym by.2)))),
  λ j h. absurd (omega (arith, h)),
)

-- what was changed is left to do
pub changed-but : (u : ℕ) (ns ms : List Node) (ls : List Limit) (cs : List Change) → IsClosed ns ls → ((l : Layer) → IsFit l u ns ls) → SameOutside ns ms cs → IsDoneBut u ms ls None cs
changed-but u ns ms ls cs c f o i =
    elim (o i) [
      | inl e ↦ inl (rw e (c i, λ l h. f l i))
      | inr m ↦ inr (has-map (IsChange i (node_at ns i) (node_at ms i)) (IsClosedTo ls i (node_at ms i)) cs (λ d x. (x.0, closed-first ls i d.from (node_at ns i) (node_at ms i) x.1 (c i))) m)
    ]

-- something is asked of a type

asked-at : (k l : Layer) (u : ℕ) (a : Ask) (t : MlType Name) → index_of k ≤ index_of l → (index_of (layer_of a) ≤ index_of l → IsAsAsked u a t) → MeetsAt k u (limit_of a) t
asked-at Equations l u a t h f = tt
asked-at Finiteness l u a t h f = tt
asked-at Newness l u (A.Within B.Newness n) t h f = f h
asked-at Newness l u (A.Within B.Locality n) t h f = tt
asked-at Newness l u A.Equality t h f = tt
asked-at Newness l u (A.Class c) t h f = tt
asked-at Newness l u (A.Variable x) t h f = tt
asked-at Locality l u (A.Within B.Newness n) t h f = tt
asked-at Locality l u (A.Within B.Locality n) t h f = f h
asked-at Locality l u A.Equality t h f = tt
asked-at Locality l u (A.Class c) t h f = tt
asked-at Locality l u (A.Variable x) t h f = tt
asked-at Equality l u (A.Within B.Newness n) t h f = tt
asked-at Equality l u (A.Within B.Locality n) t h f = tt
asked-at Equality l u A.Equality t h f = f h
asked-at Equality l u (A.Class c) t h f = tt
asked-at Equality l u (A.Variable x) t h f = tt
asked-at Classes l u (A.Within B.Newness n) t h f = tt
asked-at Classes l u (A.Within B.Locality n) t h f = tt
asked-at Classes l u A.Equality t h f = tt
asked-at Classes l u (A.Class c) t h f = f h
asked-at Classes l u (A.Variable x) t h f = tt
asked-at Rigidity l u (A.Within B.Newness n) t h f = tt
asked-at Rigidity l u (A.Within B.Locality n) t h f = tt
asked-at Rigidity l u A.Equality t h f = tt
asked-at Rigidity l u (A.Class c) t h f = tt
asked-at Rigidity l u (A.Variable x) t h f = f h

at-asked : (u : ℕ) (a : Ask) (t : MlType Name) → MeetsAt (layer_of a) u (limit_of a) t → IsAsAsked u a t
at-asked u (A.Within B.Newness n) t w = w
at-asked u (A.Within B.Locality n) t w = w
at-asked u A.Equality t w = w
at-asked u (A.Class c) t w = w
at-asked u (A.Variable x) t w = w

module _ (u r : ℕ) (a : Ask) (ls ms : List Limit) (js : List Change) (low : Lowers ls [] (r ∷ []) (limit_of a) ms js) where
  through-lower : (l : Layer) (τ : Assignment finite) → KeepsThrough l u ls τ → (index_of (layer_of a) ≤ index_of l → IsAsAsked u a (τ r)) → KeepsThrough l u ms τ
  through-lower l τ k w j h = lowered-keeps j u (limit_of a) r ls ms js τ low (k j h) (asked-at j l u a (τ r) h w)

  through-lowered : (l : Layer) (τ : Assignment finite) → KeepsThrough l u ms τ → KeepsThrough l u ls τ × (index_of (layer_of a) ≤ index_of l → IsAsAsked u a (τ r))
  through-lowered l τ k = (λ j h. (keeps-lowered j u (limit_of a) r ls ms js τ low (k j h)).0, λ h. at-asked u a (τ r) ((keeps-lowered (layer_of a) u (limit_of a) r ls ms js τ low (k (layer_of a) h)).1))

module _ (u : ℕ) (us : List ℕ) (b : Bool) (a : Ask) (t : MlType Name) (g h m : Graph) (r : ℕ) (js : List Change) (o : IsOver (length us) t) (x : LowersLimit h r (limit_of a) m js) where
  up : (l : Layer) (υ σ : Assignment (world l)) → KeepsUpTo l u h.limits υ → υ r ≡ typed (world l) σ t → Holds l u σ (asks a t) → KeepsUpTo l u m.limits υ
  up Equations υ σ k e w = tt
  up Finiteness υ σ k e w = through-lower u r a h.limits m.limits js x.lowers Finiteness υ k (λ p. rw e (w p))
  up Newness υ σ k e w = through-lower u r a h.limits m.limits js x.lowers Newness υ k (λ p. rw e (w p))
  up Locality υ σ k e w = through-lower u r a h.limits m.limits js x.lowers Locality υ k (λ p. rw e (w p))
  up Equality υ σ k e w = through-lower u r a h.limits m.limits js x.lowers Equality υ k (λ p. rw e (w p))
  up Classes υ σ k e w = through-lower u r a h.limits m.limits js x.lowers Classes υ k (λ p. rw e (w p))
  up Rigidity υ σ k e w = through-lower u r a h.limits m.limits js x.lowers Rigidity υ k (λ p. rw e (w p))

  down : (l : Layer) (υ : Assignment (world l)) → KeepsUpTo l u m.limits υ → KeepsUpTo l u h.limits υ
  down Equations υ k = tt
  down Finiteness υ k = (through-lowered u r a h.limits m.limits js x.lowers Finiteness υ k).0
  down Newness υ k = (through-lowered u r a h.limits m.limits js x.lowers Newness υ k).0
  down Locality υ k = (through-lowered u r a h.limits m.limits js x.lowers Locality υ k).0
  down Equality υ k = (through-lowered u r a h.limits m.limits js x.lowers Equality υ k).0
  down Classes υ k = (through-lowered u r a h.limits m.limits js x.lowers Classes υ k).0
  down Rigidity υ k = (through-lowered u r a h.limits m.limits js x.lowers Rigidity υ k).0

  held : (l : Layer) (υ σ : Assignment (world l)) → KeepsUpTo l u m.limits υ → υ r ≡ typed (world l) σ t → Holds l u σ (asks a t)
  held Equations υ σ k e = tt
  held Finiteness υ σ k e = λ p. subst (IsAsAsked u a) e ((through-lowered u r a h.limits m.limits js x.lowers Finiteness υ k).1 p)
  held Newness υ σ k e = λ p. subst (IsAsAsked u a) e ((through-lowered u r a h.limits m.limits js x.lowers Newness υ k).1 p)
  held Locality υ σ k e = λ p. subst (IsAsAsked u a) e ((through-lowered u r a h.limits m.limits js x.lowers Locality υ k).1 p)
  held Equality υ σ k e = λ p. subst (IsAsAsked u a) e ((through-lowered u r a h.limits m.limits js x.lowers Equality υ k).1 p)
  held Classes υ σ k e = λ p. subst (IsAsAsked u a) e ((through-lowered u r a h.limits m.limits js x.lowers Classes υ k).1 p)
  held Rigidity υ σ k e = λ p. subst (IsAsAsked u a) e ((through-lowered u r a h.limits m.limits js x.lowers Rigidity υ k).1 p)

  pub stands-asked : IsFull g → AllByRecursion (λ i. i < length g.nodes.items) us → Grows us t g h r → Stands (asked_of u us g b) (asks a t) m
  unfolding Permits
  stands-asked fg inside gx = record {
    forth = λ l σ p q.
        let one = grown-forth us t g h r u l gx fg p.0 p.1 p.2 in
        let e1 = through-agree (world l) us (length g.nodes.items) p.0 one.0 σ inside one.3 p.3 in
        let bx = grown-back us t g h r u l gx one.0 one.1 one.2 in
        let e2 = bx.2 ∙ typed-same (world l) (through (world l) us one.0) σ (length us) t e1 o in
        (one.0, rw x.nodes one.1, up l one.0 σ one.2 e2 q, e1);
    back = λ l υ z w σ e.
        let mh : Meets (world l) h.nodes.items υ = rw (sym x.nodes) z in
        let bx = grown-back us t g h r u l gx υ mh (down l υ w) in
        let e2 = bx.2 ∙ typed-same (world l) (through (world l) us υ) σ (length us) t e o in
        ((υ, bx.0, bx.1, e), held l υ σ w e2);
  }

pub limit-changed : (u : ℕ) (a : Limit) (h : Graph) (r : ℕ) (m : Graph) (js : List Change) → IsWhole u h → LowersLimit h r a m js → IsChanged u m js
limit-changed u a h r m js w x =
    let e = x.nodes in
    record {
      full = record {
        limits = x.lowers.len ∙ (w.full.limits ∙ ap length (sym e));
        orders = ap length x.orders ∙ (w.full.orders ∙ ap length (sym e));
        bottom = record { from = λ i. rw (x.orders, x.bottom) (w.full.bottom.from i); positive = rw x.bottom w.full.bottom.positive };
      };
      sound = rw e w.sound;
      inside = rw e (subst (λ q. AreInside q js) w.full.limits (x.lowers.inside tt));
      before = h.nodes.items;
      rank = w.rank;
      outside = λ i. inl (ap (λ z. node_at z i) e);
      ordered = λ i h. inl (rw (e, x.orders) (w.ordered i (rw x.orders at h)));
      but = rw e (but-lowered u a h.nodes.items h.limits m.limits (r ∷ []) js w.closed w.fit x.lowers);
    }

-- a solver with no unknown

pub kept-none : (u : ℕ) (g : Graph) (us : List ℕ) → g.nodes.items ≡ [] → g.limits ≡ [] → g.orders.items ≡ [] → 0 < g.bottom → g.bottom ≤ no_order → us ≡ [] → IsKept u g us
kept-none u g us a b d p m f = record {
  whole = record {
    full = record {
      limits = rw (a, b) refl;
      orders = rw (a, d) refl;
      bottom = record { from = λ i. rw d m; positive = p };
    };
    sound = rw a (λ i. tt);
    rank = record { rank = λ i. 0; ranked = rw a (λ i. tt) };
    ordered = rw a (λ i h. tt);
    closed = rw a (λ i. tt);
    fit = λ l. rw (a, b) (λ i. none-fits l u Unknown);
  };
  owners = owners-none g.nodes.items us a f;
}

whole-met-finite : (u : ℕ) (g : Graph) → (0 ≡ u → ⊥) → IsWhole u g → (σ : Assignment finite) × Meets finite g.nodes.items σ × ((k : Layer) → KeepsAt k u g.limits σ)
whole-met-finite u g d w =
    let r = w.rank in
    let ρ = stand_ins g.limits in
    (solution g.nodes.items ρ r.rank, solution-meets g.nodes.items ρ r.rank r.ranked, λ k. stands-keep k u g.nodes.items g.limits r.rank d r.ranked w.closed w.fit)

pub whole-met : (u : ℕ) (g : Graph) (us : List ℕ) (b : Bool) → (0 ≡ u → ⊥) → IsWhole u g → IsMet (asked_of u us g b)
unfolding IsMet Permits
whole-met u g us b d w Equations = let t = has_infinite g.nodes.items w.sound in (through infinite us t.0, (t.0, t.1, tt, λ v h. refl))
whole-met u g us b d w Finiteness = let t = whole-met-finite u g d w in (through finite us t.0, (t.0, t.1, λ k h. t.2 k, λ v h. refl))
whole-met u g us b d w Newness = let t = whole-met-finite u g d w in (through finite us t.0, (t.0, t.1, λ k h. t.2 k, λ v h. refl))
whole-met u g us b d w Locality = let t = whole-met-finite u g d w in (through finite us t.0, (t.0, t.1, λ k h. t.2 k, λ v h. refl))
whole-met u g us b d w Equality = let t = whole-met-finite u g d w in (through finite us t.0, (t.0, t.1, λ k h. t.2 k, λ v h. refl))
whole-met u g us b d w Classes = let t = whole-met-finite u g d w in (through finite us t.0, (t.0, t.1, λ k h. t.2 k, λ v h. refl))
whole-met u g us b d w Rigidity = let t = whole-met-finite u g d w in (through finite us t.0, (t.0, t.1, λ k h. t.2 k, λ v h. refl))

-- an unknown more

pub kept-fresh : (u : ℕ) (g h : Graph) (us vs : List ℕ) → IsKept u g us → h.nodes.items ≡ g.nodes.items ++ Unknown ∷ [] → ((i : ℕ) → limit_at h.limits i ≡ limit_at g.limits i) → ((i : ℕ) → order_at h.orders.items i ≡ order_at g.orders.items i) → IsFull h → vs ≡ us ++ length g.nodes.items ∷ [] → length us < 2 ^ 32 → IsKept u h vs
kept-fresh u g h us vs k e a o full f few =
    let ns = g.nodes.items in
    let w = k.whole in
    let n : length h.nodes.items ≡ length ns + 1 = ap length e ∙ simp length-append in
    let same : (i : ℕ) → node_at h.nodes.items i ≡ node_at ns i = λ i. ap (λ z. node_at z i) e ∙ get_or-push ns Unknown i in
    record {
      whole = record {
        full = full;
        sound = λ i. rw (same i) (sound-more (length ns) (length h.nodes.items) i (node_at ns i) (omega (arith, n)) (w.sound i));
        rank = record { rank = w.rank.rank; ranked = λ i. rw (same i) (w.rank.ranked i) };
        ordered = ordered-more ns h.nodes.items g.orders.items h.orders.items w.full.orders (λ i l. same i) o w.ordered;
        closed = closed-more ns h.nodes.items g.limits h.limits w.full.limits (λ i l. same i) a w.closed;
        fit = λ l. fit-more l u ns h.nodes.items g.limits h.limits w.full.limits (λ i l. same i) a (w.fit l);
      };
      owners = owners-fresh ns h.nodes.items us vs k.owners e f few;
    }

pub permits-fresh : (u : ℕ) (g h : Graph) (us vs : List ℕ) (b d : Bool) → IsKept u g us → h.nodes.items ≡ g.nodes.items ++ Unknown ∷ [] → ((i : ℕ) → limit_at h.limits i ≡ limit_at g.limits i) → vs ≡ us ++ length g.nodes.items ∷ [] → PermitsSame (asked_of u us g b) (asked_of u vs h d)
unfolding PermitsSame Permits
permits-fresh u g h us vs b d k e x f l σ =
    let ns = g.nodes.items in
    let w = world l in
    let n : length vs ≡ length us + 1 = ap length f ∙ simp length-append in
    let same : (i : ℕ) → node_at h.nodes.items i ≡ node_at ns i = λ i. ap (λ z. node_at z i) e ∙ get_or-push ns Unknown i in
    let old : (v : ℕ) → v < length us → get_or vs v 0 ≡ get_or us v 0 = λ v z. ap (λ zs. get_or zs v 0) f ∙ get_or-left us (length ns ∷ []) v 0 z in (
      λ p. (p.0, λ i. rw (same i) at (p.1 i), upto-as l u h.limits g.limits p.0 (λ i. sym (x i)) p.2, λ v z. ap p.0 (sym (old v z)) ∙ p.3 v (omega (arith, z, n))),
      λ p.
          let υ : Assignment w = beyond w p.0 (length ns) (λ _. σ (length us)) in
          let agree : (i : ℕ) → i < length ns → υ i ≡ p.0 i = λ i z. beyond-below w p.0 (length ns) (λ _. σ (length us)) i z in
          let m = meets-beyond w ns p.0 (length ns) (λ _. σ (length us)) (omega arith) k.whole.sound p.1 in (
            υ,
            λ i. rw (same i) (m i),
            upto-as l u g.limits h.limits υ x (upto-agree l u (length ns) g.limits p.0 υ k.whole.full.limits agree p.2),
            λ v z.
                elim (cases_lt v (length us)) [
                  | inl a ↦ ap υ (old v a) ∙ (agree (get_or us v 0) (inside-at (length ns) us v k.owners.inside a) ∙ p.3 v a)
                  | inr c ↦
                      let q : v ≡ length us + 0 = omega (arith, c, z, n) in
                      let r : length us ≡ v = omega (arith, c, z, n) in
                      let last : get_or vs v 0 ≡ length ns + 0 = ap (λ zs. get_or zs v 0) f ∙ (ap (λ i. get_or (us ++ length ns ∷ []) i 0) q ∙ (get_or-right us (length ns ∷ []) 0 0 ∙ omega arith)) in
                      ap υ last ∙ (beyond-above w p.0 (length ns) (λ _. σ (length us)) 0 ∙ ap σ r)
                ],
          ),
    )

pub permits-refl : (s : Asked) → PermitsSame s s
unfolding PermitsSame
permits-refl s l σ = (λ p. p, λ p. p)

pub permits-trans : (s t v : Asked) → PermitsSame s t → PermitsSame t v → PermitsSame s v
unfolding PermitsSame
permits-trans s t v a b l σ = (λ p. (a l σ).0 ((b l σ).0 p), λ p. (b l σ).1 ((a l σ).1 p))

-- nodes for a type more change nothing that is permitted
pub permits-grown : (u : ℕ) (us : List ℕ) (b d : Bool) (t : MlType Name) (g h : Graph) (r : ℕ) → IsKept u g us → Grows us t g h r → PermitsSame (asked_of u us g b) (asked_of u us h d)
unfolding PermitsSame Permits
permits-grown u us b d t g h r k x l σ = (
  λ p. let y = grown-back us t g h r u l x p.0 p.1 p.2 in (p.0, y.0, y.1, p.3),
  λ p.
      let y = grown-forth us t g h r u l x k.whole.full p.0 p.1 p.2 in
      (y.0, y.1, y.2, through-agree (world l) us (length g.nodes.items) p.0 y.0 σ k.owners.inside y.3 p.3),
)

pub kept-grown : (u : ℕ) (us : List ℕ) (t : MlType Name) (g h : Graph) (r : ℕ) → IsKept u g us → Grows us t g h r → IsWhole u h → IsKept u h us
kept-grown u us t g h r k x w = record { whole = w; owners = owners-grown g.nodes.items us t h.nodes.items r k.owners x.interns }

-- one equation more

pub kept-merged : (u : ℕ) (us : List ℕ) (t v : MlType Name) (g h k m f : Graph) (x y : ℕ) → IsKept u g us → Grows us t g h x → Grows us v h k y → IsSound k.nodes.items → length m.nodes.items ≡ length k.nodes.items → ((σ : Assignment finite) → Meets finite m.nodes.items σ → Meets finite k.nodes.items σ) → Finishes u m f → IsKept u f us
kept-merged u us t v g h k m f x y kept gx gy s n back z =
    let e = z.nodes in
    record {
      whole = z.whole;
      owners = owners-merged k.nodes.items f.nodes.items us (owners-grown h.nodes.items us v k.nodes.items y (owners-grown g.nodes.items us t h.nodes.items x kept.owners gx.interns) gy.interns) (ap length e ∙ n) s z.whole.sound z.whole.rank (λ σ q. back σ (rw e at q));
    }

-- limits are lowered

pub kept-lowered : (u : ℕ) (us : List ℕ) (t : MlType Name) (g h m f : Graph) (x : ℕ) → IsKept u g us → Grows us t g h x → m.nodes.items ≡ h.nodes.items → Finishes u m f → IsKept u f us
kept-lowered u us t g h m f x kept gx e z = record {
  whole = z.whole;
  owners = rw (z.nodes, e) (owners-grown g.nodes.items us t h.nodes.items x kept.owners gx.interns);
}
