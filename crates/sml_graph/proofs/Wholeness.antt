-- Graphs between demands.
use Rattle.std.proofs.Common.{◌≡◌, ℕ, zero, suc, ◌<◌, ◌≤◌, ◌↔◌, inl, inr, Option, Some, None, List, [], ◌∷◌, ◌++◌, length, get_or, ◌∙◌, subst, refl, arith}
use Rattle.std.proofs.lemmas.Bool.{cases_lt}
use Rattle.std.proofs.lemmas.List.{get_or_past}
use Rattle.std.specs.Prelude.{Bool, true, false}
use Rattle.std.specs.Bool.{OnTrue}
use Rattle.std.specs.Option.{IfSome}
use Rattle.sml_objects.specs.Initial.{Name}
use Rattle.sml_objects.specs.Objects.{MlType}
use Rattle.sml_graph.specs.declared.graph.Graph.{Graph}
use Rattle.sml_layers.specs.declared.layer.Layer.{Layer}
use Rattle.sml_layers.specs.declared.layer.Layer.TheVariants.{Equations, Finiteness, Newness, Locality, Equality, Classes, Rigidity}
use Rattle.sml_graph.specs.declared.limits.Limit.{Limit}
use Rattle.sml_graph.specs.declared.node.Node.{Node}
use Rattle.sml_layers.specs.Worlds.{World, finite}
use Rattle.sml_graph.specs.Worlds.{Assignment}
use Rattle.sml_graph.specs.Graphs.{node_at, parts, Meets, MeetsPairs, SameSolutions, HasNoSolution}
use Rattle.sml_graph.specs.Interned.{Interns}
use Rattle.sml_graph.specs.CodeRanks.{HasRank, no_order, order_at, AreFrom, AreOrdered, IsOrdered, IsSearch}
use Rattle.sml_graph.specs.Limits.{no_limit, limit_at, KeepsAt, IsClosed, IsFit, IsBefore, SameLimits, NoneKeeps}
use Rattle.sml_layers.specs.Layers.{index_of}
use Rattle.sml_graph.specs.CodeWhole.{FailsFirst, FailsAt}
use Rattle.sml_graph.proofs.Asking.{nothing-asked}
use Rattle.sml_graph.proofs.Searching.{all-parts}
use Rattle.sml_graph.proofs.Limiting.{none-closed, none-fits, closed-as}
use Rattle.sml_graph.proofs.Ranking.{rank_of, finite_of, solution, ints, solution-meets, ints-keep}

pub get_or-push : {A : Type 0} (xs : List A) (d : A) (i : ℕ) → get_or (xs ++ d ∷ []) i d ≡ get_or xs i d
get_or-push [] d zero = refl
get_or-push [] d (suc i) = refl
get_or-push (x ∷ xs) d zero = refl
get_or-push (x ∷ xs) d (suc i) = get_or-push xs d i

-- no node is being visited
pub search-none : (ns : List Node) (e b : ℕ) (os : List ℕ) → length os ≡ length ns → 0 < e → 0 < b → AreFrom b os → IsSearch ns e os []
search-none ns e b os n z p f = record {
  len = n;
  positive = z;
  begun = λ i q. let x = f i in absurd (omega (arith, x, q, p));
  visits = tt;
  apart = tt;
  falls = λ r a. tt;
}

-- nodes for a type more leave the graph whole

pub closed-more : (ns ms : List Node) (ks ls : List Limit) → length ks ≡ length ns → ((i : ℕ) → i < length ns → node_at ms i ≡ node_at ns i) → ((i : ℕ) → limit_at ls i ≡ limit_at ks i) → IsClosed ns ks → IsClosed ms ls
closed-more ns ms ks ls n before same c i =
    elim (cases_lt i (length ns)) [
      | inl l ↦ rw (before i l) (closed-as ks ls i (node_at ns i) same (c i))
      | inr g ↦ none-closed ls i (node_at ms i) (same i ∙ get_or_past ks i no_limit (omega (arith, g, n)))
    ]

pub fit-more : (l : Layer) (u : ℕ) (ns ms : List Node) (ks ls : List Limit) → length ks ≡ length ns → ((i : ℕ) → i < length ns → node_at ms i ≡ node_at ns i) → ((i : ℕ) → limit_at ls i ≡ limit_at ks i) → IsFit l u ns ks → IsFit l u ms ls
fit-more l u ns ms ks ls n before same f i =
    elim (cases_lt i (length ns)) [
      | inl h ↦ rw (before i h, same i) (f i)
      | inr g ↦
          let e : limit_at ls i ≡ no_limit = same i ∙ get_or_past ks i no_limit (omega (arith, g, n)) in
          rw e (none-fits l u (node_at ms i))
    ]

pub ranked-more : (ns : List Node) (us : List ℕ) (t : MlType Name) (ms : List Node) (r : ℕ) → Interns ns us t ms r → HasRank ns → HasRank ms
ranked-more ns us t ms r x h =
    let f = finite_of ns h in
    let g = x.forth finite f.0 f.1 in
    rank_of ms x.sound (g.0, g.1)

pub ordered-more : (ns ms : List Node) (os ps : List ℕ) → length os ≡ length ns → ((i : ℕ) → i < length ns → node_at ms i ≡ node_at ns i) → ((i : ℕ) → order_at ps i ≡ order_at os i) → AreOrdered ns os → AreOrdered ms ps
ordered-more ns ms os ps n before same a i h =
    elim (cases_lt i (length ns)) [
      | inl l ↦
          let x : IsOrdered ns os i = a i (rw (same i) at h) in
          rw (before i l) (all-parts (λ k. (0 < order_at os k) × (order_at os k < order_at os i)) (λ k. (0 < order_at ps k) × (order_at ps k < order_at ps i)) (parts (node_at ns i)) (λ k y. let p = same k in let q = same i in let u = y.0 in let v = y.1 in (omega (arith, p, u), omega (arith, p, q, v))) x)
      | inr g ↦
          let e : order_at ps i ≡ no_order = same i ∙ get_or_past os i no_order (omega (arith, g, n)) in
          absurd (omega (arith, e, h))
    ]

pub on_true : (b : Bool) (P Q : Type 0) → OnTrue b P → (P → Q) → OnTrue b Q
on_true true P Q a f = f a
on_true false P Q a f = tt

pub on_true2 : (b : Bool) (P Q R : Type 0) → OnTrue b P → OnTrue b Q → (P → Q → R) → OnTrue b R
on_true2 true P Q R a b f = f a b
on_true2 false P Q R a b f = tt

pub on_true3 : (b : Bool) (P Q R S : Type 0) → OnTrue b P → OnTrue b Q → OnTrue b R → (P → Q → R → S) → OnTrue b S
on_true3 true P Q R S a b c f = f a b c
on_true3 false P Q R S a b c f = tt

-- one equation is solved

pub equal_is : (ns ms : List Node) (ps : List (ℕ × ℕ)) (l r : ℕ) → ps ≡ (l, r) ∷ [] → SameSolutions ns ps ms [] → (w : World) (σ : Assignment w) → Meets w ms σ ↔ (Meets w ns σ × (σ l ≡ σ r))
equal_is ns ms ps l r e s w σ = (
  λ m. let x = (s w σ).1 (m, tt) in let y : MeetsPairs w ((l, r) ∷ []) σ = rw e at x.1 in (x.0, y.0),
  λ m. (((s w σ).0 (m.0, rw e (m.1, tt))).0),
)

pub clash_is : (ns : List Node) (ps : List (ℕ × ℕ)) (l r : ℕ) → ps ≡ (l, r) ∷ [] → HasNoSolution ns ps → (w : World) (σ : Assignment w) → Meets w ns σ → σ l ≡ σ r → ⊥
clash_is ns ps l r e h w σ m q = h w σ m (rw e (q, tt))

-- a layer that fails is the first to fail

fails-first : (l : Layer) (u : ℕ) (g : Graph) (σ : Assignment finite) → Meets finite g.nodes.items σ → ((k : Layer) → index_of k < index_of l → KeepsAt k u g.limits σ) → NoneKeeps u g.nodes.items g.limits l → FailsFirst l u g
fails-first l u g σ m k n = record { types = σ; meets = m; keeps = k; none = n }

pub fails-at : (l : Layer) (u : ℕ) (g : Graph) (σ : Assignment finite) → Meets finite g.nodes.items σ → ((k : Layer) → index_of k < index_of l → KeepsAt k u g.limits σ) → NoneKeeps u g.nodes.items g.limits l → FailsAt l u g
fails-at Equations u g σ m k n = n σ m (λ j h. nothing-asked u g.limits σ j (omega (arith, h)))
fails-at Finiteness u g σ m k n = λ r. n σ m (nothing-asked u g.limits σ)
fails-at Newness u g σ m k n = fails-first Newness u g σ m k n
fails-at Locality u g σ m k n = fails-first Locality u g σ m k n
fails-at Equality u g σ m k n = fails-first Equality u g σ m k n
fails-at Classes u g σ m k n = fails-first Classes u g σ m k n
fails-at Rigidity u g σ m k n = fails-first Rigidity u g σ m k n

pub last : (k : Layer) → index_of k ≤ index_of Rigidity
last Equations = omega arith
last Finiteness = omega arith
last Newness = omega arith
last Locality = omega arith
last Equality = omega arith
last Classes = omega arith
last Rigidity = omega arith

-- the limits were handed on in the layers before the one that failed
pub handed-fails : (u : ℕ) (g : Graph) (ls : List Limit) (f : Option Layer) (l : Layer) → HasRank g.nodes.items → IsClosed g.nodes.items ls → ((k : Layer) → IsBefore k f → IsFit k u g.nodes.items ls) → SameLimits u g.nodes.items g.limits ls → IfSome f (NoneKeeps u g.nodes.items g.limits) → f ≡ Some l → FailsAt l u g
handed-fails u g ls None l r c w s n e = let x : None ≡ Some l = e in absurd cc
handed-fails u g ls (Some k) l r c w s n e =
    let q : k ≡ l = cc in
    let σ = solution g.nodes.items ints r.rank in
    let m : Meets finite g.nodes.items σ = solution-meets g.nodes.items ints r.rank r.ranked in
    subst (λ l. FailsAt l u g) q (fails-at k u g σ m (λ j h. (s j σ m).1 (ints-keep j u g.nodes.items ls r.rank (let y = last k in omega (arith, h, y)) r.ranked c (w j h))) n)
