-- Unknowns whose type those before fix, and the nodes that these lead to.
use Rattle.std.proofs.Common.{◌≡◌, ◌≢◌, ℕ, zero, suc, ◌<◌, ◌≤◌, ◌⊎◌, inl, inr, Bool, true, false, Option, List, [], ◌∷◌, length, map, get_or, sym, ◌∙◌, ap, subst, refl, arith}
use Rattle.std.proofs.lemmas.Bool.{cases_lt}
use Rattle.std.specs.List.{AllByRecursion}
use Rattle.sml_objects.specs.Initial.{Name}
use Rattle.sml_objects.specs.Objects as O
use Rattle.sml_graph.specs.declared.graph.Graph.{Graph}
use Rattle.sml_graph.specs.declared.node.Node.{Node}
use Rattle.sml_graph.specs.declared.node.Node.TheVariants.{Unknown, Link, App, Open}
use Rattle.sml_layers.specs.Worlds.{finite}
use Rattle.sml_graph.specs.Worlds.{Assignment}
use Rattle.sml_graph.specs.Graphs.{node_at, parts, Meets, IsSame, IsRootNode, IsKnown}
use Rattle.sml_graph.specs.Interned.{through}
use Rattle.sml_graph.specs.CodeRanks.{IsRanked, HasRank}
use Rattle.sml_graph.specs.Asked.{Asked, asked_of}
use Rattle.sml_schemes.specs.Left.{IsUndetermined}
use Rattle.sml_schemes.specs.Fixed.{IsFixed, IsMarked, AreMarks, AreFixed, places_of}
use Rattle.sml_demands.specs.CodeLevels.{level_at, IsHeld, AreHeld, IsKeptWith}
use Rattle.sml_demands.proofs.Levelling.{none-left}
use Rattle.sml_graph.proofs.Interning.{inside-at}
use Rattle.sml_graph.proofs.Asking.{value}
use Rattle.sml_demands.proofs.Opening.{fresh_label, fresh-none, one_row}
use Rattle.sml_graph.proofs.Ranking.{all-both, solution, ints, value-same, solution-value, solution-meets, solution-unknown}
use Rattle.sml_graph.proofs.Searching.{all-parts}
use Rattle.sml_demands.proofs.Owning.{node_labels, solution-more, solution-none, not-free, found-or-not, only, only-here, only-there, permitted, through-permitted, app-determined}

-- nodes that are closed under parts have the same types where the same types were chosen for them
same-marked : (ns : List Node) (r : ℕ → ℕ) (M : ℕ → Type 0) (ρ ψ : Assignment finite) → IsRanked ns r → ((i : ℕ) → M i → AllByRecursion M (parts (node_at ns i))) → ((i : ℕ) → M i → ρ i ≡ ψ i) → (n i : ℕ) → M i → r i < n → solution ns ρ r i ≡ solution ns ψ r i
same-marked ns r M ρ ψ a c f zero i h l = absurd (omega (arith, l))
same-marked ns r M ρ ψ a c f (suc n) i h l =
    let x = node_at ns i in
    let same = value-same (solution ns ρ r) (solution ns ψ r) (ρ i) x (all-parts (λ k. M k × (r k < r i)) (λ k. solution ns ρ r k ≡ solution ns ψ r k) (parts x) (λ k b. same-marked ns r M ρ ψ a c f n k b.0 (let z = b.1 in omega (arith, z, l))) (all-both M (λ k. r k < r i) (parts x) (c i h) (a i))) in
    solution-value ns ρ r a i ∙ (same ∙ (ap (λ t. value (solution ns ψ r) t x) (f i h) ∙ sym (solution-value ns ψ r a i)))

loose-root : (u : ℕ) (us : List ℕ) (g : Graph) (b : Bool) (v r : ℕ) (x : Node) → HasRank g.nodes.items → v < length us → IsUndetermined (asked_of u us g b) v → IsSame g.nodes.items (get_or us v 0) r → IsRootNode x → node_at g.nodes.items r ≡ x → IsKnown x → ⊥
loose-root u us g b v r Unknown rank h o s t e k = k
loose-root u us g b v r (Link j) rank h o s t e k = t
loose-root u us g b v r (App f kids) rank h o s t e k = app-determined u us g b v r f kids rank h s e o
loose-root u us g b v r (Open fs) rank h o s t e k = k

-- a place that isn't known may have two types
two-types : (ns : List Node) (h : HasRank ns) (r : ℕ) (x : Node) → node_at ns r ≡ x → (IsKnown x → ⊥) → (t : O.MlType Name) × (solution ns (only r t) h.rank r ≢ solution ns ints h.rank r)
two-types ns h r Unknown e n = (
  O.free 0,
  λ q.
      let here : solution ns (only r (O.free 0)) h.rank r ≡ O.free 0 = solution-unknown ns (only r (O.free 0)) h.rank r e ∙ only-here r (O.free 0) in
      let there : solution ns ints h.rank r ≡ ints r = solution-unknown ns ints h.rank r e in
      not-free _ O.no_type 0 (solution ns ints h.rank r) there (sym q ∙ here),
)
two-types ns h r (Link j) e n = absurd (n tt)
two-types ns h r (App f kids) e n = absurd (n tt)
two-types ns h r (Open fs) e n =
    let l = fresh_label (node_labels (Open fs)) in
    let fresh = fresh-none (node_labels (Open fs)) in
    let t = one_row l (ints r) in (
      t,
      λ q. found-or-not l (solution ns ints h.rank r) (solution ns (only r t) h.rank r) (ints r) (sym q) (solution-none ns ints h r l (Open fs) e tt refl fresh) (solution-more ns (only r t) h r l (ints r) (Open fs) e n (only-here r t) fresh),
    )

flag-cases : (b : Bool) → (b ≡ true) ⊎ (b ≡ true → ⊥)
flag-cases true = inl refl
flag-cases false = inr (λ e. cc)

all-mapped : (P : ℕ → Type 0) (f : ℕ → ℕ) (ws : List ℕ) → AllByRecursion (λ w. P (f w)) ws → AllByRecursion P (map f ws)
all-mapped P f [] a = tt
all-mapped P f (w ∷ ws) a = (a.0, all-mapped P f ws a.1)

mapped-all : (P : ℕ → Type 0) (f : ℕ → ℕ) (ws : List ℕ) → AllByRecursion P (map f ws) → AllByRecursion (λ w. P (f w)) ws
mapped-all P f [] a = tt
mapped-all P f (w ∷ ws) a = (a.0, mapped-all P f ws a.1)

pub places-inside : (m : ℕ) (us : List ℕ) (ws : List ℕ) → AllByRecursion (λ i. i < m) us → AllByRecursion (λ w. w < length us) ws → AllByRecursion (λ i. i < m) (places_of us ws)
places-inside m us ws a b = all-mapped (λ i. i < m) (λ w. get_or us w 0) ws (all-parts (λ w. w < length us) (λ w. get_or us w 0 < m) ws (λ w l. inside-at m us w a l) b)

first-fixed : (s : Asked) (n : ℕ) (ws : List ℕ) (v : ℕ) → v < n → IsFixed s n ws v
unfolding IsFixed
first-fixed s n ws v h σ τ p q e f = e v h

module _ (u : ℕ) (us : List ℕ) (g : Graph) (b : Bool) (ls : List (Option ℕ)) (k : IsKeptWith u g us ls []) (n : ℕ) (ws : List ℕ) (within : n ≤ length us) (known : AllByRecursion (λ w. w < length us) ws) where
  abbrev ns : List Node
  ns = g.nodes.items

  abbrev from : List ℕ
  from = places_of us ws

  level-fixes : (v r : ℕ) → v < length us → IsSame ns (get_or us v 0) r → level_at ls r < n → IsFixed (asked_of u us g b) n ws v
  unfolding IsFixed
  level-fixes v r h s l σ τ p q e f =
      elim (k.levels.exact r) [
        | inl z ↦ let few = k.kept.owners.few in absurd (omega (arith, z, l, within, few))
        | inr w ↦
            let υ = through-permitted u us g b σ p in
            let ω = through-permitted u us g b τ q in
            let o = level_at ls r in
            let same = w.1 υ.0 ω.0 υ.1 ω.1 (υ.2 o w.0 ∙ (e o l ∙ sym (ω.2 o w.0)), tt) in
            sym (υ.2 v h) ∙ (s finite υ.0 υ.1 ∙ (same ∙ (sym (s finite ω.0 ω.1) ∙ ω.2 v h)))
      ]

  mark-fixes : (ms : List Bool) (v r : ℕ) → AreMarks ns from ms → v < length us → IsSame ns (get_or us v 0) r → IsMarked ms r → IsFixed (asked_of u us g b) n ws v
  unfolding IsFixed
  mark-fixes ms v r x h s m σ τ p q e f =
      let υ = through-permitted u us g b σ p in
      let ω = through-permitted u us g b τ q in
      let others = all-mapped (λ i. υ.0 i ≡ ω.0 i) (λ w. get_or us w 0) ws (all-parts (λ w. (w < length us) × (σ w ≡ τ w)) (λ w. υ.0 (get_or us w 0) ≡ ω.0 (get_or us w 0)) ws (λ w l. υ.2 w l.0 ∙ (l.1 ∙ sym (ω.2 w l.0))) (all-both (λ w. w < length us) (λ w. σ w ≡ τ w) ws known f)) in
      let same = x.fixed r m υ.0 ω.0 υ.1 ω.1 others in
      sym (υ.2 v h) ∙ (s finite υ.0 υ.1 ∙ (same ∙ (sym (s finite ω.0 ω.1) ∙ ω.2 v h)))

  -- what is held is closed under parts
  held-parts : (ms : List Bool) (i : ℕ) → AreMarks ns from ms → IsHeld ls n ms i → AllByRecursion (IsHeld ls n ms) (parts (node_at ns i))
  held-parts ms i x h =
      elim h [
        | inl l ↦ all-parts (λ k. level_at ls k ≤ level_at ls i) (IsHeld ls n ms) (parts (node_at ns i)) (λ k a. inl (omega (arith, a, l))) (none-left ns ls [] k.levels.handed refl i)
        | inr m ↦ all-parts (IsMarked ms) (IsHeld ls n ms) (parts (node_at ns i)) (λ k a. inr a) (x.closed i m)
      ]

  fixed-held : (ms : List Bool) (v r : ℕ) → AreMarks ns from ms → v < length us → IsSame ns (get_or us v 0) r → (IsKnown (node_at ns r) → ⊥) → (IsHeld ls n ms r → ⊥) → IsFixed (asked_of u us g b) n ws v → ⊥
  unfolding IsFixed
  fixed-held ms v r x h s e out f =
      let rank = k.kept.whole.rank.rank in
      let ranked = k.kept.whole.rank.ranked in
      let two = two-types ns k.kept.whole.rank r (node_at ns r) refl e in
      let σ = solution ns (only r two.0) rank in
      let τ = solution ns ints rank in
      let mσ : Meets finite ns σ = solution-meets ns (only r two.0) rank ranked in
      let mτ : Meets finite ns τ = solution-meets ns ints rank ranked in
      let same : (i : ℕ) → IsHeld ls n ms i → σ i ≡ τ i = λ i m.
      same-marked ns rank (IsHeld ls n ms) (only r two.0) ints ranked (λ i m. held-parts ms i x m) (λ i m. only-there r two.0 i (λ z. out (subst (IsHeld ls n ms) z m))) (suc (rank i)) i m (omega arith) in
      let agree : (w : ℕ) → w < n → through finite us σ w ≡ through finite us τ w = λ w l. let a = k.levels.begun w (omega (arith, l, within)) in same (get_or us w 0) (inl (omega (arith, a, l))) in
      let others : AllByRecursion (λ w. through finite us σ w ≡ through finite us τ w) ws = mapped-all (λ i. σ i ≡ τ i) (λ w. get_or us w 0) ws (all-parts (IsMarked ms) (λ i. σ i ≡ τ i) from (λ i m. same i (inr m)) x.begun) in
      let z : through finite us σ v ≡ through finite us τ v = f (through finite us σ) (through finite us τ) (permitted u us g b σ mσ) (permitted u us g b τ mτ) agree others in
      two.1 (sym (s finite σ mσ) ∙ (z ∙ s finite τ mτ))

  pub flags-are : (ms bs : List Bool) → AreMarks ns from ms → AreHeld ns us ls n ms bs → AreFixed (asked_of u us g b) n ws bs
  flags-are ms bs x y = record {
    len = y.len;
    fixes = λ v h m.
        elim (cases_lt v n) [
          | inl l ↦ first-fixed (asked_of u us g b) n ws v l
          | inr l ↦ let e = y.each v l h in elim (e.3.0 m) [ inl a ↦ level-fixes v e.0 h e.1 a | inr a ↦ mark-fixes ms v e.0 x h e.1 a ]
        ];
    all = λ v h o f.
        elim (cases_lt v n) [
          | inl l ↦ y.first v l
          | inr l ↦
              let e = y.each v l h in
              elim (flag-cases (get_or bs v false)) [
                | inl m ↦ m
                | inr d ↦ absurd (fixed-held ms v e.0 x h e.1 (loose-root u us g b v e.0 (node_at ns e.0) k.kept.whole.rank h o e.1 e.2 refl) (λ z. d (e.3.1 z)) f)
              ]
        ];
  }
