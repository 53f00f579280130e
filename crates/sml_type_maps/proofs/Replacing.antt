-- The nodes of a type, and the uses of its variables, where types stand for its bound variables; and counts of it.
use Rattle.std.proofs.Common.{inl, inr, ◌≡◌, ◌≤◌, ◌<◌, ℕ, zero, suc, ◌+◌, ◌*◌, min, cond, nat_eq, nat_lt, get_or, refl, ap, ◌∙◌, sym, subst, arith, Vec, Global, vec_len, slice_index}
use Rattle.std.proofs.lemmas.Bool.Decides.{nat_tests, leb_tells, eqb_tells}
use Rattle.sml_objects.specs.Objects as O
use Rattle.sml_objects.specs.Initial.{Name}
use Rattle.sml_objects.specs.Types.{replace_type, replace_types}
use Rattle.sml_type_maps.specs.declared.sizes.Count.{Count}
use Rattle.sml_type_maps.specs.Counted.{HasAdded, HasAddedType, IsBodyFor, IsCountOf, SameNodes, SameUses, nodes_past, all_nodes_past, uses_in, uses_in_all}
use Rattle.sml_type_maps.proofs.AppliedSizes.{alike, scaled}
use Rattle.sml_type_maps.proofs.Counts.{is-past}

-- the sum of the first so many numbers
abbrev pub sum_below : ℕ → (ℕ → ℕ) → ℕ
sum_below zero f = 0
sum_below (suc n) f = sum_below n f + f n

sum-none : (n : ℕ) (f : ℕ → ℕ) → ((k : ℕ) → f k ≡ 0) → sum_below n f ≡ 0
sum-none zero f h = refl
sum-none (suc n) f h = omega (arith, sum-none n f h, h n)

sum-plus : (n : ℕ) (f g h : ℕ → ℕ) → sum_below n (λ k. (f k + g k) * h k) ≡ sum_below n (λ k. f k * h k) + sum_below n (λ k. g k * h k)
sum-plus zero f g h = refl
sum-plus (suc n) f g h =
    let e : (f n + g n) * h n ≡ f n * h n + g n * h n = omega arith in
    omega (arith, sum-plus n f g h, e)

-- one of the numbers alone

not-here : (k j x : ℕ) → k < j → cond (nat_eq k j) 1 0 * x ≡ 0
not-here k j x l =
    let e : ◌≡◌ {A = ℕ} (cond (nat_eq k j) 1 0) 0 = grind (arith, nat_tests) in
    ap (λ b. b * x) e ∙ omega arith

not-after : (k j x : ℕ) → j < k → cond (nat_eq k j) 1 0 * x ≡ 0
not-after k j x l =
    let e : ◌≡◌ {A = ℕ} (cond (nat_eq k j) 1 0) 0 = grind (arith, nat_tests) in
    ap (λ b. b * x) e ∙ omega arith

just-here : (k j x : ℕ) → k ≡ j → cond (nat_eq k j) 1 0 * x ≡ x
just-here k j x l =
    let e : ◌≡◌ {A = ℕ} (cond (nat_eq k j) 1 0) 1 = grind (arith, nat_tests) in
    ap (λ b. b * x) e ∙ omega arith

sum-past : (n j : ℕ) (g : ℕ → ℕ) → n ≤ j → sum_below n (λ k. cond (nat_eq k j) 1 0 * g k) ≡ 0
sum-past zero j g l = refl
sum-past (suc n) j g l = omega (arith, sum-past n j g (omega arith), not-here n j (g n) (omega arith))

sum-one : (n j : ℕ) (g : ℕ → ℕ) → j < n → sum_below n (λ k. cond (nat_eq k j) 1 0 * g k) ≡ g j
sum-one zero j g l = absurd (omega arith)
sum-one (suc n) j g l =
    elim (leb_tells n j) [
      | inl e ↦
          let here : n ≡ j = omega (arith, e.1) in
          omega (arith, sum-past n j g e.1, just-here n j (g n) here, ap g here)
      | inr e ↦ omega (arith, sum-one n j g e.1, not-after n j (g n) e.1)
    ]

first-none : (j n x : ℕ) → j < n → cond (nat_lt j n) 0 x ≡ 0
first-none j n x l = grind (arith, nat_tests)

past-one : (n j : ℕ) → n ≤ j → nodes_past {N = Name} n (O.bound j) ≡ 1
unfolding nodes_past
past-one n j l = is-past j n 0 1 l

itself-used : (j : ℕ) → ◌≡◌ {A = ℕ} (cond (nat_eq j j) 1 0) 0 → ⊥
itself-used j h = grind (arith, nat_tests)

-- Types that stand for the bound variables before m. The first n variables are counted by themselves where they stand in these
-- types.
module _ (stands : ℕ → O.MlType Name) (m n : ℕ) (past : (j : ℕ) → m ≤ j → stands j ≡ O.bound j) where
  nodes-at : (j : ℕ) → ((k : ℕ) → m ≤ k → k < n → ◌≡◌ {A = ℕ} (cond (nat_eq k j) 1 0) 0)
      → nodes_past n (stands j) ≡ cond (nat_lt j m) 0 1 + sum_below m (λ k. cond (nat_eq k j) 1 0 * nodes_past n (stands k))
  nodes-at j none =
      elim (leb_tells m j) [
        | inl e ↦
            elim (leb_tells n j) [
              | inl g ↦
                  omega (
                    arith,
                    ap (nodes_past n) (past j e.1),
                    past-one n j g.1,
                    is-past j m 0 1 e.1,
                    sum-past m j (λ k. nodes_past n (stands k)) e.1,
                  )
              | inr g ↦ absurd (itself-used j (none j e.1 g.1))
            ]
        | inr e ↦ omega (arith, first-none j m 1 e.1, sum-one m j (λ k. nodes_past n (stands k)) e.1)
      ]

  use-past : (i j : ℕ) → i < n → m ≤ j → ((k : ℕ) → m ≤ k → k < n → ◌≡◌ {A = ℕ} (cond (nat_eq k j) 1 0) 0) → uses_in (stands j) i ≡ 0
  unfolding uses_in
  use-past i j b l none =
      ap (λ t. uses_in t i) (past j l)
      ∙ elim (eqb_tells i j) [ inl e ↦ none i (omega (arith, l, e.1)) b | inr e ↦ ap (λ b. cond b 1 0) e.0 ]

  uses-at : (i j : ℕ) → i < n → ((k : ℕ) → m ≤ k → k < n → ◌≡◌ {A = ℕ} (cond (nat_eq k j) 1 0) 0)
      → uses_in (stands j) i ≡ sum_below m (λ k. cond (nat_eq k j) 1 0 * uses_in (stands k) i)
  uses-at i j b none =
      elim (leb_tells m j) [
        | inl e ↦ use-past i j b e.1 none ∙ sym (sum-past m j (λ k. uses_in (stands k) i) e.1)
        | inr e ↦ sym (sum-one m j (λ k. uses_in (stands k) i) e.1)
      ]

  mutual
    unfolding replace_type replace_types nodes_past all_nodes_past uses_in uses_in_all

    pub nodes-replaced : (t : O.MlType Name) → ((j : ℕ) → m ≤ j → j < n → uses_in t j ≡ 0)
        → nodes_past n (replace_type stands O.free t) ≡ nodes_past m t + sum_below m (λ k. uses_in t k * nodes_past n (stands k))
    nodes-replaced (O.bound j) none = nodes-at j none
    nodes-replaced (O.free v) none = omega (arith, sum-none m (λ k. 0 * nodes_past n (stands k)) (λ k. omega arith))
    nodes-replaced (O.app h us) none = omega (arith, all-nodes-replaced us none)

    all-nodes-replaced : (us : O.MlTypes Name) → ((j : ℕ) → m ≤ j → j < n → uses_in_all us j ≡ 0)
        → all_nodes_past n (replace_types stands O.free us) ≡ all_nodes_past m us + sum_below m (λ k. uses_in_all us k * nodes_past n (stands k))
    all-nodes-replaced O.no_type none = omega (arith, sum-none m (λ k. 0 * nodes_past n (stands k)) (λ k. omega arith))
    all-nodes-replaced (O.and_type u us) none =
        omega (
          arith,
          nodes-replaced u (λ j l b. omega (arith, none j l b)),
          all-nodes-replaced us (λ j l b. omega (arith, none j l b)),
          sum-plus m (uses_in u) (uses_in_all us) (λ k. nodes_past n (stands k)),
        )

  mutual
    unfolding replace_type replace_types uses_in uses_in_all

    pub uses-replaced : (i : ℕ) → i < n → (t : O.MlType Name) → ((j : ℕ) → m ≤ j → j < n → uses_in t j ≡ 0)
        → uses_in (replace_type stands O.free t) i ≡ sum_below m (λ k. uses_in t k * uses_in (stands k) i)
    uses-replaced i b (O.bound j) none = uses-at i j b none
    uses-replaced i b (O.free v) none = sym (sum-none m (λ k. 0 * uses_in (stands k) i) (λ k. omega arith))
    uses-replaced i b (O.app h us) none = all-uses-replaced i b us none

    all-uses-replaced : (i : ℕ) → i < n → (us : O.MlTypes Name) → ((j : ℕ) → m ≤ j → j < n → uses_in_all us j ≡ 0)
        → uses_in_all (replace_types stands O.free us) i ≡ sum_below m (λ k. uses_in_all us k * uses_in (stands k) i)
    all-uses-replaced i b O.no_type none = sym (sum-none m (λ k. 0 * uses_in (stands k) i) (λ k. omega arith))
    all-uses-replaced i b (O.and_type u us) none =
        omega (
          arith,
          uses-replaced i b u (λ j l c. omega (arith, none j l c)),
          all-uses-replaced i b us (λ j l c. omega (arith, none j l c)),
          sum-plus m (uses_in u) (uses_in_all us) (λ k. uses_in (stands k) i),
        )

-- so many uses of a part as a count has them
many : (t u f s : ℕ) → SameUses u f → SameUses (min (t * u) 4294967295 * s) (t * (f * s))
many zero u f s h =
    let z : min (zero * u) 4294967295 ≡ 0 = omega arith in
    ap (λ x. min (x * s) 4294967295) z ∙ omega arith
many (suc t) u f zero h =
    let z : min (suc t * u) 4294967295 * zero ≡ 0 = omega arith in
    let y : suc t * (f * zero) ≡ 0 = omega arith in
    omega (arith, z, y)
many (suc t) u f (suc s) h =
    elim (alike 4294967295 u f h) [
      | inl e ↦
          elim (leb_tells 4294967295 (suc t * u)) [
            | inl g ↦
                let c : min (suc t * u) 4294967295 ≡ 4294967295 = omega (arith, g.1) in
                let l : 4294967295 ≤ suc t * f = subst (λ x. 4294967295 ≤ suc t * x) e g.1 in
                ap (λ x. min (x * suc s) 4294967295) c ∙ omega arith
            | inr g ↦
                let c : min (suc t * u) 4294967295 ≡ suc t * u = omega (arith, g.1) in
                ap (λ x. min (x * suc s) 4294967295) c ∙ ap (λ x. min (suc t * x * suc s) 4294967295) e ∙ omega arith
          ]
      | inr l ↦
          let c : min (suc t * u) 4294967295 ≡ 4294967295 = omega arith in
          ap (λ x. min (x * suc s) 4294967295) c ∙ omega arith
    ]

-- the nodes, and the uses of a variable, with the next type; of a body that is large no uses are known
nodes-step : (t past sum f s u bodied before was now : ℕ) → (bodied ≤ 10000 → SameUses u f) → SameNodes bodied past
    → SameNodes was (before + t * (past + sum)) → SameNodes now (was + min (t * u) 4294967295 * s)
    → SameNodes now (before + t * (past + (sum + f * s)))
nodes-step zero past sum f s u bodied before was now h b one other =
    let z : min (zero * u) 4294967295 ≡ 0 = omega arith in
    let e : min (zero * u) 4294967295 * s ≡ 0 = ap (λ x. x * s) z ∙ omega arith in
    omega arith
nodes-step (suc t) past sum f s u bodied before was now h b one other =
    let spread : suc t * (past + (sum + f * s)) ≡ suc t * (past + sum) + suc t * (f * s) = omega arith in
    elim (leb_tells bodied 10000) [
      | inl small ↦ omega (arith, many (suc t) u f s (h small.1), spread)
      | inr large ↦ omega (arith, large.1, spread)
    ]

pub body-for : (n arguments around : ℕ) (t : O.MlType Name) (c : Count) → IsCountOf n t c → arguments ≤ n → ((k : ℕ) → n ≤ k → k < around → uses_in t k ≡ 0)
    → IsBodyFor arguments around t c
body-for n arguments around t c is first others = record {
  is = subst (λ n. IsCountOf n t c) (sym is.variables) is;
  first = omega (arith, first, is.variables);
  others = λ k l b. others k (omega (arith, l, is.variables)) b;
}

-- That so many times a body was added to a count, and the first i of the types that stand for its variables, each as often as
-- the body uses it.
abbrev pub HasAddedBody : Count → Count → ℕ → O.MlType Name → ℕ → (ℕ → O.MlType Name) → ℕ → Type 0
HasAddedBody old new times t m stands i =
    HasAdded old new (times * (nodes_past m t + sum_below i (λ k. uses_in t k * nodes_past (vec_len old.uses) (stands k))))
    (λ j. times * sum_below i (λ k. uses_in t k * uses_in (stands k) j))

uses-step : (t past sum used f w u bodied before nodes first was now : ℕ) → (bodied ≤ 10000 → SameUses u f) → SameNodes bodied past
    → nodes ≤ 10000 → SameNodes nodes (before + t * (past + sum)) → SameUses was (first + t * used) → SameUses now (was + min (t * u) 4294967295 * w)
    → SameUses now (first + t * (used + f * w))
uses-step zero past sum used f w u bodied before nodes first was now h b few all one other =
    let z : min (zero * u) 4294967295 ≡ 0 = omega arith in
    let e : min (zero * u) 4294967295 * w ≡ 0 = ap (λ x. x * w) z ∙ omega arith in
    omega arith
uses-step (suc t) past sum used f w u bodied before nodes first was now h b few all one other =
    let spread : suc t * (used + f * w) ≡ suc t * used + suc t * (f * w) = omega arith in
    elim (leb_tells bodied 10000) [
      | inl small ↦ omega (arith, many (suc t) u f w (h small.1), spread)
      | inr large ↦ absurd (omega (arith, large.1))
    ]

-- the body alone
pub start-body : (a b body : Count) (times m r : ℕ) (t : O.MlType Name) (stands : ℕ → O.MlType Name) → IsCountOf m t body → r ≡ min (times * body.nodes) 4294967295
    → b.nodes ≡ min (a.nodes + r) 4294967295 → b.uses ≡ a.uses → HasAddedBody a b times t m stands 0
start-body a b body times m r t stands is e h same = record {
  variables = ap vec_len same;
  nodes = omega (arith, scaled times body.nodes (nodes_past m t) is.nodes);
  each = λ small k l. ap (λ (u : Vec ℕ Global). min (slice_index u.items k) 4294967295) same ∙ omega arith;
}

-- and the next type that stands for a variable
pub next-body : (a x y body : Count) (times m i j r u : ℕ) (t : O.MlType Name) (stands : ℕ → O.MlType Name) → IsCountOf m t body → i < m
    → u ≡ get_or body.uses.items i 0 → r ≡ min (times * u) 4294967295 → j ≡ i + 1 → HasAddedBody a x times t m stands i → HasAddedType x y r (stands i)
    → HasAddedBody a y times t m stands j
next-body a x y body times m i j r u t stands is l used e next one other =
    let n = vec_len a.uses in
    let f = uses_in t i in
    let next' : j ≡ suc i = next ∙ omega arith in
    let size : nodes_past (vec_len x.uses) (stands i) ≡ nodes_past n (stands i) = ap (λ n. nodes_past n (stands i)) one.variables in
    let counts : body.nodes ≤ 10000 → SameUses u f = λ small. ap (λ z. min z 4294967295) used ∙ is.each small i l in
    let more : SameNodes y.nodes (x.nodes + min (times * u) 4294967295 * nodes_past n (stands i)) =
    other.nodes ∙ (λ q. min (x.nodes + e q * size q) 10001) in
    let sum : ℕ → ℕ = λ q. sum_below q (λ k. uses_in t k * nodes_past n (stands k)) in
    record {
      variables = other.variables ∙ one.variables;
      nodes =
          nodes-step times (nodes_past m t) (sum i) f (nodes_past n (stands i)) u body.nodes a.nodes x.nodes y.nodes counts is.nodes one.nodes more
          ∙ ap (λ q. min (a.nodes + times * (nodes_past m t + sum q)) 10001) (sym next');
      each = λ small k b.
          let few : x.nodes ≤ 10000 = omega (arith, more, small) in
          let w = uses_in (stands i) k in
          let uses : ℕ → ℕ = λ q. sum_below q (λ g. uses_in t g * uses_in (stands g) k) in
          uses-step times (nodes_past m t) (sum i) (uses i) f w u body.nodes a.nodes x.nodes (slice_index a.uses.items k) (slice_index x.uses.items k)
          (slice_index y.uses.items k) counts is.nodes few one.nodes (one.each few k b)
          (other.each small k (omega (arith, b, one.variables)) ∙ ap (λ q. min (slice_index x.uses.items k + q * w) 4294967295) e)
          ∙ ap (λ q. min (slice_index a.uses.items k + times * uses q) 4294967295) (sym next');
    }

-- the type that is made of the body
pub end-body : (a x : Count) (times m : ℕ) (t : O.MlType Name) (stands : ℕ → O.MlType Name) → ((j : ℕ) → m ≤ j → stands j ≡ O.bound j)
    → ((j : ℕ) → m ≤ j → j < vec_len a.uses → uses_in t j ≡ 0) → HasAddedBody a x times t m stands m → HasAddedType a x times (replace_type stands O.free t)
end-body a x times m t stands past none one = record {
  variables = one.variables;
  nodes = one.nodes ∙ ap (λ z. min (a.nodes + times * z) 10001) (sym (nodes-replaced stands m (vec_len a.uses) past t none));
  each = λ small k b.
      one.each small k b
      ∙ ap (λ z. min (slice_index a.uses.items k + times * z) 4294967295) (sym (uses-replaced stands m (vec_len a.uses) past k b t none));
}

-- a type that isn't used
pub unused-added : (x : Count) (times u : ℕ) (t : O.MlType Name) → u ≡ 0 → HasAddedType x x (min (times * u) 4294967295) t
unused-added x times u t h =
    let z : min (times * u) 4294967295 ≡ 0 = ap (λ u. min (times * u) 4294967295) h ∙ omega arith in
    record {
      variables = refl;
      nodes = omega (arith, ap (λ r. r * nodes_past (vec_len x.uses) t) z);
      each = λ small k l. omega (arith, ap (λ r. r * uses_in t k) z);
    }
