-- New names may be exchanged for other new ones: a path takes what is known to itself, and the ones to the others.
use Rattle.std.specs.Prelude.{◌≡◌, List, [], ◌∷◌}
use Rattle.std.specs.List.{AllByRecursion}
use mathlib.Core.Path.{refl, sym, ap, subst, ◌∙◌}
use mathlib.Core.List.{map}
use std.Equiv.{◌≃◌, id_equiv, iso_to_equiv}
use std.Univalence.{equiv_j}
use Rattle.sml_objects.specs.Names.{Naming, Initial, int}
use Rattle.sml_objects.specs.Objects.{Outside}
use Rattle.sml_layers.specs.declared.variable.Variable.{Variable}
use Rattle.sml_rules.proofs.Renaming.{fixed_names}
use Rattle.sml_rules.proofs.Readings.{exchange_fixes}
use Rattle.sml_rules.proofs.Worlds.{Named, Keeps, naming_path, exchange, exchange-left, exchange-right, exchange-other, exchange_cases, exchange-exchange}
use Rattle.sml_core_rules.specs.States.{Scope}

-- none stands among the old ones or before itself
unfoldable pub Apart : {N : Type 0} → List N → List N → Type 0
Apart old [] = Unit {0}
Apart old (n ∷ ns) = Outside n old × Apart (n ∷ old) ns

module _ {A B : Type 0} (f : A → B) (one : (m n : A) → f m ≡ f n → m ≡ n) where
  outside-map : (n : A) (ms : List A) → Outside n ms → Outside (f n) (map f ms)
  unfolding Outside
  outside-map n [] h = tt
  outside-map n (m ∷ ms) h = ((λ e. h.0 (one m n e)), outside-map n ms h.1)

  apart-map : (old ns : List A) → Apart old ns → Apart (map f old) (map f ns)
  unfolding Apart
  apart-map old [] h = tt
  apart-map old (n ∷ ns) h = (outside-map n old h.0, apart-map (n ∷ old) ns h.1)

module _ {N : Type 0} (names : Naming N) (m n : N) where
  exchange-one : (j k : N) → exchange names m n j ≡ exchange names m n k → j ≡ k
  exchange-one j k e = sym (exchange-exchange names m n j) ∙ (ap (exchange names m n) e ∙ exchange-exchange names m n k)

  exchange_equiv : N ≃ N
  exchange_equiv = iso_to_equiv (record {
    fun = exchange names m n;
    inv = exchange names m n;
    rinv = exchange-exchange names m n;
    linv = exchange-exchange names m n;
  })

  exchange-old : (old : List N) → Outside m old → Outside n old → map (exchange names m n) old ≡ old
  exchange-old old h k = fixed_names (exchange names m n) old (exchange_fixes names m n old h k)

  exchange-kind : {K : Type 0} (kind : N → K) → kind m ≡ kind n → (k : N) → kind (exchange names m n k) ≡ kind k
  exchange-kind kind e =
      exchange_cases names m n (λ k. kind (exchange names m n k) ≡ kind k)
      (ap kind (exchange-left names m n) ∙ sym e) (ap kind (exchange-right names m n) ∙ e) (λ k a b. ap kind (exchange-other names m n k a b))

  exchange-good : (Good : N → Type 0) → Good m → Good n → (k : N) → Good k → Good (exchange names m n k)
  exchange-good Good g h k j =
      exchange_cases names m n (λ k. Good k → Good (exchange names m n k))
      (λ _. subst Good (sym (exchange-left names m n)) h) (λ _. subst Good (sym (exchange-right names m n)) g) (λ k a b j. subst Good (sym (exchange-other names m n k a b)) j) k j

map-kinds : {N K : Type 0} (f : N → N) (kind : N → K) → ((n : N) → kind (f n) ≡ kind n) → (ns : List N) → map kind (map f ns) ≡ map kind ns
map-kinds f kind h [] = refl
map-kinds f kind h (n ∷ ns) = λ i. h n i ∷ map-kinds f kind h ns i

map-good : {N : Type 0} (f : N → N) (Good : N → Type 0) → ((n : N) → Good n → Good (f n)) → (ns : List N) → AllByRecursion Good ns → AllByRecursion Good (map f ns)
map-good f Good h [] g = tt
map-good f Good h (n ∷ ns) g = (h n g.0, map-good f Good h ns g.1)

abbrev head_or : {A : Type 0} → A → List A → A
head_or d [] = d
head_or d (n ∷ ns) = n

abbrev tail : {A : Type 0} → List A → List A
tail [] = []
tail (n ∷ ns) = ns

-- What is kept besides, with a name in it; the names have kinds, and each is good.
module _ {N K : Type 0} (names : Naming N) (G : Type 0 → Type 0) (g : G N) (some : (M : Type 0) → G M → M) (kind : N → K) (Good : N → Type 0)
    (step : (m n : N) → Good m → Good n → kind m ≡ kind n → (old rest : List N) → Outside m old → Outside n old
    → ◌≡◌ {A = (M : Type 0) × (G M × List M) × (M × List M)} (N, (g, old), (m, rest)) (N, (g, old), (n, map (exchange names m n) rest))) where
  pub swap : (old ns ms : List N) → Apart old ns → Apart old ms → map kind ns ≡ map kind ms → AllByRecursion Good ns → AllByRecursion Good ms
      → ◌≡◌ {A = (M : Type 0) × G M × (List M × List M)} (N, g, (old, ns)) (N, g, (old, ms))
  unfolding Apart
  swap old [] [] a b k x y = refl
  swap old [] (m ∷ ms) a b k x y = let f : [] ≡ kind m ∷ map kind ms = k in absurd cc
  swap old (n ∷ ns) [] a b k x y = let f : kind n ∷ map kind ns ≡ [] = k in absurd cc
  swap old (n ∷ ns) (m ∷ ms) a b k x y =
      let f : kind n ∷ map kind ns ≡ kind m ∷ map kind ms = k in
      let first : kind n ≡ kind m = cc in
      let others : map kind ns ≡ map kind ms = cc in
      let old-same : exchange names n m n ∷ map (exchange names n m) old ≡ m ∷ old = λ i. exchange-left names n m i ∷ exchange-old names n m old a.0 b.0 i in
      let s = step n m x.0 y.0 first old ns a.0 b.0 in
      let r =
      swap (m ∷ old) (map (exchange names n m) ns) ms (subst (λ l. Apart l (map (exchange names n m) ns)) old-same (apart-map (exchange names n m) (exchange-one names n m) (n ∷ old) ns a.1)) b.1
      (map-kinds (exchange names n m) kind (exchange-kind names n m kind first) ns ∙ others) (map-good (exchange names n m) Good (exchange-good names n m Good x.0 y.0) ns x.1) y.1 in
      ◌∙◌ {A = (M : Type 0) × G M × (List M × List M)} {b = (N, g, (old, m ∷ map (exchange names n m) ns))} (λ i. ((s i).0, (s i).1.0, ((s i).1.1, (s i).2.0 ∷ (s i).2.1)))
      (λ i. ((r i).0, (r i).1, (tail (r i).2.0, head_or (some (r i).0 (r i).1) (r i).2.0 ∷ (r i).2.1)))

-- an object of any names, moved along an equivalence
pub carried_along : {F : Type 0 → Type 0} (f : Named F) {A B : Type 0} (e : A ≃ B) (x : F A) → ◌≡◌ {A = (N : Type 0) × F N} (A, x) (B, f.rename e.0 x)
unfolding id_equiv
carried_along {F} f {A} {B} e = equiv_j (λ A e. (x : F A) → ◌≡◌ {A = (N : Type 0) × F N} (A, x) (B, f.rename e.0 x)) (λ x i. (B, sym (f.rename-id x) i)) e

map-same : {A : Type 0} (ns : List A) → map (λ n. n) ns ≡ ns
map-same [] = refl
map-same (n ∷ ns) = λ i. n ∷ map-same ns i

-- names, with a name besides

abbrev Lists : Type 0 → Type 0
Lists N = (N × List N) × (N × List N)

lists_named : Named Lists
lists_named = record {
  rename = λ f x. ((f x.0.0, map f x.0.1), (f x.1.0, map f x.1.1));
  rename-id = λ x i. ((x.0.0, map-same x.0.1 i), (x.1.0, map-same x.1.1 i));
}

pub plain-step : {N K : Type 0} (names : Naming N) (kind : N → K) (m n : N) → ¬ (names.initial int ≡ m) → ¬ (names.initial int ≡ n) → kind m ≡ kind n
    → (old rest : List N) → Outside m old → Outside n old
    → ◌≡◌ {A = (M : Type 0) × (M × List M) × (M × List M)} (N, (names.initial int, old), (m, rest)) (N, (names.initial int, old), (n, map (exchange names m n) rest))
unfolding lists_named exchange_equiv
plain-step {N} names kind m n h k e old rest a b =
    let p =
    carried_along lists_named (exchange_equiv names m n) ((names.initial int, old), (m, rest))
    ∙ λ i. (N, ((exchange-other names m n (names.initial int) h k i, exchange-old names m n old a b i), (exchange-left names m n i, map (exchange names m n) rest))) in
    λ i. ((p i).0, (p i).1.0, (p i).1.1)

-- names, with all that may be seen of names besides

pub record KeepsScope {A B : Type 0} (a : Scope A) (b : Scope B) (f : A → B) : Type 0 where
  pub names : Keeps a.names b.names f
  pub unit : a.unit ≡ b.unit
  pub variable : (x : Variable) → f (a.variable x) ≡ b.variable x

scope_path : {A : Type 0} (a b : Scope A) → KeepsScope a b (λ n. n) → a ≡ b
scope_path a b k = let p = naming_path a.names b.names k.names in λ i. record { names = p i; unit = k.unit i; variable = λ x. k.variable x i }

pub scopes_along : {F : Type 0 → Type 0} (f : Named F) {A B : Type 0} (e : A ≃ B) (a : Scope A) (b : Scope B) → KeepsScope a b e.0 → (x : F A)
    → ◌≡◌ {A = (N : Type 0) × Scope N × F N} (A, a, x) (B, b, f.rename e.0 x)
unfolding id_equiv
scopes_along {F} f {A} {B} e =
    equiv_j (λ A e. (a : Scope A) (b : Scope B) → KeepsScope a b e.0 → (x : F A) → ◌≡◌ {A = (N : Type 0) × Scope N × F N} (A, a, x) (B, b, f.rename e.0 x))
    (λ a b k x i. (B, scope_path a b k i, sym (f.rename-id x) i)) e

-- a name that is none of the initial ones, and stands for no explicit variable
abbrev pub IsPlain : {N : Type 0} → Scope N → N → Type 0
IsPlain scope n = ((k : Initial) → ¬ (scope.names.initial k ≡ n)) × ((x : Variable) → ¬ (scope.variable x ≡ n))

abbrev Two : Type 0 → Type 0
Two N = List N × (N × List N)

two_named : Named Two
two_named = record { rename = λ f x. (map f x.0, (f x.1.0, map f x.1.1)); rename-id = λ x i. (map-same x.0 i, (x.1.0, map-same x.1.1 i)) }

pub scope-step : {N : Type 0} (scope : Scope N) (m n : N) → IsPlain scope m → IsPlain scope n → scope.names.attributes m ≡ scope.names.attributes n
    → (old rest : List N) → Outside m old → Outside n old
    → ◌≡◌ {A = (M : Type 0) × (Scope M × List M) × (M × List M)} (N, (scope, old), (m, rest)) (N, (scope, old), (n, map (exchange scope.names m n) rest))
unfolding two_named exchange_equiv
scope-step {N} scope m n h k e old rest a b =
    let kept : KeepsScope scope scope (exchange scope.names m n) = record {
      names = record {
        attributes = λ j. sym (exchange-kind scope.names m n scope.names.attributes e j);
        initial = λ j. exchange-other scope.names m n (scope.names.initial j) (h.0 j) (k.0 j);
      };
      unit = refl;
      variable = λ x. exchange-other scope.names m n (scope.variable x) (h.1 x) (k.1 x);
    } in
    let p = scopes_along two_named (exchange_equiv scope.names m n) scope scope kept (old, (m, rest)) in
    (λ i. ((p i).0, ((p i).1, (p i).2.0), (p i).2.1)) ∙ λ i. (N, (scope, exchange-old scope.names m n old a b i), (exchange-left scope.names m n i, map (exchange scope.names m n) rest))
