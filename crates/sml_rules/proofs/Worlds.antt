-- Objects over two kinds of names are alike where some path of names takes one to the other.
use Rattle.std.specs.Prelude.{◌≡◌}
use mathlib.Core.Path.{refl, sym, ap, subst, ◌∙◌, fun_ext}
use std.Equiv.{◌≃◌, id_equiv, iso_to_equiv}
use mathlib.Core.HLevel.{hedberg, Discrete}
use mathlib.Core.Logic.{Dec-prop}
use std.Univalence.{equiv_j}
use Rattle.sml_objects.specs.Names.{Naming, Initial}

-- a family of objects over names, with renaming that is the identity at the identity
pub record Named (F : Type 0 → Type 0) : Type 1 where
  pub rename : {A B : Type 0} → (A → B) → F A → F B
  pub rename-id : {A : Type 0} (x : F A) → rename (λ a. a) x ≡ x

pub record Keeps {A B : Type 0} (a : Naming A) (b : Naming B) (f : A → B) : Type 0 where
  pub attributes : (n : A) → a.attributes n ≡ b.attributes (f n)
  pub initial : (k : Initial) → f (a.initial k) ≡ b.initial k

-- names, and an object over them
abbrev pub Over : (Type 0 → Type 0) → Type 1
Over F = (N : Type 0) × Naming N × F N

discrete_prop : {A : Type 0} (p q : Discrete A) → p ≡ q
discrete_prop p q = fun_ext (λ x. fun_ext (λ y. Dec-prop (hedberg p x y) (p x y) (q x y)))

pub naming_path : {A : Type 0} (a b : Naming A) → Keeps a b (λ n. n) → a ≡ b
naming_path a b k =
    let p : a.attributes ≡ b.attributes = fun_ext k.attributes in
    let q : a.initial ≡ b.initial = fun_ext k.initial in
    λ i. record { attributes = p i; initial = q i; same = discrete_prop a.same b.same i }

pub moved : {F : Type 0 → Type 0} (f : Named F) {A B : Type 0} (e : A ≃ B)
    (a : Naming A) (b : Naming B) → Keeps a b e.0 → (x : F A)
    → ◌≡◌ {A = Over F} (A, a, x) (B, b, f.rename e.0 x)
unfolding id_equiv
moved {F = F} f {A = A} {B = B} e =
    equiv_j (λ A e. (a : Naming A) (b : Naming B) → Keeps a b e.0 → (x : F A)
    → ◌≡◌ {A = Over F} (A, a, x) (B, b, f.rename e.0 x))
    (λ a b k x i. (B, naming_path a b k i, sym (f.rename-id x) i))
    e

-- the exchange of two names
pub exchange : {N : Type 0} (names : Naming N) (m n k : N) → N
exchange names m n k = elim (names.same k m) [ yes _ ↦ n | no _ ↦ elim (names.same k n) [ yes _ ↦ m | no _ ↦ k ] ]

pub exchange-left : {N : Type 0} (names : Naming N) (m n : N) → exchange names m n m ≡ n
unfolding exchange
exchange-left names m n = go (names.same m m)
  where
    go : (d : Dec (m ≡ m)) → elim d [ yes _ ↦ n | no _ ↦ elim (names.same m n) [ yes _ ↦ m | no _ ↦ m ] ] ≡ n
    go (yes _) = refl
    go (no h) = absurd (h refl)

pub exchange-right : {N : Type 0} (names : Naming N) (m n : N) → exchange names m n n ≡ m
unfolding exchange
exchange-right names m n = go (names.same n m) (names.same n n)
  where
    go : (d : Dec (n ≡ m)) (e : Dec (n ≡ n)) → elim d [ yes _ ↦ n | no _ ↦ elim e [ yes _ ↦ m | no _ ↦ n ] ] ≡ m
    go (yes h) _ = h
    go (no _) (yes _) = refl
    go (no _) (no h) = absurd (h refl)

pub exchange-other : {N : Type 0} (names : Naming N) (m n k : N) → ¬ (k ≡ m) → ¬ (k ≡ n) → exchange names m n k ≡ k
unfolding exchange
exchange-other names m n k a b = go (names.same k m) (names.same k n)
  where
    go : (d : Dec (k ≡ m)) (e : Dec (k ≡ n)) → elim d [ yes _ ↦ n | no _ ↦ elim e [ yes _ ↦ m | no _ ↦ k ] ] ≡ k
    go (yes h) _ = absurd (a h)
    go (no _) (yes h) = absurd (b h)
    go (no _) (no _) = refl

-- by cases on whether a name is one of the two
pub exchange_cases : {N : Type 0} (names : Naming N) (m n : N) (P : N → Type 0)
    → P m → P n → ((k : N) → ¬ (k ≡ m) → ¬ (k ≡ n) → P k) → (k : N) → P k
exchange_cases names m n P pm pn other k = go (names.same k m) (names.same k n)
  where
    go : Dec (k ≡ m) → Dec (k ≡ n) → P k
    go (yes h) _ = subst P (sym h) pm
    go (no a) (yes h) = subst P (sym h) pn
    go (no a) (no b) = other k a b

pub exchange-exchange : {N : Type 0} (names : Naming N) (m n k : N) → exchange names m n (exchange names m n k) ≡ k
exchange-exchange names m n =
    exchange_cases names m n (λ k. exchange names m n (exchange names m n k) ≡ k)
    (ap (exchange names m n) (exchange-left names m n) ∙ exchange-right names m n)
    (ap (exchange names m n) (exchange-right names m n) ∙ exchange-left names m n)
    (λ k a b. ap (exchange names m n) (exchange-other names m n k a b) ∙ exchange-other names m n k a b)

abbrev exchange_equiv : {N : Type 0} (names : Naming N) (m n : N) → N ≃ N
exchange_equiv names m n = iso_to_equiv (record {
  fun = exchange names m n;
  inv = exchange names m n;
  rinv = exchange-exchange names m n;
  linv = exchange-exchange names m n;
})

exchange-keeps : {N : Type 0} (names : Naming N) (m n : N)
    → names.attributes m ≡ names.attributes n
    → ((k : Initial) → ¬ (names.initial k ≡ m)) → ((k : Initial) → ¬ (names.initial k ≡ n))
    → Keeps names names (exchange names m n)
exchange-keeps names m n e a b = record {
  attributes =
      exchange_cases names m n (λ k. names.attributes k ≡ names.attributes (exchange names m n k))
      (e ∙ sym (ap names.attributes (exchange-left names m n)))
      (sym e ∙ sym (ap names.attributes (exchange-right names m n)))
      (λ k p q. sym (ap names.attributes (exchange-other names m n k p q)));
  initial = λ k. exchange-other names m n (names.initial k) (a k) (b k);
}

-- Two names that the context doesn't hold are alike there, if they carry the same attributes.
-- `x` is what the exchange of the two leaves as it was.
pub alike_names : {F : Type 0 → Type 0} (f : Named F) {N : Type 0} (names : Naming N) (m n : N)
    → names.attributes m ≡ names.attributes n
    → ((k : Initial) → ¬ (names.initial k ≡ m)) → ((k : Initial) → ¬ (names.initial k ≡ n))
    → (x : F N) → f.rename (exchange names m n) x ≡ x
    → ◌≡◌ {A = Over (λ N. F N × N)} (N, names, (x, m)) (N, names, (x, n))
alike_names {F = F} f {N = N} names m n e a b x fixed =
    moved {F = λ N. F N × N} with_name (exchange_equiv names m n) names names (exchange-keeps names m n e a b) (x, m)
    ∙ ap {A = F N × N} {B = Over (λ N. F N × N)} (λ y. (N, names, y)) (λ i. (fixed i, exchange-left names m n i))
  where
    with_name : Named (λ N. F N × N)
    with_name = record { rename = λ g y. (f.rename g y.0, g y.1); rename-id = λ y i. (f.rename-id y.0 i, y.1) }
