-- Who loses equality, found step by step.
use Rattle.std.proofs.Common.{◌≡◌, ℕ, zero, suc, ◌+◌, ◌<◌, ◌≢◌, ◌⊎◌, ◌↔◌, inl, inr, Bool, true, false, List, [], ◌∷◌, ◌++◌, length, get_or, set, replicate, take, Some, Vec, Global, sym, ◌∙◌, ap, refl, arith, get_or-set_same, get_or-set_other, length-append}
use Rattle.std.proofs.Math.ListN.{length-set}
use Rattle.std.proofs.lemmas.Bool.{cases_lt}
use Rattle.std.proofs.lemmas.List.{length-replicate, take_more}
use Rattle.std.proofs.lemmas.List.Elements.{All-append, All-contains, All-more, All-pop, All-push, All-weaker, All-from_recursion, Contains-append_left, Contains-append_right, Contains-append_cases}
use Rattle.std.specs.List.{All, AllByRecursion, Contains}
use Rattle.sml_equality.specs.CodeUsers.{AreInside, AreKept, IsMarked, IsMarkedBut, IsMissed, IsSound, IsSpread, Spares, unmarked, users_of}

pub same_or_not : (i j : ℕ) → (i ≡ j) ⊎ (i ≢ j)
same_or_not i j = elim (cases_lt i j) [ inl a ↦ inr (λ e. omega arith) | inr a ↦ elim (cases_lt j i) [ inl b ↦ inr (λ e. omega arith) | inr b ↦ inl (omega arith) ] ]

alone : (i x : ℕ) → Contains (x ∷ []) i → i ≡ x
alone i x (zero, h, e) = sym e
alone i x (suc k, h, e) = absurd (omega (arith, h))

last_cases : (i : ℕ) (js : List ℕ) (x : ℕ) → Contains (js ++ x ∷ []) i → Contains js i ⊎ (i ≡ x)
last_cases i js x m = elim (Contains-append_cases js (x ∷ []) i m) [ inl a ↦ inl a | inr b ↦ inr (alone i x b) ]

all_these : (P : ℕ → Type 0) (ks : List ℕ) → ((k : ℕ) → Contains ks k → P k) → All P ks
all_these P ks f = All-from_recursion P ks (each ks (λ k m. m)) where
  each : (js : List ℕ) → ((k : ℕ) → Contains js k → Contains ks k) → AllByRecursion P js
  each [] g = tt
  each (j ∷ js) g = (f j (g j (0, omega arith, refl)), each js (λ k m. g k (suc m.0, (let h = m.1 in omega (arith, h)), m.2)))

pub row_at : (us : List (Vec ℕ Global)) (i : ℕ) (x : Vec ℕ Global) → i < length us → x ≡ get_or us i x → users_of us i ≡ x.items
row_at [] i x h e = absurd (omega (arith, h))
row_at (u ∷ us) zero x h e = ap (λ v. v.items) (sym e)
row_at (u ∷ us) (suc i) x h e = row_at us i x (omega (arith, h)) e

pub no_row : (us : List (Vec ℕ Global)) (i : ℕ) → length us < suc i → users_of us i ≡ []
no_row [] i h = refl
no_row (u ∷ us) zero h = absurd (omega (arith, h))
no_row (u ∷ us) (suc i) h = no_row us i (omega (arith, h))

row_same : (us : List (Vec ℕ Global)) (i : ℕ) (w : Vec ℕ Global) → i < length us → users_of (set us i w) i ≡ w.items
row_same [] i w h = absurd (omega (arith, h))
row_same (u ∷ us) zero w h = refl
row_same (u ∷ us) (suc i) w h = row_same us i w (omega (arith, h))

row_other : (us : List (Vec ℕ Global)) (i j : ℕ) (w : Vec ℕ Global) → j ≢ i → users_of (set us i w) j ≡ users_of us j
row_other [] i j w h = refl
row_other (u ∷ us) zero zero w h = absurd (h refl)
row_other (u ∷ us) zero (suc j) w h = refl
row_other (u ∷ us) (suc i) zero w h = refl
row_other (u ∷ us) (suc i) (suc j) w h = row_other us i j w (λ e. h (ap suc e))

not_marked : (n i : ℕ) → IsMarked (replicate n false) i → ⊥
not_marked zero i m = cc
not_marked (suc n) zero m = cc
not_marked (suc n) (suc i) m = not_marked n i m

pub spread-first : (us : List (Vec ℕ Global)) (from : List ℕ) (ms : List Bool) (is : List ℕ) → AreInside (length us) from → ms ≡ replicate (length us) false → is ≡ from → IsSpread us from ms is
spread-first us from ms is inside e q =
    let none : (i : ℕ) → IsMarked ms i → ⊥ = λ i m. not_marked (length us) i (rw e at m) in
    record {
      len = ap length e ∙ length-replicate (length us) false;
      inside = rw q inside;
      begun = all_these (IsMarkedBut ms is) from (λ k m. inr (rw q m));
      closed = λ i m. absurd (none i m);
      missed = λ i m. absurd (none i m);
      left = rw q (all_these (IsMissed us from) from (λ k m kept s. All-contains (λ i. kept i ≡ false) from k s.begun m));
    }

users_missed : (us : List (Vec ℕ Global)) (from : List ℕ) (i : ℕ) → IsMissed us from i → All (IsMissed us from) (users_of us i)
users_missed us from i f =
    all_these (IsMissed us from) (users_of us i) (λ k m kept s. All-contains (λ j. kept j ≡ false) (users_of us i) k (s.closed i (f kept s)) m)

pub front : (P : ℕ → Type 0) (is js : List ℕ) (x : ℕ) → is ≡ js ++ x ∷ [] → All P is → All P js × P x
front P is js x e a = All-pop P is js (Some x) e a

module _ (us : List (Vec ℕ Global)) (from : List ℕ) (ms : List Bool) (is js : List ℕ) (x : ℕ) where
  pub spread-skip : IsSpread us from ms is → is ≡ js ++ x ∷ [] → IsMarked ms x → IsSpread us from ms js
  spread-skip r e m =
      let still : (k : ℕ) → IsMarkedBut ms is k → IsMarkedBut ms js k = λ k b.
      elim b [
        | inl a ↦ inl a
        | inr a ↦ elim (last_cases k js x (rw e at a)) [ inl y ↦ inr y | inr q ↦ inl (rw q m) ]
      ] in
      record {
        len = r.len;
        inside = (front (λ i. i < length us) is js x e r.inside).0;
        begun = All-weaker (IsMarkedBut ms is) (IsMarkedBut ms js) still from r.begun;
        closed = λ i a. All-weaker (IsMarkedBut ms is) (IsMarkedBut ms js) still (users_of us i) (r.closed i a);
        missed = r.missed;
        left = (front (IsMissed us from) is js x e r.left).0;
      }

  pub spread-inside : IsSpread us from ms is → is ≡ js ++ x ∷ [] → x < length us
  spread-inside r e = (front (λ i. i < length us) is js x e r.inside).1

  pub spread-mark : (ls : List Bool) (ks : List ℕ) → IsSound (length us) us → IsSpread us from ms is → is ≡ js ++ x ∷ [] → ls ≡ set ms x true → ks ≡ js ++ users_of us x → IsSpread us from ls ks
  spread-mark ls ks sound r e f g =
      let inside = spread-inside r e in
      let here : IsMarked ls x = ap (λ xs. get_or xs x false) f ∙ get_or-set_same ms x true false (let z = r.len in omega (arith, z, inside)) in
      let old : (k : ℕ) → IsMarked ms k → IsMarked ls k = λ k m.
      elim (same_or_not k x) [
        | inl q ↦ rw q here
        | inr n ↦ ap (λ xs. get_or xs k false) f ∙ (get_or-set_other ms x k true false n ∙ m)
      ] in
      let still : (k : ℕ) → IsMarkedBut ms is k → IsMarkedBut ls ks k = λ k b.
      elim b [
        | inl a ↦ inl (old k a)
        | inr a ↦ elim (last_cases k js x (rw e at a)) [ inl y ↦ inr (rw g (Contains-append_left js (users_of us x) k y)) | inr q ↦ inl (rw q here) ]
      ] in
      let left = front (IsMissed us from) is js x e r.left in
      record {
        len = ap length f ∙ (length-set ms x true ∙ r.len);
        inside = rw g (All-append (λ i. i < length us) js (users_of us x) (front (λ i. i < length us) is js x e r.inside).0 (sound x));
        begun = All-weaker (IsMarkedBut ms is) (IsMarkedBut ls ks) still from r.begun;
        closed = λ i a.
            elim (same_or_not i x) [
              | inl q ↦ rw q (all_these (IsMarkedBut ls ks) (users_of us x) (λ k m. inr (rw g (Contains-append_right js (users_of us x) k m))))
              | inr n ↦ All-weaker (IsMarkedBut ms is) (IsMarkedBut ls ks) still (users_of us i) (r.closed i (sym (ap (λ xs. get_or xs i false) f ∙ get_or-set_other ms x i true false n) ∙ a))
            ];
        missed = λ i a.
            elim (same_or_not i x) [
              | inl q ↦ rw q left.1
              | inr n ↦ r.missed i (sym (ap (λ xs. get_or xs i false) f ∙ get_or-set_other ms x i true false n) ∙ a)
            ];
        left = rw g (All-append (IsMissed us from) js (users_of us x) left.0 (users_missed us from x left.1));
      }

unmarked-set : (us : List (Vec ℕ Global)) (ms : List Bool) (i : ℕ) → length ms ≡ length us → i < length ms → get_or ms i false ≡ false → unmarked us (set ms i true) + suc (length (users_of us i)) ≡ unmarked us ms
unmarked-set us [] i n h e = absurd (omega (arith, h))
unmarked-set [] (m ∷ ms) i n h e = absurd (omega (arith, n))
unmarked-set (u ∷ us) (m ∷ ms) zero n h e = rw e (omega arith)
unmarked-set (u ∷ us) (m ∷ ms) (suc i) n h e = let r = unmarked-set us ms i (omega (arith, n)) (omega (arith, h)) e in omega (arith, r)

pub spread-less : (us : List (Vec ℕ Global)) (from : List ℕ) (ms ls : List Bool) (is js ks : List ℕ) (x : ℕ) → IsSpread us from ms is → is ≡ js ++ x ∷ [] → get_or ms x false ≡ false → ls ≡ set ms x true → ks ≡ js ++ users_of us x → unmarked us ls + length ks < unmarked us ms + length is
spread-less us from ms ls is js ks x r e m f g =
    let inside = spread-inside us from ms is js x r e in
    let n = r.len in
    let a : unmarked us ls + suc (length (users_of us x)) ≡ unmarked us ms = rw f (unmarked-set us ms x n (omega (arith, n, inside)) m) in
    let b : length ks ≡ length js + length (users_of us x) = ap length g ∙ simp length-append in
    let c : length is ≡ length js + 1 = ap length e ∙ simp length-append in
    omega (arith, a, b, c)

pub false_or : (b : Bool) → (b ≡ true → ⊥) → b ≡ false
false_or true f = absurd (f refl)
false_or false f = refl

true_or : (b : Bool) → (b ≡ false → ⊥) → b ≡ true
true_or true f = refl
true_or false f = absurd (f refl)

pub not_both : (b : Bool) → b ≡ true → b ≡ false → ⊥
not_both b p q = let e : true ≡ false = sym p ∙ q in cc

-- one user more of i
module _ (us vs : List (Vec ℕ Global)) (i user : ℕ) (w : Vec ℕ Global) (inside : i < length us) (made : vs ≡ set us i w) (pushed : w.items ≡ users_of us i ++ user ∷ []) where
  here : users_of vs i ≡ users_of us i ++ user ∷ []
  here = ap (λ x. users_of x i) made ∙ row_same us i w inside ∙ pushed

  other : (j : ℕ) → j ≢ i → users_of vs j ≡ users_of us j
  other j n = ap (λ x. users_of x j) made ∙ row_other us i j w n

  pub user-sound : (n : ℕ) → user < n → IsSound n us → IsSound n vs
  user-sound n h s j =
      elim (same_or_not j i) [
        | inl e ↦ rw (e, here) (All-push (λ k. k < n) (users_of us i) user (s i) h)
        | inr d ↦ rw (other j d) (s j)
      ]

  pub user-spares : (kept : ℕ → Bool) (from : List ℕ) → Spares kept vs from ↔ (Spares kept us from × (kept user ≡ true → kept i ≡ true))
  user-spares kept from = (
    λ s. (
      record {
        begun = s.begun;
        closed = λ j e.
            elim (same_or_not j i) [
              | inl q ↦ rw q (front (λ k. kept k ≡ false) (users_of vs i) (users_of us i) user here (s.closed i (sym (ap kept q) ∙ e))).0
              | inr d ↦ rw (other j d) at (s.closed j e)
            ];
      },
      λ t. true_or (kept i) (λ e. not_both (kept user) t (front (λ k. kept k ≡ false) (users_of vs i) (users_of us i) user here (s.closed i e)).1),
    ),
    λ p. record {
      begun = p.0.begun;
      closed = λ j e.
          elim (same_or_not j i) [
            | inl q ↦ rw (q, here) (All-push (λ k. kept k ≡ false) (users_of us i) user (p.0.closed i (sym (ap kept q) ∙ e)) (false_or (kept user) (λ t. not_both (kept i) (p.1 t) (sym (ap kept q) ∙ e))))
            | inr d ↦ rw (other j d) (p.0.closed j e)
          ];
    },
  )

kept_more : (kept : ℕ → Bool) (is : List ℕ) (k d : ℕ) → k < length is → AreKept kept (take (k + 1) is) → AreKept kept (take k is) × (kept (get_or is k d) ≡ true)
kept_more kept is k d inside a = front (λ j. kept j ≡ true) (take (k + 1) is) (take k is) (get_or is k d) (take_more is k d inside) a

pub one_more_added : (kept : ℕ → Bool) (from : List ℕ) (us vs : List (Vec ℕ Global)) (user : ℕ) (ws : List (Vec ℕ Global)) (is : List ℕ) (k i d : ℕ) → k < length is → get_or is k d ≡ i
    → Spares kept vs from ↔ (Spares kept us from × (kept user ≡ true → AreKept kept (take k is)))
    → Spares kept ws from ↔ (Spares kept vs from × (kept user ≡ true → kept i ≡ true))
    → Spares kept ws from ↔ (Spares kept us from × (kept user ≡ true → AreKept kept (take (k + 1) is)))
one_more_added kept from us vs user ws is k i d inside e a b = (
  λ s.
      let p = b.0 s in
      let q = a.0 p.0 in
      (q.0, λ t. All-more (λ j. kept j ≡ true) is k d inside (q.1 t) (rw e (p.1 t))),
  λ p. b.1 (a.1 (p.0, λ t. (kept_more kept is k d inside (p.1 t)).0), λ t. sym (ap kept e) ∙ (kept_more kept is k d inside (p.1 t)).1),
)

pub row-end : (us : List (Vec ℕ Global)) (v : Vec ℕ Global) → v.items ≡ [] → ((i : ℕ) → users_of us i ≡ []) → (i : ℕ) → users_of (us ++ v ∷ []) i ≡ []
row-end [] v e h zero = e
row-end [] v e h (suc i) = refl
row-end (u ∷ us) v e h zero = h zero
row-end (u ∷ us) v e h (suc i) = row-end us v e (λ i. h (suc i)) i
