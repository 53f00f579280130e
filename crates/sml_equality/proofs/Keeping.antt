-- The sets that spare those who lose equality are those that respect it.
use Rattle.std.proofs.Common.{◌≡◌, ℕ, zero, suc, ◌+◌, ◌<◌, ◌↔◌, inl, inr, Bool, true, false, not, ◌&&◌, List, [], ◌∷◌, ◌++◌, length, get_or, Option, Vec, Global, sym, ◌∙◌, ap, refl, arith}
use Rattle.std.proofs.lemmas.Bool.{cases_lt}
use Rattle.std.proofs.lemmas.List.Elements.{All-push, All-weaker, All-nil, All-from_recursion, recursion_from_All}
use Rattle.std.specs.List.{AllByRecursion, list_all}
use Rattle.std.specs.declared.rc.Rc.{Rc}
use Rattle.sml_objects.specs.declared.objects.MlType.{MlType}
use Rattle.sml_equality.specs.Runs.{arguments_at}
use Rattle.sml_equality.specs.CodeUsers.{AreKept, IsMarked, IsMarkedBut, IsSpread, Spares, users_of}
use Rattle.sml_equality.proofs.Spreading.{front, false_or, no_row, not_both, same_or_not}

each_kept : (kept : ℕ → Bool) (is : List ℕ) → list_all kept is ≡ true → AllByRecursion (λ i. kept i ≡ true) is
each_kept kept [] e = tt
each_kept kept (i ∷ is) e =
    let b : kept i ≡ true = elim (kept i) as (λ b. (b && list_all kept is) ≡ true → b ≡ true) [ true ↦ λ h. refl | false ↦ λ h. h ] e in
    let c : list_all kept is ≡ true = elim (kept i) as (λ b. (b && list_all kept is) ≡ true → list_all kept is ≡ true) [ true ↦ λ h. h | false ↦ λ h. let q : false ≡ true = h in cc ] e in
    (b, each_kept kept is c)

all_of_each : (kept : ℕ → Bool) (is : List ℕ) → AllByRecursion (λ i. kept i ≡ true) is → list_all kept is ≡ true
all_of_each kept [] a = refl
all_of_each kept (i ∷ is) a = ap (λ b. b && list_all kept is) a.0 ∙ all_of_each kept is a.1

-- what is kept admits equality, if all that it needs are kept
pub needs-spare : (kept : ℕ → Bool) (from : List ℕ) (us ws : List (Vec ℕ Global)) (user : ℕ) (is : List ℕ) (admit : Bool) → (list_all kept is && true) ≡ admit
    → Spares kept ws from ↔ (Spares kept us from × (kept user ≡ true → AreKept kept is))
    → Spares kept ws from ↔ (Spares kept us from × (kept user ≡ true → admit ≡ true))
needs-spare kept from us ws user is admit e a =
    let same : list_all kept is ≡ admit = sym (elim (list_all kept is) as (λ b. (b && true) ≡ b) [ true ↦ refl | false ↦ refl ]) ∙ e in (
      λ s. let p = a.0 s in (p.0, λ t. sym same ∙ all_of_each kept is (recursion_from_All (λ i. kept i ≡ true) is (p.1 t))),
      λ p. a.1 (p.0, λ t. All-from_recursion (λ i. kept i ≡ true) is (each_kept kept is (same ∙ p.1 t))),
    )

-- and what never does is lost
pub lost-spare : (kept : ℕ → Bool) (from : List ℕ) (us : List (Vec ℕ Global)) (user : ℕ) (is : List ℕ) (admit : Bool) → (list_all kept is && false) ≡ admit
    → Spares kept us (from ++ user ∷ []) ↔ (Spares kept us from × (kept user ≡ true → admit ≡ true))
lost-spare kept from us user is admit e =
    let never : admit ≡ false = sym e ∙ elim (list_all kept is) as (λ b. (b && false) ≡ false) [ true ↦ refl | false ↦ refl ] in (
      λ s. let p = front (λ i. kept i ≡ false) (from ++ user ∷ []) from user refl s.begun in (record { begun = p.0; closed = s.closed }, λ t. absurd (not_both (kept user) t p.1)),
      λ p. record { begun = All-push (λ i. kept i ≡ false) from user p.0.begun (false_or (kept user) (λ t. not_both admit (p.1 t) never)); closed = p.0.closed },
    )

-- of those before a place, and of the one there
pub before-more : (kept : ℕ → Bool) (admits : ℕ → Bool) (k : ℕ) (A B : Type 0)
    → A ↔ ((j : ℕ) → j < k → kept j ≡ true → admits j ≡ true) → B ↔ (A × (kept k ≡ true → admits k ≡ true))
    → B ↔ ((j : ℕ) → j < k + 1 → kept j ≡ true → admits j ≡ true)
before-more kept admits k A B a b = (
  λ s j h t.
      let p = b.0 s in
      elim (same_or_not j k) [
        | inl e ↦ rw e (p.1 (sym (ap kept e) ∙ t))
        | inr n ↦ a.0 p.0 j (let m = n in elim (cases_lt j k) [ inl l ↦ l | inr l ↦ absurd (m (omega (arith, h, l))) ]) t
      ],
  λ f. b.1 (a.1 (λ j h t. f j (omega (arith, h)) t), λ t. f k (omega arith) t),
)

marked-any : (ms : List Bool) (k : ℕ) → IsMarked ms k → get_or ms k true ≡ true
marked-any [] k m = refl
marked-any (b ∷ ms) zero m = m
marked-any (b ∷ ms) (suc k) m = marked-any ms k m

any-marked : (ms : List Bool) (k : ℕ) → k < length ms → get_or ms k true ≡ true → IsMarked ms k
any-marked [] k h m = absurd (omega (arith, h))
any-marked (b ∷ ms) zero h m = m
any-marked (b ∷ ms) (suc k) h m = any-marked ms k (omega (arith, h)) m

none-among : (ms : List Bool) (k : ℕ) → IsMarkedBut ms [] k → IsMarked ms k
none-among ms k (inl m) = m
none-among ms k (inr (i, h, e)) = absurd (omega (arith, h))

negated : (b : Bool) → not b ≡ false → b ≡ true
negated true e = refl
negated false e = let q : true ≡ false = e in cc

module _ (us : List (Vec ℕ Global)) (from : List ℕ) (ms : List Bool) (r : IsSpread us from ms []) where
  abbrev pub unlost : ℕ → Bool
  unlost k = not (get_or ms k true)

  lost-there : (k : ℕ) → IsMarkedBut ms [] k → unlost k ≡ false
  lost-there k b = ap not (marked-any ms k (none-among ms k b))

  pub unlost-spare : Spares unlost us from
  unlost-spare = record {
    begun = All-weaker (IsMarkedBut ms []) (λ k. unlost k ≡ false) lost-there from r.begun;
    closed = λ i e.
        elim (cases_lt i (length us)) [
          | inl h ↦ All-weaker (IsMarkedBut ms []) (λ k. unlost k ≡ false) lost-there (users_of us i) (r.closed i (any-marked ms i (let n = r.len in omega (arith, h, n)) (negated (get_or ms i true) e)))
          | inr h ↦ rw (no_row us i (omega (arith, h))) (All-nil (λ k. unlost k ≡ false))
        ];
  }

  pub unlost-largest : (others : ℕ → Bool) → Spares others us from → (k : ℕ) → k < length us → others k ≡ true → unlost k ≡ true
  unlost-largest others s k h t =
      ap not (false_or (get_or ms k true) (λ m. not_both (others k) t (r.missed k (any-marked ms k (let n = r.len in omega (arith, h, n)) m) others s)))

pub arguments-here : (ds : List (Vec (Option (Rc MlType Global)) Global)) (k : ℕ) (x : Vec (Option (Rc MlType Global)) Global) → k < length ds → x ≡ get_or ds k x → arguments_at ds k ≡ x.items
arguments-here [] k x h e = absurd (omega (arith, h))
arguments-here (d ∷ ds) zero x h e = ap (λ v. v.items) (sym e)
arguments-here (d ∷ ds) (suc k) x h e = arguments-here ds k x (omega (arith, h)) e
