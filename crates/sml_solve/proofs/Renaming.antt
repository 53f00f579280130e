-- Types whose variables have other numbers.
use Rattle.std.proofs.Common.{◌≡◌, ℕ, zero, suc, ◌<◌, inl, inr, Bool, true, false, cond, ◌||◌, None, List, [], ◌∷◌, ◌++◌, length, map, get_or, sym, ◌∙◌, ap, subst, refl, arith, nat_eq}
use Rattle.std.proofs.lemmas.Bool.Decides.{eqb_tells}
use Rattle.std.proofs.lemmas.List.{map-append}
use Rattle.std.specs.List.{AllByRecursion, list_any}
use Rattle.sml_objects.specs.Fates.{attributes, substitutes, type_or, standing_for, close_as}
use Rattle.sml_objects.specs.Initial.{Name}
use Rattle.sml_objects.specs.Objects as O
use Rattle.sml_objects.specs.Types.{assign, replace_type, replace_types, variables_after, variables_after_all, index_among}
use Rattle.sml_objects.proofs.Closings.{all-stay-among, here-among}
use Rattle.sml_objects.specs.declared.fates.Fate.{Fate}
use Rattle.sml_objects.specs.declared.fates.Fate.TheVariants.{Bind, Keep, Default}
use Rattle.sml_layers.specs.Worlds.{finite}
use Rattle.sml_graph.specs.Worlds.{Assignment}
use Rattle.sml_schemes.specs.Left.{IsMadeOf, AreMadeOf}
use Rattle.sml_demands.proofs.Owning.{made-more, assigned-alike}
use Rattle.sml_solve.proofs.Uniqueness.{stays, variables-made}

-- types for the variables of a type

mutual
  unfolding IsMadeOf AreMadeOf replace_type replace_types

  pub alike-on : (P : ℕ → Type 0) (σ τ : Assignment finite) (t : O.MlType Name) → IsMadeOf P t → assign σ t ≡ assign τ t → IsMadeOf (λ v. P v × (σ v ≡ τ v)) t
  alike-on P σ τ (O.bound k) m e = m
  alike-on P σ τ (O.free v) m e = (m, e)
  alike-on P σ τ (O.app h ts) m e = let q : replace_types O.bound σ ts ≡ replace_types O.bound τ ts = cc in all-alike-on P σ τ ts m q

  all-alike-on : (P : ℕ → Type 0) (σ τ : Assignment finite) (ts : O.MlTypes Name) → AreMadeOf P ts → replace_types O.bound σ ts ≡ replace_types O.bound τ ts → AreMadeOf (λ v. P v × (σ v ≡ τ v)) ts
  all-alike-on P σ τ O.no_type m e = tt
  all-alike-on P σ τ (O.and_type t ts) m e =
      let p : assign σ t ≡ assign τ t = cc in
      let q : replace_types O.bound σ ts ≡ replace_types O.bound τ ts = cc in
      (alike-on P σ τ t m.0 p, all-alike-on P σ τ ts m.1 q)

mutual
  unfolding replace_type replace_types

  pub assign-then : (σ τ : Assignment finite) (t : O.MlType Name) → assign τ (assign σ t) ≡ assign (λ v. assign τ (σ v)) t
  assign-then σ τ (O.bound k) = refl
  assign-then σ τ (O.free v) = refl
  assign-then σ τ (O.app h ts) = ap (O.app h) (all-assign-then σ τ ts)

  all-assign-then : (σ τ : Assignment finite) (ts : O.MlTypes Name) → replace_types O.bound τ (replace_types O.bound σ ts) ≡ replace_types O.bound (λ v. assign τ (σ v)) ts
  all-assign-then σ τ O.no_type = refl
  all-assign-then σ τ (O.and_type t ts) = λ i. O.and_type (assign-then σ τ t i) (all-assign-then σ τ ts i)

abbrev pub number_of : O.MlType Name → ℕ
number_of (O.bound k) = 0
number_of (O.free v) = v
number_of (O.app h ts) = 0

-- the type is a variable, for which v stands
abbrev pub IsNamed : Assignment finite → ℕ → O.MlType Name → Type 0
IsNamed τ v t = (t ≡ O.free (number_of t)) × (τ (number_of t) ≡ O.free v)

is-named : (τ : Assignment finite) (v : ℕ) (t : O.MlType Name) → assign τ t ≡ O.free v → IsNamed τ v t
unfolding replace_type
is-named τ v (O.bound k) e = let q : O.bound k ≡ O.free v = e in absurd cc
is-named τ v (O.free w) e = (refl, e)
is-named τ v (O.app h ts) e = let q : O.app h (replace_types O.bound τ ts) ≡ O.free v = e in absurd cc

-- types that are got from one another differ in the numbers of variables only
pub back-named : (P : ℕ → Type 0) (σ τ : Assignment finite) (t : O.MlType Name) → IsMadeOf P t → assign τ (assign σ t) ≡ t → IsMadeOf (λ v. P v × IsNamed τ v (σ v)) t
back-named P σ τ t m e =
    let same : assign (λ v. assign τ (σ v)) t ≡ assign O.free t = sym (assign-then σ τ t) ∙ (e ∙ sym (stays P O.free t (λ v p. refl) m)) in
    made-more (λ v. P v × (assign τ (σ v) ≡ O.free v)) (λ v. P v × IsNamed τ v (σ v)) t (λ v x. (x.0, is-named τ v (σ v) x.1)) (alike-on P (λ v. assign τ (σ v)) O.free t m same)

mutual
  unfolding IsMadeOf AreMadeOf replace_type replace_types

  pub made-there : (P : ℕ → Type 0) (f : ℕ → ℕ) (t : O.MlType Name) → IsMadeOf P (assign (λ v. O.free (f v)) t) → IsMadeOf (λ v. P (f v)) t
  made-there P f (O.bound k) m = m
  made-there P f (O.free v) m = m
  made-there P f (O.app h ts) m = all-made-there P f ts m

  all-made-there : (P : ℕ → Type 0) (f : ℕ → ℕ) (ts : O.MlTypes Name) → AreMadeOf P (replace_types O.bound (λ v. O.free (f v)) ts) → AreMadeOf (λ v. P (f v)) ts
  all-made-there P f O.no_type m = tt
  all-made-there P f (O.and_type t ts) m = (made-there P f t m.0, all-made-there P f ts m.1)

-- numbers in lists

module _ (f g : ℕ → ℕ) where
  abbrev pub IsBack : ℕ → Type 0
  IsBack v = g (f v) ≡ v

  same-test : (v w : ℕ) → IsBack v → IsBack w → nat_eq (f v) (f w) ≡ nat_eq v w
  same-test v w p q =
      elim (eqb_tells (f v) (f w)) [
        | inl a ↦
            elim (eqb_tells v w) [
              | inl b ↦ a.0 ∙ sym b.0
              | inr b ↦ absurd (b.1 (sym p ∙ (ap g a.1 ∙ q)))
            ]
        | inr a ↦
            elim (eqb_tells v w) [
              | inl b ↦ absurd (a.1 (ap f b.1))
              | inr b ↦ a.0 ∙ sym b.0
            ]
      ]

  among-renamed : (v : ℕ) (ws : List ℕ) → IsBack v → AllByRecursion IsBack ws → list_any (nat_eq (f v)) (map f ws) ≡ list_any (nat_eq v) ws
  among-renamed v [] p a = refl
  among-renamed v (w ∷ ws) p a = λ i. same-test v w p a.0 i || among-renamed v ws p a.1 i

  place-renamed : (v : ℕ) (ws : List ℕ) → IsBack v → AllByRecursion IsBack ws → index_among (f v) (map f ws) ≡ index_among v ws
  unfolding index_among
  place-renamed v [] p a = refl
  place-renamed v (w ∷ ws) p a = λ i. cond (same-test v w p a.0 i) 0 (suc (place-renamed v ws p a.1 i))

  one-renamed : (v : ℕ) (seen : List ℕ) (b : Bool) → cond b (map f seen) (map f seen ++ f v ∷ []) ≡ map f (cond b seen (seen ++ v ∷ []))
  one-renamed v seen true = refl
  one-renamed v seen false = sym (map-append f seen (v ∷ []))

  mutual
    unfolding IsMadeOf AreMadeOf replace_type replace_types variables_after variables_after_all

    pub variables-renamed : (seen : List ℕ) (t : O.MlType Name) → AllByRecursion IsBack seen → IsMadeOf IsBack t → variables_after (map f seen) (assign (λ v. O.free (f v)) t) ≡ map f (variables_after seen t)
    variables-renamed seen (O.bound k) a m = absurd m
    variables-renamed seen (O.free v) a m = ap (λ b. cond b (map f seen) (map f seen ++ f v ∷ [])) (among-renamed v seen m a) ∙ one-renamed v seen (list_any (nat_eq v) seen)
    variables-renamed seen (O.app h ts) a m = all-variables-renamed seen ts a m

    all-variables-renamed : (seen : List ℕ) (ts : O.MlTypes Name) → AllByRecursion IsBack seen → AreMadeOf IsBack ts → variables_after_all (map f seen) (replace_types O.bound (λ v. O.free (f v)) ts) ≡ map f (variables_after_all seen ts)
    all-variables-renamed seen O.no_type a m = refl
    all-variables-renamed seen (O.and_type t ts) a m =
        ap (λ s. variables_after_all s (replace_types O.bound (λ v. O.free (f v)) ts)) (variables-renamed seen t a m.0)
        ∙ all-variables-renamed (variables_after seen t) ts (variables-made IsBack seen t a m.0) m.1

-- the variables of a type are among them

mutual
  unfolding IsMadeOf AreMadeOf variables_after variables_after_all

  pub are-among : (P : ℕ → Type 0) (seen : List ℕ) (t : O.MlType Name) → IsMadeOf P t → IsMadeOf (λ v. list_any (nat_eq v) (variables_after seen t) ≡ true) t
  are-among P seen (O.bound k) m = m
  are-among P seen (O.free v) m = here-among v seen (list_any (nat_eq v) seen) refl
  are-among P seen (O.app h ts) m = all-are-among P seen ts m

  all-are-among : (P : ℕ → Type 0) (seen : List ℕ) (ts : O.MlTypes Name) → AreMadeOf P ts → AreMadeOf (λ v. list_any (nat_eq v) (variables_after_all seen ts) ≡ true) ts
  all-are-among P seen O.no_type m = tt
  all-are-among P seen (O.and_type t ts) m = (
    made-more (λ v. list_any (nat_eq v) (variables_after seen t) ≡ true) (λ v. list_any (nat_eq v) (variables_after_all (variables_after seen t) ts) ≡ true) t (λ v h. all-stay-among v (variables_after seen t) ts h) (are-among P seen t m.0),
    all-are-among P (variables_after seen t) ts m.1,
  )

pub all-has : (P : ℕ → Type 0) (v : ℕ) (ws : List ℕ) → AllByRecursion P ws → list_any (nat_eq v) ws ≡ true → P v
all-has P v [] a h = let q : false ≡ true = h in absurd cc
all-has P v (w ∷ ws) a h =
    elim (eqb_tells v w) [
      | inl b ↦ subst P (sym b.1) a.0
      | inr b ↦ all-has P v ws a.1 (ap (λ c. c || list_any (nat_eq v) ws) (sym b.0) ∙ h)
    ]

-- what holds of the variables of a type
pub at-variable : (P : ℕ → Type 0) (t : O.MlType Name) (v : ℕ) → IsMadeOf P t → list_any (nat_eq v) (variables_after [] t) ≡ true → P v
at-variable P t v m h = all-has P v (variables_after [] t) (variables-made P [] t tt m) h

pub at-each : (P Q : ℕ → Type 0) (t : O.MlType Name) → IsMadeOf P t → ((v : ℕ) → list_any (nat_eq v) (variables_after [] t) ≡ true → Q v) → IsMadeOf Q t
at-each P Q t m f = made-more (λ v. list_any (nat_eq v) (variables_after [] t) ≡ true) Q t f (are-among P [] t m)

place-inside : (v : ℕ) (ws : List ℕ) → list_any (nat_eq v) ws ≡ true → index_among v ws < length ws
unfolding index_among
place-inside v [] h = let q : false ≡ true = h in absurd cc
place-inside v (w ∷ ws) h = next (nat_eq v w) (place-inside v ws) h where
  next : (b : Bool) → (list_any (nat_eq v) ws ≡ true → index_among v ws < length ws) → (b || list_any (nat_eq v) ws) ≡ true → cond b 0 (suc (index_among v ws)) < suc (length ws)
  next true f h = omega arith
  next false f h = let r = f h in omega (arith, r)

-- closing

abbrev pub IsNotKeep : Fate → Type 0
IsNotKeep (Bind e) = Unit {0}
IsNotKeep Keep = ⊥
IsNotKeep Default = Unit {0}

substituted : (u a b : O.MlType Name) (k : ℕ) (fs : List Fate) (p : ℕ) → AllByRecursion IsNotKeep fs → p < length fs → type_or a (get_or (substitutes u k fs) p None) ≡ type_or b (get_or (substitutes u k fs) p None)
substituted u a b k [] p n h = absurd (omega (arith, h))
substituted u a b k (Bind e ∷ fs) zero n h = refl
substituted u a b k (Bind e ∷ fs) (suc p) n h = substituted u a b (suc k) fs p n.1 (omega (arith, h))
substituted u a b k (Keep ∷ fs) p n h = absurd n.0
substituted u a b k (Default ∷ fs) zero n h = refl
substituted u a b k (Default ∷ fs) (suc p) n h = substituted u a b k fs p n.1 (omega (arith, h))

pub closed-renamed : (u : O.MlType Name) (f g : ℕ → ℕ) (t q : O.MlType Name) (fs : List Fate) → q ≡ assign (λ v. O.free (f v)) t → IsMadeOf (IsBack f g) t → AllByRecursion IsNotKeep fs → length fs ≡ length (variables_after [] t) → close_as u fs t ≡ close_as u fs q
unfolding close_as replace_type
closed-renamed u f g t q fs e m n l =
    let vs = variables_after [] t in
    let ts = substitutes u 0 fs in
    let ws : variables_after [] q ≡ map f vs = ap (variables_after []) e ∙ variables-renamed f g [] t tt m in
    let back = variables-made (IsBack f g) [] t tt m in
    let one : IsMadeOf (λ v. standing_for vs ts v ≡ standing_for (map f vs) ts (f v)) t = at-each (IsBack f g) (λ v. standing_for vs ts v ≡ standing_for (map f vs) ts (f v)) t m (λ v h.
    let p = place-inside v vs h in
    substituted u (O.free v) (O.free (f v)) 0 fs (index_among v vs) n (omega (arith, p, l))
    ∙ ap (λ k. type_or (O.free (f v)) (get_or ts k None)) (sym (place-renamed f g v vs (at-variable (IsBack f g) t v m h) back))) in
    let body : assign (standing_for vs ts) t ≡ assign (standing_for (variables_after [] q) ts) q =
    assigned-alike (standing_for vs ts) (λ v. standing_for (map f vs) ts (f v)) t one
    ∙ (sym (assign-then (λ v. O.free (f v)) (standing_for (map f vs) ts) t) ∙ (λ i. assign (standing_for (sym ws i) ts) (sym e i))) in
    λ i. record { variables = attributes fs; body = body i }
