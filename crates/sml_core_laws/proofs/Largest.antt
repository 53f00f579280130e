-- Of new datatypes there is one largest set that respects equality: those that don't are taken away until none is left.
use Rattle.std.specs.Prelude.{◌≡◌, ◌≤◌, ◌<◌, ◌&&◌, ◌||◌, ◌⊎◌, ℕ, zero, suc, Bool, true, false, cond, List, [], ◌∷◌, map, filter, length, Option, Some, None}
use Rattle.std.proofs.Common.{arith}
use Rattle.std.proofs.lemmas.Bool.{and_from, and_parts}
use mathlib.Core.Path.{refl, sym, ap, subst, ◌∙◌}
use mathlib.Core.Logic.{inl, inr}
use mathlib.Core.Bool.{true≢false}
use Rattle.sml_objects.specs.Appearance.{Stands, stands}
use Rattle.sml_objects.specs.Equality.{admits_by, all_admit_by, is_ref}
use Rattle.sml_objects.specs.Names.{Naming}
use Rattle.sml_objects.specs.Objects.{MlType, MlTypes, bound, free, app, arrow, row, name, no_type, and_type}
use Rattle.sml_objects.proofs.Standing.{image, kept, was_kept, found, was_found, stands-or-not}
use Rattle.sml_core_rules.specs.Datatypes.{Arguments, Respects, argument_admits, arguments_admit}
use Rattle.sml_core_laws.specs.Largest.{AgreeOutside, IsLargest, LargestIsOne}

-- truth values

or-more : (r a b : Bool) → (a ≡ true → b ≡ true) → r || a ≡ true → r || b ≡ true
or-more true a b f h = refl
or-more false a b f h = f h

yes-or-no : (a : Bool) → (a ≡ true) ⊎ (a ≡ false)
yes-or-no true = inl refl
yes-or-no false = inr refl

same-truth : (a b : Bool) → (a ≡ true → b ≡ true) → (b ≡ true → a ≡ true) → a ≡ b
same-truth true b f g = sym (f refl)
same-truth false true f g = g refl
same-truth false false f g = refl

-- where more names admit equality, more types do
module _ {N : Type 0} (refs : N → Bool) (f g : N → Bool) (more : (n : N) → f n ≡ true → g n ≡ true) where
  mutual
    unfolding admits_by

    type-more : (v : ℕ → Bool) (t : MlType N) → admits_by refs v f t ≡ true → admits_by refs v g t ≡ true
    type-more v (bound k) h = h
    type-more v (free k) h = h
    type-more v (app arrow ts) h = h
    type-more v (app (row ls) ts) h = types-more v ts h
    type-more v (app (name n) ts) h =
        or-more (refs n) (f n && all_admit_by refs v f ts) (g n && all_admit_by refs v g ts)
        (λ k. let p = and_parts (f n) (all_admit_by refs v f ts) k in and_from (g n) (all_admit_by refs v g ts) (more n p.0) (types-more v ts p.1)) h

    types-more : (v : ℕ → Bool) (ts : MlTypes N) → all_admit_by refs v f ts ≡ true → all_admit_by refs v g ts ≡ true
    types-more v no_type h = h
    types-more v (and_type t ts) h =
        let p = and_parts (admits_by refs v f t) (all_admit_by refs v f ts) h in and_from (admits_by refs v g t) (all_admit_by refs v g ts) (type-more v t p.0) (types-more v ts p.1)

  argument-more : (a : Option (MlType N)) → argument_admits refs f a ≡ true → argument_admits refs g a ≡ true
  argument-more None h = h
  argument-more (Some t) h = type-more (λ _. true) t h

  pub arguments-more : (cs : Arguments N) → arguments_admit refs f cs ≡ true → arguments_admit refs g cs ≡ true
  arguments-more [] h = h
  arguments-more (c ∷ cs) h =
      let p = and_parts (argument_admits refs f c.1) (arguments_admit refs f cs) h in
      and_from (argument_admits refs g c.1) (arguments_admit refs g cs) (argument-more c.1 p.0) (arguments-more cs p.1)

-- one of datatypes that respect equality
respects-at : {N : Type 0} (refs : N → Bool) (eq : N → Bool) (d : N × Arguments N) (ds : List (N × Arguments N)) → Respects refs eq ds → Stands d ds → eq d.0 ≡ true
    → arguments_admit refs eq d.1 ≡ true
unfolding Stands
respects-at refs eq d [] h s e = absurd s
respects-at refs eq d (c ∷ ds) h (inl s) e = subst (λ d. eq d.0 ≡ true → arguments_admit refs eq d.1 ≡ true) (sym s) h.0 e
respects-at refs eq d (c ∷ ds) h (inr s) e = respects-at refs eq d ds h.1 s e

-- a list without one of its names is shorter

shorter-or-same : {N : Type 0} (p : N → Bool) (ns : List N) → length (filter p ns) ≤ length ns
shorter-or-same p [] = omega (arith)
shorter-or-same p (n ∷ ns) =
    let h = shorter-or-same p ns in
    elim (p n) as (λ b. length (cond b (n ∷ filter p ns) (filter p ns)) ≤ suc (length ns)) [ true ↦ omega (arith, h) | false ↦ omega (arith, h) ]

shorter : {N : Type 0} (p : N → Bool) (n : N) (ns : List N) → Stands n ns → p n ≡ false → length (filter p ns) < length ns
unfolding Stands
shorter p n [] s h = absurd s
shorter p n (m ∷ ns) (inl e) h =
    let k = shorter-or-same p ns in
    subst (λ b. length (cond b (m ∷ filter p ns) (filter p ns)) < suc (length ns)) (sym (ap p (sym e) ∙ h)) (omega (arith, k))
shorter p n (m ∷ ns) (inr s) h =
    let k = shorter p n ns s h in
    elim (p m) as (λ b. length (cond b (m ∷ filter p ns) (filter p ns)) < suc (length ns)) [ true ↦ omega (arith, k) | false ↦ omega (arith, k) ]

module _ {N : Type 0} (names : Naming N) (around : N → Bool) (ds : List (N × Arguments N)) where
  abbrev refs : N → Bool
  refs = is_ref names

  abbrev all : List N
  all = map (λ d. d.0) ds

  -- of the datatypes these admit equality
  abbrev on_these : List N → N → Bool
  on_these on n = cond (stands names n on) true (cond (stands names n all) false (around n))

  differs : N → N → Bool
  differs n m = elim (names.same m n) [ yes _ ↦ false | no _ ↦ true ]

  differs-not : (n : N) → differs n n ≡ false
  unfolding differs
  differs-not n = go (names.same n n)
    where
      go : (d : Dec (n ≡ n)) → ◌≡◌ {A = Bool} (elim d [ yes _ ↦ false | no _ ↦ true ]) false
      go (yes e) = refl
      go (no e) = absurd (e refl)

  differs-other : (n m : N) → ¬ (m ≡ n) → differs n m ≡ true
  unfolding differs
  differs-other n m h = go (names.same m n)
    where
      go : (d : Dec (m ≡ n)) → ◌≡◌ {A = Bool} (elim d [ yes _ ↦ false | no _ ↦ true ]) true
      go (yes e) = absurd (h e)
      go (no e) = refl

  abbrev without : N → List N → List N
  without n on = filter (differs n) on

  Inside : List N → Type 0
  Inside on = (n : N) → Stands n on → Stands n all

  -- every set that respects equality is inside
  Covers : List N → Type 0
  Covers on = (other : N → Bool) → AgreeOutside ds other around → Respects refs other ds → (n : N) → other n ≡ true → on_these on n ≡ true

  not-standing : (n : N) (ns : List N) → ¬ (Stands n ns) → stands names n ns ≡ false
  not-standing n ns h = elim (stands-or-not names n ns) [ inl e ↦ absurd (h (was_found names n ns e)) | inr e ↦ e ]

  on-outside : (on : List N) → Inside on → AgreeOutside ds (on_these on) around
  unfolding Inside
  on-outside on i n h =
      ap (λ b. cond b true (cond (stands names n all) false (around n))) (not-standing n on (λ s. h (i n s)))
      ∙ ap (λ b. cond b false (around n)) (not-standing n all h)

  abbrev Bad : List N → List (N × Arguments N) → Type 0
  Bad on es = (d : N × Arguments N) × Stands d es × (on_these on d.0 ≡ true) × (arguments_admit refs (on_these on) d.1 ≡ false)

  bad-or-fine : (on : List N) (es : List (N × Arguments N)) → Respects refs (on_these on) es ⊎ Bad on es
  unfolding Stands
  bad-or-fine on [] = inl tt
  bad-or-fine on (d ∷ es) = go (yes-or-no (on_these on d.0)) (yes-or-no (arguments_admit refs (on_these on) d.1)) (bad-or-fine on es)
    where
      go : (on_these on d.0 ≡ true) ⊎ (on_these on d.0 ≡ false)
          → (arguments_admit refs (on_these on) d.1 ≡ true) ⊎ (arguments_admit refs (on_these on) d.1 ≡ false)
          → Respects refs (on_these on) es ⊎ Bad on es → Respects refs (on_these on) (d ∷ es) ⊎ Bad on (d ∷ es)
      go x y (inr b) = inr (b.0, inr b.1, b.2, b.3)
      go x (inl a) (inl r) = inl (λ e. a, r)
      go (inl x) (inr a) (inl r) = inr (d, inl refl, x, a)
      go (inr x) (inr a) (inl r) = inl (λ e. absurd (true≢false (sym e ∙ x)), r)

  -- it is one of those that are left
  bad-on : (on : List N) (b : Bad on ds) → Stands b.0.0 on
  bad-on on b = go (stands-or-not names b.0.0 on)
    where
      there : stands names b.0.0 all ≡ true
      there = found names b.0.0 all (image (λ d. d.0) b.0 ds b.1)

      go : (stands names b.0.0 on ≡ true) ⊎ (stands names b.0.0 on ≡ false) → Stands b.0.0 on
      go (inl e) = was_found names b.0.0 on e
      go (inr e) = absurd (true≢false (sym b.2 ∙ (ap (λ c. cond c true (cond (stands names b.0.0 all) false (around b.0.0))) e ∙ ap (λ c. cond c false (around b.0.0)) there)))

  -- no set that respects equality has it
  bad-in-none : (on : List N) → Covers on → (b : Bad on ds) → (other : N → Bool) → AgreeOutside ds other around → Respects refs other ds → ¬ (other b.0.0 ≡ true)
  unfolding Covers
  bad-in-none on c b other o r e =
      true≢false (sym (arguments-more refs other (on_these on) (c other o r) b.0.1 (respects-at refs other b.0 ds r b.1 e)) ∙ b.3)

  still-covers : (on : List N) → Covers on → (b : Bad on ds) → Covers (without b.0.0 on)
  unfolding Covers
  still-covers on c b other o r n e = go (stands-or-not names n (without b.0.0 on)) (stands-or-not names n on)
    where
      x : N
      x = b.0.0

      rest : Bool
      rest = cond (stands names n all) false (around n)

      go : (stands names n (without x on) ≡ true) ⊎ (stands names n (without x on) ≡ false) → (stands names n on ≡ true) ⊎ (stands names n on ≡ false)
          → cond (stands names n (without x on)) true rest ≡ true
      go (inl s) k = ap (λ c. cond c true rest) s
      go (inr s) (inl k) =
          let differ : differs x n ≡ true = differs-other x n (λ same. bad-in-none on c b other o r (ap other (sym same) ∙ e)) in
          absurd (true≢false (sym (found names n (without x on) (kept (differs x) n on (was_found names n on k) differ)) ∙ s))
      go (inr s) (inr k) = ap (λ c. cond c true rest) (s ∙ sym k) ∙ c other o r n e

  still-inside : (on : List N) (n : N) → Inside on → Inside (without n on)
  unfolding Inside
  still-inside on n h m s = h m (was_kept (differs n) m on s).0

  search : (k : ℕ) (on : List N) → length on ≤ k → Inside on → Covers on → (eq : N → Bool) × IsLargest names around ds eq
  unfolding Covers
  search zero on few inside covers = elim (bad-or-fine on ds) [
    | inl fine ↦ (on_these on, record { outside = on-outside on inside; respects = fine; largest = covers })
    | inr b ↦ let s = shorter (differs b.0.0) b.0.0 on (bad-on on b) (differs-not b.0.0) in absurd (omega (arith, s, few))
  ]
  search (suc k) on few inside covers = elim (bad-or-fine on ds) [
    | inl fine ↦ (on_these on, record { outside = on-outside on inside; respects = fine; largest = covers })
    | inr b ↦
        let s = shorter (differs b.0.0) b.0.0 on (bad-on on b) (differs-not b.0.0) in
        search k (without b.0.0 on) (omega (arith, s, few)) (still-inside on b.0.0 inside) (still-covers on covers b)
  ]

  all-covers : Covers all
  unfolding Covers
  all-covers other o r n e = go (stands-or-not names n all)
    where
      rest : Bool
      rest = cond (stands names n all) false (around n)

      go : (stands names n all ≡ true) ⊎ (stands names n all ≡ false) → cond (stands names n all) true rest ≡ true
      go (inl s) = ap (λ c. cond c true rest) s
      go (inr s) =
          ap (λ c. cond c true (cond c false (around n))) s ∙ (sym (o n (λ t. true≢false (sym (found names n all t) ∙ s))) ∙ e)

  pub largest-there : (eq : N → Bool) × IsLargest names around ds eq
  unfolding Inside
  largest-there = search (length all) all (omega (arith)) (λ n s. s) all-covers

pub largest-is-one : {N : Type 0} (names : Naming N) → LargestIsOne names
largest-is-one names = record {
  there = λ around ds. largest-there names around ds;
  one = λ around ds f g h k n.
      same-truth (f n) (g n) (λ e. k.largest f h.outside h.respects n e) (λ e. h.largest g k.outside k.respects n e);
}
