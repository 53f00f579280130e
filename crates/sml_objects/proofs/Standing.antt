-- Which names stand in lists.
use Rattle.std.proofs.Common.{◌≡◌, ◌⊎◌, ℕ, suc, Bool, true, false, cond, List, [], ◌∷◌, ◌++◌, map, filter, refl, ap, sym, subst, ◌∙◌, inl, inr}
use Rattle.std.proofs.lemmas.List.{map-append}
use Rattle.sml_objects.specs.Names.{Naming}
use Rattle.sml_objects.specs.Appearance.{Stands, stands, firsts_after}
use Rattle.sml_objects.specs.Canonical.{index_of}

-- lists

pub left : {N : Type 0} (n : N) (ms ns : List N) → Stands n ms → Stands n (ms ++ ns)
unfolding Stands
left n [] ns h = absurd h
left n (m ∷ ms) ns (inl e) = inl e
left n (m ∷ ms) ns (inr h) = inr (left n ms ns h)

pub right : {N : Type 0} (n : N) (ms ns : List N) → Stands n ns → Stands n (ms ++ ns)
unfolding Stands
right n [] ns h = h
right n (m ∷ ms) ns h = inr (right n ms ns h)

pub either : {N : Type 0} (n : N) (ms ns : List N) → Stands n (ms ++ ns) → Stands n ms ⊎ Stands n ns
unfolding Stands
either n [] ns h = inr h
either n (m ∷ ms) ns (inl e) = inl (inl e)
either n (m ∷ ms) ns (inr h) = go (either n ms ns h)
  where
    go : Stands n ms ⊎ Stands n ns → ((n ≡ m) ⊎ Stands n ms) ⊎ Stands n ns
    go (inl k) = inl (inr k)
    go (inr k) = inr k

pub image : {M N : Type 0} (f : M → N) (n : M) (ns : List M) → Stands n ns → Stands (f n) (map f ns)
unfolding Stands
image f n [] h = absurd h
image f n (m ∷ ns) (inl e) = inl (ap f e)
image f n (m ∷ ns) (inr h) = inr (image f n ns h)

pub kept : {N : Type 0} (p : N → Bool) (n : N) (ns : List N) → Stands n ns → p n ≡ true → Stands n (filter p ns)
unfolding Stands
kept p n [] h k = absurd h
kept p n (m ∷ ns) (inl e) k = subst (λ b. Stands n (cond b (m ∷ filter p ns) (filter p ns))) (sym (ap p (sym e) ∙ k)) (inl e)
kept p n (m ∷ ns) (inr h) k =
    elim (p m) as (λ b. Stands n (cond b (m ∷ filter p ns) (filter p ns))) [ true ↦ inr (kept p n ns h k) | false ↦ kept p n ns h k ]

pub was_kept : {N : Type 0} (p : N → Bool) (n : N) (ns : List N) → Stands n (filter p ns) → Stands n ns × (p n ≡ true)
unfolding Stands
was_kept p n [] h = absurd h
was_kept {N} p n (m ∷ ns) h = go (p m) refl (was_kept p n ns) h
  where
    go : (b : Bool) → p m ≡ b → (Stands n (filter p ns) → Stands n ns × (p n ≡ true))
        → Stands n (cond b (m ∷ filter p ns) (filter p ns)) → Stands n (m ∷ ns) × (p n ≡ true)
    go true e next (inl k) = (inl k, ap p k ∙ e)
    go true e next (inr k) = let r : Stands n ns × (p n ≡ true) = next k in (inr r.0, r.1)
    go false e next k = let r : Stands n ns × (p n ≡ true) = next k in (inr r.0, r.1)

unfoldable pub NoRepeats : {N : Type 0} → List N → Type 0
NoRepeats [] = Unit {0}
NoRepeats (n ∷ ns) = (¬ (Stands n ns)) × NoRepeats ns

repeats-push : {N : Type 0} (ns : List N) (n : N) → NoRepeats ns → ¬ (Stands n ns) → NoRepeats (ns ++ (n ∷ []))
unfolding NoRepeats Stands
repeats-push [] n h k = (λ e. e, tt)
repeats-push (m ∷ ns) n h k =
    (λ s. go (either m ns (n ∷ []) s), repeats-push ns n h.1 (λ s. k (inr s)))
  where
    go : Stands m ns ⊎ Stands m (n ∷ []) → ⊥
    go (inl s) = h.0 s
    go (inr (inl e)) = k (inl (sym e))
    go (inr (inr s)) = s

pub repeats-filter : {N : Type 0} (p : N → Bool) (ns : List N) → NoRepeats ns → NoRepeats (filter p ns)
unfolding NoRepeats
repeats-filter p [] h = tt
repeats-filter p (n ∷ ns) h =
    elim (p n) as (λ b. NoRepeats (cond b (n ∷ filter p ns) (filter p ns))) [
      | true ↦ (λ s. h.0 (was_kept p n ns s).0, repeats-filter p ns h.1)
      | false ↦ repeats-filter p ns h.1
    ]

module _ {N : Type 0} (names : Naming N) where
  pub found : (n : N) (ns : List N) → Stands n ns → stands names n ns ≡ true
  unfolding Stands stands
  found n [] h = absurd h
  found n (m ∷ ns) h = go (names.same n m) (found n ns) h
    where
      go : (d : Dec (n ≡ m)) → (Stands n ns → stands names n ns ≡ true) → (n ≡ m) ⊎ Stands n ns
          → (elim d [ yes _ ↦ true | no _ ↦ stands names n ns ]) ≡ true
      go (yes e) next k = refl
      go (no f) next (inl e) = absurd (f e)
      go (no f) next (inr k) = next k

  pub was_found : (n : N) (ns : List N) → stands names n ns ≡ true → Stands n ns
  unfolding Stands stands
  was_found n [] h = cc
  was_found n (m ∷ ns) h = go (names.same n m) (was_found n ns) h
    where
      go : (d : Dec (n ≡ m)) → (stands names n ns ≡ true → Stands n ns) → (elim d [ yes _ ↦ true | no _ ↦ stands names n ns ]) ≡ true
          → (n ≡ m) ⊎ Stands n ns
      go (yes e) next k = inl e
      go (no f) next k = inr (next k)

  pub stands-or-not : (n : N) (ns : List N) → (stands names n ns ≡ true) ⊎ (stands names n ns ≡ false)
  stands-or-not n ns = elim (stands names n ns) as (λ b. (b ≡ true) ⊎ (b ≡ false)) [ true ↦ inl refl | false ↦ inr refl ]

  not-found : (n : N) (ns : List N) → stands names n ns ≡ false → ¬ (Stands n ns)
  not-found n ns e h = absurd {A = ⊥} (different (sym (found n ns h) ∙ e))
    where
      different : true ≡ false → ⊥
      different k = cc

  -- the first appearances

  pub firsts-seen : (n : N) (seen ns : List N) → Stands n seen → Stands n (firsts_after names seen ns)
  unfolding firsts_after
  firsts-seen n seen [] h = h
  firsts-seen n seen (m ∷ ns) h =
      firsts-seen n (cond (stands names m seen) seen (seen ++ m ∷ [])) ns
      (elim (stands names m seen) as (λ b. Stands n (cond b seen (seen ++ m ∷ []))) [ true ↦ h | false ↦ left n seen (m ∷ []) h ])

  pub firsts-all : (n : N) (seen ns : List N) → Stands n ns → Stands n (firsts_after names seen ns)
  unfolding firsts_after Stands
  firsts-all n seen [] h = absurd h
  firsts-all n seen (m ∷ ns) (inr h) = firsts-all n (cond (stands names m seen) seen (seen ++ m ∷ [])) ns h
  firsts-all n seen (m ∷ ns) (inl e) =
      firsts-seen n (cond (stands names m seen) seen (seen ++ m ∷ [])) ns (go (stands names m seen) refl)
    where
      go : (b : Bool) → stands names m seen ≡ b → Stands n (cond b seen (seen ++ m ∷ []))
      go true k = subst (λ j. Stands j seen) (sym e) (was_found m seen k)
      go false k = right n seen (m ∷ []) (inl e)

  pub firsts-only : (n : N) (seen ns : List N) → Stands n (firsts_after names seen ns) → Stands n seen ⊎ Stands n ns
  unfolding firsts_after Stands
  firsts-only n seen [] h = inl h
  firsts-only n seen (m ∷ ns) h =
      go (stands names m seen) (firsts-only n (cond (stands names m seen) seen (seen ++ m ∷ [])) ns h)
    where
      go : (b : Bool) → Stands n (cond b seen (seen ++ m ∷ [])) ⊎ Stands n ns → Stands n seen ⊎ Stands n (m ∷ ns)
      go b (inr k) = inr (inr k)
      go true (inl k) = inl k
      go false (inl k) = last (either n seen (m ∷ []) k)
        where
          last : Stands n seen ⊎ Stands n (m ∷ []) → Stands n seen ⊎ Stands n (m ∷ ns)
          last (inl s) = inl s
          last (inr (inl e)) = inr (inl e)
          last (inr (inr s)) = absurd s

  pub repeats-firsts : (seen ns : List N) → NoRepeats seen → NoRepeats (firsts_after names seen ns)
  unfolding firsts_after
  repeats-firsts seen [] h = h
  repeats-firsts seen (m ∷ ns) h = repeats-firsts (cond (stands names m seen) seen (seen ++ m ∷ [])) ns (go (stands names m seen) refl)
    where
      go : (b : Bool) → stands names m seen ≡ b → NoRepeats (cond b seen (seen ++ m ∷ []))
      go true k = h
      go false k = repeats-push seen m h (not-found m seen k)

  -- through a map that takes different names to different names
  module _ (f : N → N) (one : (m n : N) → f m ≡ f n → m ≡ n) where
    pub stands-map : (n : N) (ns : List N) → stands names (f n) (map f ns) ≡ stands names n ns
    unfolding stands
    stands-map n [] = refl
    stands-map n (m ∷ ns) = go (names.same (f n) (f m)) (names.same n m) (stands-map n ns)
      where
        go : (d : Dec (f n ≡ f m)) (e : Dec (n ≡ m)) → stands names (f n) (map f ns) ≡ stands names n ns
            → ◌≡◌ {A = Bool} (elim d [ yes _ ↦ true | no _ ↦ stands names (f n) (map f ns) ]) (elim e [ yes _ ↦ true | no _ ↦ stands names n ns ])
        go (yes d) (yes e) next = refl
        go (yes d) (no e) next = absurd (e (one n m d))
        go (no d) (yes e) next = absurd (d (ap f e))
        go (no d) (no e) next = next

    pub place-map : (n : N) (ns : List N) → index_of names (f n) (map f ns) ≡ index_of names n ns
    unfolding index_of
    place-map n [] = refl
    place-map n (m ∷ ns) = go (names.same (f n) (f m)) (names.same n m) (place-map n ns)
      where
        go : (d : Dec (f n ≡ f m)) (e : Dec (n ≡ m)) → index_of names (f n) (map f ns) ≡ index_of names n ns
            → ◌≡◌ {A = ℕ} (elim d [ yes _ ↦ 0 | no _ ↦ suc (index_of names (f n) (map f ns)) ]) (elim e [ yes _ ↦ 0 | no _ ↦ suc (index_of names n ns) ])
        go (yes d) (yes e) next = refl
        go (yes d) (no e) next = absurd (e (one n m d))
        go (no d) (yes e) next = absurd (d (ap f e))
        go (no d) (no e) next = ap suc next

    pub firsts-map : (seen ns : List N) → firsts_after names (map f seen) (map f ns) ≡ map f (firsts_after names seen ns)
    unfolding firsts_after
    firsts-map seen [] = refl
    firsts-map seen (n ∷ ns) =
        ap (λ s. firsts_after names s (map f ns))
        (ap (λ b. cond b (map f seen) (map f seen ++ (f n ∷ []))) (stands-map n seen) ∙ pushed (stands names n seen))
        ∙ firsts-map (cond (stands names n seen) seen (seen ++ n ∷ [])) ns
      where
        pushed : (b : Bool) → cond b (map f seen) (map f seen ++ (f n ∷ [])) ≡ map f (cond b seen (seen ++ n ∷ []))
        pushed true = refl
        pushed false = sym (map-append f seen (n ∷ []))

pub filter-map : {N : Type 0} (p : N → Bool) (f : N → N) (ns : List N) → ((n : N) → Stands n ns → p (f n) ≡ p n) → filter p (map f ns) ≡ map f (filter p ns)
unfolding Stands
filter-map p f [] h = refl
filter-map p f (n ∷ ns) h =
    ap (λ b. cond b (f n ∷ filter p (map f ns)) (filter p (map f ns))) (h n (inl refl))
    ∙ (elim (p n) as (λ b. cond b (f n ∷ filter p (map f ns)) (filter p (map f ns)) ≡ map f (cond b (n ∷ filter p ns) (filter p ns))) [
      | true ↦ ap (λ l. f n ∷ l) (filter-map p f ns (λ m s. h m (inr s)))
      | false ↦ filter-map p f ns (λ m s. h m (inr s))
    ])
