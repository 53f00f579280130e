-- A list without repeats whose names all stand in another one is no longer than that.
use Rattle.std.proofs.Common.{◌≡◌, ◌≤◌, ◌⊎◌, suc, List, [], ◌∷◌, length, inl, inr, refl, ap, sym, subst, ◌∙◌, arith}
use Rattle.sml_objects.specs.Names.{Naming}
use Rattle.sml_objects.specs.Appearance.{Stands}
use Rattle.sml_objects.proofs.Standing.{NoRepeats}

module _ {N : Type 0} (names : Naming N) where
  -- the list without the first n
  without : N → List N → List N
  without n [] = []
  without n (m ∷ ms) = elim (names.same n m) [ yes _ ↦ ms | no _ ↦ m ∷ without n ms ]

  longer : (n : N) (ms : List N) → Stands n ms → length ms ≡ suc (length (without n ms))
  unfolding Stands without
  longer n [] h = absurd h
  longer n (m ∷ ms) h = go (names.same n m) (longer n ms) h
    where
      go : (d : Dec (n ≡ m)) → (Stands n ms → length ms ≡ suc (length (without n ms))) → (n ≡ m) ⊎ Stands n ms
          → suc (length ms) ≡ suc (length {A = N} (elim d [ yes _ ↦ ms | no _ ↦ m ∷ without n ms ]))
      go (yes e) next h = refl
      go (no f) next (inl e) = absurd (f e)
      go (no f) next (inr s) = ap suc (next s)

  still : (k n : N) (ms : List N) → Stands k ms → ¬ (k ≡ n) → Stands k (without n ms)
  unfolding Stands without
  still k n [] h other = absurd h
  still k n (m ∷ ms) h other = go (names.same n m) (λ s. still k n ms s other) h
    where
      go : (d : Dec (n ≡ m)) → (Stands k ms → Stands k (without n ms)) → (k ≡ m) ⊎ Stands k ms
          → Stands k (elim d [ yes _ ↦ ms | no _ ↦ m ∷ without n ms ])
      go (yes e) next (inl f) = absurd (other (f ∙ sym e))
      go (yes e) next (inr s) = s
      go (no f) next (inl e) = inl e
      go (no f) next (inr s) = inr (next s)

  pub no_longer : (ns ms : List N) → NoRepeats ns → ((n : N) → Stands n ns → Stands n ms) → length ns ≤ length ms
  unfolding NoRepeats Stands
  no_longer [] ms h k = omega arith
  no_longer (n ∷ ns) ms h k =
      let rest = no_longer ns (without n ms) h.1 (λ j s. still j n ms (k j (inr s)) (λ e. h.0 (subst (λ j. Stands j ns) e s))) in
      let more = longer n ms (k n (inl refl)) in
      omega (arith, rest, more)
