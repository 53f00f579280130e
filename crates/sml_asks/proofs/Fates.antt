-- A type that stands for another has a scheme, as far as sizes tell: each unknown in it has a fate, though none need be known.
use Rattle.std.proofs.Common.{◌≡◌, ◌⊎◌, ◌<◌, ◌≤◌, ℕ, zero, suc, Bool, true, false, List, [], map, slice_index_or, inl, inr, sym, ◌∙◌, subst, refl, arith}
use Rattle.std.proofs.lemmas.Bool.{cases_order}
use Rattle.sml_objects.specs.Fates.{close_as}
use Rattle.sml_objects.specs.Initial.{Name, initial}
use Rattle.sml_objects.specs.Names.{int}
use Rattle.sml_objects.specs.Objects.{MlType, Scheme, named}
use Rattle.sml_objects.specs.Sizes.{type_size}
use Rattle.sml_objects.specs.Types.{variables_after}
use Rattle.sml_objects.specs.declared.fates.Fate.{Fate}
use Rattle.sml_objects.specs.declared.fates.Fate.TheVariants.{Bind, Keep, Default}
use Rattle.sml_graph.specs.Asked.{Asked, count}
use Rattle.sml_core_rules.proofs.Schemes.{closed-size, named-size}
use Rattle.sml_schemes.specs.Left.{IsFlexible, IsReading}
use Rattle.sml_schemes.specs.Fixed.{IsMarked}
use Rattle.sml_schemes.specs.Schemes.{AsksEquality, IsFateOf, IsInt, IsScheme}

-- fates

either-way : (A : Type 0) → ((A ⊎ (A → ⊥)) → ⊥) → ⊥
either-way A f = f (inr (λ a. f (inl a)))

module _ (s : Asked) (flags : List Bool) (x : Bool) where
  fate-kept : (v : ℕ) → (IsInt s v → ⊥) → (x ≡ true) ⊎ IsMarked flags v ⊎ IsFlexible s v → (f : Fate) × IsFateOf s flags x v f
  fate-kept v i k = (Keep, (i, k))

  one-fate : (v : ℕ) → ((f : Fate) × IsFateOf s flags x v f → ⊥) → ⊥
  one-fate v no-fate =
      either-way (IsInt s v) (λ i. either-way (IsFlexible s v) (λ f. either-way (AsksEquality s v) (λ a. no-fate (go i f a x refl (slice_index_or flags v false) refl))))
    where
      go : IsInt s v ⊎ (IsInt s v → ⊥) → IsFlexible s v ⊎ (IsFlexible s v → ⊥) → AsksEquality s v ⊎ (AsksEquality s v → ⊥) → (b : Bool) → x ≡ b
          → (m : Bool) → slice_index_or flags v false ≡ m → (f : Fate) × IsFateOf s flags x v f
      go (inl i) f a b e m q = (Default, i)
      go (inr i) f a true e m q = fate-kept v i (inl e)
      go (inr i) f a false e true q = fate-kept v i (inr (inl q))
      go (inr i) (inl f) a false e false q = fate-kept v i (inr (inr f))
      go (inr i) (inr f) (inl a) false e false q = (Bind true, (i, e, (λ m. let k : false ≡ true = sym q ∙ m in cc), f, ((λ k. a), λ k. refl)))
      go (inr i) (inr f) (inr a) false e false q = (Bind false, (i, e, (λ m. let k : false ≡ true = sym q ∙ m in cc), f, ((λ k. let l : false ≡ true = k in cc), λ k. absurd (a k))))

  abbrev HaveFates : ℕ → (ℕ → Fate) → Type 0
  HaveFates n fate = (v : ℕ) → v < n → IsFateOf s flags x v (fate v)

  with_fate : ℕ → Fate → (ℕ → Fate) → ℕ → Fate
  with_fate zero f fate zero = f
  with_fate zero f fate (suc v) = fate (suc v)
  with_fate (suc n) f fate zero = fate zero
  with_fate (suc n) f fate (suc v) = with_fate n f (λ w. fate (suc w)) v

  same-fate : (n : ℕ) (f : Fate) (fate : ℕ → Fate) → with_fate n f fate n ≡ f
  unfolding with_fate
  same-fate zero f fate = refl
  same-fate (suc n) f fate = same-fate n f (λ w. fate (suc w))

  other-fate : (n : ℕ) (f : Fate) (fate : ℕ → Fate) (v : ℕ) → v < n → with_fate n f fate v ≡ fate v
  unfolding with_fate
  other-fate zero f fate v k = absurd (omega (arith, k))
  other-fate (suc n) f fate zero k = refl
  other-fate (suc n) f fate (suc v) k = other-fate n f (λ w. fate (suc w)) v (omega (arith, k))

  all-fates : (n : ℕ) → ((fate : ℕ → Fate) × HaveFates n fate → ⊥) → ⊥
  all-fates zero no-fates = no-fates ((λ v. Keep), λ v k. absurd (omega (arith, k)))
  all-fates (suc n) no-fates = all-fates n (λ (fate, have). one-fate n (λ (f, is). no-fates (with_fate n f fate, λ v k. at fate have f is v k (cases_order v n))))
    where
      at : (fate : ℕ → Fate) → HaveFates n fate → (f : Fate) → IsFateOf s flags x n f → (v : ℕ) → v < suc n → (v ≡ n) ⊎ ((v < n) ⊎ (n < v)) → IsFateOf s flags x v (with_fate n f fate v)
      at fate have f is v k (inl e) = subst (λ w. IsFateOf s flags x w (with_fate n f fate w)) (sym e) (subst (IsFateOf s flags x n) (sym (same-fate n f fate)) is)
      at fate have f is v k (inr (inl l)) = subst (IsFateOf s flags x v) (sym (other-fate n f fate v l)) (have v l)
      at fate have f is v k (inr (inr l)) = absurd (omega (arith, k, l))

  -- where all schemes of a type are larger than a limit, so are all that it stands for
  pub readings-large : (t : MlType Name) (limit : ℕ) → ((θ : Scheme Name) → IsScheme s flags x t θ → limit < type_size θ.body) → (r : MlType Name) → IsReading s t r → limit < type_size r
  readings-large t limit large r reads = go (cases_order limit (type_size r))
    where
      never : type_size r ≤ limit → ⊥
      never le = all-fates (count s) (λ (fate, have).
          let fs : List Fate = map fate (variables_after [] r) in
          let above : limit < type_size (close_as (named (initial int)) fs r).body = large (close_as (named (initial int)) fs r) (record {
            reading = r;
            reads = reads;
            closed = record { fate = fate; fates = λ v left. have v left.known; scheme = refl };
          }) in
          omega (arith, le, above, closed-size (named (initial int)) (named-size (initial int)) fs r))

      go : (limit ≡ type_size r) ⊎ ((limit < type_size r) ⊎ (type_size r < limit)) → limit < type_size r
      go (inl e) = absurd (never (omega (arith, e)))
      go (inr (inl l)) = l
      go (inr (inr l)) = absurd (never (omega (arith, l)))
