-- The schemes of well-formed environments have their variables in order.
use Rattle.std.proofs.Common.{◌≡◌, ◌<◌, ◌+◌, ℕ, zero, suc, false, List, [], ◌∷◌, length, Some, slice_get, slice_index_or, refl, ap, sym, ◌∙◌, arith}
use Rattle.std.proofs.lemmas.List.FromFn.{fill_by_all, length-range_with_len}
use Rattle.std.specs.List.{range_with_len}
use Rattle.sml_objects.specs.Initial.{Name}
use Rattle.sml_objects.specs.Maps.{Map}
use Rattle.sml_objects.specs.Names.{Naming}
use Rattle.sml_objects.specs.Objects as O
use Rattle.sml_core_rules.specs.Objects.{Env, Structures, TyStr, Value, maps, no_structure, and_structure}
use Rattle.sml_module_rules.specs.WellFormed.{AreEnvsOver, HoldsOfAll, IsEnvOver, IsSchemeOver, IsTypeStructureOver, IsValueOver}
use Rattle.sml_type_maps.specs.Mapped.{bound_at}
use Rattle.sml_type_maps.specs.Orders.{AreOrdered, IsOrdered, bound_after}
use Rattle.sml_type_maps.proofs.Orders.{at-own, ordered-as, own-places, variables-stay}
use Rattle.sml_envs.specs.Mapped.{AllInStructures, AllIn, AreOrderedIn, AreOrderedInAll, Each, HaveOrdered, IsOrderedValue}
use Rattle.sml_match.proofs.Realised.{closed-known, known-closed, variables-opened}

range-at : (a n j : ℕ) → j < n → slice_get (range_with_len a n) j ≡ Some (a + j)
range-at a zero j h = absurd (omega arith)
range-at a (suc n) zero h = let e : a ≡ a + 0 = omega arith in ap (λ i. Some i) e
range-at a (suc n) (suc j) h =
    let e : (a + 1) + j ≡ a + suc j = omega arith in
    range-at (a + 1) n j (omega arith) ∙ ap (λ i. Some i) e

module _ (names : Naming Name) (T : List Name) where
  scheme-ordered : (σ : O.Scheme Name) → IsSchemeOver names T σ → IsOrdered σ
  scheme-ordered σ h =
      let ks : List ℕ = range_with_len 0 (length σ.variables) in
      let closed = known-closed σ.body (closed-known σ.body h.closed) in
      let appear : ks ≡ bound_after [] σ.body = sym h.numbered ∙ variables-opened [] σ.body closed in
      let places : (j : ℕ) → j < length ks → slice_get ks j ≡ Some j =
      λ j l. range-at 0 (length σ.variables) j (omega (arith, l, length-range_with_len 0 (length σ.variables))) ∙ (let e : 0 + j ≡ j = omega arith in ap (λ i. Some i) e) in
      sym (ordered-as σ.variables σ.body σ.variables σ.body ks appear
      (fill_by_all (λ k. slice_index_or σ.variables k false) σ.variables (length σ.variables) false refl (λ k l. refl))
      (sym (variables-stay (bound_at ks) (at-own ks (own-places ks places)) σ.body)))

  schemes-ordered : (es : Map (O.Scheme Name)) → HoldsOfAll (IsSchemeOver names T) es → AreOrdered es
  schemes-ordered [] h = tt
  schemes-ordered (e ∷ es) h = (scheme-ordered e.1 h.0, schemes-ordered es h.1)

  types-ordered : (ts : Map (TyStr Name)) → HoldsOfAll (IsTypeStructureOver names T) ts → HaveOrdered ts
  types-ordered [] h = tt
  types-ordered (t ∷ ts) h = (schemes-ordered t.1.constructors h.0.schemes, types-ordered ts h.1)

  values-ordered : (vs : Map (Value Name)) → HoldsOfAll (IsValueOver names T) vs → Each IsOrderedValue vs
  values-ordered [] h = tt
  values-ordered (v ∷ vs) h = (scheme-ordered v.1.scheme h.0.scheme, values-ordered vs h.1)

  mutual
    unfolding IsEnvOver AreEnvsOver AllIn AllInStructures

    pub over-ordered : (E : Env Name) → IsEnvOver names T E → AreOrderedIn E
    over-ordered (maps ss ts vs) h = (structures-ordered ss h.1, (types-ordered ts h.3, values-ordered vs h.5))

    structures-ordered : (ss : Structures (TyStr Name) (Value Name)) → AreEnvsOver names T ss → AreOrderedInAll ss
    structures-ordered no_structure h = tt
    structures-ordered (and_structure s E ss) h = (over-ordered E h.0, structures-ordered ss h.1)
