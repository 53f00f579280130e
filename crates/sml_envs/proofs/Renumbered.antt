-- Where every name becomes a name, what environments become is what renaming gives.
use Rattle.std.proofs.Common.{◌≡◌, ℕ, Bool, false, nat_eq, slice_index_or, position, List, [], ◌∷◌, map, Option, Some, None, refl, ap, ◌∙◌}
use Rattle.std.specs.Option.{option_map}
use Rattle.sml_objects.specs.Maps.{Map}
use Rattle.sml_objects.specs.Fates.{type_or}
use Rattle.sml_objects.specs.Objects as O
use Rattle.sml_objects.specs.Types.{replace_type, replace_types}
use Rattle.sml_core_rules.specs.Objects as E
use Rattle.sml_type_maps.specs.Mapped.{all_mapped, bound_at, mapped}
use Rattle.sml_type_maps.specs.Orders.{AreOrdered, IsOrdered, all_bound_after, bound_after, ordered, scheme_by, schemes_by}
use Rattle.sml_envs.specs.Mapped.{AllIn, AllInStructures, AreOrderedIn, AreOrderedInAll, Each, HaveOrdered, IsOrderedValue, env_by, ty_str_by, value_by}

module _ {N : Type 0} (r : N → N) where
  -- the name that a name becomes, applied to types
  abbrev pub named_by : N → O.MlTypes N → O.MlType N
  named_by n ts = O.app (O.name (r n)) ts

  mutual
    unfolding mapped all_mapped O.rename_type O.rename_types

    type-named : (t : O.MlType N) → mapped O.bound O.free named_by t ≡ O.rename_type r t
    type-named (O.bound k) = refl
    type-named (O.free v) = refl
    type-named (O.app O.arrow ts) = ap (O.app O.arrow) (types-named ts)
    type-named (O.app (O.row ls) ts) = ap (O.app (O.row ls)) (types-named ts)
    type-named (O.app (O.name n) ts) = ap (O.app (O.name (r n))) (types-named ts)

    types-named : (ts : O.MlTypes N) → all_mapped O.bound O.free named_by ts ≡ O.rename_types r ts
    types-named O.no_type = refl
    types-named (O.and_type t ts) = λ i. O.and_type (type-named t i) (types-named ts i)

  -- renaming moves no variable

  mutual
    unfolding bound_after all_bound_after O.rename_type O.rename_types

    after-renaming : (seen : List ℕ) (t : O.MlType N) → bound_after seen (O.rename_type r t) ≡ bound_after seen t
    after-renaming seen (O.bound k) = refl
    after-renaming seen (O.free v) = refl
    after-renaming seen (O.app h ts) = all-after-renaming seen ts

    all-after-renaming : (seen : List ℕ) (ts : O.MlTypes N) → all_bound_after seen (O.rename_types r ts) ≡ all_bound_after seen ts
    all-after-renaming seen O.no_type = refl
    all-after-renaming seen (O.and_type t ts) =
        all-after-renaming (bound_after seen (O.rename_type r t)) ts ∙ ap (λ s. all_bound_after s ts) (after-renaming seen t)

  place-renamed : (ks : List ℕ) (k : ℕ) → bound_at ks k ≡ O.rename_type r (bound_at ks k)
  unfolding O.rename_type
  place-renamed ks k = go (position (nat_eq k) ks)
    where
      go : (o : Option ℕ) → type_or (O.bound k) (option_map (λ i. O.bound i) o) ≡ O.rename_type r (type_or (O.bound k) (option_map (λ i. O.bound i) o))
      go None = refl
      go (Some i) = refl

  mutual
    unfolding replace_type replace_types O.rename_type O.rename_types

    places-renamed : (ks : List ℕ) (t : O.MlType N) → replace_type (bound_at ks) O.free (O.rename_type r t) ≡ O.rename_type r (replace_type (bound_at ks) O.free t)
    places-renamed ks (O.bound k) = place-renamed ks k
    places-renamed ks (O.free v) = refl
    places-renamed ks (O.app h ts) = ap (O.app (O.rename_head r h)) (all-places-renamed ks ts)

    all-places-renamed : (ks : List ℕ) (ts : O.MlTypes N) → replace_types (bound_at ks) O.free (O.rename_types r ts) ≡ O.rename_types r (replace_types (bound_at ks) O.free ts)
    all-places-renamed ks O.no_type = refl
    all-places-renamed ks (O.and_type t ts) = λ i. O.and_type (places-renamed ks t i) (all-places-renamed ks ts i)

  ordered-renamed : (qs : List Bool) (t : O.MlType N) → ordered qs (O.rename_type r t) ≡ O.rename_scheme r (ordered qs t)
  unfolding O.rename_scheme
  ordered-renamed qs t = λ i. record {
    variables = map (λ k. slice_index_or qs k false) (after-renaming [] t i);
    body = (ap (λ ks. replace_type (bound_at ks) O.free (O.rename_type r t)) (after-renaming [] t) ∙ places-renamed (bound_after [] t) t) i;
  }

  scheme-named : (σ : O.Scheme N) → IsOrdered σ → scheme_by O.bound O.free named_by σ ≡ O.rename_scheme r σ
  scheme-named σ h = ap (ordered σ.variables) (type-named σ.body) ∙ ordered-renamed σ.variables σ.body ∙ ap (O.rename_scheme r) h

  schemes-named : (σs : Map (O.Scheme N)) → AreOrdered σs → schemes_by O.bound O.free named_by σs ≡ E.replaced (O.rename_scheme r) σs
  schemes-named [] h = refl
  schemes-named (e ∷ es) h = λ i. (e.0, scheme-named e.1 h.0 i) ∷ schemes-named es h.1 i

  ty-strs-named : (ts : Map (E.TyStr N)) → HaveOrdered ts → E.replaced (ty_str_by O.bound O.free named_by) ts ≡ E.replaced (E.rename_ty_str r) ts
  unfolding O.rename_scheme
  ty-strs-named [] h = refl
  ty-strs-named (e ∷ es) h = λ i.
      (e.0, record { function = record { variables = e.1.function.variables; body = type-named e.1.function.body i }; constructors = schemes-named e.1.constructors h.0 i })
      ∷ ty-strs-named es h.1 i

  values-named : (vs : Map (E.Value N)) → Each IsOrderedValue vs → E.replaced (value_by O.bound O.free named_by) vs ≡ E.replaced (E.rename_value r) vs
  values-named [] h = refl
  values-named (e ∷ es) h = λ i. (e.0, record { scheme = scheme-named e.1.scheme h.0 i; status = e.1.status }) ∷ values-named es h.1 i

  mutual
    unfolding E.replace E.replace_structures AllIn AllInStructures

    pub env-named : (F : E.Env N) → AreOrderedIn F → env_by O.bound O.free named_by F ≡ E.rename_env r F
    env-named (E.maps ss ts vs) h = λ i. E.maps (structures-named ss h.0 i) (ty-strs-named ts h.1.0 i) (values-named vs h.1.1 i)

    structures-named : (ss : E.Structures (E.TyStr N) (E.Value N)) → AreOrderedInAll ss
        → E.replace_structures (ty_str_by O.bound O.free named_by) (value_by O.bound O.free named_by) ss ≡ E.replace_structures (E.rename_ty_str r) (E.rename_value r) ss
    structures-named E.no_structure h = refl
    structures-named (E.and_structure s F ss) h = λ i. E.and_structure s (env-named F h.0 i) (structures-named ss h.1 i)
