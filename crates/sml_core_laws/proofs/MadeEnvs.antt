-- Environments that speak of what was made, and what is found in them.
use Rattle.std.specs.Prelude.{◌≡◌, ◌≤◌, ℕ, List, [], ◌∷◌, ◌++◌, Option, Some, None}
use Rattle.std.proofs.Common.{arith}
use Rattle.std.specs.declared.cmp.Ordering.{Ordering}
use Rattle.std.specs.declared.cmp.Ordering.TheVariants.{Less, Equal, Greater}
use mathlib.Core.Path.{refl, subst}
use Rattle.sml_tree.specs.Trees.{Id, LongId}
use Rattle.sml_objects.specs.Appearance.{Stands}
use Rattle.sml_objects.specs.Maps.{Map, lookup, by_order, order_of}
use Rattle.sml_objects.specs.Objects.{MlType, Head, Scheme}
use Rattle.sml_rules.specs.Lookups.{found, no_path, no_entry, entry}
use Rattle.sml_core_rules.specs.Lookups.{found_in, find_at, value_at, type_at, structure_at}
use Rattle.sml_core_rules.specs.Objects.{Env, Structures, Value, TyStr, maps, no_structure, and_structure, structures, types, values, find_structure, put_structure, join_structures, extend, of_types, of_values, empty}
use Rattle.sml_core_laws.specs.Made.{IsTypeIn, IsSchemeIn, IsClosedIn, IsTyStrIn, IsValueIn, IsEnvIn, AreStructuresIn}
use Rattle.sml_core_laws.proofs.MadeShapes.{heads-more}
use Rattle.sml_core_laws.proofs.MadeTypes.{speaks-more, all-more, Each, each-lookup, each-join}

-- where more was made
module _ {N : Type 0} (S : Head N → ℕ → Type 0) (made : ℕ) (names : List N) (more : ℕ) (others : List N) (le : made ≤ more) (ns : (n : N) → Stands n names → Stands n others) where
  pub type-more : (t : MlType N) → IsTypeIn S made names t → IsTypeIn S more others t
  type-more t h = speaks-more _ _ _ _ _ _ t h (λ k b. b) (λ v l. omega arith) (heads-more S names others ns)

  pub scheme-more : (σ : Scheme N) → IsSchemeIn S made names σ → IsSchemeIn S more others σ
  scheme-more σ h = speaks-more _ _ _ _ _ _ σ.body h (λ k b. b) (λ v l. omega arith) (heads-more S names others ns)

  closed-more : (σ : Scheme N) → IsClosedIn S names σ → IsClosedIn S others σ
  closed-more σ h = speaks-more _ _ _ _ _ _ σ.body h (λ k b. b) (λ v l. l) (heads-more S names others ns)

  pub str-more : (t : TyStr N) → IsTyStrIn S names t → IsTyStrIn S others t
  str-more t h = (closed-more t.function h.0, all-more (λ c. IsClosedIn S names c.1) (λ c. IsClosedIn S others c.1) (λ c k. closed-more c.1 k) t.constructors h.1)

  mutual
    unfolding IsEnvIn

    pub env-more : (E : Env N) → IsEnvIn S made names E → IsEnvIn S more others E
    env-more (maps ss ts vs) h = (
      structures-more ss h.0,
      all-more (λ t. IsTyStrIn S names t.1) (λ t. IsTyStrIn S others t.1) (λ t k. str-more t.1 k) ts h.1,
      all-more (λ v. IsValueIn S made names v.1) (λ v. IsValueIn S more others v.1) (λ v k. (scheme-more v.1.scheme k.0, k.1)) vs h.2,
    )

    structures-more : (ss : Structures (TyStr N) (Value N)) → AreStructuresIn S made names ss → AreStructuresIn S more others ss
    structures-more no_structure h = tt
    structures-more (and_structure s E ss) h = (env-more E h.0, structures-more ss h.1)

-- schemes of constructors are among those of values
pub closed-scheme : {N : Type 0} (S : Head N → ℕ → Type 0) (made : ℕ) (names : List N) (σ : Scheme N) → IsClosedIn S names σ → IsSchemeIn S made names σ
closed-scheme S made names σ h = speaks-more _ _ _ _ _ _ σ.body h (λ k b. b) (λ v l. absurd l) (λ h k q. q)

module _ {N : Type 0} (S : Head N → ℕ → Type 0) (made : ℕ) (names : List N) where
  -- joining

  structure-put : (s : Id) (E : Env N) (ss : Structures (TyStr N) (Value N)) → IsEnvIn S made names E → AreStructuresIn S made names ss → AreStructuresIn S made names (put_structure s E ss)
  unfolding IsEnvIn
  structure-put s E no_structure e h = (e, tt)
  structure-put s E (and_structure r F ss) e h = go (order_of s r) (structure-put s E ss e h.1)
    where
      go : (o : Ordering) → AreStructuresIn S made names (put_structure s E ss)
          → AreStructuresIn S made names (by_order o (and_structure s E (and_structure r F ss)) (and_structure r E ss) (and_structure r F (put_structure s E ss)))
      go Less k = (e, h)
      go Equal k = (e, h.1)
      go Greater k = (h.0, k)

  structures-join : (ss rs : Structures (TyStr N) (Value N)) → AreStructuresIn S made names ss → AreStructuresIn S made names rs → AreStructuresIn S made names (join_structures ss rs)
  unfolding IsEnvIn
  structures-join ss no_structure h k = h
  structures-join ss (and_structure r E rs) h k = structures-join (put_structure r E ss) rs (structure-put r E ss k.0 h) k.1

  pub extend-in : (E F : Env N) → IsEnvIn S made names E → IsEnvIn S made names F → IsEnvIn S made names (extend E F)
  unfolding IsEnvIn
  extend-in (maps ss ts vs) (maps rs us ws) h k = (structures-join ss rs h.0 k.0, each-join (IsTyStrIn S names) ts us h.1 k.1, each-join (IsValueIn S made names) vs ws h.2 k.2)

  pub empty-in : IsEnvIn S made names empty
  unfolding IsEnvIn
  empty-in = (tt, tt, tt)

  pub types-in : (ts : Map (TyStr N)) → Each (IsTyStrIn S names) ts → IsEnvIn S made names (of_types ts)
  unfolding IsEnvIn
  types-in ts h = (tt, h, tt)

  pub values-in : (vs : Map (Value N)) → Each (IsValueIn S made names) vs → IsEnvIn S made names (of_values vs)
  unfolding IsEnvIn
  values-in vs h = (tt, tt, h)

  pub own-values : (E : Env N) → IsEnvIn S made names E → Each (IsValueIn S made names) (values E)
  unfolding IsEnvIn
  own-values (maps ss ts vs) h = h.2

  -- finding

  structure-found : (s : Id) (ss : Structures (TyStr N) (Value N)) (E : Env N) → AreStructuresIn S made names ss → find_structure s ss ≡ Some E → IsEnvIn S made names E
  unfolding IsEnvIn
  structure-found s no_structure E h e = let f : None ≡ Some E = e in absurd cc
  structure-found s (and_structure r D ss) E h e = go (order_of s r) e (λ e. structure-found s ss E h.1 e)
    where
      go : (o : Ordering) → by_order o (find_structure s ss) (Some D) (find_structure s ss) ≡ Some E → (find_structure s ss ≡ Some E → IsEnvIn S made names E) → IsEnvIn S made names E
      go Less e k = k e
      go Equal e k = let f : Some D ≡ Some E = e in let g : D ≡ E = cc in subst (IsEnvIn S made names) g h.0
      go Greater e k = k e

  own-structures : (E : Env N) → IsEnvIn S made names E → AreStructuresIn S made names (structures E)
  unfolding IsEnvIn
  own-structures (maps ss ts vs) h = h.0

  module _ {X : Type 0} (pick : Env N → Option X) (F : X → Type 0) (picked : (E : Env N) (x : X) → IsEnvIn S made names E → pick E ≡ Some x → F x) where
    found-in : (path seen : List Id) (E : Env N) (x : X) → IsEnvIn S made names E → find_at pick seen path E ≡ found x → F x
    unfolding find_at
    found-in [] seen E x h e = go (pick E) (λ y f. picked E y h f) e
      where
        go : (o : Option X) → ((y : X) → o ≡ Some y → F y) → entry o ≡ found x → F x
        go None k e = let f : no_entry ≡ found x = e in absurd cc
        go (Some y) k e = let f : found y ≡ found x = e in let g : y ≡ x = cc in subst F g (k y refl)
    found-in (s ∷ path) seen E x h e =
        go (find_structure s (structures E)) (λ D f. structure-found s (structures E) D (own-structures E h) f) (λ D d e. found-in path (seen ++ s ∷ []) D x d e) e
      where
        go : (o : Option (Env N)) → ((D : Env N) → o ≡ Some D → IsEnvIn S made names D) → ((D : Env N) → IsEnvIn S made names D → find_at pick (seen ++ s ∷ []) path D ≡ found x → F x)
            → found_in (seen ++ s ∷ []) (find_at pick (seen ++ s ∷ []) path) o ≡ found x → F x
        go None k r e = let f : no_path (seen ++ s ∷ []) ≡ found x = e in absurd cc
        go (Some D) k r e = r D (k D refl) e

  pub value-found : (C : Env N) (x : LongId) (v : Value N) → IsEnvIn S made names C → value_at C x ≡ found v → IsValueIn S made names v
  unfolding value_at IsEnvIn
  value-found C x v h e = found-in (λ E. lookup x.last (values E)) (IsValueIn S made names) picked x.path [] C v h e
    where
      picked : (E : Env N) (v : Value N) → IsEnvIn S made names E → lookup x.last (values E) ≡ Some v → IsValueIn S made names v
      picked (maps ss ts vs) v h e = each-lookup (IsValueIn S made names) x.last vs v h.2 e

  pub type-found : (C : Env N) (c : LongId) (t : TyStr N) → IsEnvIn S made names C → type_at C c ≡ found t → IsTyStrIn S names t
  unfolding type_at IsEnvIn
  type-found C c t h e = found-in (λ E. lookup c.last (types E)) (IsTyStrIn S names) picked c.path [] C t h e
    where
      picked : (E : Env N) (t : TyStr N) → IsEnvIn S made names E → lookup c.last (types E) ≡ Some t → IsTyStrIn S names t
      picked (maps ss ts vs) t h e = each-lookup (IsTyStrIn S names) c.last ts t h.1 e

  pub opened-found : (C : Env N) (s : LongId) (E : Env N) → IsEnvIn S made names C → structure_at C s ≡ found E → IsEnvIn S made names E
  unfolding structure_at
  opened-found C s E h e = found-in (λ E. Some E) (IsEnvIn S made names) picked (s.path ++ s.last ∷ []) [] C E h e
    where
      picked : (D E : Env N) → IsEnvIn S made names D → Some D ≡ Some E → IsEnvIn S made names E
      picked D E h e = let g : D ≡ E = cc in subst (IsEnvIn S made names) g h
