-- Type functions in the places of names: where they speak of what was made, so does what they are put in.
use Rattle.std.specs.Prelude.{◌≡◌, ◌<◌, ◌≤◌, ◌+◌, map, ℕ, zero, suc, Bool, true, false, ◌&&◌, cond, nat_eq, List, [], ◌∷◌, length, replicate, Option, Some, None}
use Rattle.std.proofs.Common.{arith}
use Rattle.std.proofs.lemmas.Bool.{eqb-true}
use Rattle.std.proofs.lemmas.List.{length-replicate}
use mathlib.Core.Path.{refl, sym, ap, subst, ◌∙◌}
use Rattle.sml_objects.specs.Maps.{Map}
use Rattle.sml_objects.specs.Names.{Naming, Attributes}
use Rattle.sml_objects.specs.Objects.{MlType, MlTypes, Scheme, Head, bound, free, app, arrow, row, name, no_type, and_type}
use Rattle.sml_objects.specs.Types.{argument, instance_from}
use Rattle.sml_rules.specs.Matching.{Realisation, apply_to, apply_head, realise_type, realise_types, realise_scheme}
use Rattle.sml_core_rules.specs.Datatypes.{name_function, types_from}
use Rattle.sml_core_rules.specs.Objects.{Env, Structures, Status, variable, constructor, exception, overloaded, TyStr, Value, maps, no_structure, and_structure, replace, replace_structures, replaced}
use Rattle.sml_core_rules.specs.Types.{count_types}
use Rattle.sml_core_laws.specs.Made.{Speaks, AllSpeak, IsHeadIn, IsClosedIn, IsTyStrIn, IsValueIn, IsEnvIn, AreStructuresIn, HasVariable}
use Rattle.sml_core_laws.proofs.MadeShapes.{both-true}
use Rattle.sml_core_laws.proofs.MadeTypes.{speaks-more, replaced-speaks, argument-speaks, Each}
use Rattle.sml_core_laws.proofs.MadeClosing.{constructor-in}
use Rattle.sml_core_laws.proofs.MadeEnvs.{closed-scheme}
use Rattle.sml_core_rules.specs.Functions.{are_parameters, named_type, name_of}
use Rattle.sml_module_rules.specs.Realising.{renumbered, realise_value, realise_ty_str, realise_env, no_function, with_function, with_names}
use Rattle.sml_module_laws.specs.Made.{IsNotOverloaded, HasNoOverloaded, HaveNoOverloaded, IsBodyIn}
use Rattle.sml_module_laws.proofs.Bodies.{IsUsual}

-- names have as many parts as their arities
abbrev pub IsExact : {N : Type 0} → Naming N → (Head N → ℕ → Type 0) → Type 0
IsExact {N} names S = (n : N) (k : ℕ) → S (name n) k → k ≡ (names.attributes n).arity

module _ {N : Type 0} (naming : Naming N) (S : Head N → ℕ → Type 0) (names : List N) where
  -- a type function in the place of a name, with its parameters
  abbrev pub IsFor : N → Scheme N → Type 0
  IsFor n θ = IsClosedIn S names θ × (length θ.variables ≡ (naming.attributes n).arity)

  abbrev pub AreFunctionsIn : Realisation N → Type 0
  AreFunctionsIn φ = (n : N) (θ : Scheme N) → φ n ≡ Some θ → IsFor n θ

  -- such realisations

  pub none-in : AreFunctionsIn (no_function naming)
  none-in n θ e = let f : None ≡ Some θ = e in absurd cc

  pub with-in : (n : N) (θ : Scheme N) (φ : Realisation N) → IsFor n θ → AreFunctionsIn φ → AreFunctionsIn (with_function naming n θ φ)
  with-in n θ φ h good m η e = go (naming.same m n) e
    where
      go : (d : Dec (m ≡ n)) → cond (elim d [ yes _ ↦ true | no _ ↦ false ]) (Some θ) (φ m) ≡ Some η → IsFor m η
      go (yes q) e = let f : Some θ ≡ Some η = e in let g : θ ≡ η = cc in subst (λ η. IsFor m η) g (h.0, h.1 ∙ ap (λ n. (naming.attributes n).arity) (sym q))
      go (no q) e = good m η e

  -- the type function that is a name

  parameters-speak : (n k m : ℕ) → k + m ≤ n → AllSpeak (λ j. j < n) (λ v. ⊥) (IsHeadIn S names) (types_from bound k m)
  unfolding Speaks
  parameters-speak n k zero l = tt
  parameters-speak n k (suc m) l = (omega arith, parameters-speak n (suc k) m (omega arith))

  count-parameters : (k m : ℕ) → count_types (types_from {N = N} bound k m) ≡ m
  count-parameters k zero = refl
  count-parameters k (suc m) = ap suc (count-parameters (suc k) m)

  pub function-in : (k : ℕ) (t : MlType N) → Speaks (λ j. j < k) (λ v. ⊥) (IsHeadIn S names) t → IsClosedIn S names (record { variables = replicate k false; body = t })
  function-in k t h = subst (λ m. Speaks (λ j. j < m) (λ v. ⊥) (IsHeadIn S names) t) (sym (length-replicate k false)) h

  pub name-in : (n : N) (k : ℕ) → (IsHeadIn S names) (name n) k → IsClosedIn S names (name_function n k)
  unfolding Speaks
  name-in n k h = function-in k (app (name n) (types_from bound 0 k)) (subst ((IsHeadIn S names) (name n)) (sym (count-parameters 0 k)) h, parameters-speak k 0 k (omega arith))

  -- names that were made, with these arities
  abbrev pub AreNamed : List Attributes → List N → Type 0
  AreNamed [] ns = Unit {0}
  AreNamed (w ∷ ws) [] = Unit {0}
  AreNamed (w ∷ ws) (n ∷ ns) = (IsHeadIn S names) (name n) w.arity × AreNamed ws ns

  pub names-in : (ns ms : List N) (φ : Realisation N) → AreNamed (map (λ n. naming.attributes n) ns) ms → AreFunctionsIn φ → AreFunctionsIn (with_names naming ns ms φ)
  unfolding with_names
  names-in [] ms φ h good = good
  names-in (n ∷ ns) [] φ h good = good
  names-in (n ∷ ns) (m ∷ ms) φ h good =
      with-in n (name_function m (naming.attributes n).arity) (with_names naming ns ms φ) (name-in m (naming.attributes n).arity h.0, length-replicate (naming.attributes n).arity false) (names-in ns ms φ h.1 good)

module _ {N : Type 0} (naming : Naming N) (S : Head N → ℕ → Type 0) (exact : IsExact naming S) (names : List N) where
  -- the name that a type function is, and its arity
  pub named-arity : (θ : Scheme N) (n : N) → IsClosedIn S names θ → name_of θ ≡ Some n → length θ.variables ≡ (naming.attributes n).arity
  unfolding Speaks
  named-arity θ n h e = go θ.body h e
    where
      go : (t : MlType N) → Speaks (λ k. k < length θ.variables) (λ v. ⊥) (IsHeadIn S names) t → named_type (length θ.variables) t ≡ Some n → length θ.variables ≡ (naming.attributes n).arity
      go (bound k) h e = let f : None ≡ Some n = e in absurd cc
      go (free v) h e = let f : None ≡ Some n = e in absurd cc
      go (app arrow ts) h e = let f : None ≡ Some n = e in absurd cc
      go (app (row ls) ts) h e = let f : None ≡ Some n = e in absurd cc
      go (app (name m) ts) h e = then (nat_eq (count_types ts) (length θ.variables) && are_parameters 0 ts) refl e
        where
          then : (b : Bool) → (nat_eq (count_types ts) (length θ.variables) && are_parameters 0 ts) ≡ b → cond b (Some m) None ≡ Some n → length θ.variables ≡ (naming.attributes n).arity
          then true q e =
              let f : Some m ≡ Some n = e in
              let g : m ≡ n = cc in
              sym (eqb-true (count_types ts) (length θ.variables) (both-true _ _ q).0) ∙ (exact m (count_types ts) h.0.1 ∙ ap (λ n. (naming.attributes n).arity) g)
          then false q e = let f : None ≡ Some n = e in absurd cc

  module _ (φ : Realisation N) (good : AreFunctionsIn naming S names φ) where
    count-realised : (ts : MlTypes N) → count_types (realise_types φ ts) ≡ count_types ts
    unfolding realise_type
    count-realised no_type = refl
    count-realised (and_type t ts) = ap suc (count-realised ts)

    head-realised : (B V : ℕ → Type 0) (h : Head N) (ts : MlTypes N) → (IsHeadIn S names) h (count_types ts) → AllSpeak B V (IsHeadIn S names) ts → Speaks B V (IsHeadIn S names) (apply_head φ h ts)
    unfolding Speaks
    head-realised B V arrow ts h k = (h, k)
    head-realised B V (row ls) ts h k = (h, k)
    head-realised B V (name n) ts h k = go (φ n) refl
      where
        go : (o : Option (Scheme N)) → φ n ≡ o → Speaks B V (IsHeadIn S names) (apply_to n ts o)
        go None e = (h, k)
        go (Some θ) e =
            let f = good n θ e in
            replaced-speaks (argument ts) free _ _ B V (IsHeadIn S names) (IsHeadIn S names) θ.body f.0
            (λ j l. argument-speaks B V (IsHeadIn S names) (bound j) ts j (subst (λ m. j < m) (f.1 ∙ sym (exact n (count_types ts) h.1)) l) k) (λ v l. absurd l) (λ h k q. q)

    mutual
      unfolding Speaks realise_type

      realised : (B V : ℕ → Type 0) (t : MlType N) → Speaks B V (IsHeadIn S names) t → Speaks B V (IsHeadIn S names) (realise_type φ t)
      realised B V (bound k) h = h
      realised B V (free v) h = h
      realised B V (app g ts) h = head-realised B V g (realise_types φ ts) (subst ((IsHeadIn S names) g) (sym (count-realised ts)) h.0) (all-realised B V ts h.1)

      all-realised : (B V : ℕ → Type 0) (ts : MlTypes N) → AllSpeak B V (IsHeadIn S names) ts → AllSpeak B V (IsHeadIn S names) (realise_types φ ts)
      all-realised B V no_type h = tt
      all-realised B V (and_type t ts) h = (realised B V t h.0, all-realised B V ts h.1)

    scheme-realised : (σ : Scheme N) → IsClosedIn S names σ → IsClosedIn S names (realise_scheme φ σ)
    scheme-realised σ h = realised _ _ σ.body h

    renumbered-in : (σ : Scheme N) → IsClosedIn S names σ → IsClosedIn S names (renumbered σ)
    unfolding Speaks
    renumbered-in σ h =
        constructor-in (λ v. Unit {0}) S names σ.variables (instance_from 0 σ.body)
        (replaced-speaks (λ j. free (0 + j)) free _ _ (λ k. ⊥) (λ v. Unit {0}) (IsHeadIn S names) (IsHeadIn S names) σ.body h (λ k b. tt) (λ v l. absurd l) (λ h k q. q))

    constructors-realised : (cs : Map (Scheme N)) → Each (IsClosedIn S names) cs → Each (IsClosedIn S names) (replaced (λ σ. renumbered (realise_scheme φ σ)) cs)
    constructors-realised [] h = tt
    constructors-realised (c ∷ cs) h = (renumbered-in (realise_scheme φ c.1) (scheme-realised c.1 h.0), constructors-realised cs h.1)

    types-realised : (ts : Map (TyStr N)) → Each (IsTyStrIn S names) ts → Each (IsTyStrIn S names) (replaced (realise_ty_str φ) ts)
    types-realised [] h = tt
    types-realised (t ∷ ts) h = ((scheme-realised t.1.function h.0.0, constructors-realised t.1.constructors h.0.1), types-realised ts h.1)

    value-realised : (v : Value N) → IsValueIn S 0 names v → IsUsual v → IsValueIn S 0 names (realise_value φ v)
    value-realised v h u =
        let σ : IsClosedIn S names v.scheme = speaks-more _ _ _ _ (IsHeadIn S names) (IsHeadIn S names) v.scheme.body h.0 (λ k b. b) (λ v l. omega arith) (λ h k q. q) in
        (closed-scheme S 0 names (renumbered (realise_scheme φ v.scheme)) (renumbered-in (realise_scheme φ v.scheme) (scheme-realised v.scheme σ)), usual-in v u)
      where
        usual-in : (v : Value N) → IsUsual v → HasVariable v.status (renumbered (realise_scheme φ v.scheme))
        usual-in v u = go v.status u
          where
            go : (s : Status) → IsNotOverloaded s → HasVariable s (renumbered (realise_scheme φ v.scheme))
            go variable u = tt
            go (constructor k n) u = tt
            go exception u = tt
            go (overloaded c) u = absurd u

    values-realised : (vs : Map (Value N)) → Each (IsValueIn S 0 names) vs → Each IsUsual vs → Each (IsValueIn S 0 names) (replaced (realise_value φ) vs) × Each IsUsual (replaced (realise_value φ) vs)
    values-realised [] h u = (tt, tt)
    values-realised (v ∷ vs) h u = let r = values-realised vs h.1 u.1 in ((value-realised v.1 h.0 u.0, r.0), (u.0, r.1))

    mutual
      unfolding IsEnvIn HasNoOverloaded replace

      pub env-realised : (E : Env N) → IsBodyIn S names E → IsBodyIn S names (realise_env φ E)
      env-realised (maps ss ts vs) h =
          let a = structures-realised ss h.0.0 h.1.0 in
          let b = values-realised vs h.0.2 h.1.1 in
          ((a.0, types-realised ts h.0.1, b.0), (a.1, b.1))

      structures-realised : (ss : Structures (TyStr N) (Value N)) → AreStructuresIn S 0 names ss → HaveNoOverloaded ss
          → AreStructuresIn S 0 names (replace_structures (realise_ty_str φ) (realise_value φ) ss) × HaveNoOverloaded (replace_structures (realise_ty_str φ) (realise_value φ) ss)
      structures-realised no_structure h u = (tt, tt)
      structures-realised (and_structure s E ss) h u =
          let a = env-realised E (h.0, u.0) in
          let b = structures-realised ss h.1 u.1 in
          ((a.0, b.0), (a.1, b.1))
