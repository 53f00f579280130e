-- What a realisation makes of an environment is the same by the maps of the program and by the Definition, where no scheme has an
-- unknown.
use Rattle.std.proofs.Common.{◌≡◌, ◌<◌, ◌+◌, ℕ, zero, suc, Bool, true, false, ◌||◌, cond, nat_eq, position, Option, Some, None, List, [], ◌∷◌, ◌++◌, map, length, slice_index_or, refl, ap, sym, subst, ◌∙◌, arith}
use Rattle.std.proofs.lemmas.Bool.{true≢false, false≢true, lt-ltb}
use Rattle.std.specs.List.{list_any, position_or_len}
use Rattle.std.specs.Option.{option_map}
use Rattle.sml_objects.specs.Maps.{Map}
use Rattle.sml_objects.specs.Objects as O
use Rattle.sml_objects.specs.Initial.{Name}
use Rattle.sml_objects.specs.Names.{Naming}
use Rattle.sml_objects.specs.Types.{argument, argument_or, assign, index_among, instance_from, replace_type, replace_types, variables_after, variables_after_all}
use Rattle.sml_objects.specs.Fates.{attributes, close_as, standing_for, substitutes, type_or}
use Rattle.sml_objects.specs.declared.fates.Fate.{Fate}
use Rattle.sml_objects.specs.declared.fates.Fate.TheVariants.{Bind}
use Rattle.sml_objects.proofs.Closings.{all-stay-among, assign-closed, here-among, index_among-position}
use Rattle.sml_rules.specs.Matching.{Realisation, apply_to, realise_scheme, realise_type, realise_types}
use Rattle.sml_core_rules.specs.Objects.{Env, Maps, Structures, TyStr, Value, maps, no_structure, and_structure, replace, replace_structures, replaced}
use Rattle.sml_core_rules.specs.Values.{has_unknown, have_unknown}
use Rattle.sml_module_rules.specs.Realising.{realise_env, realise_ty_str, realise_value, renumbered}
use Rattle.sml_module_rules.specs.WellFormed.{AreEnvsOver, HoldsOfAll, IsEnvOver, IsSchemeOver, IsTypeStructureOver, IsValueOver}
use Rattle.sml_module_rules.proofs.Closed.{AreClosed, IsClosed}
use Rattle.sml_type_maps.specs.Mapped.{all_mapped, bound_at, by_function, mapped}
use Rattle.sml_type_maps.specs.Orders.{all_bound_after, bound_after, ordered, scheme_by}
use Rattle.sml_envs.specs.Mapped.{AllIn, AllInStructures, Each, env_by, ty_str_by, value_by}

-- types

same-function : (o : Option (O.Scheme Name)) (n : Name) (ts : O.MlTypes Name) → by_function o n ts ≡ apply_to n ts o
same-function None n ts = refl
same-function (Some θ) n ts = refl

mutual
  unfolding mapped all_mapped realise_type realise_types

  pub type-realised : (φ : Realisation Name) (t : O.MlType Name) → mapped O.bound O.free (λ m ts. by_function (φ m) m ts) t ≡ realise_type φ t
  type-realised φ (O.bound k) = refl
  type-realised φ (O.free v) = refl
  type-realised φ (O.app O.arrow ts) = ap (O.app O.arrow) (types-realised φ ts)
  type-realised φ (O.app (O.row ls) ts) = ap (O.app (O.row ls)) (types-realised φ ts)
  type-realised φ (O.app (O.name n) ts) = ap (by_function (φ n) n) (types-realised φ ts) ∙ same-function (φ n) n (realise_types φ ts)

  types-realised : (φ : Realisation Name) (ts : O.MlTypes Name) → all_mapped O.bound O.free (λ m ts. by_function (φ m) m ts) ts ≡ realise_types φ ts
  types-realised φ O.no_type = refl
  types-realised φ (O.and_type t ts) = λ i. O.and_type (type-realised φ t i) (types-realised φ ts i)

-- types without unknowns

neither : (b c : Bool) → (b || c) ≡ false → (b ≡ false) × (c ≡ false)
neither true c h = absurd (true≢false h)
neither false c h = (refl, h)

mutual
  unfolding has_unknown have_unknown IsClosed AreClosed

  pub known-closed : (t : O.MlType Name) → has_unknown t ≡ false → IsClosed t
  known-closed (O.bound k) h = tt
  known-closed (O.free v) h = absurd (true≢false h)
  known-closed (O.app g ts) h = all-known-closed ts h

  all-known-closed : (ts : O.MlTypes Name) → have_unknown ts ≡ false → AreClosed ts
  all-known-closed O.no_type h = tt
  all-known-closed (O.and_type t ts) h =
      let p = neither (has_unknown t) (have_unknown ts) h in
      (known-closed t p.0, all-known-closed ts p.1)

argument-closed : (u : O.MlType Name) (ts : O.MlTypes Name) (k : ℕ) → IsClosed u → AreClosed ts → IsClosed (argument_or u ts k)
unfolding IsClosed AreClosed
argument-closed u O.no_type k h g = h
argument-closed u (O.and_type t ts) zero h g = g.0
argument-closed u (O.and_type t ts) (suc k) h g = argument-closed u ts k h g.1

mutual
  unfolding IsClosed AreClosed replace_type replace_types

  applied-closed : (us : O.MlTypes Name) → AreClosed us → (t : O.MlType Name) → IsClosed t → IsClosed (replace_type (argument us) O.free t)
  applied-closed us g (O.bound k) h = argument-closed (O.bound k) us k tt g
  applied-closed us g (O.free v) h = absurd h
  applied-closed us g (O.app f ts) h = all-applied-closed us g ts h

  all-applied-closed : (us : O.MlTypes Name) → AreClosed us → (ts : O.MlTypes Name) → AreClosed ts → AreClosed (replace_types (argument us) O.free ts)
  all-applied-closed us g O.no_type h = tt
  all-applied-closed us g (O.and_type t ts) h = (applied-closed us g t h.0, all-applied-closed us g ts h.1)

abbrev pub IsKnown : O.Scheme Name → Type 0
IsKnown σ = has_unknown σ.body ≡ false

-- a realisation by type functions without unknowns
abbrev pub HasKnown : Realisation Name → Type 0
HasKnown φ = (m : Name) (θ : O.Scheme Name) → φ m ≡ Some θ → IsKnown θ

module _ (φ : Realisation Name) (known : HasKnown φ) where
  name-closed : (n : Name) (ts : O.MlTypes Name) → AreClosed ts → (o : Option (O.Scheme Name)) → φ n ≡ o → IsClosed (apply_to n ts o)
  unfolding IsClosed AreClosed
  name-closed n ts h None e = h
  name-closed n ts h (Some θ) e = applied-closed ts h θ.body (known-closed θ.body (known n θ e))

  mutual
    unfolding IsClosed AreClosed realise_type realise_types

    realised-closed : (t : O.MlType Name) → IsClosed t → IsClosed (realise_type φ t)
    realised-closed (O.bound k) h = tt
    realised-closed (O.free v) h = h
    realised-closed (O.app O.arrow ts) h = all-realised-closed ts h
    realised-closed (O.app (O.row ls) ts) h = all-realised-closed ts h
    realised-closed (O.app (O.name n) ts) h = name-closed n (realise_types φ ts) (all-realised-closed ts h) (φ n) refl

    all-realised-closed : (ts : O.MlTypes Name) → AreClosed ts → AreClosed (realise_types φ ts)
    all-realised-closed O.no_type h = tt
    all-realised-closed (O.and_type t ts) h = (realised-closed t h.0, all-realised-closed ts h.1)

-- the bound variables of a type without unknowns, as free ones

none-more : (k : ℕ) → 0 + k ≡ k
none-more k = omega arith

mutual
  unfolding IsClosed AreClosed replace_type replace_types variables_after variables_after_all bound_after all_bound_after

  pub variables-opened : (seen : List ℕ) (t : O.MlType Name) → IsClosed t → variables_after seen (instance_from 0 t) ≡ bound_after seen t
  variables-opened seen (O.bound k) h = ap (λ j. cond (list_any (nat_eq j) seen) seen (seen ++ j ∷ [])) (none-more k)
  variables-opened seen (O.free v) h = absurd h
  variables-opened seen (O.app g ts) h = all-variables-opened seen ts h

  all-variables-opened : (seen : List ℕ) (ts : O.MlTypes Name) → AreClosed ts
      → variables_after_all seen (replace_types (λ j. O.free (0 + j)) O.free ts) ≡ all_bound_after seen ts
  all-variables-opened seen O.no_type h = refl
  all-variables-opened seen (O.and_type t ts) h =
      ap (λ s. variables_after_all s (replace_types (λ j. O.free (0 + j)) O.free ts)) (variables-opened seen t h.0)
      ∙ all-variables-opened (bound_after seen t) ts h.1

-- what stands for these again, if it is the same for each
mutual
  unfolding IsClosed AreClosed replace_type replace_types variables_after variables_after_all

  closed-again : (f b : ℕ → O.MlType Name) (seen : List ℕ) (t : O.MlType Name) → IsClosed t
      → ((k : ℕ) → list_any (nat_eq k) (variables_after seen (instance_from 0 t)) ≡ true → f k ≡ b k)
      → assign f (instance_from 0 t) ≡ replace_type b O.free t
  closed-again f b seen (O.bound k) h e =
      ap f (none-more k)
      ∙ e k
      (subst (λ j. list_any (nat_eq k) (cond (list_any (nat_eq j) seen) seen (seen ++ j ∷ [])) ≡ true) (sym (none-more k))
      (here-among k seen (list_any (nat_eq k) seen) refl))
  closed-again f b seen (O.free v) h e = absurd h
  closed-again f b seen (O.app g ts) h e = ap (O.app g) (all-closed-again f b seen ts h e)

  all-closed-again : (f b : ℕ → O.MlType Name) (seen : List ℕ) (ts : O.MlTypes Name) → AreClosed ts
      → ((k : ℕ) → list_any (nat_eq k) (variables_after_all seen (replace_types (λ j. O.free (0 + j)) O.free ts)) ≡ true → f k ≡ b k)
      → replace_types O.bound f (replace_types (λ j. O.free (0 + j)) O.free ts) ≡ replace_types b O.free ts
  all-closed-again f b seen O.no_type h e = refl
  all-closed-again f b seen (O.and_type t ts) h e =
      let after : List ℕ = variables_after seen (instance_from 0 t) in
      λ i. O.and_type
      (closed-again f b seen t h.0 (λ k m. e k (all-stay-among k after (replace_types (λ j. O.free (0 + j)) O.free ts) m)) i)
      (all-closed-again f b after ts h.1 e i)

-- a variable that stands among others

place-below : (v : ℕ) (ws : List ℕ) → list_any (nat_eq v) ws ≡ true → index_among v ws < length ws
unfolding index_among
place-below v [] h = absurd (false≢true h)
place-below v (w ∷ ws) h = go (nat_eq v w) h (place-below v ws)
  where
    go : (b : Bool) → (b || list_any (nat_eq v) ws) ≡ true → (list_any (nat_eq v) ws ≡ true → index_among v ws < length ws)
        → cond b 0 (suc (index_among v ws)) < suc (length ws)
    go true h r = omega arith
    go false h r = let l = r h in omega arith

place-among : (v : ℕ) (ws : List ℕ) → list_any (nat_eq v) ws ≡ true → position (nat_eq v) ws ≡ Some (index_among v ws)
place-among v ws h =
    let e : index_among v ws ≡ position_or_len (nat_eq v) ws = index_among-position v ws in
    ap (λ b. cond b (Some (position_or_len (nat_eq v) ws)) None) (lt-ltb (position_or_len (nat_eq v) ws) (length ws) (subst (λ i. i < length ws) e (place-below v ws h)))
    ∙ ap (λ i. Some i) (sym e)

-- variables with these attributes are all bound
abbrev bindings : (ℕ → Bool) → List ℕ → List Fate
bindings g ks = map (λ v. Bind (g v)) ks

bound-attributes : (g : ℕ → Bool) (ks : List ℕ) → attributes (bindings g ks) ≡ map g ks
bound-attributes g [] = refl
bound-attributes g (k ∷ ks) = ap (λ l. g k ∷ l) (bound-attributes g ks)

substitute-among : (u : O.MlType Name) (g : ℕ → Bool) (k v : ℕ) (ws : List ℕ) → list_any (nat_eq v) ws ≡ true
    → slice_index_or (substitutes u k (bindings g ws)) (index_among v ws) None ≡ Some (O.bound (k + index_among v ws))
unfolding index_among
substitute-among u g k v [] h = absurd (false≢true h)
substitute-among u g k v (w ∷ ws) h = go (nat_eq v w) h (substitute-among u g (suc k) v ws)
  where
    here : k ≡ k + 0
    here = omega arith

    next : suc k + index_among v ws ≡ k + suc (index_among v ws)
    next = omega arith

    go : (b : Bool) → (b || list_any (nat_eq v) ws) ≡ true
        → (list_any (nat_eq v) ws ≡ true → slice_index_or (substitutes u (suc k) (bindings g ws)) (index_among v ws) None ≡ Some (O.bound (suc k + index_among v ws)))
        → slice_index_or (Some (O.bound k) ∷ substitutes u (suc k) (bindings g ws)) (cond b 0 (suc (index_among v ws))) None ≡ Some (O.bound (k + cond b 0 (suc (index_among v ws))))
    go true h r = ap (λ i. Some (O.bound i)) here
    go false h r = r h ∙ ap (λ i. Some (O.bound i)) next

stands-among : (u : O.MlType Name) (g : ℕ → Bool) (ws : List ℕ) (v : ℕ) → list_any (nat_eq v) ws ≡ true → standing_for ws (substitutes u 0 (bindings g ws)) v ≡ bound_at ws v
stands-among u g ws v h =
    ap (type_or (O.free v)) (substitute-among u g 0 v ws h)
    ∙ ap (λ i. O.bound i) (none-more (index_among v ws))
    ∙ sym (ap (λ o. type_or (O.bound v) (option_map (λ i. O.bound i) o)) (place-among v ws h))

-- schemes

pub renumbered-ordered : (σ : O.Scheme Name) → IsClosed σ.body → ordered σ.variables σ.body ≡ renumbered σ
unfolding close_as
renumbered-ordered σ h =
    let g : ℕ → Bool = λ v. slice_index_or σ.variables v false in
    let t : O.MlType Name = instance_from 0 σ.body in
    let vs : List ℕ = variables_after [] t in
    let same : bound_after [] σ.body ≡ vs = sym (variables-opened [] σ.body h) in
    λ i. record {
      variables = (ap (map g) same ∙ sym (bound-attributes g vs)) i;
      body = (ap (λ ws. replace_type (bound_at ws) O.free σ.body) same
          ∙ sym (closed-again (standing_for vs (substitutes t 0 (bindings g vs))) (bound_at vs) [] σ.body h (λ k m. stands-among t g vs k m))) i;
    }

-- entries, if each that stands there becomes the same

pub each-same : {X Y : Type 0} (P : X → Type 0) (f g : X → Y) → ((x : X) → P x → f x ≡ g x) → (es : Map X) → Each P es → replaced f es ≡ replaced g es
each-same P f g e [] h = refl
each-same P f g e (x ∷ xs) h = λ i. (x.0, e x.1 h.0 i) ∷ each-same P f g e xs h.1 i

module _ {T V U W : Type 0} (P : T → Type 0) (Q : V → Type 0) (f f' : T → U) (g g' : V → W)
    (same : (t : T) → P t → f t ≡ f' t) (alike : (v : V) → Q v → g v ≡ g' v) where
  mutual
    unfolding AllIn AllInStructures replace replace_structures

    pub all-same : (E : Maps T V) → AllIn P Q E → replace f g E ≡ replace f' g' E
    all-same (maps ss ts vs) h = λ i. maps (structures-same ss h.0 i) (each-same P f f' same ts h.1.0 i) (each-same Q g g' alike vs h.1.1 i)

    structures-same : (ss : Structures T V) → AllInStructures P Q ss → replace_structures f g ss ≡ replace_structures f' g' ss
    structures-same no_structure h = refl
    structures-same (and_structure s E ss) h = λ i. and_structure s (all-same E h.0 i) (structures-same ss h.1 i)

-- environments

-- No scheme of a value or a constructor has an unknown.
abbrev pub AreKnownIn : Env Name → Type 0
AreKnownIn E = AllIn (λ t. Each IsKnown t.constructors) (λ v. IsKnown v.scheme) E

module _ (φ : Realisation Name) (known : HasKnown φ) where
  abbrev by : Name → O.MlTypes Name → O.MlType Name
  by m ts = by_function (φ m) m ts

  pub scheme-realised : (σ : O.Scheme Name) → IsKnown σ → scheme_by O.bound O.free (λ m ts. by_function (φ m) m ts) σ ≡ renumbered (realise_scheme φ σ)
  scheme-realised σ h =
      ap (ordered σ.variables) (type-realised φ σ.body)
      ∙ renumbered-ordered (realise_scheme φ σ) (realised-closed φ known σ.body (known-closed σ.body h))

  ty-str-realised : (t : TyStr Name) → Each IsKnown t.constructors → ty_str_by O.bound O.free by t ≡ realise_ty_str φ t
  ty-str-realised t h = λ i. record {
    function = record { variables = t.function.variables; body = type-realised φ t.function.body i };
    constructors = each-same IsKnown (scheme_by O.bound O.free by) (λ σ. renumbered (realise_scheme φ σ)) scheme-realised t.constructors h i;
  }

  value-realised : (v : Value Name) → IsKnown v.scheme → value_by O.bound O.free by v ≡ realise_value φ v
  value-realised v h = λ i. record { scheme = scheme-realised v.scheme h i; status = v.status }

  pub env-realised : (E : Env Name) → AreKnownIn E → env_by O.bound O.free (λ m ts. by_function (φ m) m ts) E ≡ realise_env φ E
  env-realised E h =
      all-same (λ t. Each IsKnown t.constructors) (λ v. IsKnown v.scheme) (ty_str_by O.bound O.free by) (realise_ty_str φ) (value_by O.bound O.free by) (realise_value φ)
      ty-str-realised value-realised E h

-- well-formed environments

mutual
  unfolding has_unknown have_unknown replace_type replace_types

  bound-known : (t : O.MlType Name) → has_unknown (assign (λ v. O.bound v) t) ≡ false
  bound-known (O.bound k) = refl
  bound-known (O.free v) = refl
  bound-known (O.app g ts) = all-bound-known ts

  all-bound-known : (ts : O.MlTypes Name) → have_unknown (replace_types O.bound (λ v. O.bound v) ts) ≡ false
  all-bound-known O.no_type = refl
  all-bound-known (O.and_type t ts) = λ i. bound-known t i || all-bound-known ts i

-- a type without free variables
pub closed-known : (t : O.MlType Name) → variables_after [] t ≡ [] → has_unknown t ≡ false
closed-known t h = ap has_unknown (sym (assign-closed (λ v. O.bound v) t h)) ∙ bound-known t

module _ (names : Naming Name) (T : List Name) where
  schemes-known : (es : Map (O.Scheme Name)) → HoldsOfAll (IsSchemeOver names T) es → Each IsKnown es
  schemes-known [] h = tt
  schemes-known (e ∷ es) h = (closed-known e.1.body h.0.closed, schemes-known es h.1)

  types-known : (ts : Map (TyStr Name)) → HoldsOfAll (IsTypeStructureOver names T) ts → Each (λ t. Each IsKnown t.constructors) ts
  types-known [] h = tt
  types-known (t ∷ ts) h = (schemes-known t.1.constructors h.0.schemes, types-known ts h.1)

  values-known : (vs : Map (Value Name)) → HoldsOfAll (IsValueOver names T) vs → Each (λ v. IsKnown v.scheme) vs
  values-known [] h = tt
  values-known (v ∷ vs) h = (closed-known v.1.scheme.body h.0.scheme.closed, values-known vs h.1)

  mutual
    unfolding IsEnvOver AreEnvsOver AllIn AllInStructures

    pub over-known : (E : Env Name) → IsEnvOver names T E → AreKnownIn E
    over-known (maps ss ts vs) h = (structures-known ss h.1, (types-known ts h.3, values-known vs h.5))

    structures-known : (ss : Structures (TyStr Name) (Value Name)) → AreEnvsOver names T ss → AllInStructures (λ t. Each IsKnown t.constructors) (λ v. IsKnown v.scheme) ss
    structures-known no_structure h = tt
    structures-known (and_structure s E ss) h = (over-known E h.0, structures-known ss h.1)
