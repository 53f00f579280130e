-- What new names make of an environment is the same by the maps of the program and by the Definition, where names have as many
-- types as they take.
use Rattle.std.proofs.Common.{◌≡◌, ◌+◌, ℕ, zero, suc, true, false, cond, Option, Some, None, List, [], ◌∷◌, refl, ap, sym, subst, ◌∙◌, arith}
use Rattle.std.specs.Option.{option_map, option_or}
use Rattle.sml_objects.specs.Maps.{Map}
use Rattle.sml_objects.specs.Objects as O
use Rattle.sml_objects.specs.Objects.{Outside}
use Rattle.sml_objects.specs.Initial.{Name, naming}
use Rattle.sml_objects.specs.Types.{argument, argument_or, instance_from, replace_type, replace_types}
use Rattle.sml_rules.specs.Matching.{Realisation}
use Rattle.sml_core_rules.specs.Contexts.{AreTypes, IsType}
use Rattle.sml_core_rules.specs.Datatypes.{name_function, types_from}
use Rattle.sml_core_rules.specs.Objects.{Env, Structures, TyStr, Value, maps, no_structure, and_structure}
use Rattle.sml_core_rules.specs.Types.{count_types}
use Rattle.sml_core_rules.specs.Values.{has_unknown, have_unknown}
use Rattle.sml_module_rules.specs.Realising.{no_function, realise_env, with_names}
use Rattle.sml_module_rules.specs.WellFormed.{AreDistinct, AreEnvsOver, HoldsOfAll, IsEnvOver, IsSchemeOver, IsTypeStructureOver, IsValueOver}
use Rattle.sml_type_maps.specs.Mapped.{all_mapped, by_function, by_name, is_same, mapped}
use Rattle.sml_type_maps.specs.Orders.{ordered, scheme_by}
use Rattle.sml_envs.specs.Mapped.{AllIn, AllInStructures, Each, env_by, ty_str_by, value_by}
use Rattle.sml_envs.specs.Renamed.{new_for}
use Rattle.sml_match.proofs.Realised.{HasKnown, IsKnown, all-same, each-same, env-realised, over-known}

-- a name that is a type function, applied to as many types as it takes

arguments-from : (f : ℕ → O.MlType Name) (j k : ℕ) (ts : O.MlTypes Name) → count_types ts ≡ k → ((i : ℕ) → f (j + i) ≡ argument_or (O.bound (j + i)) ts i)
    → replace_types f O.free (types_from O.bound j k) ≡ ts
unfolding replace_type replace_types
arguments-from f j zero O.no_type e h = refl
arguments-from f j zero (O.and_type t ts) e h = absurd (omega (arith, e))
arguments-from f j (suc k) O.no_type e h = absurd (omega (arith, e))
arguments-from f j (suc k) (O.and_type t ts) e h =
    let here : j ≡ j + 0 = omega arith in
    let less : count_types ts ≡ k = omega (arith, e) in
    λ i. O.and_type ((ap f here ∙ h 0) i) (arguments-from f (suc j) k ts less (λ i. (let next : suc j + i ≡ j + suc i = omega arith in
    subst (λ l. f l ≡ argument_or (O.bound l) ts i) (sym next) (h (suc i)))) i)

named-applied : (o : Option Name) (n : Name) (k : ℕ) (ts : O.MlTypes Name) → count_types ts ≡ k → by_name o n ts ≡ by_function (option_map (λ m. name_function m k) o) n ts
unfolding replace_type
named-applied None n k ts e = refl
named-applied (Some m) n k ts e =
    ap (O.app (O.name m)) (sym (arguments-from (argument ts) 0 k ts e (λ i. (let same : 0 + i ≡ i = omega arith in
    ap (argument ts) same ∙ ap (λ l. argument_or (O.bound l) ts i) (sym same)))))

count-mapped : (b f : ℕ → O.MlType Name) (n : Name → O.MlTypes Name → O.MlType Name) (ts : O.MlTypes Name) → count_types (all_mapped b f n ts) ≡ count_types ts
unfolding all_mapped
count-mapped b f n O.no_type = refl
count-mapped b f n (O.and_type t ts) = ap suc (count-mapped b f n ts)

count-replaced : (b f : ℕ → O.MlType Name) (ts : O.MlTypes Name) → count_types (replace_types b f ts) ≡ count_types ts
unfolding replace_types
count-replaced b f O.no_type = refl
count-replaced b f (O.and_type t ts) = ap suc (count-replaced b f ts)

-- the type functions that are these names
abbrev named : (Name → Option Name) → Realisation Name
named o n = option_map (λ m. name_function m (naming.attributes n).arity) (o n)

module _ (o : Name → Option Name) where
  abbrev by : Name → O.MlTypes Name → O.MlType Name
  by n ts = by_name (o n) n ts

  abbrev so : Name → O.MlTypes Name → O.MlType Name
  so n ts = by_function (named o n) n ts

  mutual
    unfolding mapped all_mapped IsType AreTypes replace_type replace_types

    type-renewed : (t : O.MlType Name) → IsType naming (instance_from 0 t) → mapped O.bound O.free by t ≡ mapped O.bound O.free so t
    type-renewed (O.bound k) h = refl
    type-renewed (O.free v) h = refl
    type-renewed (O.app O.arrow ts) h = ap (O.app O.arrow) (types-renewed ts h.1)
    type-renewed (O.app (O.row ls) ts) h = ap (O.app (O.row ls)) (types-renewed ts h.1)
    type-renewed (O.app (O.name n) ts) h =
        named-applied (o n) n (naming.attributes n).arity (all_mapped O.bound O.free by ts)
        (count-mapped O.bound O.free by ts ∙ sym (count-replaced (λ j. O.free (0 + j)) O.free ts) ∙ h.0)
        ∙ ap (so n) (types-renewed ts h.1)

    types-renewed : (ts : O.MlTypes Name) → AreTypes naming (replace_types (λ j. O.free (0 + j)) O.free ts) → all_mapped O.bound O.free by ts ≡ all_mapped O.bound O.free so ts
    types-renewed O.no_type h = refl
    types-renewed (O.and_type t ts) h = λ i. O.and_type (type-renewed t h.0 i) (types-renewed ts h.1 i)

-- environments

abbrev Takes : O.Scheme Name → Type 0
Takes σ = IsType naming (instance_from 0 σ.body)

abbrev TypeTakes : TyStr Name → Type 0
TypeTakes t = Takes t.function × Each Takes t.constructors

abbrev ValueTakes : Value Name → Type 0
ValueTakes v = Takes v.scheme

module _ (o : Name → Option Name) where
  scheme-renewed : (σ : O.Scheme Name) → Takes σ → scheme_by O.bound O.free (by o) σ ≡ scheme_by O.bound O.free (so o) σ
  scheme-renewed σ h = ap (ordered σ.variables) (type-renewed o σ.body h)

  ty-str-renewed : (t : TyStr Name) → TypeTakes t → ty_str_by O.bound O.free (by o) t ≡ ty_str_by O.bound O.free (so o) t
  ty-str-renewed t h = λ i. record {
    function = record { variables = t.function.variables; body = type-renewed o t.function.body h.0 i };
    constructors = each-same Takes (scheme_by O.bound O.free (by o)) (scheme_by O.bound O.free (so o)) scheme-renewed t.constructors h.1 i;
  }

  value-renewed : (v : Value Name) → ValueTakes v → value_by O.bound O.free (by o) v ≡ value_by O.bound O.free (so o) v
  value-renewed v h = λ i. record { scheme = scheme-renewed v.scheme h i; status = v.status }

  env-renewed : (E : Env Name) → AllIn TypeTakes ValueTakes E → env_by O.bound O.free (by o) E ≡ env_by O.bound O.free (so o) E
  env-renewed E h =
      all-same TypeTakes ValueTakes (ty_str_by O.bound O.free (by o)) (ty_str_by O.bound O.free (so o)) (value_by O.bound O.free (by o)) (value_by O.bound O.free (so o))
      ty-str-renewed value-renewed E h

module _ (T : List Name) where
  schemes-take : (es : Map (O.Scheme Name)) → HoldsOfAll (IsSchemeOver naming T) es → Each Takes es
  schemes-take [] h = tt
  schemes-take (e ∷ es) h = (h.0.is_type.0, schemes-take es h.1)

  types-take : (ts : Map (TyStr Name)) → HoldsOfAll (IsTypeStructureOver naming T) ts → Each TypeTakes ts
  types-take [] h = tt
  types-take (t ∷ ts) h = ((h.0.function.is_type.0, schemes-take t.1.constructors h.0.schemes), types-take ts h.1)

  values-take : (vs : Map (Value Name)) → HoldsOfAll (IsValueOver naming T) vs → Each ValueTakes vs
  values-take [] h = tt
  values-take (v ∷ vs) h = (h.0.scheme.is_type.0, values-take vs h.1)

  mutual
    unfolding IsEnvOver AreEnvsOver AllIn AllInStructures

    over-takes : (E : Env Name) → IsEnvOver naming T E → AllIn TypeTakes ValueTakes E
    over-takes (maps ss ts vs) h = (structures-take ss h.1, (types-take ts h.3, values-take vs h.5))

    structures-take : (ss : Structures (TyStr Name) (Value Name)) → AreEnvsOver naming T ss → AllInStructures TypeTakes ValueTakes ss
    structures-take no_structure h = tt
    structures-take (and_structure s E ss) h = (over-takes E h.0, structures-take ss h.1)

-- names that stand once

outside-new : (n : Name) (xs ms : List Name) → Outside n xs → new_for xs ms n ≡ None
unfolding Outside
outside-new n [] ms h = refl
outside-new n (x ∷ xs) [] h = refl
outside-new n (x ∷ xs) (m ∷ ms) h =
    ap (λ q. option_or q (cond (is_same n x) (Some m) None)) (outside-new n xs ms h.1)
    ∙ elim (naming.same n x) as (λ d. cond (elim d [ yes _ ↦ true | no _ ↦ false ]) (Some m) None ≡ None) [ yes d ↦ absurd (h.0 (sym d)) | no _ ↦ refl ]

or-none : (q : Option Name) → option_or q None ≡ q
or-none None = refl
or-none (Some m) = refl

with-new : (ns ms : List Name) → AreDistinct ns → (n : Name) → with_names naming ns ms (no_function naming) n ≡ named (new_for ns ms) n
unfolding with_names
with-new [] ms d n = refl
with-new (x ∷ xs) [] d n = refl
with-new (x ∷ xs) (m ∷ ms) d n = go (with_names naming xs ms (no_function naming) n) (naming.same n x) (with-new xs ms d.1 n)
  where
    go : (rest : Option (O.Scheme Name)) (q : Dec (n ≡ x)) → rest ≡ option_map (λ m. name_function m (naming.attributes n).arity) (new_for xs ms n)
        → cond (elim q [ yes _ ↦ true | no _ ↦ false ]) (Some (name_function m (naming.attributes x).arity)) rest
        ≡ option_map (λ m. name_function m (naming.attributes n).arity) (option_or (new_for xs ms n) (cond (elim q [ yes _ ↦ true | no _ ↦ false ]) (Some m) None))
    go rest (yes e) h =
        ap (λ y. Some (name_function m (naming.attributes y).arity)) (sym e)
        ∙ ap (λ q. option_map (λ m. name_function m (naming.attributes n).arity) (option_or q (Some m))) (sym (outside-new n xs ms (subst (λ y. Outside y xs) (sym e) d.0)))
    go rest (no e) h = h ∙ ap (option_map (λ m. name_function m (naming.attributes n).arity)) (sym (or-none (new_for xs ms n)))

parameters-known : (j k : ℕ) → have_unknown (types_from {N = Name} O.bound j k) ≡ false
unfolding has_unknown have_unknown
parameters-known j zero = refl
parameters-known j (suc k) = parameters-known (suc j) k

named-known : (o : Name → Option Name) → HasKnown (named o)
unfolding has_unknown have_unknown
named-known o n θ h = go (o n) h
  where
    go : (q : Option Name) → option_map (λ m. name_function m (naming.attributes n).arity) q ≡ Some θ → IsKnown θ
    go None e = let q : ⊥ = cc in absurd q
    go (Some m) e = (let q : name_function m (naming.attributes n).arity ≡ θ = cc in subst IsKnown q (parameters-known 0 (naming.attributes n).arity))

-- an environment with new names
pub env-with-new : (T ns ms : List Name) (E : Env Name) → IsEnvOver naming T E → AreDistinct ns
    → env_by O.bound O.free (λ n ts. by_name (new_for ns ms n) n ts) E ≡ realise_env (with_names naming ns ms (no_function naming)) E
env-with-new T ns ms E h d =
    env-renewed (new_for ns ms) E (over-takes T E h)
    ∙ env-realised (named (new_for ns ms)) (named-known (new_for ns ms)) E (over-known naming T E h)
    ∙ ap (λ φ. realise_env φ E) (λ i n. sym (with-new ns ms d n) i)
