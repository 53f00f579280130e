-- Objects speak of the names that stand in them.
use Rattle.std.specs.Prelude.{ℕ, List, [], ◌∷◌, ◌++◌}
use mathlib.Core.Path.{refl}
use mathlib.Core.Logic.{inl}
use Rattle.sml_objects.specs.Appearance.{Stands}
use Rattle.sml_objects.specs.Maps.{Map}
use Rattle.sml_objects.specs.Objects.{MlType, MlTypes, Head, Scheme, bound, free, app, arrow, row, name, no_type, and_type, names_type, names_types, names_head}
use Rattle.sml_objects.proofs.Standing.{left, right}
use Rattle.sml_core_rules.specs.Objects.{Env, Structures, TyStr, Value, maps, no_structure, and_structure, names_map, names_in, names_structures, names_env, names_ty_str, names_scheme}
use Rattle.sml_core_laws.specs.Made.{Speaks, AllSpeak, IsHeadIn, IsClosedIn, IsTyStrIn, IsValueIn, IsEnvIn, AreStructuresIn}
use Rattle.sml_core_laws.proofs.MadeTypes.{Each}

-- the names are among these
abbrev pub Among : {N : Type 0} → List N → List N → Type 0
Among {N} ns ms = (n : N) → Stands n ns → Stands n ms

module _ {N : Type 0} (S : Head N → ℕ → Type 0) (M : List N) where
  head-listed : (h : Head N) (k : ℕ) → S h k → Among (names_head h) M → IsHeadIn S M h k
  unfolding Stands
  head-listed arrow k s a = (tt, s)
  head-listed (row ls) k s a = (tt, s)
  head-listed (name n) k s a = (a n (inl refl), s)

  mutual
    unfolding Speaks names_type

    -- a type, of whose heads this is known
    pub type-listed : (B V : ℕ → Type 0) (H : Head N → ℕ → Type 0) → ((h : Head N) (k : ℕ) → H h k → S h k) → (t : MlType N) → Speaks B V H t → Among (names_type t) M → Speaks B V (IsHeadIn S M) t
    type-listed B V H s (bound k) h a = h
    type-listed B V H s (free v) h a = h
    type-listed B V H s (app g ts) h a =
        (head-listed g _ (s g _ h.0) (λ n k. a n (left n (names_head g) (names_types ts) k)), types-listed B V H s ts h.1 (λ n k. a n (right n (names_head g) (names_types ts) k)))

    types-listed : (B V : ℕ → Type 0) (H : Head N → ℕ → Type 0) → ((h : Head N) (k : ℕ) → H h k → S h k) → (ts : MlTypes N) → AllSpeak B V H ts → Among (names_types ts) M → AllSpeak B V (IsHeadIn S M) ts
    types-listed B V H s no_type h a = tt
    types-listed B V H s (and_type t ts) h a =
        (type-listed B V H s t h.0 (λ n k. a n (left n (names_type t) (names_types ts) k)), types-listed B V H s ts h.1 (λ n k. a n (right n (names_type t) (names_types ts) k)))

  module _ (L : List N) where
    closed-listed : (σ : Scheme N) → IsClosedIn S L σ → Among (names_scheme σ) M → IsClosedIn S M σ
    closed-listed σ h a = type-listed _ _ (IsHeadIn S L) (λ h k q. q.1) σ.body h a

    constructors-listed : (cs : Map (Scheme N)) → Each (IsClosedIn S L) cs → Among (names_map names_scheme cs) M → Each (IsClosedIn S M) cs
    constructors-listed [] h a = tt
    constructors-listed (c ∷ cs) h a =
        (closed-listed c.1 h.0 (λ n k. a n (left n (names_scheme c.1) (names_map names_scheme cs) k)), constructors-listed cs h.1 (λ n k. a n (right n (names_scheme c.1) (names_map names_scheme cs) k)))

    str-listed : (t : TyStr N) → IsTyStrIn S L t → Among (names_ty_str t) M → IsTyStrIn S M t
    str-listed t h a = (
      closed-listed t.function h.0 (λ n k. a n (left n (names_scheme t.function) (names_map names_scheme t.constructors) k)),
      constructors-listed t.constructors h.1 (λ n k. a n (right n (names_scheme t.function) (names_map names_scheme t.constructors) k)),
    )

    strs-listed : (ts : Map (TyStr N)) → Each (IsTyStrIn S L) ts → Among (names_map names_ty_str ts) M → Each (IsTyStrIn S M) ts
    strs-listed [] h a = tt
    strs-listed (t ∷ ts) h a =
        (str-listed t.1 h.0 (λ n k. a n (left n (names_ty_str t.1) (names_map names_ty_str ts) k)), strs-listed ts h.1 (λ n k. a n (right n (names_ty_str t.1) (names_map names_ty_str ts) k)))

    abbrev value_names : Value N → List N
    value_names v = names_scheme v.scheme

    values-listed : (vs : Map (Value N)) → Each (IsValueIn S 0 L) vs → Among (names_map value_names vs) M → Each (IsValueIn S 0 M) vs
    values-listed [] h a = tt
    values-listed (v ∷ vs) h a = (
      (type-listed _ _ (IsHeadIn S L) (λ h k q. q.1) v.1.scheme.body h.0.0 (λ n k. a n (left n (value_names v.1) (names_map value_names vs) k)), h.0.1),
      values-listed vs h.1 (λ n k. a n (right n (value_names v.1) (names_map value_names vs) k)),
    )

    mutual
      unfolding IsEnvIn names_in

      pub env-listed : (E : Env N) → IsEnvIn S 0 L E → Among (names_env E) M → IsEnvIn S 0 M E
      env-listed (maps ss ts vs) h a =
          let us = names_structures names_ty_str value_names ss in
          let bs = names_map names_ty_str ts in
          let cs = names_map value_names vs in
          (inside-listed ss h.0 (λ n k. a n (left n us (bs ++ cs) k)), strs-listed ts h.1 (λ n k. a n (right n us (bs ++ cs) (left n bs cs k))), values-listed vs h.2 (λ n k. a n (right n us (bs ++ cs) (right n bs cs k))))

      inside-listed : (ss : Structures (TyStr N) (Value N)) → AreStructuresIn S 0 L ss → Among (names_structures names_ty_str value_names ss) M → AreStructuresIn S 0 M ss
      inside-listed no_structure h a = tt
      inside-listed (and_structure s E ss) h a =
          let us = names_structures names_ty_str value_names ss in
          (env-listed E h.0 (λ n k. a n (left n (names_env E) us k)), inside-listed ss h.1 (λ n k. a n (right n (names_env E) us k)))
