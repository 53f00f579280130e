-- Realisation and enrichment (the Definition, sections 5.2, 5.5 and 5.6).
use Rattle.std.specs.Prelude.{◌≡◌, Bool, true, false, cond, Option, Some, None, List, [], ◌∷◌, ◌⊎◌}
use Rattle.sml_objects.specs.Names.{Naming}
use Rattle.sml_objects.specs.Maps.{Map, lookup}
use Rattle.sml_objects.specs.Objects.{Head, MlType, MlTypes, Scheme, Env, Structures, Sig, arrow, row, name, bound, free, app, no_type, and_type, env, no_structure, and_structure, structures, types, values, find_structure}
use Rattle.sml_objects.specs.Types.{applied}
use Rattle.sml_rules.specs.Rules.{IsInstance}

-- A realisation gives type functions for the names that it moves.
abbrev pub Realisation : Type 0 → Type 0
Realisation N = N → Option (Scheme N)

abbrev pub apply_to : {N : Type 0} → N → MlTypes N → Option (Scheme N) → MlType N
apply_to n ts None = app (name n) ts
apply_to n ts (Some θ) = applied θ ts

abbrev pub apply_head : {N : Type 0} → Realisation N → Head N → MlTypes N → MlType N
apply_head φ arrow ts = app arrow ts
apply_head φ (row ls) ts = app (row ls) ts
apply_head φ (name n) ts = apply_to n ts (φ n)

unfoldable mutual
  pub realise_type : {N : Type 0} → Realisation N → MlType N → MlType N
  realise_type φ (bound k) = bound k
  realise_type φ (free v) = free v
  realise_type φ (app h ts) = apply_head φ h (realise_types φ ts)

  pub realise_types : {N : Type 0} → Realisation N → MlTypes N → MlTypes N
  realise_types φ no_type = no_type
  realise_types φ (and_type t ts) = and_type (realise_type φ t) (realise_types φ ts)

abbrev pub realise_scheme : {N : Type 0} → Realisation N → Scheme N → Scheme N
realise_scheme φ σ = record { variables = σ.variables; body = realise_type φ σ.body }

-- every instance of the second is one of the first
unfoldable pub Generalises : {N : Type 0} → Scheme N → Scheme N → Type 0
Generalises {N} σ τ = (t : MlType N) → IsInstance τ t → IsInstance σ t

-- The environment has each of these entries, as a realisation makes them.
unfoldable pub HasTypes : {N : Type 0} → Realisation N → Env N → Map (Scheme N) → Type 0
HasTypes φ E [] = Unit {0}
HasTypes φ E (x ∷ xs) = (lookup x.0 (types E) ≡ Some (realise_scheme φ x.1)) × HasTypes φ E xs

unfoldable pub HasValues : {N : Type 0} → Realisation N → Env N → Map (Scheme N) → Type 0
HasValues φ E [] = Unit {0}
HasValues {N} φ E (x ∷ xs) =
    ((σ : Scheme N) × (lookup x.0 (values E) ≡ Some σ) × Generalises σ (realise_scheme φ x.1)) × HasValues φ E xs

-- The first environment enriches the second, as a realisation makes that.
unfoldable mutual
  pub Enriches : {N : Type 0} → Realisation N → Env N → Env N → Type 0
  Enriches φ E (env ss ts vs) = HasStructures φ E ss × HasTypes φ E ts × HasValues φ E vs

  pub HasStructures : {N : Type 0} → Realisation N → Env N → Structures N → Type 0
  HasStructures φ E no_structure = Unit {0}
  HasStructures {N} φ E (and_structure s F ss) =
      ((G : Env N) × (find_structure s (structures E) ≡ Some G) × Enriches φ G F) × HasStructures φ E ss

-- n is one of the names
unfoldable pub Stands : {N : Type 0} → N → List N → Type 0
Stands n [] = ⊥
Stands n (m ∷ ms) = (n ≡ m) ⊎ Stands n ms

-- Only the names of the list are moved.
unfoldable pub MovesOnly : {N : Type 0} → List N → Realisation N → Type 0
MovesOnly {N} ns φ = (n : N) (θ : Scheme N) → φ n ≡ Some θ → Stands n ns

abbrev pub is_yes : {A : Type 0} → Dec A → Bool
is_yes (yes h) = true
is_yes (no h) = false

module _ {N : Type 0} (names : Naming N) where
  -- whether the type is this name, without arguments
  abbrev pub is_name : N → MlType N → Bool
  is_name n (bound k) = false
  is_name n (free v) = false
  is_name n (app arrow ts) = false
  is_name n (app (row ls) ts) = false
  is_name n (app (name m) ts) = is_yes {A = m ≡ n} (names.same m n)

  -- the type function that the first type with this name has in the structure
  unfoldable pub realised_by : Env N → Map (Scheme N) → Realisation N
  realised_by E [] n = None
  realised_by E (x ∷ xs) n = cond (is_name n x.1.body) (lookup x.0 (types E)) (realised_by E xs n)

-- `E ≥ (T)E'`: the environment enriches an instance of the signature.
unfoldable pub Matches : {N : Type 0} → Env N → Sig N → Type 0
Matches {N} E S = (φ : Realisation N) × MovesOnly S.names φ × Enriches φ E S.body
