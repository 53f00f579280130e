-- Structures against signatures (the Definition, sections 5.4 to 5.6). What is asked stands at the place of the signature, or of
-- the functor.
use Rattle.std.specs.Prelude.{◌≡◌, ◌⊎◌, ℕ, suc, Bool, true, false, ◌&&◌, ◌||◌, not, nat_eq, is_none, cond, List, [], ◌∷◌, map, length, slice_index_or, Some, None}
use Rattle.std.specs.List.{AllByRecursion}
use Rattle.sml_lex.specs.declared.fault.Code.TheVariants.{E7, M2, M3, M4, M5, M6, M7}
use Rattle.sml_lex.specs.Faults.{Fault}
use Rattle.sml_tree.specs.Trees.{LongId}
use Rattle.sml_tree.specs.declared.structures.Ascription.{Ascription}
use Rattle.sml_tree.specs.declared.structures.Ascription.TheVariants.{Transparent, Opaque}
use Rattle.sml_objects.specs.Appearance.{stands}
use Rattle.sml_objects.specs.Names.{Naming}
use Rattle.sml_objects.specs.Equality.{is_ref, admits_by, has_equality}
use Rattle.sml_objects.specs.Objects.{MlType, Scheme, free}
use Rattle.sml_objects.specs.Types.{replace_type, instance_from}
use Rattle.sml_layers.specs.Demands as D
use Rattle.sml_rules.specs.Answers.{Answer, fault, fault_at}
use Rattle.sml_rules.specs.Matching.{Realisation}
use Rattle.sml_core_rules.specs.Answers as A
use Rattle.sml_core_rules.specs.Objects.{Env, Value, TyStr, Sig, FunSig, Status, variable, constructor, exception, overloaded}
use Rattle.sml_core_rules.specs.Lookups.{type_at, value_at, structure_at}
use Rattle.sml_core_rules.specs.States.{Scope}
use Rattle.sml_core_rules.specs.Values.{has_unknown}
use Rattle.sml_core_rules.specs.Solutions.{IsFixed}
use Rattle.sml_core_rules.specs.Scripts.{Script, give, requires_or, ◌>>=◌, look, test, so_far, new_unknowns, new_names}
use Rattle.sml_module_rules.specs.Lines.{Line, a_structure, a_type, a_value, lines, path_of, component, IsSmallEnv}
use Rattle.sml_core_rules.specs.Functions.{name_of}
use Rattle.sml_module_rules.specs.Realising.{realise_env, admits_function, no_function, with_function, with_names}

-- The realisation: each bound name of a signature is the type function that the structure has at the name's first path.
module _ {P N : Type 0} (names : Naming N) (p : P) (bound : List N) (E : Env N) where
  -- the type function of the structure for a name
  abbrev pub function_for : LongId → N → TyStr N → Answer P (Scheme N)
  function_for x n t =
      A.◌>>=◌ (component p x (type_at E x)) (λ u. A.◌>>=◌ (A.check (nat_eq (length u.function.variables) (length t.function.variables)) (fault_at M2 p (path_of x))) (λ a.
      A.◌>>=◌ (A.check (not (has_equality names n) || admits_function names u.function) (fault_at M3 p (path_of x))) (λ b. A.give u.function)))

  abbrev pub is_next : Realisation N → N → Bool
  is_next φ n = stands names n bound && is_none (φ n)

  unfoldable pub read_realisation : Realisation N → List (Line (TyStr N) (Value N)) → Answer P (Realisation N)
  read_realisation φ [] = A.give φ
  read_realisation φ ((x, a_structure) ∷ ls) = read_realisation φ ls
  read_realisation φ ((x, a_value v) ∷ ls) = read_realisation φ ls
  read_realisation φ ((x, a_type t) ∷ ls) = elim (name_of t.function) [
    | None ↦ read_realisation φ ls
    | Some n ↦ cond (is_next φ n) (A.◌>>=◌ (function_for x n t) (λ θ. read_realisation (with_function names n θ φ) ls)) (read_realisation φ ls)
  ]

-- a value of the first status serves where one of the second is specified
abbrev pub serves : Status → Status → Bool
serves s variable = true
serves s (overloaded c) = true
serves variable (constructor k n) = false
serves (constructor i m) (constructor k n) = true
serves exception (constructor k n) = false
serves (overloaded c) (constructor k n) = false
serves variable exception = false
serves (constructor k n) exception = false
serves exception exception = true
serves (overloaded c) exception = false

abbrev pub numbers : ℕ → List Bool → List ℕ
numbers k [] = []
numbers k (e ∷ es) = k ∷ numbers (suc k) es

-- Schemes without unknowns: types for the variables of the first make it the second, and admit equality where these do; the
-- variables of the second admit it as they say.
abbrev pub AdmitSo : {N : Type 0} → Naming N → List Bool → List Bool → ℕ → (ℕ → MlType N) → Type 0
AdmitSo names es [] k f = Unit {0}
AdmitSo names es (e ∷ ds) k f = (e ≡ true → admits_by (is_ref names) (λ v. slice_index_or es v false) (has_equality names) (f k) ≡ true) × AdmitSo names es ds (suc k) f

abbrev pub IsGeneral : {N : Type 0} → Naming N → Scheme N → Scheme N → Type 0
IsGeneral {N} names σ τ = (f : ℕ → MlType N) × AdmitSo names τ.variables σ.variables 0 f × (replace_type f free σ.body ≡ instance_from 0 τ.body)

module _ {P N : Type 0} (scope : Scope N) where
  abbrev pub require_or : D.Demand N (List N) → Fault P → Script P N (Unit {0})
  require_or d f = requires_or d f (give tt)

  -- unknowns from k on admit equality, where asked
  abbrev pub admit_equality : Fault P → ℕ → List Bool → Script P N (Unit {0})
  admit_equality f k [] = give tt
  admit_equality f k (false ∷ es) = admit_equality f (suc k) es
  admit_equality f k (true ∷ es) = do
    u ← require_or (D.asks D.equality (free k)) f
    admit_equality f (suc k) es

  -- unknowns from k on are explicit variables of their own
  abbrev pub stand_alone : Fault P → ℕ → List Bool → Script P N (Unit {0})
  stand_alone f k [] = give tt
  stand_alone f k (e ∷ es) = do
    u ← require_or (D.asks (D.variable (record { number = k; equality = e })) (free k)) f
    stand_alone f (suc k) es

  -- The first scheme is at least as general as the second (section 4.5). Unknowns in it may be settled by that, but never by a
  -- variable of the second.
  abbrev pub require_general : Fault P → Scheme N → Scheme N → Script P N (Unit {0})
  require_general f σ τ = do
    k ← new_unknowns (length σ.variables)
    a ← admit_equality f k σ.variables
    j ← new_unknowns (length τ.variables)
    b ← stand_alone f j τ.variables
    c ← require_or (D.equal (instance_from k σ.body) (instance_from j τ.body)) f
    s ← so_far
    test (AllByRecursion (λ v. ¬ (IsFixed scope s k [] v)) (numbers j τ.variables)) f

  -- The structure has each of these, and nothing of it is less than specified (section 5.5).
  unfoldable pub require_lines : P → Env N → List (Line (TyStr N) (Value N)) → Script P N (Unit {0})
  require_lines p E [] = give tt
  require_lines p E ((x, a_structure) ∷ ls) = do
    F ← look (component p x (structure_at E x))
    require_lines p E ls
  require_lines p E ((x, a_type t) ∷ ls) = do
    u ← look (component p x (type_at E x))
    a ← test (length u.function.variables ≡ length t.function.variables) (fault_at M2 p (path_of x))
    b ← test (u.function.body ≡ t.function.body) (fault_at M4 p (path_of x))
    c ← test ((t.constructors ≡ []) ⊎ (u.constructors ≡ t.constructors)) (fault_at M5 p (path_of x))
    require_lines p E ls
  require_lines p E ((x, a_value v) ∷ ls) = do
    u ← look (component p x (value_at E x))
    a ← test (serves u.status v.status ≡ true) (fault_at M7 p (path_of x))
    b ← cond (has_unknown u.scheme.body || has_unknown v.scheme.body) (require_general (fault_at M6 p (path_of x)) u.scheme v.scheme)
        (test (IsGeneral scope.names u.scheme v.scheme) (fault_at M6 p (path_of x)))
    require_lines p E ls

  -- the realisation of a signature that the structure matches; what is realised has no scheme and no type function over the limit
  abbrev pub match_signature : P → Env N → Sig N → Script P N (Realisation N)
  match_signature p E S = do
    φ ← look (read_realisation scope.names p S.names E (no_function scope.names) (lines [] S.body))
    s ← test (IsSmallEnv (realise_env φ S.body)) (fault E7 p)
    a ← require_lines p E (lines [] (realise_env φ S.body))
    give φ

  -- names as those of a signature
  abbrev pub renewed : List N → Script P N (List N)
  renewed ns = new_names (map (λ n. scope.names.attributes n) ns)

  -- the signature with new names
  abbrev pub renewed_signature : Sig N → Script P N (Sig N)
  renewed_signature S = do
    ns ← renewed S.names
    give (record { names = ns; body = realise_env (with_names scope.names S.names ns (no_function scope.names)) S.body })

  -- a structure behind a signature (rules 52 and 53)
  abbrev pub ascribe : P → Env N → Ascription → Sig N → Script P N (Env N)
  ascribe p E Transparent S = do
    φ ← match_signature p E S
    give (realise_env φ S.body)
  ascribe p E Opaque S = do
    φ ← match_signature p E S
    R ← renewed_signature S
    give R.body

  -- what a functor gives for an argument (rule 54)
  abbrev pub apply_functor : P → FunSig N → Env N → Script P N (Env N)
  apply_functor p F E = do
    φ ← match_signature p E F.argument
    ns ← renewed F.result.names
    a ← test (IsSmallEnv (realise_env (with_names scope.names F.result.names ns φ) F.result.body)) (fault E7 p)
    give (realise_env (with_names scope.names F.result.names ns φ) F.result.body)
