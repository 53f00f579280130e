-- Bindings of types and of datatypes (the Definition, section 4.10, rules 16, 17 and 27 to 29, and section 4.9).
use Rattle.std.specs.Prelude.{◌≡◌, ◌≤◌, ℕ, zero, suc, Bool, true, false, ◌&&◌, nat_eq, List, [], ◌∷◌, map, length, replicate, slice_index_or, Option, Some, None}
use Rattle.sml_tree.specs.Trees.{Id}
use Rattle.sml_tree.specs.Names.{Name}
use Rattle.sml_tree.specs.Types.{Ty}
use Rattle.sml_tree.specs.Expressions.{TypBind, ConBind, DatBind}
use Rattle.sml_objects.specs.Appearance.{Stands}
use Rattle.sml_objects.specs.Equality.{is_ref, has_equality, admits_by}
use Rattle.sml_objects.specs.Fates.{closed}
use Rattle.sml_objects.specs.declared.fates.Fate.TheVariants.{Bind}
use Rattle.sml_objects.specs.Maps.{Map, put}
use Rattle.sml_objects.specs.Names.{Naming, Initial}
use Rattle.sml_objects.specs.Objects.{MlType, MlTypes, Scheme, bound, free, app, name, no_type, and_type, arrow_of, Outside}
use Rattle.sml_objects.specs.Sizes.{type_size}
use Rattle.sml_objects.specs.Types.{variables_after}
use Rattle.sml_rules.specs.Answers.{Answer}
use Rattle.sml_core_rules.specs.Answers.{give, ◌>>=◌}
use Rattle.sml_core_rules.specs.Objects.{Env, Value, TyStr, constructor, of_types, maps, no_structure, extend, empty}
use Rattle.sml_core_rules.specs.Types.{read_ty}

-- A scheme and the body of a type function have at most 10,000 nodes.
abbrev pub IsSmall : {N : Type 0} → Scheme N → Type 0
IsSmall σ = type_size σ.body ≤ 10000

abbrev pub AreSmall : {N X : Type 0} → (X → Scheme N) → Map X → Type 0
AreSmall f [] = Unit {0}
AreSmall f (e ∷ es) = IsSmall (f e.1) × AreSmall f es

-- an equality variable begins with two primes (section 2.4)
abbrev pub is_equality : Id → Bool
is_equality [] = false
is_equality (b ∷ []) = false
is_equality (b ∷ c ∷ bs) = nat_eq b 39 && nat_eq c 39

-- the variables of a list, with what the numbers from k on stand for
abbrev pub listed : {P N : Type 0} → (ℕ → MlType N) → ℕ → List (Name P) → Map (MlType N)
listed f k [] = []
listed f k (x ∷ xs) = (x.id, f k) ∷ listed f (suc k) xs

abbrev pub types_from : {N : Type 0} → (ℕ → MlType N) → ℕ → ℕ → MlTypes N
types_from f k zero = no_type
types_from f k (suc n) = and_type (f k) (types_from f (suc k) n)

abbrev pub type_function : {P N : Type 0} → List (Name P) → MlType N → Scheme N
type_function xs t = record { variables = replicate (length xs) false; body = t }

-- the type function that is a name alone; the equality attributes of its variables have no effect
abbrev pub name_function : {N : Type 0} → N → ℕ → Scheme N
name_function n k = record { variables = replicate k false; body = app (name n) (types_from bound 0 k) }

-- The type of a constructor of a datatype, closed over the parameters, of which these admit equality.
abbrev pub constructor_scheme : {N : Type 0} → List Bool → MlType N → Scheme N
constructor_scheme es t = closed (map (λ v. Bind (slice_index_or es v false)) (variables_after [] t)) t

abbrev pub constructor_type : {N : Type 0} → MlType N → Option (MlType N) → MlType N
constructor_type t None = t
constructor_type t (Some u) = arrow_of u t

-- a constructor with the type of its argument, in which the parameters are free variables numbered from 0 on
abbrev pub Arguments : Type 0 → Type 0
Arguments N = List (Id × Option (MlType N))

module _ {N : Type 0} (refs : N → Bool) (eq : N → Bool) where
  -- an argument admits equality, where each parameter does
  abbrev pub argument_admits : Option (MlType N) → Bool
  argument_admits None = true
  argument_admits (Some t) = admits_by refs (λ _. true) eq t

  abbrev pub arguments_admit : Arguments N → Bool
  arguments_admit [] = true
  arguments_admit (c ∷ cs) = argument_admits c.1 && arguments_admit cs

  -- Those that admit equality have constructors whose arguments do.
  abbrev pub Respects : List (N × Arguments N) → Type 0
  Respects [] = Unit {0}
  Respects (d ∷ ds) = (eq d.0 ≡ true → arguments_admit d.1 ≡ true) × Respects ds

-- The new names that admit equality are the largest set that respects it: they contain every other such set.
unfoldable pub AdmitAsManyAsCan : {N : Type 0} → Naming N → List (N × Arguments N) → Type 0
AdmitAsManyAsCan {N} names ds =
    Respects (is_ref names) (has_equality names) ds
    × ((eq : N → Bool) → ((n : N) → ¬ (Stands n (map (λ d. d.0) ds)) → eq n ≡ has_equality names n) → Respects (is_ref names) eq ds
    → (n : N) → Stands n (map (λ d. d.0) ds) → eq n ≡ true → has_equality names n ≡ true)

abbrev pub with_names : {N : Type 0} → List N → List (Arguments N) → List (N × Arguments N)
with_names [] gs = []
with_names (n ∷ ns) [] = []
with_names (n ∷ ns) (a ∷ gs) = (n, a) ∷ with_names ns gs

abbrev pub constructors_of : {N : Type 0} → MlType N → List Bool → Arguments N → Map (Scheme N)
constructors_of t es [] = []
constructors_of t es (c ∷ cs) = put c.0 (constructor_scheme es (constructor_type t c.1)) (constructors_of t es cs)

-- the constructors of a datatype as values, each with its number in byte order and how many there are
abbrev pub constructors_from : {N : Type 0} → ℕ → ℕ → Map (Scheme N) → Map (Value N)
constructors_from k n [] = []
constructors_from k n (c ∷ cs) = (c.0, record { scheme = c.1; status = constructor k n }) ∷ constructors_from (suc k) n cs

abbrev pub constructor_values : {N : Type 0} → Map (Scheme N) → Map (Value N)
constructor_values cs = constructors_from 0 (length cs) cs

module _ {P N : Type 0} where
  -- bindings of types, which see none of each other
  unfoldable pub read_type_binds : Env N → Map (TyStr N) → List (TypBind P) → Answer P (Map (TyStr N))
  read_type_binds C m [] = give m
  read_type_binds C m (b ∷ bs) = do
    t ← read_ty C (listed bound 0 b.variables) b.ty
    read_type_binds C (put b.name.id (record { function = type_function b.variables t; constructors = [] }) m) bs

  abbrev pub read_argument : Env N → Map (MlType N) → Option (Ty P) → Answer P (Option (MlType N))
  read_argument C vs None = give None
  read_argument C vs (Some ty) = do
    t ← read_ty C vs ty
    give (Some t)

  unfoldable pub read_arguments : Env N → Map (MlType N) → List (ConBind P) → Answer P (Arguments N)
  read_arguments C vs [] = give []
  read_arguments C vs (c ∷ cs) = do
    t ← read_argument C vs c.argument
    ts ← read_arguments C vs cs
    give ((c.name.id, t) ∷ ts)

  unfoldable pub read_all_arguments : Env N → List (DatBind P) → Answer P (List (Arguments N))
  read_all_arguments C [] = give []
  read_all_arguments C (d ∷ ds) = do
    a ← read_arguments C (listed free 0 d.variables) d.constructors
    gs ← read_all_arguments C ds
    give (a ∷ gs)

  -- the datatypes as type structures, without their constructors
  abbrev pub datatype_types : Map (TyStr N) → List (DatBind P) → List N → Map (TyStr N)
  datatype_types m [] ns = m
  datatype_types m (d ∷ ds) [] = m
  datatype_types m (d ∷ ds) (n ∷ ns) = datatype_types (put d.name.id (record { function = name_function n (length d.variables); constructors = [] }) m) ds ns

  -- the arguments of the constructors, in a context with the datatypes
  abbrev pub arguments_of : Env N → List (DatBind P) → List N → Answer P (List (Arguments N))
  arguments_of C ds ns = read_all_arguments (extend C (of_types (datatype_types [] ds ns))) ds

  abbrev pub datatype_env : DatBind P → N → Arguments N → Env N
  datatype_env d n cs =
      let made : Map (Scheme N) = constructors_of (app (name n) (types_from free 0 (length d.variables))) (map (λ x. is_equality x.id) d.variables) cs in
      maps no_structure ((d.name.id, record { function = name_function n (length d.variables); constructors = made }) ∷ []) (constructor_values made)

  abbrev pub datatype_envs : List (DatBind P) → List (N × Arguments N) → Env N
  datatype_envs [] gs = empty
  datatype_envs (d ∷ ds) [] = empty
  datatype_envs (d ∷ ds) (a ∷ gs) = extend (datatype_env d a.0 a.1) (datatype_envs ds gs)

-- The names of datatypes are any others than these and than the initial ones, each with the arity of its binding. Their
-- constructors stand in the environment, and are no attribute.
unfoldable pub AreNew : {P N : Type 0} → Naming N → List N → List (DatBind P) → List N → Type 0
AreNew names old [] ns = ns ≡ []
AreNew {N = N} names old (d ∷ ds) ns =
    (n : N) × (rest : List N) × Outside n old × ((k : Initial) → ¬ (names.initial k ≡ n)) × ((names.attributes n).arity ≡ length d.variables)
    × ((names.attributes n).constructors ≡ []) × AreNew names (n ∷ old) ds rest × (ns ≡ n ∷ rest)
