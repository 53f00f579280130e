-- Names that a signature binds, their constructors, and what becomes of them where they are shared (the Definition, section 5.7,
-- rule 78, and appendix A).
use Rattle.std.specs.Prelude.{◌≡◌, ◌⊎◌, Bool, true, false, ◌||◌, cond, List, [], ◌∷◌, ◌++◌, map, length, Option, Some, None}
use Rattle.sml_tree.specs.Trees.{Id, LongId}
use Rattle.sml_objects.specs.Equality.{has_equality}
use Rattle.sml_objects.specs.Appearance.{stands}
use Rattle.sml_objects.specs.Maps.{Map, put}
use Rattle.sml_objects.specs.Names.{Naming, Attributes}
use Rattle.sml_objects.specs.Objects.{Scheme}
use Rattle.sml_rules.specs.Answers.{dotted}
use Rattle.sml_rules.specs.Lookups.{Found, found, no_path, no_entry}
use Rattle.sml_rules.specs.Matching.{Realisation}
use Rattle.sml_core_rules.specs.Objects.{Env, Value, TyStr, Sig, identifiers}
use Rattle.sml_core_rules.specs.Lookups.{type_at}
use Rattle.sml_core_rules.specs.Datatypes.{name_function}
use Rattle.sml_core_rules.specs.States.{Scope}
use Rattle.sml_module_rules.specs.Lines.{Line, a_structure, a_type, a_value, lines, path_of}
use Rattle.sml_core_rules.specs.Functions.{name_of}
use Rattle.sml_module_rules.specs.Realising.{is_same_name, no_function, with_function}

abbrev pub first_of : {X : Type 0} → Bool → Map X → Map X → Map X
first_of false cs ds = ds
first_of true [] ds = ds
first_of true (c ∷ cs) ds = c ∷ cs

abbrev pub is_of : {N : Type 0} → Naming N → N → Option N → Bool
is_of names n None = false
is_of names n (Some m) = is_same_name names m n

-- the constructors of the first type whose function is this name and that has some
abbrev pub constructors_in : {N : Type 0} → Naming N → N → List (Line (TyStr N) (Value N)) → Map (Scheme N)
constructors_in names n [] = []
constructors_in names n ((x, a_structure) ∷ ls) = constructors_in names n ls
constructors_in names n ((x, a_value v) ∷ ls) = constructors_in names n ls
constructors_in names n ((x, a_type t) ∷ ls) = first_of (is_of names n (name_of t.function)) t.constructors (constructors_in names n ls)

-- a path in a structure at a path
abbrev pub inside : LongId → LongId → LongId
inside x q = record { path = path_of x ++ q.path; last = q.last }

-- the paths of types, by their text
abbrev pub type_paths : {T V : Type 0} → List (Line T V) → Map LongId
type_paths [] = []
type_paths ((x, a_structure) ∷ ls) = type_paths ls
type_paths ((x, a_value v) ∷ ls) = type_paths ls
type_paths ((x, a_type t) ∷ ls) = put (dotted (path_of x)) x (type_paths ls)

-- what stands at a path of a signature: its type function, if there is one

abbrev pub function_of : {N : Type 0} → Found (TyStr N) → Option (Scheme N)
function_of (found t) = Some t.function
function_of (no_path s) = None
function_of no_entry = None

abbrev pub function_at : {N : Type 0} → Sig N → LongId → Option (Scheme N)
function_at S x = function_of (type_at S.body x)

abbrev pub AreEqualFunctions : {N : Type 0} → Option (Scheme N) → Option (Scheme N) → Type 0
AreEqualFunctions None η = ⊥
AreEqualFunctions (Some θ) None = ⊥
AreEqualFunctions (Some θ) (Some η) = (length θ.variables ≡ length η.variables) × (θ.body ≡ η.body)

abbrev pub common_paths : {N : Type 0} → Found (Env N) → Map LongId
common_paths (found E) = type_paths (lines [] E)
common_paths (no_path s) = []
common_paths no_entry = []

module _ {N : Type 0} (scope : Scope N) where
  -- the bound name that a type function is
  abbrev pub bound_name : List N → Scheme N → Option N
  bound_name ns θ = elim (name_of θ) [ None ↦ None | Some n ↦ cond (stands scope.names n ns) (Some n) None ]

  abbrev pub joined_attributes : N → N → Attributes
  joined_attributes n m = record {
    maker = scope.unit;
    arity = (scope.names.attributes n).arity;
    equality = has_equality scope.names n || has_equality scope.names m;
    constructors = [];
  }

  -- one name for two
  abbrev pub for_both : N → N → List N → Realisation N
  for_both n m [] = no_function scope.names
  for_both n m (k ∷ ks) =
      let θ : Scheme N = name_function k (scope.names.attributes n).arity in with_function scope.names n θ (with_function scope.names m θ (no_function scope.names))

  abbrev pub without : N → N → List N → List N
  without n m [] = []
  without n m (k ∷ ks) = cond (is_same_name scope.names k n || is_same_name scope.names k m) (without n m ks) (k ∷ without n m ks)

  -- two names, both of which have constructors, have those of the same identifiers
  abbrev pub HaveSameConstructors : N → N → Sig N → Type 0
  HaveSameConstructors n m S =
      let cs : List Id = identifiers (constructors_in scope.names n (lines [] S.body)) in
      let ds : List Id = identifiers (constructors_in scope.names m (lines [] S.body)) in (cs ≡ []) ⊎ (ds ≡ []) ⊎ (cs ≡ ds)

  abbrev pub name_at : Sig N → LongId → Option N
  name_at S x = elim (function_at S x) [ None ↦ None | Some θ ↦ bound_name S.names θ ]
