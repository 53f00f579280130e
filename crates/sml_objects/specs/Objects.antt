-- Semantic objects (the Definition, sections 4.2 and 5.1), over any type `N` of type names.
use Rattle.std.specs.Prelude.{◌≡◌, ℕ, ◌+◌, Bool, Option, Some, None, List, [], ◌∷◌, ◌++◌, map, length, decimal, suc}
use Rattle.sml_tree.specs.Trees.{Id}
use Rattle.sml_objects.specs.Maps.{Map, join, by_order, order_of}

-- A type is a variable, or an arrow, a row or a name applied to types. A variable is bound by the scheme around
-- it, which numbers its variables from 0 in the order of their first appearance, or free.
pub data Head (N : Type 0) : Type 0 where
  arrow : Head N
  row : List Id → Head N
  name : N → Head N

mutual
  pub data MlType (N : Type 0) : Type 0 where
    bound : ℕ → MlType N
    free : ℕ → MlType N
    app : Head N → MlTypes N → MlType N

  pub data MlTypes (N : Type 0) : Type 0 where
    no_type : MlTypes N
    and_type : MlType N → MlTypes N → MlTypes N

-- Variables with a body: a type scheme, and a type function. Each variable has its equality attribute.
pub record Scheme (N : Type 0) : Type 0 where
  pub variables : List Bool
  pub body : MlType N

-- An environment is three finite maps: structures, type functions, and schemes of values.
mutual
  pub data Env (N : Type 0) : Type 0 where
    env : Structures N → Map (Scheme N) → Map (Scheme N) → Env N

  pub data Structures (N : Type 0) : Type 0 where
    no_structure : Structures N
    and_structure : Id → Env N → Structures N → Structures N

-- `(T)E`
pub record Sig (N : Type 0) : Type 0 where
  pub names : List N
  pub body : Env N

-- The names that stood in a basis so far, how many of them its own unit made, and its environment.
pub record Basis (N : Type 0) : Type 0 where
  pub names : List N
  pub count : ℕ
  pub body : Env N

-- Maps

abbrev pub structures : {N : Type 0} → Env N → Structures N
structures (env ss ts vs) = ss

abbrev pub types : {N : Type 0} → Env N → Map (Scheme N)
types (env ss ts vs) = ts

abbrev pub values : {N : Type 0} → Env N → Map (Scheme N)
values (env ss ts vs) = vs

abbrev pub empty_env : {N : Type 0} → Env N
empty_env = env no_structure [] []

abbrev pub one_structure : {N : Type 0} → Id → Env N → Env N
one_structure s e = env (and_structure s e no_structure) [] []

abbrev pub one_type : {N : Type 0} → Id → Scheme N → Env N
one_type t θ = env no_structure ((t, θ) ∷ []) []

abbrev pub one_value : {N : Type 0} → Id → Scheme N → Env N
one_value x σ = env no_structure [] ((x, σ) ∷ [])

abbrev pub find_structure : {N : Type 0} → Id → Structures N → Option (Env N)
find_structure s no_structure = None
find_structure s (and_structure s' e ss) = by_order (order_of s s') (find_structure s ss) (Some e) (find_structure s ss)

abbrev pub put_structure : {N : Type 0} → Id → Env N → Structures N → Structures N
put_structure s e no_structure = and_structure s e no_structure
put_structure s e (and_structure s' e' ss) =
    by_order (order_of s s') (and_structure s e (and_structure s' e' ss)) (and_structure s' e ss) (and_structure s' e' (put_structure s e ss))

abbrev pub join_structures : {N : Type 0} → Structures N → Structures N → Structures N
join_structures ss no_structure = ss
join_structures ss (and_structure s e rs) = join_structures (put_structure s e ss) rs

-- `E + E'`: the components of E' hide those of E
abbrev pub extend_env : {N : Type 0} → Env N → Env N → Env N
extend_env (env ss ts vs) (env ss' ts' vs') = env (join_structures ss ss') (join ts ts') (join vs vs')

-- Renaming (section 5.2)

abbrev pub rename_head : {A B : Type 0} → (A → B) → Head A → Head B
rename_head f arrow = arrow
rename_head f (row ls) = row ls
rename_head f (name n) = name (f n)

unfoldable mutual
  pub rename_type : {A B : Type 0} → (A → B) → MlType A → MlType B
  rename_type f (bound k) = bound k
  rename_type f (free v) = free v
  rename_type f (app h ts) = app (rename_head f h) (rename_types f ts)

  pub rename_types : {A B : Type 0} → (A → B) → MlTypes A → MlTypes B
  rename_types f no_type = no_type
  rename_types f (and_type t ts) = and_type (rename_type f t) (rename_types f ts)

unfoldable pub rename_scheme : {A B : Type 0} → (A → B) → Scheme A → Scheme B
rename_scheme f s = record { variables = s.variables; body = rename_type f s.body }

unfoldable pub rename_map : {A B : Type 0} → (A → B) → Map (Scheme A) → Map (Scheme B)
rename_map f [] = []
rename_map f (x ∷ xs) = (x.0, rename_scheme f x.1) ∷ rename_map f xs

unfoldable mutual
  pub rename_env : {A B : Type 0} → (A → B) → Env A → Env B
  rename_env f (env ss ts vs) = env (rename_structures f ss) (rename_map f ts) (rename_map f vs)

  pub rename_structures : {A B : Type 0} → (A → B) → Structures A → Structures B
  rename_structures f no_structure = no_structure
  rename_structures f (and_structure s e ss) = and_structure s (rename_env f e) (rename_structures f ss)

unfoldable pub rename_sig : {A B : Type 0} → (A → B) → Sig A → Sig B
rename_sig f s = record { names = map f s.names; body = rename_env f s.body }

unfoldable pub rename_basis : {A B : Type 0} → (A → B) → Basis A → Basis B
rename_basis f b = record { names = map f b.names; count = b.count; body = rename_env f b.body }

-- The names that stand in an object, bound ones too.

abbrev pub names_head : {N : Type 0} → Head N → List N
names_head arrow = []
names_head (row ls) = []
names_head (name n) = n ∷ []

unfoldable mutual
  pub names_type : {N : Type 0} → MlType N → List N
  names_type (bound k) = []
  names_type (free v) = []
  names_type (app h ts) = names_head h ++ names_types ts

  pub names_types : {N : Type 0} → MlTypes N → List N
  names_types no_type = []
  names_types (and_type t ts) = names_type t ++ names_types ts

unfoldable pub names_map : {N : Type 0} → Map (Scheme N) → List N
names_map [] = []
names_map (x ∷ xs) = names_type x.1.body ++ names_map xs

unfoldable mutual
  pub names_env : {N : Type 0} → Env N → List N
  names_env (env ss ts vs) = names_structures ss ++ (names_map ts ++ names_map vs)

  pub names_structures : {N : Type 0} → Structures N → List N
  names_structures no_structure = []
  names_structures (and_structure s e ss) = names_env e ++ names_structures ss

unfoldable pub names_sig : {N : Type 0} → Sig N → List N
names_sig s = s.names ++ names_env s.body

unfoldable pub names_basis : {N : Type 0} → Basis N → List N
names_basis b = b.names ++ names_env b.body

-- n is none of the names
unfoldable pub Outside : {N : Type 0} → N → List N → Type 0
Outside n [] = Unit {0}
Outside n (m ∷ ms) = ¬ (m ≡ n) × Outside n ms

-- `B + (T)E`: the names of either are kept, also of what is hidden now.
unfoldable pub extend : {N : Type 0} → Basis N → Sig N → Basis N
extend b s = record {
  names = names_sig s ++ names_basis b;
  count = b.count + length s.names;
  body = extend_env b.body s.body;
}

-- Types that are often met

abbrev pub types_of : {N : Type 0} → List (MlType N) → MlTypes N
types_of [] = no_type
types_of (t ∷ ts) = and_type t (types_of ts)

abbrev pub mono : {N : Type 0} → MlType N → Scheme N
mono t = record { variables = []; body = t }

abbrev pub arrow_of : {N : Type 0} → MlType N → MlType N → MlType N
arrow_of a b = app arrow (and_type a (and_type b no_type))

abbrev pub named : {N : Type 0} → N → MlType N
named n = app (name n) no_type

-- the labels of a row of so many fields: k, the number after it and so on
abbrev pub labels_of : {N : Type 0} → ℕ → MlTypes N → List Id
labels_of k no_type = []
labels_of k (and_type t ts) = decimal k ∷ labels_of (suc k) ts

abbrev pub tuple_of : {N : Type 0} → MlTypes N → MlType N
tuple_of ts = app (row (labels_of 1 ts)) ts
