-- Semantic objects of the whole language (the Definition, sections 4.2 and 5.1), over any type `N` of type names. Types,
-- schemes and type functions are those of sml_objects.
use Rattle.std.specs.Prelude.{ℕ, List, [], ◌∷◌, ◌++◌, map, Option, Some, None}
use Rattle.sml_tree.specs.Trees.{Id}
use Rattle.sml_objects.specs.Maps.{Map, join, by_order, order_of}
use Rattle.sml_objects.specs.Objects.{Scheme, rename_scheme, names_type}
use Rattle.sml_layers.specs.declared.class.Class.{Class}

-- An overloaded identifier of the initial basis is one of its own.
pub data Status : Type 0 where
  variable : Status
  constructor : (number count : ℕ) → Status
  exception : Status
  overloaded : Class → Status

pub record Value (N : Type 0) : Type 0 where
  pub scheme : Scheme N
  pub status : Status

-- a type function with the constructors that come with it
pub record TyStr (N : Type 0) : Type 0 where
  pub function : Scheme N
  pub constructors : Map (Scheme N)

-- Three finite maps, the last two of any things: structures, types and values.
mutual
  pub data Maps (T V : Type 0) : Type 0 where
    maps : Structures T V → Map T → Map V → Maps T V

  pub data Structures (T V : Type 0) : Type 0 where
    no_structure : Structures T V
    and_structure : Id → Maps T V → Structures T V → Structures T V

abbrev pub Env : Type 0 → Type 0
Env N = Maps (TyStr N) (Value N)

-- `(T)E`; the names are a set
pub record Sig (N : Type 0) : Type 0 where
  pub names : List N
  pub body : Env N

-- `(T)(E, (T')E')`
pub record FunSig (N : Type 0) : Type 0 where
  pub argument : Sig N
  pub result : Sig N

-- `(T, F, G, E)`. The names are all that stood in it so far, bound ones too.
pub record Basis (N : Type 0) : Type 0 where
  pub names : List N
  pub functors : Map (FunSig N)
  pub signatures : Map (Sig N)
  pub body : Env N

-- Maps

abbrev pub structures : {T V : Type 0} → Maps T V → Structures T V
structures (maps ss ts vs) = ss

abbrev pub types : {T V : Type 0} → Maps T V → Map T
types (maps ss ts vs) = ts

abbrev pub values : {T V : Type 0} → Maps T V → Map V
values (maps ss ts vs) = vs

abbrev pub empty : {T V : Type 0} → Maps T V
empty = maps no_structure [] []

abbrev pub of_types : {T V : Type 0} → Map T → Maps T V
of_types ts = maps no_structure ts []

abbrev pub of_values : {T V : Type 0} → Map V → Maps T V
of_values vs = maps no_structure [] vs

abbrev pub find_structure : {T V : Type 0} → Id → Structures T V → Option (Maps T V)
find_structure s no_structure = None
find_structure s (and_structure r E ss) = by_order (order_of s r) (find_structure s ss) (Some E) (find_structure s ss)

abbrev pub put_structure : {T V : Type 0} → Id → Maps T V → Structures T V → Structures T V
put_structure s E no_structure = and_structure s E no_structure
put_structure s E (and_structure r F ss) =
    by_order (order_of s r) (and_structure s E (and_structure r F ss)) (and_structure r E ss) (and_structure r F (put_structure s E ss))

abbrev pub join_structures : {T V : Type 0} → Structures T V → Structures T V → Structures T V
join_structures ss no_structure = ss
join_structures ss (and_structure r E rs) = join_structures (put_structure r E ss) rs

-- `E + E'`: the components of the second hide those of the first
abbrev pub extend : {T V : Type 0} → Maps T V → Maps T V → Maps T V
extend (maps ss ts vs) (maps rs us ws) = maps (join_structures ss rs) (join ts us) (join vs ws)

-- the identifiers of a map, in byte order
abbrev pub identifiers : {X : Type 0} → Map X → List Id
identifiers m = map (λ e. e.0) m

-- Renaming (section 5.2), by one function that replaces what stands in maps

abbrev pub replaced : {X Y : Type 0} → (X → Y) → Map X → Map Y
replaced f es = map (λ e. (e.0, f e.1)) es

unfoldable mutual
  pub replace : {T U V W : Type 0} → (T → U) → (V → W) → Maps T V → Maps U W
  replace f g (maps ss ts vs) = maps (replace_structures f g ss) (replaced f ts) (replaced g vs)

  pub replace_structures : {T U V W : Type 0} → (T → U) → (V → W) → Structures T V → Structures U W
  replace_structures f g no_structure = no_structure
  replace_structures f g (and_structure s E ss) = and_structure s (replace f g E) (replace_structures f g ss)

abbrev pub rename_value : {A B : Type 0} → (A → B) → Value A → Value B
rename_value f v = record { scheme = rename_scheme f v.scheme; status = v.status }

abbrev pub rename_ty_str : {A B : Type 0} → (A → B) → TyStr A → TyStr B
rename_ty_str f t = record { function = rename_scheme f t.function; constructors = replaced (rename_scheme f) t.constructors }

abbrev pub rename_env : {A B : Type 0} → (A → B) → Env A → Env B
rename_env f E = replace (rename_ty_str f) (rename_value f) E

abbrev pub rename_sig : {A B : Type 0} → (A → B) → Sig A → Sig B
rename_sig f S = record { names = map f S.names; body = rename_env f S.body }

abbrev pub rename_fun_sig : {A B : Type 0} → (A → B) → FunSig A → FunSig B
rename_fun_sig f F = record { argument = rename_sig f F.argument; result = rename_sig f F.result }

abbrev pub rename_basis : {A B : Type 0} → (A → B) → Basis A → Basis B
rename_basis f B = record {
  names = map f B.names;
  functors = replaced (rename_fun_sig f) B.functors;
  signatures = replaced (rename_sig f) B.signatures;
  body = rename_env f B.body;
}

-- The names that stand in an object, bound ones too

abbrev pub names_map : {N X : Type 0} → (X → List N) → Map X → List N
names_map f [] = []
names_map f (e ∷ es) = f e.1 ++ names_map f es

unfoldable mutual
  pub names_in : {N T V : Type 0} → (T → List N) → (V → List N) → Maps T V → List N
  names_in f g (maps ss ts vs) = names_structures f g ss ++ (names_map f ts ++ names_map g vs)

  pub names_structures : {N T V : Type 0} → (T → List N) → (V → List N) → Structures T V → List N
  names_structures f g no_structure = []
  names_structures f g (and_structure s E ss) = names_in f g E ++ names_structures f g ss

abbrev pub names_scheme : {N : Type 0} → Scheme N → List N
names_scheme σ = names_type σ.body

abbrev pub names_ty_str : {N : Type 0} → TyStr N → List N
names_ty_str t = names_scheme t.function ++ names_map names_scheme t.constructors

abbrev pub names_env : {N : Type 0} → Env N → List N
names_env E = names_in names_ty_str (λ v. names_scheme v.scheme) E

abbrev pub names_sig : {N : Type 0} → Sig N → List N
names_sig S = S.names ++ names_env S.body

abbrev pub names_fun_sig : {N : Type 0} → FunSig N → List N
names_fun_sig F = names_sig F.argument ++ names_sig F.result

abbrev pub names_basis : {N : Type 0} → Basis N → List N
names_basis B = B.names ++ (names_map names_fun_sig B.functors ++ (names_map names_sig B.signatures ++ names_env B.body))
