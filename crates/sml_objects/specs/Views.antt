-- The program's objects as those of the definitions, over the names of a run.
use Rattle.std.specs.Prelude.{ℕ, suc, Vec, List, [], ◌∷◌, map}
use Rattle.std.specs.Global.{Global}
use Rattle.std.specs.declared.rc.Rc.{Rc}
use Rattle.sml_tree.specs.Trees.{Id}
use Rattle.sml_tree.specs.Views.{ident_of}
use Rattle.sml_objects.specs.Names as N
use Rattle.sml_objects.specs.Objects as O
use Rattle.sml_objects.specs.Initial.{Name, initial, made}
use Rattle.sml_objects.specs.declared.objects.Initial.{Initial}
use Rattle.sml_objects.specs.declared.objects.Initial.TheVariants.{Int, Word, Char, String, Bool, Exn, Real, List as ListName, Ref}
use Rattle.sml_objects.specs.declared.objects.TyName.{TyName}
use Rattle.sml_objects.specs.declared.objects.TyName.TheVariants as T
use Rattle.sml_objects.specs.declared.labels.Labels.{Labels}
use Rattle.sml_objects.specs.declared.objects.MlType.{MlType}
use Rattle.sml_objects.specs.declared.objects.MlType.TheOpen.{MlType-F, Bound, Free, Row, Arrow, Name as Applied}
use Rattle.sml_objects.specs.declared.objects.MlType.TheFolds.{fold-MlType}
use Rattle.sml_objects.specs.declared.objects.Scheme.{Scheme}
use Rattle.sml_objects.specs.declared.objects.Env.{Env}
use Rattle.sml_objects.specs.declared.objects.Env.TheOpen.{Env-F}
use Rattle.sml_objects.specs.declared.objects.Env.TheFolds.{fold-Env}
use Rattle.sml_objects.specs.declared.objects.Basis.{Basis}
use Rattle.sml_objects.specs.declared.objects.UnitId.{UnitId}

abbrev pub initial_of : Initial → N.Initial
initial_of Int = N.int
initial_of Word = N.word
initial_of Char = N.char
initial_of String = N.string
initial_of Bool = N.bool
initial_of Exn = N.exn
initial_of Real = N.real
initial_of ListName = N.list
initial_of Ref = N.ref

-- a unit as the maker of names, which counts from 1
abbrev pub maker_of : UnitId → ℕ
maker_of u = suc u.index

abbrev pub name_of : TyName → Name
name_of (T.Initial k) = initial (initial_of k)
name_of (T.Made n) = made (maker_of n.unit) n.number n.arity n.equality

abbrev pub label_list : Labels → List Id
label_list ls = map ident_of ls.list.items

abbrev pub row_of : List Id → List (O.MlType Name) → O.MlType Name
row_of ls ts = O.app (O.row ls) (O.types_of ts)

-- one layer of a type, with its parts already seen
abbrev pub type_layer : MlType-F (O.MlType Name) → O.MlType Name
type_layer (Bound k) = O.bound k
type_layer (Free v) = O.free v
type_layer (Row ls ts) = row_of (label_list ls.value) (map (λ t. t.value) ts.items)
type_layer (Arrow t u) = O.arrow_of t.value u.value
type_layer (Applied n ts) = O.app (O.name (name_of n)) (O.types_of (map (λ t. t.value) ts.items))

abbrev pub type_of : MlType → O.MlType Name
type_of = fold-MlType (O.MlType Name) type_layer

abbrev pub scheme_of : Scheme → O.Scheme Name
scheme_of s = record { variables = s.variables.items; body = type_of s.body.value }

-- the entries of a map, each after its identifier
abbrev pub entries_of : {A X : Type 0} → (A → X) → List (Rc (Vec ℕ Global) Global × A) → List (Id × X)
entries_of f es = map (λ e. (ident_of e.0, f e.1)) es

abbrev pub structures_of : List (Id × O.Env Name) → O.Structures Name
structures_of [] = O.no_structure
structures_of (e ∷ es) = O.and_structure e.0 e.1 (structures_of es)

abbrev pub schemes_of : List (Rc (Vec ℕ Global) Global × Rc Scheme Global) → List (Id × O.Scheme Name)
schemes_of es = entries_of (λ s. scheme_of s.value) es

abbrev pub env_layer : Env-F (O.Env Name) → O.Env Name
env_layer e = O.env (structures_of (entries_of (λ s. s.value) e.structures.entries)) (schemes_of e.types.entries) (schemes_of e.values.entries)

abbrev pub env_of : Env → O.Env Name
env_of = fold-Env (O.Env Name) env_layer

-- what a declaration gives: the names that it made, and its environment
abbrev pub sig_of : Basis → O.Sig Name
sig_of b = record { names = map name_of b.names.items; body = env_of b.env }
