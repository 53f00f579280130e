-- What stands in an environment, each with its path: structures first, each before what stands in it, then types, then values.
use Rattle.std.specs.Prelude.{List, [], ◌∷◌, ◌++◌}
use Rattle.sml_lex.specs.declared.fault.Code.TheVariants.{M1}
use Rattle.sml_tree.specs.Trees.{Id, LongId}
use Rattle.sml_objects.specs.Maps.{Map}
use Rattle.sml_rules.specs.Answers.{Answer, refused, accepted, fault_at}
use Rattle.sml_rules.specs.Lookups.{Found, found, no_path, no_entry}
use Rattle.sml_core_rules.specs.Objects.{Env, Maps, Structures, Value, TyStr, maps, no_structure, and_structure}
use Rattle.sml_core_rules.specs.Datatypes.{IsSmall, AreSmall}

pub data Component (T V : Type 0) : Type 0 where
  a_structure : Component T V
  a_type : T → Component T V
  a_value : V → Component T V

abbrev pub Line : Type 0 → Type 0 → Type 0
Line T V = LongId × Component T V

abbrev pub at_path : List Id → Id → LongId
at_path p x = record { path = p; last = x }

abbrev pub path_of : LongId → List Id
path_of x = x.path ++ x.last ∷ []

abbrev pub type_lines : {T V : Type 0} → List Id → Map T → List (Line T V)
type_lines p [] = []
type_lines p (e ∷ ts) = (at_path p e.0, a_type e.1) ∷ type_lines p ts

abbrev pub value_lines : {T V : Type 0} → List Id → Map V → List (Line T V)
value_lines p [] = []
value_lines p (e ∷ vs) = (at_path p e.0, a_value e.1) ∷ value_lines p vs

unfoldable mutual
  pub lines : {T V : Type 0} → List Id → Maps T V → List (Line T V)
  lines p (maps ss ts vs) = structure_lines p ss ++ (type_lines p ts ++ value_lines p vs)

  pub structure_lines : {T V : Type 0} → List Id → Structures T V → List (Line T V)
  structure_lines p no_structure = []
  structure_lines p (and_structure s E ss) = (at_path p s, a_structure) ∷ (lines (p ++ s ∷ []) E ++ structure_lines p ss)

-- what an environment has at a path, or its shortest prefix at which it has nothing
abbrev pub component : {P X : Type 0} → P → LongId → Found X → Answer P X
component p x (found v) = accepted v
component p x (no_path s) = refused (fault_at M1 p s)
component p x no_entry = refused (fault_at M1 p (path_of x))

-- each scheme and each body of a type function has at most 10,000 nodes
abbrev pub AreAllSmall : {N : Type 0} → List (Line (TyStr N) (Value N)) → Type 0
AreAllSmall [] = Unit {0}
AreAllSmall ((x, a_structure) ∷ ls) = AreAllSmall ls
AreAllSmall ((x, a_type t) ∷ ls) = IsSmall t.function × AreSmall (λ σ. σ) t.constructors × AreAllSmall ls
AreAllSmall ((x, a_value v) ∷ ls) = IsSmall v.scheme × AreAllSmall ls

abbrev pub IsSmallEnv : {N : Type 0} → Env N → Type 0
IsSmallEnv E = AreAllSmall (lines [] E)
