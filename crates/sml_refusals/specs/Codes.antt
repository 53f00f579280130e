-- Which codes a refusal can have, by the phrase that was read. docs/CODES.md and docs/MODULE_CODES.md say what each means.
use Rattle.std.specs.Prelude.{◌≡◌, ◌||◌, Bool, true, false, List, []}
use Rattle.sml_lex.specs.declared.fault.Code.{Code}
use Rattle.sml_lex.specs.declared.fault.Code.TheVariants.{E1, E2, E3, E4, E5, E6, E7, E8, E9, E10, U1, U2, U3, U4, U5, U6, U7, M1, M2, M3, M4, M5, M6, M7, N1, N2, N3, N4, N5, N6, N7, Q1, Q2, Q3}
use Rattle.sml_lex.specs.Faults.{Fault}
use Rattle.sml_tree.specs.Names.{LongName}
use Rattle.sml_tree.specs.Types.{Ty}
use Rattle.sml_tree.specs.Patterns.{Pat}
use Rattle.sml_tree.specs.Expressions.{Exp, Dec, TypBind, DatBind, ExnBind}
use Rattle.sml_tree.specs.Signatures.{SigExp}
use Rattle.sml_tree.specs.Structures.{StrExp, TopDec, SigBind, top_str, signature_dec, functor_dec}
use Rattle.sml_tree.specs.declared.structures.Ascription.{Ascription}
use Rattle.sml_objects.specs.Maps.{Map}
use Rattle.sml_objects.specs.Objects.{MlType}
use Rattle.sml_rules.specs.Answers.{refused}
use Rattle.sml_core_rules.specs.Objects.{Env, Sig, FunSig, Basis}
use Rattle.sml_core_rules.specs.States.{Scope, State}
use Rattle.sml_core_rules.specs.Scripts.{IsAnswer}
use Rattle.sml_core_rules.specs.Types.{read_ty}
use Rattle.sml_core_rules.specs.Patterns.{Bindings, read_pat}
use Rattle.sml_core_rules.specs.Expressions.{read_types, read_datatypes, read_exceptions, read_opened, read_exp, read_dec}
use Rattle.sml_module_rules.specs.Matching.{ascribe, apply_functor}
use Rattle.sml_module_rules.specs.Signatures.{read_sig}
use Rattle.sml_module_rules.specs.Structures.{read_str, IsTopReading}

-- the table

-- what demands of types are refused with
abbrev pub demand_code : Code → Bool
demand_code U1 = true
demand_code U2 = true
demand_code U3 = true
demand_code E6 = true
demand_code U4 = true
demand_code U5 = true
demand_code U7 = true
demand_code _ = false

abbrev pub type_code : Code → Bool
type_code E2 = true
type_code E3 = true
type_code E4 = true
type_code E8 = true
type_code _ = false

abbrev pub size_code : Code → Bool
size_code E7 = true
size_code _ = false

-- bindings of types and of datatypes
abbrev pub binding_code : Code → Bool
binding_code c = size_code c || type_code c

abbrev pub copy_code : Code → Bool
copy_code E1 = true
copy_code E5 = true
copy_code _ = false

abbrev pub exception_code : Code → Bool
exception_code c = copy_code c || type_code c

abbrev pub opened_code : Code → Bool
opened_code E3 = true
opened_code _ = false

abbrev pub variable_code : Code → Bool
variable_code E1 = true
variable_code E5 = true
variable_code E10 = true
variable_code _ = false

abbrev pub pattern_code : Code → Bool
pattern_code c = variable_code c || (binding_code c || demand_code c)

abbrev pub value_code : Code → Bool
value_code E9 = true
value_code U6 = true
value_code _ = false

-- expressions and declarations
abbrev pub core_code : Code → Bool
core_code c = value_code c || pattern_code c

abbrev pub specification_code : Code → Bool
specification_code N1 = true
specification_code N2 = true
specification_code N3 = true
specification_code N4 = true
specification_code N5 = true
specification_code N6 = true
specification_code N7 = true
specification_code _ = false

abbrev pub signature_code : Code → Bool
signature_code c = specification_code c || binding_code c

abbrev pub line_code : Code → Bool
line_code M1 = true
line_code M2 = true
line_code M3 = true
line_code M4 = true
line_code M5 = true
line_code M6 = true
line_code M7 = true
line_code _ = false

-- a structure behind a signature, or as the argument of a functor
abbrev pub matching_code : Code → Bool
matching_code c = line_code c || size_code c

abbrev pub functor_code : Code → Bool
functor_code Q1 = true
functor_code _ = false

abbrev pub structure_code : Code → Bool
structure_code c = functor_code c || (matching_code c || (signature_code c || core_code c))

-- what is exported at top level
abbrev pub export_code : Code → Bool
export_code Q2 = true
export_code E7 = true
export_code Q3 = true
export_code _ = false

abbrev pub top_code : {P : Type 0} → TopDec P → Code → Bool
top_code (top_str d) c = export_code c || structure_code c
top_code (signature_dec p bs) c = export_code c || signature_code c
top_code (functor_dec p bs) c = export_code c || structure_code c

-- A phrase that is refused, in whatever state, is refused with a code of its line.
pub record RefusalsHaveCodes (P : Type 0) {N : Type 0} (scope : Scope N) : Type 0 where
  pub types : (C : Env N) (vs : Map (MlType N)) (u : Ty P) (f : Fault P) → read_ty C vs u ≡ refused f → type_code f.code ≡ true
  pub type_bindings : (p : P) (C : Env N) (bs : List (TypBind P)) (s : State P N) (f : Fault P) → IsAnswer scope (read_types scope p C bs) s (refused f) → binding_code f.code ≡ true
  pub datatypes : (p : P) (C : Env N) (ds : List (DatBind P)) (s : State P N) (f : Fault P) → IsAnswer scope (read_datatypes scope p C ds) s (refused f) → binding_code f.code ≡ true
  pub exceptions : (C : Env N) (vs : Map (MlType N)) (bs : List (ExnBind P)) (f : Fault P) → read_exceptions scope C vs [] bs ≡ refused f → exception_code f.code ≡ true
  pub opened : (C E : Env N) (ss : List (LongName P)) (f : Fault P) → read_opened scope C E ss ≡ refused f → opened_code f.code ≡ true
  pub patterns : (is_rec : Bool) (C : Env N) (vs : Map (MlType N)) (bs : Bindings N) (q : Pat P) (s : State P N) (f : Fault P)
      → IsAnswer scope (read_pat scope is_rec C vs bs q) s (refused f) → pattern_code f.code ≡ true
  pub expressions : (C : Env N) (vs : Map (MlType N)) (e : Exp P) (s : State P N) (f : Fault P) → IsAnswer scope (read_exp scope C vs e) s (refused f) → core_code f.code ≡ true
  pub declarations : (C : Env N) (vs : Map (MlType N)) (d : Dec P) (s : State P N) (f : Fault P) → IsAnswer scope (read_dec scope C vs d) s (refused f) → core_code f.code ≡ true
  pub signatures : (G : Map (Sig N)) (C : Env N) (e : SigExp P) (s : State P N) (f : Fault P) → IsAnswer scope (read_sig scope G C e) s (refused f) → signature_code f.code ≡ true
  pub matching : (p : P) (E : Env N) (a : Ascription) (S : Sig N) (s : State P N) (f : Fault P) → IsAnswer scope (ascribe scope p E a S) s (refused f) → matching_code f.code ≡ true
  pub applications : (p : P) (F : FunSig N) (E : Env N) (s : State P N) (f : Fault P) → IsAnswer scope (apply_functor scope p F E) s (refused f) → matching_code f.code ≡ true
  pub structures : (B : Basis N) (C : Env N) (e : StrExp P) (s : State P N) (f : Fault P) → IsAnswer scope (read_str scope B C e) s (refused f) → structure_code f.code ≡ true
  pub top : (p : P) (B : Basis N) (d : TopDec P) (f : Fault P) → IsTopReading scope p B d (refused f) → top_code d f.code ≡ true
