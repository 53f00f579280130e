-- Samples of structures against signatures, each beside what it is.
use Rattle.std.specs.Prelude.{◌+◌, false, true, [], ◌∷◌, codes, Some}
use Rattle.sml_lex.specs.declared.fault.Code.TheVariants.{E3, M2, M3, M4, M5, M6, M7, Q2}
use Rattle.sml_tree.specs.declared.structures.Ascription.TheVariants.{Transparent}
use Rattle.sml_tree.specs.Trees.{Id}
use Rattle.sml_tree.specs.Types.{Ty, ty_variable, ty_arrow}
use Rattle.sml_tree.specs.Expressions.{Dec, DatBind, apply, bracket, val_dec, datatype_dec, no_bind}
use Rattle.sml_tree.specs.Signatures.{SigExp, Spec, sig_end, where_type, val_spec, type_spec, datatype_spec, exception_spec}
use Rattle.sml_tree.specs.Structures.{TopDec, struct_end, str_name, and_str_dec, ascribed, core_dec, structure_dec, str_bind, no_str_bind, and_str_bind, top_str}
use Rattle.sml_objects.specs.Names.{int}
use Rattle.sml_objects.specs.Initial.{Name, made}
use Rattle.sml_objects.specs.Objects.{MlType, Scheme, app, name, bound, no_type, and_type, arrow_of}
use Rattle.sml_rules.specs.Answers.{fault, fault_at}
use Rattle.sml_core_rules.specs.Objects.{Env, constructor, variable, of_values, maps, no_structure}
use Rattle.sml_samples.specs.Around.{Place, name_at, long_at, constructor_at, type_of, value_of}
use Rattle.sml_samples.specs.Core.{plain_constructor, datatype_binding, type_at, pattern_at, one_binding, three, variable_at, identity, one_value}
use Rattle.sml_samples.specs.Modules.{AcceptsTop, RefusesTop, core_at, top_structure, one_structure}
use Rattle.sml_samples.specs.Specifications.{specs_of, eqtype_specified, type_alone, is_type}

-- `structure A = struct d end : s`
abbrev pub against : Dec Place → SigExp Place → TopDec Place
against d s = top_structure (ascribed 4 (struct_end 4 (core_at d)) Transparent s)

abbrev pub one_spec : Place → Spec Place → SigExp Place
one_spec p q = sig_end p (specs_of (q ∷ []))

abbrev pub value_spec : Place → Id → Ty Place → Spec Place
value_spec p x ty = val_spec p (record { name = name_at (p + 1) x; ty = ty } ∷ [])

-- `val x = 3`, and `val i = (fn x => x) (fn x => x)`, whose type stays open
abbrev pub three_value : Dec Place
three_value = val_dec 5 [] (one_binding (pattern_at 6 (codes "x")) (three 8)) no_bind

abbrev pub open_value : Dec Place
open_value = val_dec 5 [] (one_binding (pattern_at 6 (codes "i")) (apply 8 (bracket 8 (identity 9)) (bracket 14 (identity 15)))) no_bind

-- `'a d = D of 'a`
abbrev pub boxes_binding : Place → DatBind Place
boxes_binding p = record {
  variables = name_at p (codes "'a") ∷ [];
  name = name_at (p + 1) (codes "d");
  constructors = record { name = name_at (p + 3) (codes "D"); argument = Some (ty_variable (p + 5) (codes "'a")) } ∷ [];
}

abbrev pub boxed : Name → MlType Name
boxed n = app (name n) (and_type (bound 0) no_type)

abbrev pub box_scheme : Name → Scheme Name
box_scheme n = record { variables = false ∷ []; body = arrow_of (bound 0) (boxed n) }

abbrev pub boxes_of : Name → Env Name
boxes_of n =
    maps no_structure
    ((codes "d", record { function = record { variables = false ∷ []; body = boxed n }; constructors = (codes "D", box_scheme n) ∷ [] }) ∷ [])
    ((codes "D", record { scheme = box_scheme n; status = constructor 0 1 }) ∷ [])

-- `structure A = struct val i = .. end and B = C`
abbrev pub open_group : TopDec Place
open_group =
    top_str (structure_dec 1 (and_str_bind (str_bind (name_at 2 (codes "A")) (struct_end 4 (core_at open_value))) (and_str_bind (str_bind (name_at 22 (codes "B")) (str_name (long_at 24 (codes "C")))) no_str_bind)))

pub record MatchSamples : Type 0 where
  -- `struct datatype 'a d = D of 'a end : sig datatype 'a d = D of 'a end`
  pub datatype_accepted : AcceptsTop (against (datatype_dec 5 (boxes_binding 6 ∷ [])) (one_spec 14 (datatype_spec 15 (boxes_binding 16 ∷ []))))
      (one_structure (made 1 0 1 true ∷ []) (boxes_of (made 1 0 1 true)))
  -- `struct type t = int end : sig type 'a t end`
  pub arity_refused : RefusesTop
      (against (type_at 5 (codes "t") (codes "int")) (one_spec 11 (type_spec 12 (record { variables = name_at 13 (codes "'a") ∷ []; name = name_at 14 (codes "t") } ∷ []))))
      (fault_at M2 11 (codes "t" ∷ []))
  -- `struct type t = real end : sig eqtype t end`
  pub equality_refused : RefusesTop (against (type_at 5 (codes "t") (codes "real")) (one_spec 11 (eqtype_specified 12 (codes "t")))) (fault_at M3 11 (codes "t" ∷ []))
  -- `struct type t = string end : sig type t end where type t = int`
  pub type_refused : RefusesTop (against (type_at 5 (codes "t") (codes "string")) (where_type 11 (type_alone 11) (is_type 17 (codes "t") (codes "int"))))
      (fault_at M4 11 (codes "t" ∷ []))
  -- `struct type d = int end : sig datatype d = D end`
  pub constructors_refused : RefusesTop
      (against (type_at 5 (codes "d") (codes "int")) (one_spec 11 (datatype_spec 12 (datatype_binding 13 (codes "d") (plain_constructor 15 (codes "D")) ∷ []))))
      (fault_at M5 11 (codes "d" ∷ []))
  -- `struct val x = 3 end : sig val x : bool end`
  pub value_refused : RefusesTop (against three_value (one_spec 11 (value_spec 12 (codes "x") (constructor_at 15 (codes "bool"))))) (fault_at M6 11 (codes "x" ∷ []))
  -- `struct val x = 3 end : sig exception x end`
  pub status_refused : RefusesTop (against three_value (one_spec 11 (exception_spec 12 (plain_constructor 13 (codes "x") ∷ [])))) (fault_at M7 11 (codes "x" ∷ []))
  -- an open type against `sig val i : int -> int end`, which settles it, and against `sig val i : 'a -> 'a end`
  pub open_accepted : AcceptsTop
      (against open_value (one_spec 22 (value_spec 23 (codes "i") (ty_arrow 26 (constructor_at 26 (codes "int")) (constructor_at 28 (codes "int"))))))
      (one_structure [] (one_value (codes "i") variable (arrow_of (type_of int) (type_of int))))
  pub open_refused : RefusesTop
      (against open_value (one_spec 22 (value_spec 23 (codes "i") (ty_arrow 26 (ty_variable 26 (codes "'a")) (ty_variable 28 (codes "'a"))))))
      (fault_at M6 22 (codes "i" ∷ []))
  -- an open type that a later declaration of the structure settles, `val j = i 3`
  pub later_accepted : AcceptsTop
      (top_structure
      (struct_end 4 (and_str_dec (core_dec open_value) (core_at (val_dec 20 [] (one_binding (pattern_at 21 (codes "j")) (apply 23 (variable_at 23 (codes "i")) (three 24))) no_bind)))))
      (one_structure []
      (of_values ((codes "i", value_of variable (arrow_of (type_of int) (type_of int))) ∷ (codes "j", value_of variable (type_of int)) ∷ [])))
  -- an open type in a structure, where the structure after it in the group is refused: `structure A = struct .. end and B = C`
  pub group_refused : RefusesTop open_group (fault_at E3 24 (codes "C" ∷ []))
  -- an open type at the top
  pub top_refused : RefusesTop (top_str (core_dec open_value)) (fault Q2 1)
