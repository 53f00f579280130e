-- Samples of specifications, each beside the signature that it is in.
use Rattle.std.specs.Prelude.{◌+◌, true, false, List, [], ◌∷◌, codes}
use Rattle.sml_lex.specs.declared.fault.Code.TheVariants.{E2, E3, N1, N2, N3, N4, N5, N6, N7}
use Rattle.sml_tree.specs.Trees.{Id}
use Rattle.sml_tree.specs.Signatures.{SigExp, Spec, Specs, WhereType, sig_end, sig_name, where_type, val_spec, type_spec, eqtype_spec, datatype_spec, copy_spec, exception_spec, structure_spec, include_spec, sharing_types, sharing_structures, no_spec, and_spec, str_desc, no_str_desc, and_str_desc}
use Rattle.sml_tree.specs.Structures.{TopDec, signature_dec}
use Rattle.sml_objects.specs.Names.{int, bool, exn}
use Rattle.sml_objects.specs.Initial.{Name, made}
use Rattle.sml_objects.specs.Objects.{named, arrow_of}
use Rattle.sml_rules.specs.Answers.{fault, fault_at}
use Rattle.sml_core_rules.specs.Objects.{Env, Basis, constructor, exception, maps, no_structure, and_structure, empty, of_types}
use Rattle.sml_samples.specs.Around.{Place, name_at, long_at, constructor_at, initial_names, around, type_of, plain, value_of, booleans}
use Rattle.sml_samples.specs.Core.{constructor_of, plain_constructor, datatype_binding, one_type, one_value, one_datatype}
use Rattle.sml_samples.specs.Modules.{AcceptsTop, RefusesTop, AcceptsIn, basis_of}

-- Parts of the samples

abbrev pub specs_of : List (Spec Place) → Specs Place
specs_of [] = no_spec
specs_of (q ∷ qs) = and_spec q (specs_of qs)

-- `signature T = s`, and `signature T = sig .. end`
abbrev pub signature_is : SigExp Place → TopDec Place
signature_is s = signature_dec 1 (record { name = name_at 2 (codes "T"); signature = s } ∷ [])

abbrev pub signature_of : List (Spec Place) → TopDec Place
signature_of qs = signature_is (sig_end 4 (specs_of qs))

-- the signature is accepted, and has these names and this environment
abbrev pub Specifies : TopDec Place → List Name → Env Name → Type 0
Specifies d ns E = AcceptsTop d (basis_of ns [] ((codes "T", record { names = ns; body = E }) ∷ []) empty)

-- `type x`, `eqtype x`
abbrev pub type_specified : Place → Id → Spec Place
type_specified p x = type_spec p (record { variables = []; name = name_at (p + 1) x } ∷ [])

abbrev pub eqtype_specified : Place → Id → Spec Place
eqtype_specified p x = eqtype_spec p (record { variables = []; name = name_at (p + 1) x } ∷ [])

-- `structure x : s`
abbrev pub structure_specified : Place → Id → SigExp Place → Spec Place
structure_specified p x s = structure_spec p (and_str_desc (str_desc (name_at (p + 1) x) s) no_str_desc)

-- `sig type t end`
abbrev pub type_alone : Place → SigExp Place
type_alone p = sig_end p (specs_of (type_specified (p + 1) (codes "t") ∷ []))

-- `t = c` after `where type`
abbrev pub is_type : Place → Id → Id → WhereType Place
is_type p x c = record { variables = []; constructor = long_at p x; ty = constructor_at (p + 2) c }

abbrev pub new_type : Name → Env Name
new_type n = one_type (codes "t") (plain (named n))

-- a structure with this type
abbrev pub with_structure : Id → Name → Env Name
with_structure x n = maps (and_structure x (new_type n) no_structure) [] []

-- the basis with the signature `U`
abbrev pub with_signature : Basis Name
with_signature = record {
  names = made 1 0 0 false ∷ initial_names;
  functors = [];
  signatures = (codes "U", record { names = made 1 0 0 false ∷ []; body = new_type (made 1 0 0 false) }) ∷ [];
  body = around;
}

pub record SpecificationSamples : Type 0 where
  -- `signature T = U`: its names are new
  pub name_accepted : AcceptsIn with_signature (signature_is (sig_name 4 (codes "U")))
      (basis_of (made 1 1 0 false ∷ []) [] ((codes "T", record { names = made 1 1 0 false ∷ []; body = new_type (made 1 1 0 false) }) ∷ []) empty)
  -- `val x : u`
  pub val_refused : RefusesTop (signature_of (val_spec 5 (record { name = name_at 6 (codes "x"); ty = constructor_at 8 (codes "u") } ∷ []) ∷ [])) (fault_at E2 8 (codes "u" ∷ []))
  -- `type t type t`
  pub type_refused : RefusesTop (signature_of (type_specified 5 (codes "t") ∷ type_specified 7 (codes "t") ∷ [])) (fault N2 7)
  -- `eqtype t`
  pub eqtype_accepted : Specifies (signature_of (eqtype_specified 5 (codes "t") ∷ [])) (made 1 0 0 true ∷ []) (new_type (made 1 0 0 true))
  -- `datatype d = D`, and `datatype d = D of u`
  pub datatype_accepted : Specifies (signature_of (datatype_spec 5 (datatype_binding 6 (codes "d") (plain_constructor 8 (codes "D")) ∷ []) ∷ [])) (made 1 0 0 true ∷ [])
      (one_datatype (codes "d") (made 1 0 0 true) (codes "D") (named (made 1 0 0 true)))
  pub datatype_refused : RefusesTop (signature_of (datatype_spec 5 (datatype_binding 6 (codes "d") (constructor_of 8 (codes "D") (codes "u")) ∷ []) ∷ []))
      (fault_at E2 10 (codes "u" ∷ []))
  -- `datatype e = datatype bool`, and `datatype e = datatype u`
  pub copy_accepted : Specifies (signature_of (copy_spec 5 (name_at 6 (codes "e")) (long_at 9 (codes "bool")) ∷ [])) []
      (maps no_structure ((codes "e", booleans) ∷ [])
      ((codes "false", value_of (constructor 0 2) (type_of bool)) ∷ (codes "true", value_of (constructor 1 2) (type_of bool)) ∷ []))
  pub copy_refused : RefusesTop (signature_of (copy_spec 5 (name_at 6 (codes "e")) (long_at 9 (codes "u")) ∷ [])) (fault_at E2 9 (codes "u" ∷ []))
  -- `exception X of int`, and `exception X of u`
  pub exception_accepted : Specifies (signature_of (exception_spec 5 (constructor_of 6 (codes "X") (codes "int") ∷ []) ∷ [])) []
      (one_value (codes "X") exception (arrow_of (type_of int) (type_of exn)))
  pub exception_refused : RefusesTop (signature_of (exception_spec 5 (constructor_of 6 (codes "X") (codes "u") ∷ []) ∷ [])) (fault_at E2 8 (codes "u" ∷ []))
  -- `structure A : sig type t end`, and `structure A : U`
  pub structure_accepted : Specifies (signature_of (structure_specified 5 (codes "A") (type_alone 8) ∷ [])) (made 1 0 0 false ∷ []) (with_structure (codes "A") (made 1 0 0 false))
  pub structure_refused : RefusesTop (signature_of (structure_specified 5 (codes "A") (sig_name 8 (codes "U")) ∷ [])) (fault_at N1 8 (codes "U" ∷ []))
  -- `include sig type t end`, and `include U`
  pub include_accepted : Specifies (signature_of (include_spec 5 (type_alone 6) ∷ [])) (made 1 0 0 false ∷ []) (new_type (made 1 0 0 false))
  pub include_refused : RefusesTop (signature_of (include_spec 5 (sig_name 6 (codes "U")) ∷ [])) (fault_at N1 6 (codes "U" ∷ []))
  -- `type t type u sharing type t = u`, and `datatype e = datatype bool type t sharing type t = e`
  pub sharing_accepted : Specifies
      (signature_of
      (type_specified 5 (codes "t") ∷ type_specified 7 (codes "u") ∷ sharing_types 9 (long_at 11 (codes "t") ∷ long_at 13 (codes "u") ∷ []) ∷ []))
      (made 1 2 0 false ∷ [])
      (of_types ((codes "t", plain (named (made 1 2 0 false))) ∷ (codes "u", plain (named (made 1 2 0 false))) ∷ []))
  pub sharing_refused : RefusesTop
      (signature_of
      (copy_spec 5 (name_at 6 (codes "e")) (long_at 9 (codes "bool")) ∷ type_specified 10 (codes "t")
      ∷ sharing_types 12 (long_at 14 (codes "t") ∷ long_at 16 (codes "e") ∷ []) ∷ []))
      (fault N3 16)
  -- `type t type 'a u sharing type t = u`, and `datatype d = D datatype e = E sharing type d = e`
  pub arities_refused : RefusesTop
      (signature_of
      (type_specified 5 (codes "t") ∷ type_spec 7 (record { variables = name_at 8 (codes "'a") ∷ []; name = name_at 9 (codes "u") } ∷ [])
      ∷ sharing_types 10 (long_at 12 (codes "t") ∷ long_at 14 (codes "u") ∷ []) ∷ []))
      (fault N6 14)
  pub constructors_refused : RefusesTop
      (signature_of
      (datatype_spec 5 (datatype_binding 6 (codes "d") (plain_constructor 8 (codes "D")) ∷ [])
      ∷ datatype_spec 9 (datatype_binding 10 (codes "e") (plain_constructor 12 (codes "E")) ∷ [])
      ∷ sharing_types 13 (long_at 15 (codes "d") ∷ long_at 17 (codes "e") ∷ []) ∷ []))
      (fault N7 17)
  -- `structure A : sig type t end structure B : sig type t end sharing A = B`, and `sharing A = C`
  pub structures_accepted : Specifies
      (signature_of
      (structure_specified 5 (codes "A") (type_alone 8) ∷ structure_specified 12 (codes "B") (type_alone 15)
      ∷ sharing_structures 19 (long_at 20 (codes "A") ∷ long_at 22 (codes "B") ∷ []) ∷ []))
      (made 1 2 0 false ∷ [])
      (maps (and_structure (codes "A") (new_type (made 1 2 0 false)) (and_structure (codes "B") (new_type (made 1 2 0 false)) no_structure)) [] [])
  pub structures_refused : RefusesTop
      (signature_of (structure_specified 5 (codes "A") (type_alone 8) ∷ sharing_structures 12 (long_at 13 (codes "A") ∷ long_at 15 (codes "C") ∷ []) ∷ []))
      (fault_at E3 15 (codes "C" ∷ []))
  -- `sig type t end where type t = int`, `.. where type u = int`, and `sig eqtype t end where type t = real`
  pub where_accepted : Specifies (signature_is (where_type 4 (type_alone 4) (is_type 10 (codes "t") (codes "int")))) [] (one_type (codes "t") (plain (type_of int)))
  pub where_refused : RefusesTop (signature_is (where_type 4 (type_alone 4) (is_type 10 (codes "u") (codes "int")))) (fault_at E2 10 (codes "u" ∷ []))
  pub where_equality_refused : RefusesTop (signature_is (where_type 4 (sig_end 4 (specs_of (eqtype_specified 5 (codes "t") ∷ []))) (is_type 10 (codes "t") (codes "real"))))
      (fault N4 10)
  -- `sig datatype d = D end where type d = bool`
  pub where_constructors_refused : RefusesTop
      (signature_is
      (where_type 4 (sig_end 4 (specs_of (datatype_spec 5 (datatype_binding 6 (codes "d") (plain_constructor 8 (codes "D")) ∷ []) ∷ []))) (is_type 12 (codes "d") (codes "bool"))))
      (fault N5 12)
