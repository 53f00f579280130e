-- Samples of the declarations of modules, each beside what it is.
use Rattle.std.specs.Prelude.{◌+◌, ◌++◌, true, false, List, [], ◌∷◌, codes}
use Rattle.sml_lex.specs.declared.fault.Code.TheVariants.{E2, E3, N1, M1, Q1}
use Rattle.sml_lex.specs.Faults.{Fault}
use Rattle.sml_tree.specs.declared.structures.Ascription.TheVariants.{Transparent, Opaque}
use Rattle.sml_tree.specs.Trees.{Id}
use Rattle.sml_tree.specs.Types.{Ty, ty_constructor, no_ty}
use Rattle.sml_tree.specs.Expressions.{Dec, type_dec, val_dec, no_bind}
use Rattle.sml_tree.specs.Signatures.{SigExp, Specs, sig_end, sig_name, val_spec, type_spec, no_spec, and_spec}
use Rattle.sml_tree.specs.Structures.{StrExp, StrDec, StrDecs, TopDec, struct_end, str_name, ascribed, functor_apply, str_let, core_dec, structure_dec, str_local, no_str_dec, and_str_dec, str_bind, no_str_bind, and_str_bind, top_str, signature_dec, functor_dec}
use Rattle.sml_objects.specs.Maps.{Map}
use Rattle.sml_objects.specs.Names.{int}
use Rattle.sml_objects.specs.Initial.{Name, made}
use Rattle.sml_objects.specs.Objects.{MlType, named}
use Rattle.sml_rules.specs.Answers.{refused, accepted, fault_at}
use Rattle.sml_core_rules.specs.Objects.{Env, Sig, FunSig, Basis, variable, maps, no_structure, and_structure, empty, of_types, of_values}
use Rattle.sml_module_rules.specs.Structures.{IsTopReading}
use Rattle.sml_core_rules.specs.States.{Judged}
use Rattle.sml_samples.specs.Around.{Place, name_at, long_at, constructor_at, scope, initial_names, around, inner, type_of, plain, value_of}
use Rattle.sml_samples.specs.Core.{type_at, pattern_at, three, one_binding, one_type}

-- the basis with a functor
abbrev pub with_functors : Map (FunSig Name) → List Name → Basis Name
with_functors fs ns = record { names = ns ++ initial_names; functors = fs; signatures = []; body = around }

-- what a declaration adds to a basis: names, functors, signatures and an environment
abbrev pub basis_of : List Name → Map (FunSig Name) → Map (Sig Name) → Env Name → Basis Name
basis_of ns fs gs E = record { names = ns; functors = fs; signatures = gs; body = E }

abbrev pub AcceptsIn : Basis Name → TopDec Place → Basis Name → Type 0
AcceptsIn B d A = (js : List (Judged Place)) × IsTopReading scope 1 B d (accepted (record { basis = A; judged = js }))

abbrev pub RefusesIn : Basis Name → TopDec Place → Fault Place → Type 0
RefusesIn B d f = IsTopReading scope 1 B d (refused f)

-- in the basis without functors
abbrev pub AcceptsTop : TopDec Place → Basis Name → Type 0
AcceptsTop d A = AcceptsIn (with_functors [] []) d A

abbrev pub RefusesTop : TopDec Place → Fault Place → Type 0
RefusesTop d f = RefusesIn (with_functors [] []) d f

-- Parts of the samples

-- `structure x = e`, at the place of its first token
abbrev pub structure_is : Place → Id → StrExp Place → StrDec Place
structure_is p x e = structure_dec p (and_str_bind (str_bind (name_at (p + 1) x) e) no_str_bind)

-- `structure A = e` at the top, and what it adds to a basis
abbrev pub top_structure : StrExp Place → TopDec Place
top_structure e = top_str (structure_is 1 (codes "A") e)

abbrev pub one_structure : List Name → Env Name → Basis Name
one_structure ns E = basis_of ns [] [] (maps (and_structure (codes "A") E no_structure) [] [])

-- a structure by this name alone, as a part of a declaration
abbrev pub named_alone : Id → Env Name → Basis Name
named_alone x E = basis_of [] [] [] (maps (and_structure x E no_structure) [] [])

-- `structure A = S and B = x`
abbrev pub two_structures : Id → TopDec Place
two_structures x = top_str (structure_dec 1 (and_str_bind (str_bind (name_at 2 (codes "A")) (str_name (long_at 4 (codes "S")))) (and_str_bind (str_bind (name_at 6 (codes "B")) (str_name (long_at 8 x))) no_str_bind)))

-- `S` by two names
abbrev pub both_structures : Basis Name
both_structures = basis_of [] [] [] (maps (and_structure (codes "A") inner (and_structure (codes "B") inner no_structure)) [] [])

abbrev pub core_at : Dec Place → StrDecs Place
core_at d = and_str_dec (core_dec d) no_str_dec

-- `type t = int`, and after it `val x = 3`, in `struct .. end`
abbrev pub with_type : StrExp Place
with_type = struct_end 4 (core_at (type_at 5 (codes "t") (codes "int")))

abbrev pub with_both : StrExp Place
with_both =
    struct_end 4 (and_str_dec (core_dec (type_at 5 (codes "t") (codes "int"))) (core_at (val_dec 9 [] (one_binding (pattern_at 10 (codes "x")) (three 12)) no_bind)))

-- `val x = 3`, and after it `val y = 3`, in `struct .. end`
abbrev pub three_at : Place → Id → Dec Place
three_at p x = val_dec p [] (one_binding (pattern_at (p + 1) x) (three (p + 3))) no_bind

abbrev pub with_threes : StrExp Place
with_threes = struct_end 4 (and_str_dec (core_dec (three_at 5 (codes "x"))) (core_at (three_at 9 (codes "y"))))

-- `type t` and `val x : t`, where `sig` is at this place
abbrev pub specified_type : Place → Specs Place → Specs Place
specified_type p qs = and_spec (type_spec p (record { variables = []; name = name_at (p + 1) (codes "t") } ∷ [])) qs

abbrev pub signature_at : Place → SigExp Place
signature_at p =
    sig_end p (specified_type (p + 1) (and_spec (val_spec (p + 3) (record { name = name_at (p + 4) (codes "x"); ty = constructor_at (p + 6) (codes "t") } ∷ [])) no_spec))

-- the type `t` and the value `x` of this type
abbrev pub both_of : MlType Name → Env Name
both_of t = maps no_structure ((codes "t", plain t) ∷ []) ((codes "x", value_of variable t) ∷ [])

-- `functor F (X : s) = e`
abbrev pub functor_is : SigExp Place → StrExp Place → TopDec Place
functor_is s e = functor_dec 1 (record { name = name_at 2 (codes "F"); argument = name_at 4 (codes "X"); signature = s; body = e } ∷ [])

-- `X.t`
abbrev pub argument_type : Place → Ty Place
argument_type p = ty_constructor p no_ty (record { place = p; id = record { path = codes "X" ∷ []; last = codes "t" } })

-- the functor with a type `t` in its argument, which is the type `u` of its result; its type `d` is new at each application
abbrev pub sample_functor : FunSig Name
sample_functor = record {
  argument = record { names = made 1 0 0 false ∷ []; body = one_type (codes "t") (plain (named (made 1 0 0 false))) };
  result = record {
    names = made 1 1 0 true ∷ [];
    body = of_types ((codes "d", plain (named (made 1 1 0 true))) ∷ (codes "u", plain (named (made 1 0 0 false))) ∷ []);
  };
}

abbrev pub functor_basis : Basis Name
functor_basis = with_functors ((codes "F", sample_functor) ∷ []) (made 1 1 0 true ∷ made 1 0 0 false ∷ [])

-- Structures
pub record StructureSamples : Type 0 where
  -- `structure A = struct type t = int val x = 3 end`, `structure A = S`, and `structure A = B`
  pub structure_accepted : AcceptsTop (top_structure with_both) (one_structure [] (both_of (type_of int)))
  -- `structure A = struct val x = 3 val y = 3 end`: the second value starts with nothing made and nothing asked
  pub anew_accepted : AcceptsTop (top_structure with_threes)
      (one_structure [] (of_values ((codes "x", value_of variable (type_of int)) ∷ (codes "y", value_of variable (type_of int)) ∷ [])))
  pub named_accepted : AcceptsTop (top_structure (str_name (long_at 4 (codes "S")))) (one_structure [] inner)
  pub structure_refused : RefusesTop (top_structure (str_name (long_at 4 (codes "B")))) (fault_at E3 4 (codes "B" ∷ []))
  -- `structure A = struct type t = int val x = 3 end : sig type t val x : t end`, and without the value
  pub transparent_accepted : AcceptsTop (top_structure (ascribed 4 with_both Transparent (signature_at 15))) (one_structure [] (both_of (type_of int)))
  pub transparent_refused : RefusesTop (top_structure (ascribed 4 with_type Transparent (signature_at 11))) (fault_at M1 11 (codes "x" ∷ []))
  -- the same with `:>`, after which the type is a new one
  pub opaque_accepted : AcceptsTop (top_structure (ascribed 4 with_both Opaque (signature_at 15))) (one_structure (made 1 1 0 false ∷ []) (both_of (named (made 1 1 0 false))))
  pub opaque_refused : RefusesTop (top_structure (ascribed 4 with_type Opaque (signature_at 11))) (fault_at M1 11 (codes "x" ∷ []))
  -- `structure A = S and B = S`, and `structure A = S and B = A`: structures of a group see none of each other
  pub group_accepted : AcceptsTop (two_structures (codes "S")) both_structures
  pub group_refused : RefusesTop (two_structures (codes "A")) (fault_at E3 8 (codes "A" ∷ []))
  -- `local structure A = S in structure A = A end`, and `local structure A = S in structure A = B end`
  pub local_accepted : AcceptsTop
      (top_str
      (str_local 1 (and_str_dec (structure_is 2 (codes "A") (str_name (long_at 5 (codes "S")))) no_str_dec)
      (and_str_dec (structure_is 7 (codes "A") (str_name (long_at 10 (codes "A")))) no_str_dec)))
      (one_structure [] inner)
  pub local_refused : RefusesTop
      (top_str
      (str_local 1 (and_str_dec (structure_is 2 (codes "A") (str_name (long_at 5 (codes "S")))) no_str_dec)
      (and_str_dec (structure_is 7 (codes "A") (str_name (long_at 10 (codes "B")))) no_str_dec)))
      (fault_at E3 10 (codes "B" ∷ []))
  -- `structure A = let type t = int in struct type u = t end end`, and with `v` for `t`
  pub let_accepted : AcceptsTop
      (top_structure (str_let 4 (core_at (type_at 5 (codes "t") (codes "int"))) (struct_end 10 (core_at (type_at 11 (codes "u") (codes "t"))))))
      (one_structure [] (one_type (codes "u") (plain (type_of int))))
  pub let_refused : RefusesTop
      (top_structure (str_let 4 (core_at (type_at 5 (codes "t") (codes "int"))) (struct_end 10 (core_at (type_at 11 (codes "u") (codes "v"))))))
      (fault_at E2 14 (codes "v" ∷ []))

-- Signatures and functors
pub record SignatureSamples : Type 0 where
  -- `signature T = sig type t val x : t end`, and `signature T = U`
  pub signature_accepted : AcceptsTop (signature_dec 1 (record { name = name_at 2 (codes "T"); signature = signature_at 4 } ∷ []))
      (basis_of (made 1 0 0 false ∷ []) []
      ((codes "T", record { names = made 1 0 0 false ∷ []; body = both_of (named (made 1 0 0 false)) }) ∷ []) empty)
  pub signature_refused : RefusesTop (signature_dec 1 (record { name = name_at 2 (codes "T"); signature = sig_name 4 (codes "U") } ∷ [])) (fault_at N1 4 (codes "U" ∷ []))
  -- `functor F (X : sig type t end) = struct type u = X.t end`, and `functor F (X : U) = struct end`
  pub functor_accepted : AcceptsTop
      (functor_is (sig_end 6 (specified_type 7 no_spec))
      (struct_end 12 (core_at (type_dec 13 (record { variables = []; name = name_at 14 (codes "u"); ty = argument_type 16 } ∷ [])))))
      (basis_of (made 1 0 0 false ∷ [])
      ((
        codes "F",
        record {
          argument = record { names = made 1 0 0 false ∷ []; body = one_type (codes "t") (plain (named (made 1 0 0 false))) };
          result = record { names = []; body = one_type (codes "u") (plain (named (made 1 0 0 false))) };
        },
      ) ∷ []) [] empty)
  pub functor_refused : RefusesTop (functor_is (sig_name 6 (codes "U")) (struct_end 9 no_str_dec)) (fault_at N1 6 (codes "U" ∷ []))
  -- `structure A = F (S)`, `structure A = G (S)`, and `structure A = F (struct end)`
  pub application_accepted : AcceptsIn functor_basis (top_structure (functor_apply (name_at 4 (codes "F")) (str_name (long_at 6 (codes "S")))))
      (one_structure (made 1 2 0 true ∷ []) (of_types ((codes "d", plain (named (made 1 2 0 true))) ∷ (codes "u", plain (type_of int)) ∷ [])))
  pub application_refused : RefusesIn functor_basis (top_structure (functor_apply (name_at 4 (codes "G")) (str_name (long_at 6 (codes "S"))))) (fault_at Q1 4 (codes "G" ∷ []))
  pub argument_refused : RefusesIn functor_basis (top_structure (functor_apply (name_at 4 (codes "F")) (struct_end 6 no_str_dec))) (fault_at M1 4 (codes "t" ∷ []))

pub record ModuleSamples : Type 0 where
  pub structures : StructureSamples
  pub signatures : SignatureSamples
