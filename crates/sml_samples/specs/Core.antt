-- Samples of the declarations of the core, each beside what it is: one of each form that is accepted, and one that is refused,
-- where the form can be.
use Rattle.std.specs.Prelude.{◌+◌, Bool, true, false, [], ◌∷◌, codes, Some, None}
use Rattle.sml_lex.specs.declared.fault.Code.TheVariants.{E1, E2, E3, E5, E8, E9, U1}
use Rattle.sml_tree.specs.declared.patterns.ConstantKind.TheVariants.{Integer}
use Rattle.sml_tree.specs.Trees.{Id}
use Rattle.sml_tree.specs.Types.{ty_variable}
use Rattle.sml_tree.specs.Patterns.{Pat, pat_name, pat_typed}
use Rattle.sml_tree.specs.Expressions.{Exp, Dec, TypBind, ConBind, DatBind, ValBinds, constant, name, fn, rule, no_rule, and_rule, val_dec, type_dec, datatype_dec, datatype_with, datatype_copy, exception_dec, local_dec, sequence_dec, open_dec, fixity_dec, no_dec, and_dec, bind, no_bind, and_bind, new_exception, exception_copy}
use Rattle.sml_objects.specs.Names.{int, real, bool, exn}
use Rattle.sml_objects.specs.Initial.{Name, made}
use Rattle.sml_objects.specs.Objects as O
use Rattle.sml_objects.specs.Objects.{MlType, Scheme, app, no_type, and_type, named, bound, arrow_of, mono}
use Rattle.sml_rules.specs.Answers.{fault, fault_at}
use Rattle.sml_core_rules.specs.Objects.{Env, Status, TyStr, variable, constructor, exception, maps, no_structure, of_types, of_values, empty}
use Rattle.sml_samples.specs.Around.{Place, name_at, long_at, constructor_at, type_of, plain, value_of, booleans, inner, Accepts, Refuses}

-- Parts of the samples, each at the place of its first token

-- `x = c`, and `type x = c`
abbrev pub type_binding : Place → Id → Id → TypBind Place
type_binding p x c = record { variables = []; name = name_at p x; ty = constructor_at (p + 2) c }

abbrev pub type_at : Place → Id → Id → Dec Place
type_at p x c = type_dec p (type_binding (p + 1) x c ∷ [])

abbrev pub one_type : Id → TyStr Name → Env Name
one_type x t = of_types ((x, t) ∷ [])

abbrev pub plain_constructor : Place → Id → ConBind Place
plain_constructor p x = record { name = name_at p x; argument = None }

-- `x of c`
abbrev pub constructor_of : Place → Id → Id → ConBind Place
constructor_of p x c = record { name = name_at p x; argument = Some (constructor_at (p + 2) c) }

abbrev pub one_value : Id → Status → MlType Name → Env Name
one_value x s t = of_values ((x, value_of s t) ∷ [])

-- `x = c` after `datatype`, where the constructor is given
abbrev pub datatype_binding : Place → Id → ConBind Place → DatBind Place
datatype_binding p x c = record { variables = []; name = name_at p x; constructors = c ∷ [] }

-- what binds a datatype of this name with one constructor, whose type is given
abbrev pub one_datatype : Id → Name → Id → MlType Name → Env Name
one_datatype x n c t =
    maps no_structure ((x, record { function = mono (named n); constructors = (c, mono t) ∷ [] }) ∷ []) ((c, value_of (constructor 0 1) t) ∷ [])

-- `x d = D of y` after `datatype`, and what it binds where x is the parameter, which admits equality or not
abbrev pub parametric_binding : Id → Id → DatBind Place
parametric_binding x y = record {
  variables = name_at 2 x ∷ [];
  name = name_at 3 (codes "d");
  constructors = record { name = name_at 5 (codes "D"); argument = Some (ty_variable 7 y) } ∷ [];
}

abbrev pub parametric_type : MlType Name
parametric_type = app (O.name (made 1 0 1 true)) (and_type (bound 0) no_type)

abbrev pub parametric_scheme : Bool → Scheme Name
parametric_scheme q = record { variables = q ∷ []; body = arrow_of (bound 0) parametric_type }

abbrev pub parametric_datatype : Bool → Env Name
parametric_datatype q =
    maps no_structure
    ((codes "d", record { function = record { variables = false ∷ []; body = parametric_type }; constructors = (codes "D", parametric_scheme q) ∷ [] }) ∷ [])
    ((codes "D", record { scheme = parametric_scheme q; status = constructor 0 1 }) ∷ [])

abbrev pub pattern_at : Place → Id → Pat Place
pattern_at p x = pat_name p (long_at p x)

abbrev pub one_binding : Pat Place → Exp Place → ValBinds Place
one_binding q e = and_bind (bind q e) no_bind

abbrev pub three : Place → Exp Place
three p = constant p (record { kind = Integer; literal = codes "3" })

abbrev pub variable_at : Place → Id → Exp Place
variable_at p x = name p (long_at p x)

-- `fn x => x`
abbrev pub identity : Place → Exp Place
identity p = fn p (and_rule (rule (p + 1) (pattern_at (p + 1) (codes "x")) (variable_at (p + 3) (codes "x"))) no_rule)

-- `'a -> 'a`
abbrev pub identity_scheme : Scheme Name
identity_scheme = record { variables = false ∷ []; body = arrow_of (bound 0) (bound 0) }

-- Declarations that make no name and ask nothing of unknown types
pub record PlainSamples : Type 0 where
  -- `infix op`
  pub fixity_accepted : Accepts (fixity_dec 1) empty
  -- `type t = int`, and `type t = u`
  pub type_accepted : Accepts (type_at 1 (codes "t") (codes "int")) (one_type (codes "t") (plain (type_of int)))
  pub type_refused : Refuses (type_at 1 (codes "t") (codes "u")) (fault_at E2 4 (codes "u" ∷ []))
  -- `datatype e = datatype bool`, and `datatype e = datatype u`
  pub replication_accepted : Accepts (datatype_copy 1 (name_at 2 (codes "e")) (long_at 5 (codes "bool")))
      (maps no_structure ((codes "e", booleans) ∷ [])
      ((codes "false", value_of (constructor 0 2) (type_of bool)) ∷ (codes "true", value_of (constructor 1 2) (type_of bool)) ∷ []))
  pub replication_refused : Refuses (datatype_copy 1 (name_at 2 (codes "e")) (long_at 5 (codes "u"))) (fault_at E2 5 (codes "u" ∷ []))
  -- `exception X`, `exception X of int`, and `exception X = y`, `exception X = true`
  pub exception_accepted : Accepts (exception_dec 1 (new_exception (plain_constructor 2 (codes "X")) ∷ [])) (one_value (codes "X") exception (type_of exn))
  pub exception_of_accepted : Accepts (exception_dec 1 (new_exception (constructor_of 2 (codes "X") (codes "int")) ∷ []))
      (one_value (codes "X") exception (arrow_of (type_of int) (type_of exn)))
  pub exception_refused : Refuses (exception_dec 1 (exception_copy (name_at 2 (codes "X")) (long_at 4 (codes "y")) ∷ [])) (fault_at E1 4 (codes "y" ∷ []))
  pub exception_copy_refused : Refuses (exception_dec 1 (exception_copy (name_at 2 (codes "X")) (long_at 4 (codes "true")) ∷ [])) (fault E5 4)
  -- `local type t = int in type u = t end`, and `local type t = int in type u = v end`
  pub local_accepted : Accepts (local_dec 1 (and_dec (type_at 2 (codes "t") (codes "int")) no_dec) (and_dec (type_at 7 (codes "u") (codes "t")) no_dec))
      (one_type (codes "u") (plain (type_of int)))
  pub local_refused : Refuses (local_dec 1 (and_dec (type_at 2 (codes "t") (codes "int")) no_dec) (and_dec (type_at 7 (codes "u") (codes "v")) no_dec))
      (fault_at E2 10 (codes "v" ∷ []))
  -- `type t = int type u = t`, and `type u = t type t = int`
  pub sequence_accepted : Accepts (sequence_dec 1 (and_dec (type_at 1 (codes "t") (codes "int")) (and_dec (type_at 5 (codes "u") (codes "t")) no_dec)))
      (of_types ((codes "t", plain (type_of int)) ∷ (codes "u", plain (type_of int)) ∷ []))
  pub sequence_refused : Refuses (sequence_dec 1 (and_dec (type_at 1 (codes "u") (codes "t")) (and_dec (type_at 5 (codes "t") (codes "int")) no_dec)))
      (fault_at E2 4 (codes "t" ∷ []))
  -- `open S`, and `open T`
  pub open_accepted : Accepts (open_dec 1 (long_at 2 (codes "S") ∷ [])) inner
  pub open_refused : Refuses (open_dec 1 (long_at 2 (codes "T") ∷ [])) (fault_at E3 2 (codes "T" ∷ []))

-- Declarations of values
pub record ValueSamples : Type 0 where
  -- `val x = 3`, and `val x = y`, `val x : string = 3`
  pub val_accepted : Accepts (val_dec 1 [] (one_binding (pattern_at 2 (codes "x")) (three 4)) no_bind) (one_value (codes "x") variable (type_of int))
  pub val_refused : Refuses (val_dec 1 [] (one_binding (pattern_at 2 (codes "x")) (variable_at 4 (codes "y"))) no_bind) (fault_at E1 4 (codes "y" ∷ []))
  pub constrained_val_refused : Refuses (val_dec 1 [] (one_binding (pat_typed 2 (pattern_at 2 (codes "x")) (constructor_at 4 (codes "string"))) (three 6)) no_bind)
      (fault U1 2)
  -- `val rec f = fn x => x`, and `val rec x = 3`
  pub rec_accepted : Accepts (val_dec 1 [] no_bind (one_binding (pattern_at 3 (codes "f")) (identity 5)))
      (of_values ((codes "f", record { scheme = identity_scheme; status = variable }) ∷ []))
  pub rec_refused : Refuses (val_dec 1 [] no_bind (one_binding (pattern_at 3 (codes "x")) (three 5))) (fault E9 5)

-- Declarations of datatypes, whose names are new
pub record DatatypeSamples : Type 0 where
  -- `datatype d = D` and `datatype d = D of d`, which admit equality; `datatype d = D of real`, which doesn't; and `datatype d = D of u`
  pub datatype_accepted : Accepts (datatype_dec 1 (datatype_binding 2 (codes "d") (plain_constructor 4 (codes "D")) ∷ []))
      (one_datatype (codes "d") (made 1 0 0 true) (codes "D") (named (made 1 0 0 true)))
  pub recursive_datatype_accepted : Accepts (datatype_dec 1 (datatype_binding 2 (codes "d") (constructor_of 4 (codes "D") (codes "d")) ∷ []))
      (one_datatype (codes "d") (made 1 0 0 true) (codes "D") (arrow_of (named (made 1 0 0 true)) (named (made 1 0 0 true))))
  pub real_datatype_accepted : Accepts (datatype_dec 1 (datatype_binding 2 (codes "d") (constructor_of 4 (codes "D") (codes "real")) ∷ []))
      (one_datatype (codes "d") (made 1 0 0 false) (codes "D") (arrow_of (type_of real) (named (made 1 0 0 false))))
  pub datatype_refused : Refuses (datatype_dec 1 (datatype_binding 2 (codes "d") (constructor_of 4 (codes "D") (codes "u")) ∷ [])) (fault_at E2 6 (codes "u" ∷ []))
  -- `datatype 'a d = D of 'a`, `datatype ''a d = D of ''a`, and `datatype 'a d = D of 'b`
  pub parametric_accepted : Accepts (datatype_dec 1 (parametric_binding (codes "'a") (codes "'a") ∷ [])) (parametric_datatype false)
  pub equality_accepted : Accepts (datatype_dec 1 (parametric_binding (codes "''a") (codes "''a") ∷ [])) (parametric_datatype true)
  pub parametric_refused : Refuses (datatype_dec 1 (parametric_binding (codes "'a") (codes "'b") ∷ [])) (fault E8 7)
  -- `datatype d = D of t withtype t = int`, and `datatype d = D of t withtype t = u`
  pub withtype_accepted : Accepts (datatype_with 1 (datatype_binding 2 (codes "d") (constructor_of 4 (codes "D") (codes "t")) ∷ []) (type_binding 8 (codes "t") (codes "int") ∷ []))
      (maps no_structure
      ((codes "d", record { function = mono (named (made 1 0 0 true)); constructors = (codes "D", mono (arrow_of (type_of int) (named (made 1 0 0 true)))) ∷ [] })
      ∷ (codes "t", plain (type_of int)) ∷ []) ((codes "D", value_of (constructor 0 1) (arrow_of (type_of int) (named (made 1 0 0 true)))) ∷ []))
  pub withtype_refused : Refuses (datatype_with 1 (datatype_binding 2 (codes "d") (constructor_of 4 (codes "D") (codes "t")) ∷ []) (type_binding 8 (codes "t") (codes "u") ∷ []))
      (fault_at E2 10 (codes "u" ∷ []))

pub record CoreSamples : Type 0 where
  pub plain : PlainSamples
  pub values : ValueSamples
  pub datatypes : DatatypeSamples
