-- Samples of type expressions, patterns and expressions of each form, in declarations, each beside what it is.
use Rattle.std.specs.Prelude.{false, [], ◌∷◌, codes, Some, None}
use Rattle.sml_lex.specs.declared.fault.Code.TheVariants.{E4, E5, E8, E10, U1}
use Rattle.sml_tree.specs.declared.patterns.ConstantKind.{ConstantKind}
use Rattle.sml_tree.specs.declared.patterns.ConstantKind.TheVariants.{Integer, Word, Real, String, Character}
use Rattle.sml_tree.specs.Trees.{Id}
use Rattle.sml_tree.specs.Types.{Ty, ty_variable, ty_row, ty_tuple, ty_constructor, ty_arrow, ty_bracket, no_ty, and_ty, ty_field, no_ty_field, and_ty_field}
use Rattle.sml_tree.specs.Patterns.{Pat, wildcard, pat_constant, pat_row, pat_tuple, pat_bracket, pat_apply, pat_as, no_pat, and_pat, pat_field, no_pat_field, and_pat_field}
use Rattle.sml_tree.specs.Expressions.{Dec, constant, row, field, no_field, and_field, tuple, bracket, apply, typed, handle, raise, no_exp, and_exp, rule, no_rule, and_rule, val_dec, type_dec, datatype_dec, datatype_with, exception_dec, local_dec, no_dec, and_dec, no_bind, new_exception}
use Rattle.sml_objects.specs.Names.{int}
use Rattle.sml_objects.specs.Objects as O
use Rattle.sml_objects.specs.Objects.{app, bound, no_type, and_type, arrow_of, tuple_of}
use Rattle.sml_rules.specs.Answers.{fault}
use Rattle.sml_core_rules.specs.Objects.{variable, of_values}
use Rattle.sml_samples.specs.Around.{Place, name_at, long_at, constructor_at, type_of, twice, Accepts, Refuses}
use Rattle.sml_samples.specs.Core.{type_binding, plain_constructor, constructor_of, datatype_binding, one_type, one_value, pattern_at, one_binding, three, variable_at}
use Rattle.sml_samples.specs.Typing.{val_is}

-- `type t = ty`
abbrev pub type_is : Ty Place → Dec Place
type_is ty = type_dec 1 (record { variables = []; name = name_at 2 (codes "t"); ty = ty } ∷ [])

-- `ty c`
abbrev pub applied_at : Place → Ty Place → Place → Id → Ty Place
applied_at p ty q c = ty_constructor p (and_ty ty no_ty) (long_at q c)

abbrev pub three_pattern : Place → Pat Place
three_pattern p = pat_constant p (record { kind = Integer; literal = codes "3" })

-- `val _ = c : ty`, where the constant c is of this kind
abbrev pub constant_is : ConstantKind → Id → Dec Place
constant_is kind c = val_is (wildcard 2) (typed 4 (constant 4 (record { kind = kind; literal = [] })) (constructor_at 6 c))

-- `local exception X in val x = (raise X) handle X => 3 : int end`
abbrev pub exception_handled : Dec Place
exception_handled =
    local_dec 1 (and_dec (exception_dec 2 (new_exception (plain_constructor 3 (codes "X")) ∷ [])) no_dec)
    (and_dec
    (val_dec 5 []
    (one_binding (pattern_at 6 (codes "x"))
    (handle 8 (bracket 8 (raise 9 (variable_at 10 (codes "X")))) (and_rule (rule 13 (pattern_at 13 (codes "X")) (typed 15 (three 15) (constructor_at 17 (codes "int")))) no_rule))) no_bind)
    no_dec)

pub record PhraseSamples : Type 0 where
  -- `type 'a t = {a : 'a, b : int * (int -> 'a)}`
  pub types_accepted : Accepts
      (type_dec 1
      (record {
        variables = name_at 2 (codes "'a") ∷ [];
        name = name_at 3 (codes "t");
        ty = ty_row 5
            (and_ty_field (ty_field (name_at 6 (codes "a")) (ty_variable 8 (codes "'a")))
            (and_ty_field
            (ty_field (name_at 10 (codes "b"))
            (ty_tuple 12
            (and_ty (constructor_at 12 (codes "int")) (and_ty (ty_bracket 14 (ty_arrow 15 (constructor_at 15 (codes "int")) (ty_variable 17 (codes "'a")))) no_ty))))
            no_ty_field));
      } ∷ []))
      (one_type (codes "t")
      (record {
        function = record {
          variables = false ∷ [];
          body = app (O.row (codes "a" ∷ codes "b" ∷ []))
              (and_type (bound 0) (and_type (tuple_of (and_type (type_of int) (and_type (arrow_of (type_of int) (bound 0)) no_type))) no_type));
        };
        constructors = [];
      }))
  -- `type t = int int`, `datatype d = D of int t withtype t = int`, and `type t = 'a`
  pub arity_refused : Refuses (type_is (applied_at 4 (constructor_at 4 (codes "int")) 5 (codes "int"))) (fault E4 5)
  pub misapplied_refused : Refuses
      (datatype_with 1
      (datatype_binding 2 (codes "d") (record { name = name_at 4 (codes "D"); argument = Some (applied_at 6 (constructor_at 6 (codes "int")) 7 (codes "t")) }) ∷ [])
      (type_binding 9 (codes "t") (codes "int") ∷ []))
      (fault E4 7)
  pub variable_refused : Refuses (type_is (ty_variable 4 (codes "'a"))) (fault E8 4)
  -- `val (x as (_, (3)), true) = ((3, 3), true)`, `val {a = x} = {a = 3}`, and `val (x, x) = (3, 3)`
  pub patterns_accepted : Accepts
      (val_is
      (pat_tuple 2
      (and_pat (pat_as 3 (name_at 3 (codes "x")) None (pat_tuple 5 (and_pat (wildcard 6) (and_pat (pat_bracket 8 (three_pattern 9)) no_pat)))) (and_pat (pattern_at 13 (codes "true")) no_pat)))
      (tuple 16 (and_exp (tuple 17 (and_exp (three 18) (and_exp (three 20) no_exp))) (and_exp (variable_at 23 (codes "true")) no_exp))))
      (one_value (codes "x") variable (twice (type_of int)))
  pub row_accepted : Accepts
      (val_is (pat_row 2 (and_pat_field (pat_field (name_at 3 (codes "a")) (pattern_at 5 (codes "x"))) no_pat_field) false)
      (row 8 (and_field (field (name_at 9 (codes "a")) (three 11)) no_field)))
      (one_value (codes "x") variable (type_of int))
  pub repeated_refused : Refuses
      (val_is (pat_tuple 2 (and_pat (pattern_at 3 (codes "x")) (and_pat (pattern_at 5 (codes "x")) no_pat))) (tuple 8 (and_exp (three 9) (and_exp (three 11) no_exp))))
      (fault E10 5)
  -- `local datatype d = D of int in val D x = D 3 end`, and `val S.x y = 3`
  pub constructor_accepted : Accepts
      (local_dec 1 (and_dec (datatype_dec 2 (datatype_binding 3 (codes "d") (constructor_of 5 (codes "D") (codes "int")) ∷ [])) no_dec)
      (and_dec
      (val_dec 9 [] (one_binding (pat_apply 10 (long_at 10 (codes "D")) (pattern_at 11 (codes "x"))) (apply 13 (variable_at 13 (codes "D")) (three 14))) no_bind) no_dec))
      (one_value (codes "x") variable (type_of int))
  pub constructor_refused : Refuses (val_is (pat_apply 2 (record { place = 2; id = record { path = codes "S" ∷ []; last = codes "x" } }) (pattern_at 3 (codes "y"))) (three 5))
      (fault E5 2)
  -- `val true x = 3`, and `local datatype d = D of int in val D = D 3 end`
  pub argument_refused : Refuses (val_is (pat_apply 2 (long_at 2 (codes "true")) (pattern_at 3 (codes "x"))) (three 5)) (fault E5 2)
  pub no_argument_refused : Refuses
      (local_dec 1 (and_dec (datatype_dec 2 (datatype_binding 3 (codes "d") (constructor_of 5 (codes "D") (codes "int")) ∷ [])) no_dec)
      (and_dec (val_dec 9 [] (one_binding (pattern_at 10 (codes "D")) (apply 12 (variable_at 12 (codes "D")) (three 13))) no_bind) no_dec))
      (fault E5 10)
  -- constants: `val _ = "a" : string`, `val _ = 3.0 : real`, and `val _ = #"a" : string`, `val _ = 0w3 : int`
  pub string_accepted : Accepts (constant_is String (codes "string")) (of_values [])
  pub real_accepted : Accepts (constant_is Real (codes "real")) (of_values [])
  pub character_refused : Refuses (constant_is Character (codes "string")) (fault U1 4)
  pub word_refused : Refuses (constant_is Word (codes "int")) (fault U1 4)
  -- that, and `val x = raise true`, `val x = 3 : string`
  pub handle_accepted : Accepts exception_handled (one_value (codes "x") variable (type_of int))
  pub raise_refused : Refuses (val_is (pattern_at 2 (codes "x")) (raise 4 (variable_at 5 (codes "true")))) (fault U1 4)
  pub typed_refused : Refuses (val_is (pattern_at 2 (codes "x")) (typed 4 (three 4) (constructor_at 6 (codes "string")))) (fault U1 4)
