-- Samples in which unknown types are settled, closed, or left open, each beside what it is.
use Rattle.std.specs.Prelude.{◌+◌, true, [], ◌∷◌, codes}
use Rattle.sml_lex.specs.declared.fault.Code.TheVariants.{E6, U2, U3, U4, U5, U6, U7}
use Rattle.sml_tree.specs.declared.patterns.ConstantKind.TheVariants.{Real}
use Rattle.sml_tree.specs.Trees.{Id}
use Rattle.sml_tree.specs.Types.{ty_variable}
use Rattle.sml_tree.specs.Patterns.{Pat, wildcard, pat_typed, pat_row, pat_field, no_pat_field, and_pat_field}
use Rattle.sml_tree.specs.Expressions.{Exp, Dec, constant, typed, row, tuple, let_in, bracket, apply, fn, no_exp, and_exp, field, no_field, and_field, rule, no_rule, and_rule, val_dec, datatype_dec, no_dec, and_dec, no_bind}
use Rattle.sml_objects.specs.Names.{int}
use Rattle.sml_objects.specs.Initial.{Name}
use Rattle.sml_objects.specs.Objects.{Scheme, bound, free, arrow_of, mono}
use Rattle.sml_rules.specs.Answers.{fault}
use Rattle.sml_core_rules.specs.Objects.{Env, variable, of_values}
use Rattle.sml_samples.specs.Around.{Place, name_at, constructor_at, type_of, Accepts, Refuses}
use Rattle.sml_samples.specs.Core.{plain_constructor, datatype_binding, pattern_at, one_binding, three, variable_at, identity, identity_scheme}

-- `fn q => e`, at the place of `fn`; the pattern is after it
abbrev pub function_at : Place → Pat Place → Exp Place → Exp Place
function_at p q e = fn p (and_rule (rule (p + 1) q e) no_rule)

-- `val rec f = e`
abbrev pub rec_is : Exp Place → Dec Place
rec_is e = val_dec 1 [] no_bind (one_binding (pattern_at 3 (codes "f")) e)

-- `val q = e`
abbrev pub val_is : Pat Place → Exp Place → Dec Place
val_is q e = val_dec 1 [] (one_binding q e) no_bind

abbrev pub with_scheme : Id → Scheme Name → Env Name
with_scheme x σ = of_values ((x, record { scheme = σ; status = variable }) ∷ [])

-- `e op e`, at the place of its first token: its parts have one each
abbrev pub infix_at : Place → Id → (Place → Exp Place) → Exp Place
infix_at p op e = apply p (variable_at (p + 1) op) (tuple p (and_exp (e p) (and_exp (e (p + 2)) no_exp)))

abbrev pub real_at : Place → Exp Place
real_at p = constant p (record { kind = Real; literal = codes "3.0" })

-- `{a, ...}`, which stands for `{a = a, ...}`
abbrev pub row_pattern : Place → Pat Place
row_pattern p = pat_row p (and_pat_field (pat_field (name_at p (codes "a")) (pattern_at p (codes "a"))) no_pat_field) true

pub record TypingSamples : Type 0 where
  -- `val rec f = fn x => x + x`, where `+` is of int
  pub overloaded_accepted : Accepts
      (rec_is (function_at 5 (pattern_at 6 (codes "x")) (infix_at 8 (codes "+") (λ p. variable_at p (codes "x")))))
      (with_scheme (codes "f") (mono (arrow_of (type_of int) (type_of int))))
  -- `val rec f = fn x => abs (x div x)`: of the types of `div` and of `abs` only int is one of both
  pub default_accepted : Accepts (rec_is (function_at 5 (pattern_at 6 (codes "x")) (apply 8 (variable_at 8 (codes "abs")) (bracket 9 (infix_at 10 (codes "div") (λ p. variable_at p (codes "x")))))))
      (with_scheme (codes "f") (mono (arrow_of (type_of int) (type_of int))))
  -- `val rec f = fn x => let val y = x in y end`: the type of y is fixed by the context
  pub fixed_accepted : Accepts
      (rec_is
      (function_at 5 (pattern_at 6 (codes "x"))
      (let_in 8 (and_dec (val_dec 9 [] (one_binding (pattern_at 10 (codes "y")) (variable_at 12 (codes "x"))) no_bind) no_dec) (variable_at 14 (codes "y")))))
      (with_scheme (codes "f") identity_scheme)
  -- `val x = true + true`, and `val x = 3.0 = 3.0`
  pub class_refused : Refuses (val_is (pattern_at 2 (codes "x")) (infix_at 4 (codes "+") (λ p. variable_at p (codes "true")))) (fault U5 4)
  pub unequal_refused : Refuses (val_is (pattern_at 2 (codes "x")) (infix_at 4 (codes "=") real_at)) (fault U4 4)
  -- `val rec f = fn x : ''a => x`
  pub equality_accepted : Accepts (rec_is (function_at 5 (pat_typed 6 (pattern_at 6 (codes "x")) (ty_variable 8 (codes "''a"))) (variable_at 10 (codes "x"))))
      (with_scheme (codes "f") (record { variables = true ∷ []; body = arrow_of (bound 0) (bound 0) }))
  -- `val x : 'a = 3`
  pub rigid_refused : Refuses (val_is (pat_typed 2 (pattern_at 2 (codes "x")) (ty_variable 4 (codes "'a"))) (three 6)) (fault U7 2)
  -- `val _ = fn x : 'a => let val _ : 'a = x in 3 end`: the variable is scoped by the outer declaration alone; and
  -- `val _ = let val _ : 'a = 3 in 3 end`, where the inner one scopes it
  pub scoped_accepted : Accepts
      (val_is (wildcard 2)
      (function_at 4 (pat_typed 5 (pattern_at 5 (codes "x")) (ty_variable 7 (codes "'a")))
      (let_in 9 (and_dec (val_dec 10 [] (one_binding (pat_typed 11 (wildcard 11) (ty_variable 13 (codes "'a"))) (variable_at 15 (codes "x"))) no_bind) no_dec) (three 17))))
      (of_values [])
  pub scoped_refused : Refuses
      (val_is (wildcard 2)
      (let_in 4 (and_dec (val_dec 5 [] (one_binding (pat_typed 6 (wildcard 6) (ty_variable 8 (codes "'a"))) (three 10)) no_bind) no_dec) (three 12)))
      (fault U7 6)
  -- `val rec f = fn x => x x`
  pub circular_refused : Refuses (rec_is (function_at 5 (pattern_at 6 (codes "x")) (apply 8 (variable_at 8 (codes "x")) (variable_at 9 (codes "x"))))) (fault U2 8)
  -- `val i = (fn x => x) (fn x => x)`, whose right side is expansive: an unknown stays open
  pub expansive_accepted : Accepts (val_is (pattern_at 2 (codes "i")) (apply 4 (bracket 4 (identity 5)) (bracket 10 (identity 11))))
      (with_scheme (codes "i") (mono (arrow_of (free 2) (free 2))))
  -- `val x = let datatype d = D in D end`
  pub local_type_refused : Refuses
      (val_is (pattern_at 2 (codes "x")) (let_in 4 (and_dec (datatype_dec 5 (datatype_binding 6 (codes "d") (plain_constructor 8 (codes "D")) ∷ [])) no_dec) (variable_at 10 (codes "D"))))
      (fault E6 4)
  -- `val rec f = fn x => let datatype d = D in x : d end`
  pub new_type_refused : Refuses
      (rec_is
      (function_at 5 (pattern_at 6 (codes "x"))
      (let_in 8 (and_dec (datatype_dec 9 (datatype_binding 10 (codes "d") (plain_constructor 12 (codes "D")) ∷ [])) no_dec) (typed 14 (variable_at 14 (codes "x")) (constructor_at 16 (codes "d"))))))
      (fault U3 14)
  -- `val {a, ...} = {a = 3, b = 3}`, and `val rec f = fn {a, ...} => a`
  pub row_accepted : Accepts
      (val_is (row_pattern 2) (row 8 (and_field (field (name_at 9 (codes "a")) (three 11)) (and_field (field (name_at 13 (codes "b")) (three 15)) no_field))))
      (with_scheme (codes "a") (mono (type_of int)))
  pub row_refused : Refuses (rec_is (function_at 5 (row_pattern 6) (variable_at 12 (codes "a")))) (fault U6 6)
