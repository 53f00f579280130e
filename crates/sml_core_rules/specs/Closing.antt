-- What closing looks at in trees (the Definition, sections 4.6 and 4.7): expansive expressions, and the type variables that
-- occur unguarded.
use Rattle.std.specs.Prelude.{Bool, true, false, ◌&&◌, ◌||◌, not, List, [], ◌∷◌, ◌++◌, Option, Some, None, codes}
use Rattle.sml_tree.specs.Trees.{Id}
use Rattle.sml_tree.specs.Types.{Ty, Tys, TyFields, ty_variable, ty_row, ty_tuple, ty_constructor, ty_misapplied, ty_arrow, ty_bracket, no_ty, and_ty, ty_field, no_ty_field, and_ty_field}
use Rattle.sml_tree.specs.Patterns.{Pat, Pats, PatFields, wildcard, pat_constant, pat_name, pat_row, pat_tuple, pat_bracket, pat_apply, pat_typed, pat_as, no_pat, and_pat, pat_field, no_pat_field, and_pat_field}
use Rattle.sml_tree.specs.Expressions.{Exp, Exps, Fields, Rules, Dec, Decs, ValBinds, ExnBind, constant, name, row, tuple, let_in, bracket, apply, typed, handle, raise, fn, no_exp, and_exp, field, no_field, and_field, rule, no_rule, and_rule, val_dec, type_dec, datatype_dec, datatype_with, datatype_copy, exception_dec, local_dec, sequence_dec, open_dec, fixity_dec, no_dec, and_dec, bind, no_bind, and_bind, new_exception, exception_copy}
use Rattle.sml_rules.specs.Lookups.{Found, found, no_path, no_entry}
use Rattle.sml_core_rules.specs.Objects.{Env, Value}
use Rattle.sml_core_rules.specs.Lookups.{value_at, is_same}
use Rattle.sml_core_rules.specs.Values.{constructs}

abbrev pub found_constructs : {N : Type 0} → Id → Found (Value N) → Bool
found_constructs x (found v) = constructs v.status && not (is_same x (codes "ref"))
found_constructs x (no_path s) = false
found_constructs x no_entry = false

-- a constructor other than `ref` or an exception, perhaps in brackets or constrained
abbrev pub constructs_exp : {P N : Type 0} → Env N → Exp P → Bool
constructs_exp C (constant p c) = false
constructs_exp C (name p x) = found_constructs x.id.last (value_at C x.id)
constructs_exp C (row p fs) = false
constructs_exp C (tuple p es) = false
constructs_exp C (let_in p ds e) = false
constructs_exp C (bracket p e) = constructs_exp C e
constructs_exp C (apply p f e) = false
constructs_exp C (typed p e t) = constructs_exp C e
constructs_exp C (handle p e m) = false
constructs_exp C (raise p e) = false
constructs_exp C (fn p m) = false

unfoldable mutual
  pub is_expansive : {P N : Type 0} → Env N → Exp P → Bool
  is_expansive C (constant p c) = false
  is_expansive C (name p x) = false
  is_expansive C (row p fs) = is_any_field_expansive C fs
  is_expansive C (tuple p es) = is_any_expansive C es
  is_expansive C (let_in p ds e) = true
  is_expansive C (bracket p e) = is_expansive C e
  is_expansive C (apply p f e) = not (constructs_exp C f) || is_expansive C e
  is_expansive C (typed p e t) = is_expansive C e
  is_expansive C (handle p e m) = true
  is_expansive C (raise p e) = true
  is_expansive C (fn p m) = false

  pub is_any_expansive : {P N : Type 0} → Env N → Exps P → Bool
  is_any_expansive C no_exp = false
  is_any_expansive C (and_exp e es) = is_expansive C e || is_any_expansive C es

  pub is_any_field_expansive : {P N : Type 0} → Env N → Fields P → Bool
  is_any_field_expansive C no_field = false
  is_any_field_expansive C (and_field (field l e) fs) = is_expansive C e || is_any_field_expansive C fs

-- the right side of `rec`: `fn`, perhaps in brackets or constrained
abbrev pub is_function : {P : Type 0} → Exp P → Bool
is_function (constant p c) = false
is_function (name p x) = false
is_function (row p fs) = false
is_function (tuple p es) = false
is_function (let_in p ds e) = false
is_function (bracket p e) = is_function e
is_function (apply p f e) = false
is_function (typed p e t) = is_function e
is_function (handle p e m) = false
is_function (raise p e) = false
is_function (fn p m) = true

abbrev pub expression_place : {P : Type 0} → Exp P → P
expression_place (constant p c) = p
expression_place (name p x) = p
expression_place (row p fs) = p
expression_place (tuple p es) = p
expression_place (let_in p ds e) = p
expression_place (bracket p e) = p
expression_place (apply p f e) = p
expression_place (typed p e t) = p
expression_place (handle p e m) = p
expression_place (raise p e) = p
expression_place (fn p m) = p

-- Type variables in the order in which they stand in phrases, each as often as it does. Inside value declarations they are
-- guarded; those of types and datatypes are in a list of their own.

unfoldable mutual
  pub ty_variables : {P : Type 0} → Ty P → List Id
  ty_variables (ty_variable p x) = x ∷ []
  ty_variables (ty_row p fs) = ty_field_variables fs
  ty_variables (ty_tuple p ts) = tys_variables ts
  ty_variables (ty_constructor p ts c) = tys_variables ts
  ty_variables (ty_misapplied p ts c) = tys_variables ts
  ty_variables (ty_arrow p t u) = ty_variables t ++ ty_variables u
  ty_variables (ty_bracket p t) = ty_variables t

  pub tys_variables : {P : Type 0} → Tys P → List Id
  tys_variables no_ty = []
  tys_variables (and_ty t ts) = ty_variables t ++ tys_variables ts

  pub ty_field_variables : {P : Type 0} → TyFields P → List Id
  ty_field_variables no_ty_field = []
  ty_field_variables (and_ty_field (ty_field l t) fs) = ty_variables t ++ ty_field_variables fs

abbrev pub optional_variables : {P : Type 0} → Option (Ty P) → List Id
optional_variables None = []
optional_variables (Some t) = ty_variables t

unfoldable mutual
  pub pat_variables : {P : Type 0} → Pat P → List Id
  pat_variables (wildcard p) = []
  pat_variables (pat_constant p c) = []
  pat_variables (pat_name p x) = []
  pat_variables (pat_row p fs b) = pat_field_variables fs
  pat_variables (pat_tuple p qs) = pats_variables qs
  pat_variables (pat_bracket p q) = pat_variables q
  pat_variables (pat_apply p x q) = pat_variables q
  pat_variables (pat_typed p q t) = pat_variables q ++ ty_variables t
  pat_variables (pat_as p x t q) = optional_variables t ++ pat_variables q

  pub pats_variables : {P : Type 0} → Pats P → List Id
  pats_variables no_pat = []
  pats_variables (and_pat q qs) = pat_variables q ++ pats_variables qs

  pub pat_field_variables : {P : Type 0} → PatFields P → List Id
  pat_field_variables no_pat_field = []
  pat_field_variables (and_pat_field (pat_field l q) fs) = pat_variables q ++ pat_field_variables fs

abbrev pub exn_variables : {P : Type 0} → List (ExnBind P) → List Id
exn_variables [] = []
exn_variables (new_exception b ∷ bs) = optional_variables b.argument ++ exn_variables bs
exn_variables (exception_copy x y ∷ bs) = exn_variables bs

unfoldable mutual
  pub exp_variables : {P : Type 0} → Exp P → List Id
  exp_variables (constant p c) = []
  exp_variables (name p x) = []
  exp_variables (row p fs) = field_variables fs
  exp_variables (tuple p es) = exps_variables es
  exp_variables (let_in p ds e) = decs_variables ds ++ exp_variables e
  exp_variables (bracket p e) = exp_variables e
  exp_variables (apply p f e) = exp_variables f ++ exp_variables e
  exp_variables (typed p e t) = exp_variables e ++ ty_variables t
  exp_variables (handle p e m) = exp_variables e ++ rules_variables m
  exp_variables (raise p e) = exp_variables e
  exp_variables (fn p m) = rules_variables m

  pub exps_variables : {P : Type 0} → Exps P → List Id
  exps_variables no_exp = []
  exps_variables (and_exp e es) = exp_variables e ++ exps_variables es

  pub field_variables : {P : Type 0} → Fields P → List Id
  field_variables no_field = []
  field_variables (and_field (field l e) fs) = exp_variables e ++ field_variables fs

  pub rules_variables : {P : Type 0} → Rules P → List Id
  rules_variables no_rule = []
  rules_variables (and_rule (rule p q e) m) = (pat_variables q ++ exp_variables e) ++ rules_variables m

  pub dec_variables : {P : Type 0} → Dec P → List Id
  dec_variables (val_dec p xs bs rs) = []
  dec_variables (type_dec p bs) = []
  dec_variables (datatype_dec p bs) = []
  dec_variables (datatype_with p bs ts) = []
  dec_variables (datatype_copy p x c) = []
  dec_variables (exception_dec p bs) = exn_variables bs
  dec_variables (local_dec p ds es) = decs_variables ds ++ decs_variables es
  dec_variables (sequence_dec p ds) = decs_variables ds
  dec_variables (open_dec p xs) = []
  dec_variables (fixity_dec p) = []

  pub decs_variables : {P : Type 0} → Decs P → List Id
  decs_variables no_dec = []
  decs_variables (and_dec d ds) = dec_variables d ++ decs_variables ds

-- those that occur unguarded in the bindings of a value declaration
unfoldable pub unguarded : {P : Type 0} → ValBinds P → List Id
unguarded no_bind = []
unguarded (and_bind (bind q e) bs) = (pat_variables q ++ exp_variables e) ++ unguarded bs
