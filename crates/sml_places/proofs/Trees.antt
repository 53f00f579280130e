-- What is seen of trees but their places is the same where they have other places.
use Rattle.std.specs.Prelude.{◌≡◌, not, ◌||◌, List, [], ◌∷◌, ◌++◌, map, Option, Some, None}
use mathlib.Core.Path.{refl, ap}
use Rattle.sml_tree.specs.Names.{Name}
use Rattle.sml_tree.specs.Types.{Ty, Tys, TyFields, ty_variable, ty_row, ty_tuple, ty_constructor, ty_misapplied, ty_arrow, ty_bracket, no_ty, and_ty, ty_field, no_ty_field, and_ty_field}
use Rattle.sml_tree.specs.Patterns.{Pat, Pats, PatFields, wildcard, pat_constant, pat_name, pat_row, pat_tuple, pat_bracket, pat_apply, pat_typed, pat_as, no_pat, and_pat, pat_field, no_pat_field, and_pat_field}
use Rattle.sml_tree.specs.Expressions.{Exp, Exps, Fields, Rules, Dec, Decs, ValBinds, ExnBind, constant, name, row, tuple, let_in, bracket, apply, typed, handle, raise, fn, no_exp, and_exp, field, no_field, and_field, rule, no_rule, and_rule, val_dec, type_dec, datatype_dec, datatype_with, datatype_copy, exception_dec, local_dec, sequence_dec, open_dec, fixity_dec, no_dec, and_dec, bind, no_bind, and_bind, new_exception, exception_copy}
use Rattle.sml_core_rules.specs.Objects.{Env}
use Rattle.sml_core_rules.specs.Types.{type_place}
use Rattle.sml_core_rules.specs.Patterns.{pattern_place}
use Rattle.sml_core_rules.specs.Closing.{constructs_exp, is_expansive, is_any_expansive, is_any_field_expansive, is_function, expression_place, ty_variables, tys_variables, ty_field_variables, optional_variables, pat_variables, pats_variables, pat_field_variables, exn_variables, exp_variables, exps_variables, field_variables, rules_variables, dec_variables, decs_variables, unguarded}
use Rattle.sml_places.specs.Places.{place_names, place_ty, place_tys, place_ty_fields, place_optional, place_pat, place_pats, place_pat_fields, place_exn_bind, place_exp, place_exps, place_fields, place_rules, place_dec, place_decs, place_binds}

module _ {P Q : Type 0} (f : P → Q) where
  -- first tokens

  pub type-placed : (t : Ty P) → type_place (place_ty f t) ≡ f (type_place t)
  unfolding place_ty
  type-placed (ty_variable p x) = refl
  type-placed (ty_row p fs) = refl
  type-placed (ty_tuple p ts) = refl
  type-placed (ty_constructor p ts c) = refl
  type-placed (ty_misapplied p ts c) = refl
  type-placed (ty_arrow p t u) = refl
  type-placed (ty_bracket p t) = refl

  pub pattern-placed : (q : Pat P) → pattern_place (place_pat f q) ≡ f (pattern_place q)
  unfolding place_pat
  pattern-placed (wildcard p) = refl
  pattern-placed (pat_constant p c) = refl
  pattern-placed (pat_name p x) = refl
  pattern-placed (pat_row p fs b) = refl
  pattern-placed (pat_tuple p qs) = refl
  pattern-placed (pat_bracket p q) = refl
  pattern-placed (pat_apply p x q) = refl
  pattern-placed (pat_typed p q t) = refl
  pattern-placed (pat_as p x t q) = refl

  pub expression-placed : (e : Exp P) → expression_place (place_exp f e) ≡ f (expression_place e)
  unfolding place_exp
  expression-placed (constant p c) = refl
  expression-placed (name p x) = refl
  expression-placed (row p fs) = refl
  expression-placed (tuple p es) = refl
  expression-placed (let_in p ds e) = refl
  expression-placed (bracket p e) = refl
  expression-placed (apply p g e) = refl
  expression-placed (typed p e t) = refl
  expression-placed (handle p e m) = refl
  expression-placed (raise p e) = refl
  expression-placed (fn p m) = refl

  -- expansive expressions, and functions

  constructs-same : {N : Type 0} (C : Env N) (e : Exp P) → constructs_exp C (place_exp f e) ≡ constructs_exp C e
  unfolding place_exp
  constructs-same C (constant p c) = refl
  constructs-same C (name p x) = refl
  constructs-same C (row p fs) = refl
  constructs-same C (tuple p es) = refl
  constructs-same C (let_in p ds e) = refl
  constructs-same C (bracket p e) = constructs-same C e
  constructs-same C (apply p g e) = refl
  constructs-same C (typed p e t) = constructs-same C e
  constructs-same C (handle p e m) = refl
  constructs-same C (raise p e) = refl
  constructs-same C (fn p m) = refl

  mutual
    unfolding place_exp place_exps place_fields is_expansive is_any_expansive is_any_field_expansive

    pub expansive-same : {N : Type 0} (C : Env N) (e : Exp P) → is_expansive C (place_exp f e) ≡ is_expansive C e
    expansive-same C (constant p c) = refl
    expansive-same C (name p x) = refl
    expansive-same C (row p fs) = any-field-same C fs
    expansive-same C (tuple p es) = any-same C es
    expansive-same C (let_in p ds e) = refl
    expansive-same C (bracket p e) = expansive-same C e
    expansive-same C (apply p g e) = λ i. not (constructs-same C g i) || expansive-same C e i
    expansive-same C (typed p e t) = expansive-same C e
    expansive-same C (handle p e m) = refl
    expansive-same C (raise p e) = refl
    expansive-same C (fn p m) = refl

    any-same : {N : Type 0} (C : Env N) (es : Exps P) → is_any_expansive C (place_exps f es) ≡ is_any_expansive C es
    any-same C no_exp = refl
    any-same C (and_exp e es) = λ i. expansive-same C e i || any-same C es i

    any-field-same : {N : Type 0} (C : Env N) (fs : Fields P) → is_any_field_expansive C (place_fields f fs) ≡ is_any_field_expansive C fs
    any-field-same C no_field = refl
    any-field-same C (and_field (field l e) fs) = λ i. expansive-same C e i || any-field-same C fs i

  pub function-same : (e : Exp P) → is_function (place_exp f e) ≡ is_function e
  unfolding place_exp
  function-same (constant p c) = refl
  function-same (name p x) = refl
  function-same (row p fs) = refl
  function-same (tuple p es) = refl
  function-same (let_in p ds e) = refl
  function-same (bracket p e) = function-same e
  function-same (apply p g e) = refl
  function-same (typed p e t) = function-same e
  function-same (handle p e m) = refl
  function-same (raise p e) = refl
  function-same (fn p m) = refl

  -- type variables

  pub ids-same : (xs : List (Name P)) → map (λ x. x.id) (place_names f xs) ≡ map (λ x. x.id) xs
  ids-same [] = refl
  ids-same (x ∷ xs) = ap (λ l. x.id ∷ l) (ids-same xs)

  mutual
    unfolding place_ty place_tys place_ty_fields ty_variables tys_variables ty_field_variables

    pub variables-same : (t : Ty P) → ty_variables (place_ty f t) ≡ ty_variables t
    variables-same (ty_variable p x) = refl
    variables-same (ty_row p fs) = field-variables-same fs
    variables-same (ty_tuple p ts) = all-variables-same ts
    variables-same (ty_constructor p ts c) = all-variables-same ts
    variables-same (ty_misapplied p ts c) = all-variables-same ts
    variables-same (ty_arrow p t u) = λ i. variables-same t i ++ variables-same u i
    variables-same (ty_bracket p t) = variables-same t

    all-variables-same : (ts : Tys P) → tys_variables (place_tys f ts) ≡ tys_variables ts
    all-variables-same no_ty = refl
    all-variables-same (and_ty t ts) = λ i. variables-same t i ++ all-variables-same ts i

    field-variables-same : (fs : TyFields P) → ty_field_variables (place_ty_fields f fs) ≡ ty_field_variables fs
    field-variables-same no_ty_field = refl
    field-variables-same (and_ty_field (ty_field l t) fs) = λ i. variables-same t i ++ field-variables-same fs i

  optional-same : (t : Option (Ty P)) → optional_variables (place_optional f t) ≡ optional_variables t
  optional-same None = refl
  optional-same (Some t) = variables-same t

  mutual
    unfolding place_pat place_pats place_pat_fields pat_variables pats_variables pat_field_variables

    in-pat : (q : Pat P) → pat_variables (place_pat f q) ≡ pat_variables q
    in-pat (wildcard p) = refl
    in-pat (pat_constant p c) = refl
    in-pat (pat_name p x) = refl
    in-pat (pat_row p fs b) = in-pat-fields fs
    in-pat (pat_tuple p qs) = in-pats qs
    in-pat (pat_bracket p q) = in-pat q
    in-pat (pat_apply p x q) = in-pat q
    in-pat (pat_typed p q t) = λ i. in-pat q i ++ variables-same t i
    in-pat (pat_as p x t q) = λ i. optional-same t i ++ in-pat q i

    in-pats : (qs : Pats P) → pats_variables (place_pats f qs) ≡ pats_variables qs
    in-pats no_pat = refl
    in-pats (and_pat q qs) = λ i. in-pat q i ++ in-pats qs i

    in-pat-fields : (fs : PatFields P) → pat_field_variables (place_pat_fields f fs) ≡ pat_field_variables fs
    in-pat-fields no_pat_field = refl
    in-pat-fields (and_pat_field (pat_field l q) fs) = λ i. in-pat q i ++ in-pat-fields fs i

  in-exceptions : (bs : List (ExnBind P)) → exn_variables (map (place_exn_bind f) bs) ≡ exn_variables bs
  in-exceptions [] = refl
  in-exceptions (new_exception b ∷ bs) = λ i. optional-same b.argument i ++ in-exceptions bs i
  in-exceptions (exception_copy x y ∷ bs) = in-exceptions bs

  mutual
    unfolding place_exp place_exps place_fields place_rules place_dec place_decs exp_variables exps_variables field_variables rules_variables dec_variables decs_variables

    in-exp : (e : Exp P) → exp_variables (place_exp f e) ≡ exp_variables e
    in-exp (constant p c) = refl
    in-exp (name p x) = refl
    in-exp (row p fs) = in-fields fs
    in-exp (tuple p es) = in-exps es
    in-exp (let_in p ds e) = λ i. in-decs ds i ++ in-exp e i
    in-exp (bracket p e) = in-exp e
    in-exp (apply p g e) = λ i. in-exp g i ++ in-exp e i
    in-exp (typed p e t) = λ i. in-exp e i ++ variables-same t i
    in-exp (handle p e m) = λ i. in-exp e i ++ in-rules m i
    in-exp (raise p e) = in-exp e
    in-exp (fn p m) = in-rules m

    in-exps : (es : Exps P) → exps_variables (place_exps f es) ≡ exps_variables es
    in-exps no_exp = refl
    in-exps (and_exp e es) = λ i. in-exp e i ++ in-exps es i

    in-fields : (fs : Fields P) → field_variables (place_fields f fs) ≡ field_variables fs
    in-fields no_field = refl
    in-fields (and_field (field l e) fs) = λ i. in-exp e i ++ in-fields fs i

    in-rules : (m : Rules P) → rules_variables (place_rules f m) ≡ rules_variables m
    in-rules no_rule = refl
    in-rules (and_rule (rule p q e) m) = λ i. (in-pat q i ++ in-exp e i) ++ in-rules m i

    in-dec : (d : Dec P) → dec_variables (place_dec f d) ≡ dec_variables d
    in-dec (val_dec p xs bs rs) = refl
    in-dec (type_dec p bs) = refl
    in-dec (datatype_dec p bs) = refl
    in-dec (datatype_with p bs ts) = refl
    in-dec (datatype_copy p x c) = refl
    in-dec (exception_dec p bs) = in-exceptions bs
    in-dec (local_dec p ds es) = λ i. in-decs ds i ++ in-decs es i
    in-dec (sequence_dec p ds) = in-decs ds
    in-dec (open_dec p xs) = refl
    in-dec (fixity_dec p) = refl

    in-decs : (ds : Decs P) → decs_variables (place_decs f ds) ≡ decs_variables ds
    in-decs no_dec = refl
    in-decs (and_dec d ds) = λ i. in-dec d i ++ in-decs ds i

  pub unguarded-same : (bs : ValBinds P) → unguarded (place_binds f bs) ≡ unguarded bs
  unfolding place_binds unguarded
  unguarded-same no_bind = refl
  unguarded-same (and_bind (bind q e) bs) = λ i. (in-pat q i ++ in-exp e i) ++ unguarded-same bs i
