-- Heights of the trees of the whole language: each expression, pattern, type, declaration, structure expression,
-- signature expression and specification is one higher than its highest part, brackets included. Lists of rules,
-- fields, bindings and declarations add nothing.
use Rattle.std.specs.Prelude.{ℕ, suc, max, List, [], ◌∷◌, map, Option, Some, None}
use Rattle.sml_tree.specs.Types.{Ty, Tys, TyField, TyFields, ty_variable, ty_row, ty_tuple, ty_constructor, ty_misapplied, ty_arrow, ty_bracket, no_ty, and_ty, ty_field, no_ty_field, and_ty_field}
use Rattle.sml_tree.specs.Patterns.{Pat, Pats, PatField, PatFields, wildcard, pat_constant, pat_name, pat_row, pat_tuple, pat_bracket, pat_apply, pat_typed, pat_as, no_pat, and_pat, pat_field, no_pat_field, and_pat_field}
use Rattle.sml_tree.specs.Expressions.{TypBind, ConBind, DatBind, ExnBind, new_exception, exception_copy, Exp, Exps, Field, Fields, Rule, Rules, Dec, Decs, ValBind, ValBinds, constant, name, row, tuple, let_in, bracket, apply, typed, handle, raise, fn, no_exp, and_exp, field, no_field, and_field, rule, no_rule, and_rule, val_dec, type_dec, datatype_dec, datatype_with, datatype_copy, exception_dec, local_dec, sequence_dec, open_dec, fixity_dec, no_dec, and_dec, bind, no_bind, and_bind}
use Rattle.sml_tree.specs.Withtype.{dat_replaced}
use Rattle.sml_tree.specs.Signatures.{SigExp, Spec, Specs, StrDesc, StrDescs, ValDesc, sig_end, sig_name, where_type, val_spec, type_spec, eqtype_spec, datatype_spec, copy_spec, exception_spec, structure_spec, include_spec, sharing_types, sharing_structures, no_spec, and_spec, str_desc, no_str_desc, and_str_desc}
use Rattle.sml_tree.specs.Structures.{StrExp, StrDec, StrDecs, StrBind, StrBinds, SigBind, FunBind, TopDec, struct_end, str_name, ascribed, functor_apply, str_let, core_dec, structure_dec, str_local, no_str_dec, and_str_dec, str_bind, no_str_bind, and_str_bind, top_str, signature_dec, functor_dec}

-- the greatest height in a list
abbrev pub highest : {A : Type 0} → (A → ℕ) → List A → ℕ
highest height [] = 0
highest height (x ∷ xs) = max (height x) (highest height xs)

abbrev pub height_if_any : {A : Type 0} → (A → ℕ) → Option A → ℕ
height_if_any height None = 0
height_if_any height (Some x) = height x

abbrev mutual
  pub ty_height : {P : Type 0} → Ty P → ℕ
  ty_height (ty_variable p v) = 1
  ty_height (ty_row p fs) = suc (ty_fields_height fs)
  ty_height (ty_tuple p ts) = suc (tys_height ts)
  ty_height (ty_constructor p ts c) = suc (tys_height ts)
  ty_height (ty_misapplied p ts c) = suc (tys_height ts)
  ty_height (ty_arrow p t u) = suc (max (ty_height t) (ty_height u))
  ty_height (ty_bracket p t) = suc (ty_height t)

  pub tys_height : {P : Type 0} → Tys P → ℕ
  tys_height no_ty = 0
  tys_height (and_ty t ts) = max (ty_height t) (tys_height ts)

  pub ty_field_height : {P : Type 0} → TyField P → ℕ
  ty_field_height (ty_field l t) = ty_height t

  pub ty_fields_height : {P : Type 0} → TyFields P → ℕ
  ty_fields_height no_ty_field = 0
  ty_fields_height (and_ty_field f fs) = max (ty_field_height f) (ty_fields_height fs)

abbrev mutual
  pub pat_height : {P : Type 0} → Pat P → ℕ
  pat_height (wildcard p) = 1
  pat_height (pat_constant p c) = 1
  pat_height (pat_name p x) = 1
  pat_height (pat_row p fs flexible) = suc (pat_fields_height fs)
  pat_height (pat_tuple p qs) = suc (pats_height qs)
  pat_height (pat_bracket p q) = suc (pat_height q)
  pat_height (pat_apply p c q) = suc (pat_height q)
  pat_height (pat_typed p q t) = suc (max (pat_height q) (ty_height t))
  pat_height (pat_as p x t q) = suc (max (height_if_any ty_height t) (pat_height q))

  pub pats_height : {P : Type 0} → Pats P → ℕ
  pats_height no_pat = 0
  pats_height (and_pat q qs) = max (pat_height q) (pats_height qs)

  pub pat_field_height : {P : Type 0} → PatField P → ℕ
  pat_field_height (pat_field l q) = pat_height q

  pub pat_fields_height : {P : Type 0} → PatFields P → ℕ
  pat_fields_height no_pat_field = 0
  pat_fields_height (and_pat_field f fs) = max (pat_field_height f) (pat_fields_height fs)

abbrev pub typ_bind_height : {P : Type 0} → TypBind P → ℕ
typ_bind_height b = ty_height b.ty

abbrev pub con_bind_height : {P : Type 0} → ConBind P → ℕ
con_bind_height b = height_if_any ty_height b.argument

abbrev pub dat_bind_height : {P : Type 0} → DatBind P → ℕ
dat_bind_height b = highest con_bind_height b.constructors

abbrev pub exn_bind_height : {P : Type 0} → ExnBind P → ℕ
exn_bind_height (new_exception b) = con_bind_height b
exn_bind_height (exception_copy x y) = 0

abbrev mutual
  pub exp_height : {P : Type 0} → Exp P → ℕ
  exp_height (constant p c) = 1
  exp_height (name p x) = 1
  exp_height (row p fs) = suc (fields_height fs)
  exp_height (tuple p es) = suc (exps_height es)
  exp_height (let_in p ds e) = suc (max (decs_height ds) (exp_height e))
  exp_height (bracket p e) = suc (exp_height e)
  exp_height (apply p f e) = suc (max (exp_height f) (exp_height e))
  exp_height (typed p e t) = suc (max (exp_height e) (ty_height t))
  exp_height (handle p e rs) = suc (max (exp_height e) (rules_height rs))
  exp_height (raise p e) = suc (exp_height e)
  exp_height (fn p rs) = suc (rules_height rs)

  pub exps_height : {P : Type 0} → Exps P → ℕ
  exps_height no_exp = 0
  exps_height (and_exp e es) = max (exp_height e) (exps_height es)

  pub field_height : {P : Type 0} → Field P → ℕ
  field_height (field l e) = exp_height e

  pub fields_height : {P : Type 0} → Fields P → ℕ
  fields_height no_field = 0
  fields_height (and_field f fs) = max (field_height f) (fields_height fs)

  pub rule_height : {P : Type 0} → Rule P → ℕ
  rule_height (rule p q e) = max (pat_height q) (exp_height e)

  pub rules_height : {P : Type 0} → Rules P → ℕ
  rules_height no_rule = 0
  rules_height (and_rule r rs) = max (rule_height r) (rules_height rs)

  pub dec_height : {P : Type 0} → Dec P → ℕ
  dec_height (val_dec p vs bs rs) = suc (max (binds_height bs) (binds_height rs))
  dec_height (type_dec p bs) = suc (highest typ_bind_height bs)
  dec_height (datatype_dec p bs) = suc (highest dat_bind_height bs)
  -- what stands after `withtype` stands in the datatypes too
  dec_height (datatype_with p ds bs) = suc (max (highest dat_bind_height (map (dat_replaced bs) ds)) (highest typ_bind_height bs))
  dec_height (datatype_copy p t u) = 1
  dec_height (exception_dec p bs) = suc (highest exn_bind_height bs)
  dec_height (local_dec p ds es) = suc (max (decs_height ds) (decs_height es))
  dec_height (sequence_dec p ds) = decs_height ds
  dec_height (open_dec p ss) = 1
  dec_height (fixity_dec p) = 1

  pub decs_height : {P : Type 0} → Decs P → ℕ
  decs_height no_dec = 0
  decs_height (and_dec d ds) = max (dec_height d) (decs_height ds)

  pub bind_height : {P : Type 0} → ValBind P → ℕ
  bind_height (bind q e) = max (pat_height q) (exp_height e)

  pub binds_height : {P : Type 0} → ValBinds P → ℕ
  binds_height no_bind = 0
  binds_height (and_bind b bs) = max (bind_height b) (binds_height bs)

abbrev pub val_desc_height : {P : Type 0} → ValDesc P → ℕ
val_desc_height d = ty_height d.ty

abbrev mutual
  pub sig_height : {P : Type 0} → SigExp P → ℕ
  sig_height (sig_end p ss) = suc (specs_height ss)
  sig_height (sig_name p s) = 1
  sig_height (where_type p s w) = suc (max (sig_height s) (ty_height w.ty))

  pub spec_height : {P : Type 0} → Spec P → ℕ
  spec_height (val_spec p ds) = suc (highest val_desc_height ds)
  spec_height (type_spec p ds) = 1
  spec_height (eqtype_spec p ds) = 1
  spec_height (datatype_spec p bs) = suc (highest dat_bind_height bs)
  spec_height (copy_spec p t u) = 1
  spec_height (exception_spec p bs) = suc (highest con_bind_height bs)
  spec_height (structure_spec p ds) = suc (str_descs_height ds)
  spec_height (include_spec p s) = suc (sig_height s)
  spec_height (sharing_types p ts) = 1
  spec_height (sharing_structures p ss) = 1

  pub specs_height : {P : Type 0} → Specs P → ℕ
  specs_height no_spec = 0
  specs_height (and_spec s ss) = max (spec_height s) (specs_height ss)

  pub str_desc_height : {P : Type 0} → StrDesc P → ℕ
  str_desc_height (str_desc x s) = sig_height s

  pub str_descs_height : {P : Type 0} → StrDescs P → ℕ
  str_descs_height no_str_desc = 0
  str_descs_height (and_str_desc d ds) = max (str_desc_height d) (str_descs_height ds)

abbrev mutual
  pub str_height : {P : Type 0} → StrExp P → ℕ
  str_height (struct_end p ds) = suc (str_decs_height ds)
  str_height (str_name x) = 1
  str_height (ascribed p e a s) = suc (max (str_height e) (sig_height s))
  str_height (functor_apply f e) = suc (str_height e)
  str_height (str_let p ds e) = suc (max (str_decs_height ds) (str_height e))

  pub str_dec_height : {P : Type 0} → StrDec P → ℕ
  str_dec_height (core_dec d) = dec_height d
  str_dec_height (structure_dec p bs) = suc (str_binds_height bs)
  str_dec_height (str_local p ds es) = suc (max (str_decs_height ds) (str_decs_height es))

  pub str_decs_height : {P : Type 0} → StrDecs P → ℕ
  str_decs_height no_str_dec = 0
  str_decs_height (and_str_dec d ds) = max (str_dec_height d) (str_decs_height ds)

  pub str_bind_height : {P : Type 0} → StrBind P → ℕ
  str_bind_height (str_bind x e) = str_height e

  pub str_binds_height : {P : Type 0} → StrBinds P → ℕ
  str_binds_height no_str_bind = 0
  str_binds_height (and_str_bind b bs) = max (str_bind_height b) (str_binds_height bs)

abbrev pub sig_bind_height : {P : Type 0} → SigBind P → ℕ
sig_bind_height b = sig_height b.signature

abbrev pub fun_bind_height : {P : Type 0} → FunBind P → ℕ
fun_bind_height b = max (sig_height b.signature) (str_height b.body)

abbrev pub top_height : {P : Type 0} → TopDec P → ℕ
top_height (top_str d) = str_dec_height d
top_height (signature_dec p bs) = suc (highest sig_bind_height bs)
top_height (functor_dec p bs) = suc (highest fun_bind_height bs)
