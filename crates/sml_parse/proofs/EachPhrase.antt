-- Each place in a phrase is such a one.
use Rattle.std.specs.Prelude.{ℕ, zero, suc, List, [], ◌∷◌, get_or, set, drop, Option, Some, None}
use Rattle.std.specs.List.{AllByRecursion}
use Rattle.sml_lex.specs.declared.fault.Place.{Place}
use Rattle.sml_lex.specs.Faults.{first_place}
use Rattle.sml_tree.specs.Patterns.{Pat}
use Rattle.sml_tree.specs.Expressions.{Exp, Rules}
use Rattle.sml_tree.specs.Clauses.{Clause, Constraint}
use Rattle.sml_parse.specs.EachPlace.{EachInBind, EachInBinds, EachInConBind, EachInDatBind, EachInDec, EachInDecs, EachInExnBind, EachInExp, EachInExps, EachInFields, EachInFunBind, EachInLong, EachInLongs, EachInName, EachInNames, EachInPat, EachInPatFields, EachInPats, EachInRules, EachInSig, EachInSigBind, EachInSpecs, EachInStr, EachInStrBinds, EachInStrDec, EachInStrDecs, EachInStrDescs, EachInTop, EachInTy, EachInTyFields, EachInTyIfAny, EachInTypBind, EachInTypDesc, EachInTys, EachInValDesc, EachInWhere}
use Rattle.sml_phrases.specs.Phrases.{Phrase, nothing, of_word, of_name, of_long, of_constant, of_names, of_longs, of_ty, of_tys, of_ty_fields, of_arguments, of_pat, of_pats, of_pat_fields, of_atoms, of_layer, of_op_atoms, of_op_layer, of_exp, of_exps, of_series, of_fields, of_rules, of_rest, of_dec, of_decs, of_bind, of_binds, of_values, of_round_values, of_functions, of_right_side, of_clauses, of_round_functions, of_typ_bind, of_typ_binds, of_con_bind, of_con_binds, of_datatypes, of_constructors, of_copy, of_exn_binds, of_sig, of_where, of_wheres, of_begun_sig_bind, of_sig_binds, of_specs, of_val_desc, of_val_descs, of_typ_descs, of_type_rest, of_begun_str_desc, of_str_descs, of_shared_types, of_str, of_str_dec, of_str_decs, of_constraints, of_str_binds, of_begun_str_bind, of_functor_argument, of_fun_binds, of_begun_fun_bind, of_begun_functor, of_top, name_in, long_in, names_in, longs_in, ty_in, tys_in, ty_fields_in, pat_in, pats_in, exp_in, exps_in, fields_in, rules_in, dec_in, decs_in, bind_in, binds_in, clauses_in, typ_binds_in, con_binds_in, exn_binds_in, sig_in, wheres_in, specs_in, val_descs_in, typ_descs_in, str_in, str_dec_in, str_decs_in, top_in, place_in, ty_if_any, pat_if_any, exp_if_any, rules_if_any, con_bind_in, val_desc_in, dat_binds_in, where_in, sig_wheres_in, sig_binds_in, desc_wheres_in, str_descs_in, constraint_wheres_in, constraints_in, str_wheres_in, str_constraints_in, str_binds_in, fun_wheres_in, fun_constraints_in, fun_binds_in, first, at}

-- in what may lack, and in parts of derived forms
abbrev pub EachInPatIfAny : {P : Type 0} → (P → Type 0) → Option (Pat P) → Type 0
EachInPatIfAny Q None = Unit {0}
EachInPatIfAny Q (Some q) = EachInPat Q q

abbrev pub EachInExpIfAny : {P : Type 0} → (P → Type 0) → Option (Exp P) → Type 0
EachInExpIfAny Q None = Unit {0}
EachInExpIfAny Q (Some e) = EachInExp Q e

abbrev pub EachInRulesIfAny : {P : Type 0} → (P → Type 0) → Option (Rules P) → Type 0
EachInRulesIfAny Q None = Unit {0}
EachInRulesIfAny Q (Some rs) = EachInRules Q rs

abbrev pub EachInClause : {P : Type 0} → (P → Type 0) → Clause P → Type 0
EachInClause Q c = Q c.place × EachInPats Q c.pats × EachInTyIfAny Q c.result × EachInExp Q c.body

abbrev pub EachInConstraint : {P : Type 0} → (P → Type 0) → Constraint P → Type 0
EachInConstraint Q c = EachInSig Q c.signature

-- in what a phrase of the grammar makes of its parts
abbrev pub EachInPhrase : (Place → Type 0) → Phrase → Type 0
EachInPhrase Q nothing = Unit {0}
EachInPhrase Q (of_word x) = Q x
EachInPhrase Q (of_name x) = EachInName Q x
EachInPhrase Q (of_long x) = EachInLong Q x
EachInPhrase Q (of_constant x) = Unit {0}
EachInPhrase Q (of_names x) = EachInNames Q x
EachInPhrase Q (of_longs x) = EachInLongs Q x
EachInPhrase Q (of_ty x) = EachInTy Q x
EachInPhrase Q (of_tys x) = EachInTys Q x
EachInPhrase Q (of_ty_fields x) = EachInTyFields Q x
EachInPhrase Q (of_arguments x0 x1) = EachInTys Q x0 × EachInLong Q x1
EachInPhrase Q (of_pat x) = EachInPat Q x
EachInPhrase Q (of_pats x) = EachInPats Q x
EachInPhrase Q (of_pat_fields x0 x1) = EachInPatFields Q x0
EachInPhrase Q (of_atoms x0 x1) = EachInPats Q x0 × EachInTys Q x1
EachInPhrase Q (of_layer x0 x1) = EachInTyIfAny Q x0 × EachInPatIfAny Q x1
EachInPhrase Q (of_op_atoms x0 x1 x2) = EachInLong Q x0 × EachInPats Q x1 × EachInTys Q x2
EachInPhrase Q (of_op_layer x0 x1 x2) = EachInName Q x0 × EachInTyIfAny Q x1 × EachInPatIfAny Q x2
EachInPhrase Q (of_exp x) = EachInExp Q x
EachInPhrase Q (of_exps x) = EachInExps Q x
EachInPhrase Q (of_series x) = EachInExps Q x
EachInPhrase Q (of_fields x) = EachInFields Q x
EachInPhrase Q (of_rules x) = EachInRules Q x
EachInPhrase Q (of_rest x0 x1 x2 x3 x4) = EachInExps Q x0 × EachInTys Q x1 × EachInExpIfAny Q x2 × EachInExpIfAny Q x3 × EachInRulesIfAny Q x4
EachInPhrase Q (of_dec x) = EachInDec Q x
EachInPhrase Q (of_decs x) = EachInDecs Q x
EachInPhrase Q (of_bind x) = EachInBind Q x
EachInPhrase Q (of_binds x) = EachInBinds Q x
EachInPhrase Q (of_values x0 x1 x2) = EachInNames Q x0 × EachInBinds Q x1 × EachInBinds Q x2
EachInPhrase Q (of_round_values x0 x1 x2 x3 x4 x5) = EachInPats Q x0 × EachInPats Q x1 × EachInTys Q x2 × EachInExp Q x3 × EachInBinds Q x4 × EachInBinds Q x5
EachInPhrase Q (of_functions x0 x1) = EachInNames Q x0 × EachInBinds Q x1
EachInPhrase Q (of_right_side x0 x1 x2) = EachInPats Q x0 × EachInTyIfAny Q x1 × EachInExp Q x2
EachInPhrase Q (of_clauses x) = AllByRecursion (EachInClause Q) x
EachInPhrase Q (of_round_functions x0 x1 x2 x3 x4 x5) = EachInPats Q x0 × EachInPats Q x1 × EachInTyIfAny Q x2 × EachInExp Q x3 × AllByRecursion (EachInClause Q) x4 × EachInBinds Q x5
EachInPhrase Q (of_typ_bind x0 x1 x2) = EachInNames Q x0 × EachInName Q x1 × EachInTy Q x2
EachInPhrase Q (of_typ_binds x) = AllByRecursion (EachInTypBind Q) x
EachInPhrase Q (of_con_bind x0 x1) = EachInName Q x0 × EachInTyIfAny Q x1
EachInPhrase Q (of_con_binds x) = AllByRecursion (EachInConBind Q) x
EachInPhrase Q (of_datatypes x0 x1) = AllByRecursion (EachInDatBind Q) x0 × AllByRecursion (EachInTypBind Q) x1
EachInPhrase Q (of_constructors x0 x1 x2) = AllByRecursion (EachInConBind Q) x0 × AllByRecursion (EachInDatBind Q) x1 × AllByRecursion (EachInTypBind Q) x2
EachInPhrase Q (of_copy x0 x1) = EachInName Q x0 × EachInLong Q x1
EachInPhrase Q (of_exn_binds x) = AllByRecursion (EachInExnBind Q) x
EachInPhrase Q (of_sig x) = EachInSig Q x
EachInPhrase Q (of_where x0 x1 x2) = EachInNames Q x0 × EachInLong Q x1 × EachInTy Q x2
EachInPhrase Q (of_wheres x) = AllByRecursion (EachInWhere Q) x
EachInPhrase Q (of_begun_sig_bind x0 x1) = EachInName Q x0 × EachInSig Q x1
EachInPhrase Q (of_sig_binds x0 x1) = AllByRecursion (EachInWhere Q) x0 × AllByRecursion (EachInSigBind Q) x1
EachInPhrase Q (of_specs x) = EachInSpecs Q x
EachInPhrase Q (of_val_desc x0 x1) = EachInName Q x0 × EachInTy Q x1
EachInPhrase Q (of_val_descs x) = AllByRecursion (EachInValDesc Q) x
EachInPhrase Q (of_typ_descs x) = AllByRecursion (EachInTypDesc Q) x
EachInPhrase Q (of_type_rest x0 x1) = EachInTy Q x0 × AllByRecursion (EachInTypBind Q) x1
EachInPhrase Q (of_begun_str_desc x0 x1) = EachInName Q x0 × EachInSig Q x1
EachInPhrase Q (of_str_descs x0 x1) = AllByRecursion (EachInWhere Q) x0 × EachInStrDescs Q x1
EachInPhrase Q (of_shared_types x) = EachInLongs Q x
EachInPhrase Q (of_str x) = EachInStr Q x
EachInPhrase Q (of_str_dec x) = EachInStrDec Q x
EachInPhrase Q (of_str_decs x) = EachInStrDecs Q x
EachInPhrase Q (of_constraints x0 x1) = AllByRecursion (EachInWhere Q) x0 × AllByRecursion (EachInConstraint Q) x1
EachInPhrase Q (of_str_binds x0 x1 x2) = AllByRecursion (EachInWhere Q) x0 × AllByRecursion (EachInConstraint Q) x1 × EachInStrBinds Q x2
EachInPhrase Q (of_begun_str_bind x0 x1 x2) = EachInName Q x0 × AllByRecursion (EachInConstraint Q) x1 × EachInStr Q x2
EachInPhrase Q (of_functor_argument x0 x1) = EachInName Q x0 × EachInSig Q x1
EachInPhrase Q (of_fun_binds x0 x1 x2) = AllByRecursion (EachInWhere Q) x0 × AllByRecursion (EachInConstraint Q) x1 × AllByRecursion (EachInFunBind Q) x2
EachInPhrase Q (of_begun_fun_bind x0 x1 x2 x3 x4) = EachInName Q x0 × EachInName Q x1 × EachInSig Q x2 × AllByRecursion (EachInConstraint Q) x3 × EachInStr Q x4
EachInPhrase Q (of_begun_functor x0 x1 x2 x3) = EachInName Q x0 × EachInSpecs Q x1 × AllByRecursion (EachInConstraint Q) x2 × EachInStr Q x3
EachInPhrase Q (of_top x) = EachInTop Q x

abbrev pub EachInPhrases : (Place → Type 0) → List Phrase → Type 0
EachInPhrases Q vs = AllByRecursion (EachInPhrase Q) vs

-- what each one in a list satisfies: one of these, the list with another in the place of one, and some left out
module _ {A : Type 0} (P : A → Type 0) where
  pub all_get_or : (xs : List A) (n : ℕ) (other : A) → AllByRecursion P xs → P other → P (get_or xs n other)
  all_get_or [] n other h k = k
  all_get_or (x ∷ xs) zero other h k = h.0
  all_get_or (x ∷ xs) (suc n) other h k = all_get_or xs n other h.1 k

  pub all_set : (xs : List A) (n : ℕ) (x : A) → AllByRecursion P xs → P x → AllByRecursion P (set xs n x)
  all_set [] n x h k = tt
  all_set (y ∷ xs) zero x h k = (k, h.1)
  all_set (y ∷ xs) (suc n) x h k = (h.0, all_set xs n x h.1 k)

  pub all_drop : (n : ℕ) (xs : List A) → AllByRecursion P xs → AllByRecursion P (drop n xs)
  all_drop zero xs h = h
  all_drop (suc n) [] h = tt
  all_drop (suc n) (x ∷ xs) h = all_drop n xs h.1

module _ (Q : Place → Type 0) (origin : Q first_place) where
  -- the first of some phrases, some of them left out, and one after these
  pub first_each : (vs : List Phrase) → EachInPhrases Q vs → EachInPhrase Q (first vs)
  first_each [] h = tt
  first_each (v ∷ vs) h = h.0

  pub drop_each : (n : ℕ) (vs : List Phrase) → EachInPhrases Q vs → EachInPhrases Q (drop n vs)
  drop_each n vs h = all_drop (EachInPhrase Q) n vs h

  pub at_each : (vs : List Phrase) (n : ℕ) → EachInPhrases Q vs → EachInPhrase Q (at vs n)
  at_each vs n h = first_each (drop n vs) (drop_each n vs h)

  -- What was made of one kind; what stands in the place of another kind is at the first place.
  pub name_in_each : (v : Phrase) → EachInPhrase Q v → EachInName Q (name_in v)
  name_in_each (of_name x) h = h
  name_in_each _ h = origin

  pub long_in_each : (v : Phrase) → EachInPhrase Q v → EachInLong Q (long_in v)
  long_in_each (of_long c) h = h
  long_in_each _ h = origin

  pub names_in_each : (v : Phrase) → EachInPhrase Q v → EachInNames Q (names_in v)
  names_in_each (of_names xs) h = h
  names_in_each _ h = tt

  pub longs_in_each : (v : Phrase) → EachInPhrase Q v → EachInLongs Q (longs_in v)
  longs_in_each (of_longs cs) h = h
  longs_in_each _ h = tt

  pub ty_in_each : (v : Phrase) → EachInPhrase Q v → EachInTy Q (ty_in v)
  ty_in_each (of_ty t) h = h
  ty_in_each _ h = (origin, tt)

  pub tys_in_each : (v : Phrase) → EachInPhrase Q v → EachInTys Q (tys_in v)
  tys_in_each (of_tys ts) h = h
  tys_in_each _ h = tt

  pub ty_fields_in_each : (v : Phrase) → EachInPhrase Q v → EachInTyFields Q (ty_fields_in v)
  ty_fields_in_each (of_ty_fields fs) h = h
  ty_fields_in_each _ h = tt

  pub pat_in_each : (v : Phrase) → EachInPhrase Q v → EachInPat Q (pat_in v)
  pat_in_each (of_pat q) h = h
  pat_in_each _ h = (origin, tt)

  pub pats_in_each : (v : Phrase) → EachInPhrase Q v → EachInPats Q (pats_in v)
  pats_in_each (of_pats qs) h = h
  pats_in_each _ h = tt

  pub exp_in_each : (v : Phrase) → EachInPhrase Q v → EachInExp Q (exp_in v)
  exp_in_each (of_exp e) h = h
  exp_in_each _ h = (origin, tt)

  pub exps_in_each : (v : Phrase) → EachInPhrase Q v → EachInExps Q (exps_in v)
  exps_in_each (of_exps es) h = h
  exps_in_each _ h = tt

  pub fields_in_each : (v : Phrase) → EachInPhrase Q v → EachInFields Q (fields_in v)
  fields_in_each (of_fields fs) h = h
  fields_in_each _ h = tt

  pub rules_in_each : (v : Phrase) → EachInPhrase Q v → EachInRules Q (rules_in v)
  rules_in_each (of_rules rs) h = h
  rules_in_each _ h = tt

  pub dec_in_each : (v : Phrase) → EachInPhrase Q v → EachInDec Q (dec_in v)
  dec_in_each (of_dec d) h = h
  dec_in_each _ h = origin

  pub decs_in_each : (v : Phrase) → EachInPhrase Q v → EachInDecs Q (decs_in v)
  decs_in_each (of_decs ds) h = h
  decs_in_each _ h = tt

  pub bind_in_each : (v : Phrase) → EachInPhrase Q v → EachInBind Q (bind_in v)
  bind_in_each (of_bind b) h = h
  bind_in_each _ h = ((origin, tt), (origin, tt))

  pub binds_in_each : (v : Phrase) → EachInPhrase Q v → EachInBinds Q (binds_in v)
  binds_in_each (of_binds bs) h = h
  binds_in_each _ h = tt

  pub clauses_in_each : (v : Phrase) → EachInPhrase Q v → AllByRecursion (EachInClause Q) (clauses_in v)
  clauses_in_each (of_clauses cs) h = h
  clauses_in_each _ h = tt

  pub typ_binds_in_each : (v : Phrase) → EachInPhrase Q v → AllByRecursion (EachInTypBind Q) (typ_binds_in v)
  typ_binds_in_each (of_typ_binds ts) h = h
  typ_binds_in_each _ h = tt

  pub con_binds_in_each : (v : Phrase) → EachInPhrase Q v → AllByRecursion (EachInConBind Q) (con_binds_in v)
  con_binds_in_each (of_con_binds cs) h = h
  con_binds_in_each _ h = tt

  pub exn_binds_in_each : (v : Phrase) → EachInPhrase Q v → AllByRecursion (EachInExnBind Q) (exn_binds_in v)
  exn_binds_in_each (of_exn_binds es) h = h
  exn_binds_in_each _ h = tt

  pub sig_in_each : (v : Phrase) → EachInPhrase Q v → EachInSig Q (sig_in v)
  sig_in_each (of_sig s) h = h
  sig_in_each _ h = (origin, tt)

  pub wheres_in_each : (v : Phrase) → EachInPhrase Q v → AllByRecursion (EachInWhere Q) (wheres_in v)
  wheres_in_each (of_wheres ws) h = h
  wheres_in_each _ h = tt

  pub specs_in_each : (v : Phrase) → EachInPhrase Q v → EachInSpecs Q (specs_in v)
  specs_in_each (of_specs ss) h = h
  specs_in_each _ h = tt

  pub val_descs_in_each : (v : Phrase) → EachInPhrase Q v → AllByRecursion (EachInValDesc Q) (val_descs_in v)
  val_descs_in_each (of_val_descs ds) h = h
  val_descs_in_each _ h = tt

  pub typ_descs_in_each : (v : Phrase) → EachInPhrase Q v → AllByRecursion (EachInTypDesc Q) (typ_descs_in v)
  typ_descs_in_each (of_typ_descs ds) h = h
  typ_descs_in_each _ h = tt

  pub str_in_each : (v : Phrase) → EachInPhrase Q v → EachInStr Q (str_in v)
  str_in_each (of_str e) h = h
  str_in_each _ h = (origin, tt)

  pub str_dec_in_each : (v : Phrase) → EachInPhrase Q v → EachInStrDec Q (str_dec_in v)
  str_dec_in_each (of_str_dec d) h = h
  str_dec_in_each _ h = origin

  pub str_decs_in_each : (v : Phrase) → EachInPhrase Q v → EachInStrDecs Q (str_decs_in v)
  str_decs_in_each (of_str_decs ds) h = h
  str_decs_in_each _ h = tt

  pub top_in_each : (v : Phrase) → EachInPhrase Q v → EachInTop Q (top_in v)
  top_in_each (of_top d) h = h
  top_in_each _ h = origin

  -- the place of a token that is neither an identifier nor a constant
  pub place_in_each : (v : Phrase) → EachInPhrase Q v → Q (place_in v)
  place_in_each (of_word p) h = h
  place_in_each _ h = origin

  -- what is there or not
  pub ty_if_any_each : (v : Phrase) → EachInPhrase Q v → EachInTyIfAny Q (ty_if_any v)
  ty_if_any_each (of_ty t) h = h
  ty_if_any_each _ h = tt

  pub pat_if_any_each : (v : Phrase) → EachInPhrase Q v → EachInPatIfAny Q (pat_if_any v)
  pat_if_any_each (of_pat q) h = h
  pat_if_any_each _ h = tt

  pub exp_if_any_each : (v : Phrase) → EachInPhrase Q v → EachInExpIfAny Q (exp_if_any v)
  exp_if_any_each (of_exp e) h = h
  exp_if_any_each _ h = tt

  pub rules_if_any_each : (v : Phrase) → EachInPhrase Q v → EachInRulesIfAny Q (rules_if_any v)
  rules_if_any_each (of_rules rs) h = h
  rules_if_any_each _ h = tt

  -- parts of bindings and descriptions
  pub con_bind_in_each : (v : Phrase) → EachInPhrase Q v → EachInConBind Q (con_bind_in v)
  con_bind_in_each (of_con_bind x t) h = h
  con_bind_in_each _ h = (origin, tt)

  pub val_desc_in_each : (v : Phrase) → EachInPhrase Q v → EachInValDesc Q (val_desc_in v)
  val_desc_in_each (of_val_desc x t) h = h
  val_desc_in_each _ h = (origin, (origin, tt))

  pub dat_binds_in_each : (v : Phrase) → EachInPhrase Q v → AllByRecursion (EachInDatBind Q) (dat_binds_in v)
  dat_binds_in_each (of_datatypes ds ts) h = h.0
  dat_binds_in_each _ h = tt

  pub where_in_each : (v : Phrase) → EachInPhrase Q v → EachInWhere Q (where_in v)
  where_in_each (of_where xs c t) h = h
  where_in_each _ h = (tt, origin, (origin, tt))

  -- what belongs to the signature expression before it, and what stands after that
  pub sig_wheres_in_each : (v : Phrase) → EachInPhrase Q v → AllByRecursion (EachInWhere Q) (sig_wheres_in v)
  sig_wheres_in_each (of_sig_binds ws bs) h = h.0
  sig_wheres_in_each _ h = tt

  pub sig_binds_in_each : (v : Phrase) → EachInPhrase Q v → AllByRecursion (EachInSigBind Q) (sig_binds_in v)
  sig_binds_in_each (of_sig_binds ws bs) h = h.1
  sig_binds_in_each _ h = tt

  pub desc_wheres_in_each : (v : Phrase) → EachInPhrase Q v → AllByRecursion (EachInWhere Q) (desc_wheres_in v)
  desc_wheres_in_each (of_str_descs ws ds) h = h.0
  desc_wheres_in_each _ h = tt

  pub str_descs_in_each : (v : Phrase) → EachInPhrase Q v → EachInStrDescs Q (str_descs_in v)
  str_descs_in_each (of_str_descs ws ds) h = h.1
  str_descs_in_each _ h = tt

  pub constraint_wheres_in_each : (v : Phrase) → EachInPhrase Q v → AllByRecursion (EachInWhere Q) (constraint_wheres_in v)
  constraint_wheres_in_each (of_constraints ws cs) h = h.0
  constraint_wheres_in_each _ h = tt

  pub constraints_in_each : (v : Phrase) → EachInPhrase Q v → AllByRecursion (EachInConstraint Q) (constraints_in v)
  constraints_in_each (of_constraints ws cs) h = h.1
  constraints_in_each _ h = tt

  pub str_wheres_in_each : (v : Phrase) → EachInPhrase Q v → AllByRecursion (EachInWhere Q) (str_wheres_in v)
  str_wheres_in_each (of_str_binds ws cs bs) h = h.0
  str_wheres_in_each _ h = tt

  pub str_constraints_in_each : (v : Phrase) → EachInPhrase Q v → AllByRecursion (EachInConstraint Q) (str_constraints_in v)
  str_constraints_in_each (of_str_binds ws cs bs) h = h.1
  str_constraints_in_each _ h = tt

  pub str_binds_in_each : (v : Phrase) → EachInPhrase Q v → EachInStrBinds Q (str_binds_in v)
  str_binds_in_each (of_str_binds ws cs bs) h = h.2
  str_binds_in_each _ h = tt

  pub fun_wheres_in_each : (v : Phrase) → EachInPhrase Q v → AllByRecursion (EachInWhere Q) (fun_wheres_in v)
  fun_wheres_in_each (of_fun_binds ws cs bs) h = h.0
  fun_wheres_in_each _ h = tt

  pub fun_constraints_in_each : (v : Phrase) → EachInPhrase Q v → AllByRecursion (EachInConstraint Q) (fun_constraints_in v)
  fun_constraints_in_each (of_fun_binds ws cs bs) h = h.1
  fun_constraints_in_each _ h = tt

  pub fun_binds_in_each : (v : Phrase) → EachInPhrase Q v → AllByRecursion (EachInFunBind Q) (fun_binds_in v)
  fun_binds_in_each (of_fun_binds ws cs bs) h = h.2
  fun_binds_in_each _ h = tt
