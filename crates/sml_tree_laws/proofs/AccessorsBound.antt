-- What is taken out of a phrase.
use Rattle.std.specs.Prelude.{ℕ}
use Rattle.sml_tree.specs.Trees.{Id}
use Rattle.sml_phrases.specs.Phrases.{Phrase, of_bind, of_binds, of_rules, of_dec, of_decs, of_str_dec, of_top, of_names, of_ty, of_tys, of_ty_fields, of_pat, of_pats, of_exp, of_exps, of_fields, of_clauses, of_typ_binds, of_con_binds, of_datatypes, of_exn_binds, of_sig, of_where, of_wheres, of_sig_binds, of_specs, of_val_descs, of_typ_descs, of_str_descs, of_str, of_str_decs, of_constraints, of_str_binds, of_fun_binds, names_in, ty_in, tys_in, ty_fields_in, pat_in, pats_in, exp_in, exps_in, fields_in, rules_in, dec_in, decs_in, bind_in, binds_in, clauses_in, exn_binds_in, typ_binds_in, con_binds_in, val_descs_in, typ_descs_in, dat_binds_in, sig_in, specs_in, wheres_in, where_in, sig_wheres_in, sig_binds_in, desc_wheres_in, str_descs_in, constraint_wheres_in, constraints_in, str_wheres_in, str_constraints_in, str_binds_in, fun_wheres_in, fun_constraints_in, fun_binds_in, str_in, str_dec_in, str_decs_in, top_in, ty_if_any, pat_if_any, exp_if_any, rules_if_any}
use Rattle.sml_flaws.specs.declared.role.Space.{Space}
use Rattle.sml_flaws.specs.declared.role.Space.TheVariants as S
use Rattle.sml_tree_laws.specs.Scoped.{ids}
use Rattle.sml_tree_laws.specs.WellBound.{AreDistinct, ty_labels, TyBound, TysBound, TyFieldsBound, TyBoundIfAny, PatBound, PatsBound, type_names, TypBindsBound, con_names, ConBindsBound, datatype_names, all_con_names, DatBindsBound, exn_names, ExnBindsBound, labels, ExpBound, ExpsBound, FieldsBound, RulesBound, DecBound, DecsBound, BindsBound, value_names, ValDescsBound, described, TypDescsBound, WhereBound, str_desc_names, SigBound, SpecsBound, StrDescsBound, str_names, StrBound, StrDecBound, StrDecsBound, StrBindsBound, signature_names, SigBindsBound, functor_names, FunBindsBound, TopBound}
use Rattle.sml_tree_laws.proofs.Named.{Named}
use Rattle.sml_tree_laws.proofs.PhrasesBound.{Class, plain, variables, con_space, PatBoundIfAny, ExpBoundIfAny, RulesBoundIfAny, BindBound, ClausesBound, WheresBound, ConstraintsBound, PhraseBound}

module _ (B : Space → ℕ → ℕ → Id → Type 0) where
  pub ty_bound : (c : Class) (g lo hi : ℕ) (v : Phrase) → PhraseBound B c g lo hi v → TyBound (ty_in v)
  ty_bound c g lo hi (of_ty t) h = h
  ty_bound c g lo hi _ h = tt

  pub tys_bound : (c : Class) (g lo hi : ℕ) (v : Phrase) → PhraseBound B c g lo hi v → TysBound (tys_in v)
  tys_bound c g lo hi (of_tys ts) h = h
  tys_bound c g lo hi _ h = tt

  pub ty_bound_if_any : (c : Class) (g lo hi : ℕ) (v : Phrase) → PhraseBound B c g lo hi v → TyBoundIfAny (ty_if_any v)
  ty_bound_if_any c g lo hi (of_ty t) h = h
  ty_bound_if_any c g lo hi _ h = tt

  pub pats_bound : (c : Class) (g lo hi : ℕ) (v : Phrase) → PhraseBound B c g lo hi v → PatsBound (pats_in v)
  pats_bound c g lo hi (of_pats qs) h = h
  pats_bound c g lo hi _ h = tt

  pub pat_bound : (c : Class) (g lo hi : ℕ) (v : Phrase) → PhraseBound B c g lo hi v → PatBound (pat_in v)
  pat_bound c g lo hi (of_pat q) h = h
  pat_bound c g lo hi _ h = tt

  pub pat_bound_if_any : (c : Class) (g lo hi : ℕ) (v : Phrase) → PhraseBound B c g lo hi v → PatBoundIfAny (pat_if_any v)
  pat_bound_if_any c g lo hi (of_pat q) h = h
  pat_bound_if_any c g lo hi _ h = tt

  pub exp_bound : (c : Class) (g lo hi : ℕ) (v : Phrase) → PhraseBound B c g lo hi v → ExpBound (exp_in v)
  exp_bound c g lo hi (of_exp e) h = h
  exp_bound c g lo hi _ h = tt

  pub exps_bound : (c : Class) (g lo hi : ℕ) (v : Phrase) → PhraseBound B c g lo hi v → ExpsBound (exps_in v)
  exps_bound c g lo hi (of_exps es) h = h
  exps_bound c g lo hi _ h = tt

  pub exp_bound_if_any : (c : Class) (g lo hi : ℕ) (v : Phrase) → PhraseBound B c g lo hi v → ExpBoundIfAny (exp_if_any v)
  exp_bound_if_any c g lo hi (of_exp e) h = h
  exp_bound_if_any c g lo hi _ h = tt

  pub rules_bound : (c : Class) (g lo hi : ℕ) (v : Phrase) → PhraseBound B c g lo hi v → RulesBound (rules_in v)
  rules_bound c g lo hi (of_rules rs) h = h
  rules_bound c g lo hi _ h = tt

  pub rules_bound_if_any : (c : Class) (g lo hi : ℕ) (v : Phrase) → PhraseBound B c g lo hi v → RulesBoundIfAny (rules_if_any v)
  rules_bound_if_any c g lo hi (of_rules rs) h = h
  rules_bound_if_any c g lo hi _ h = tt

  pub dec_bound : (c : Class) (g lo hi : ℕ) (v : Phrase) → PhraseBound B c g lo hi v → DecBound (dec_in v)
  dec_bound c g lo hi (of_dec d) h = h
  dec_bound c g lo hi _ h = tt

  pub decs_bound : (c : Class) (g lo hi : ℕ) (v : Phrase) → PhraseBound B c g lo hi v → DecsBound (decs_in v)
  decs_bound c g lo hi (of_decs ds) h = h
  decs_bound c g lo hi _ h = tt

  pub binds_bound : (c : Class) (g lo hi : ℕ) (v : Phrase) → PhraseBound B c g lo hi v → BindsBound (binds_in v)
  binds_bound c g lo hi (of_binds bs) h = h
  binds_bound c g lo hi _ h = tt

  pub clauses_bound : (c : Class) (g lo hi : ℕ) (v : Phrase) → PhraseBound B c g lo hi v → ClausesBound (clauses_in v)
  clauses_bound c g lo hi (of_clauses cs) h = h
  clauses_bound c g lo hi _ h = tt

  pub str_bound : (c : Class) (g lo hi : ℕ) (v : Phrase) → PhraseBound B c g lo hi v → StrBound (str_in v)
  str_bound c g lo hi (of_str e) h = h
  str_bound c g lo hi _ h = tt

  pub str_dec_bound : (c : Class) (g lo hi : ℕ) (v : Phrase) → PhraseBound B c g lo hi v → StrDecBound (str_dec_in v)
  str_dec_bound c g lo hi (of_str_dec d) h = h
  str_dec_bound c g lo hi _ h = tt

  pub str_decs_bound : (c : Class) (g lo hi : ℕ) (v : Phrase) → PhraseBound B c g lo hi v → StrDecsBound (str_decs_in v)
  str_decs_bound c g lo hi (of_str_decs ds) h = h
  str_decs_bound c g lo hi _ h = tt

  pub sig_bound : (c : Class) (g lo hi : ℕ) (v : Phrase) → PhraseBound B c g lo hi v → SigBound (sig_in v)
  sig_bound c g lo hi (of_sig s) h = h
  sig_bound c g lo hi _ h = tt

  pub specs_bound : (c : Class) (g lo hi : ℕ) (v : Phrase) → PhraseBound B c g lo hi v → SpecsBound (specs_in v)
  specs_bound c g lo hi (of_specs ss) h = h
  specs_bound c g lo hi _ h = tt

  pub wheres_bound : (c : Class) (g lo hi : ℕ) (v : Phrase) → PhraseBound B c g lo hi v → WheresBound (wheres_in v)
  wheres_bound c g lo hi (of_wheres ws) h = h
  wheres_bound c g lo hi _ h = tt

  pub top_bound : (c : Class) (g lo hi : ℕ) (v : Phrase) → PhraseBound B c g lo hi v → TopBound (top_in v)
  top_bound c g lo hi (of_top d) h = h
  top_bound c g lo hi _ h = tt

  pub bind_bound : (c : Class) (g lo hi : ℕ) (v : Phrase) → PhraseBound B c g lo hi v → BindBound (bind_in v)
  bind_bound c g lo hi (of_bind b) h = h
  bind_bound c g lo hi _ h = (tt, tt)

  pub where_bound : (c : Class) (g lo hi : ℕ) (v : Phrase) → PhraseBound B c g lo hi v → WhereBound (where_in v)
  where_bound c g lo hi (of_where xs x t) h = h
  where_bound c g lo hi _ h = (tt, tt)

  pub fields_bound : (c : Class) (g lo hi : ℕ) (v : Phrase) → PhraseBound B c g lo hi v → Named B S.Labels g lo hi (labels (fields_in v)) × FieldsBound (fields_in v)
  fields_bound c g lo hi (of_fields fs) h = h
  fields_bound c g lo hi _ h = (tt, tt)

  pub ty_fields_bound : (c : Class) (g lo hi : ℕ) (v : Phrase) → PhraseBound B c g lo hi v → Named B S.Labels g lo hi (ty_labels (ty_fields_in v)) × TyFieldsBound (ty_fields_in v)
  ty_fields_bound c g lo hi (of_ty_fields fs) h = h
  ty_fields_bound c g lo hi _ h = (tt, tt)

  pub typ_binds_bound : (c : Class) (g lo hi : ℕ) (v : Phrase) → PhraseBound B c g lo hi v → Named B S.Types g lo hi (type_names (typ_binds_in v)) × TypBindsBound (typ_binds_in v)
  typ_binds_bound c g lo hi (of_typ_binds bs) h = h
  typ_binds_bound c g lo hi _ h = (tt, tt)

  pub exn_binds_bound : (c : Class) (g lo hi : ℕ) (v : Phrase) → PhraseBound B c g lo hi v → Named B S.Exceptions g lo hi (exn_names (exn_binds_in v)) × ExnBindsBound (exn_binds_in v)
  exn_binds_bound c g lo hi (of_exn_binds bs) h = h
  exn_binds_bound c g lo hi _ h = (tt, tt)

  pub con_binds_bound : (c : Class) (g lo hi : ℕ) (v : Phrase) → PhraseBound B c g lo hi v → Named B (con_space c) g lo hi (con_names (con_binds_in v)) × ConBindsBound (con_binds_in v)
  con_binds_bound c g lo hi (of_con_binds cs) h = h
  con_binds_bound c g lo hi _ h = (tt, tt)

  pub val_descs_bound : (c : Class) (g lo hi : ℕ) (v : Phrase) → PhraseBound B c g lo hi v → Named B S.Values g lo hi (value_names (val_descs_in v)) × ValDescsBound (val_descs_in v)
  val_descs_bound c g lo hi (of_val_descs ds) h = h
  val_descs_bound c g lo hi _ h = (tt, tt)

  pub typ_descs_bound : (c : Class) (g lo hi : ℕ) (v : Phrase) → PhraseBound B c g lo hi v → Named B S.Types g lo hi (described (typ_descs_in v)) × TypDescsBound (typ_descs_in v)
  typ_descs_bound c g lo hi (of_typ_descs ds) h = h
  typ_descs_bound c g lo hi _ h = (tt, tt)

  pub dat_binds_bound : (c : Class) (g lo hi : ℕ) (v : Phrase) → PhraseBound B c g lo hi v → Named B S.Types g lo hi (datatype_names (dat_binds_in v)) × Named B S.Constructors g lo hi (all_con_names (dat_binds_in v)) × DatBindsBound (dat_binds_in v)
  dat_binds_bound c g lo hi (of_datatypes ds ts) h = (h.0, h.1, h.2)
  dat_binds_bound c g lo hi _ h = (tt, tt, tt)

  pub sig_wheres_bound : (c : Class) (g lo hi : ℕ) (v : Phrase) → PhraseBound B c g lo hi v → WheresBound (sig_wheres_in v)
  sig_wheres_bound c g lo hi (of_sig_binds ws bs) h = h.0
  sig_wheres_bound c g lo hi _ h = tt

  pub sig_binds_bound : (c : Class) (g lo hi : ℕ) (v : Phrase) → PhraseBound B c g lo hi v → Named B S.Signatures g lo hi (signature_names (sig_binds_in v)) × SigBindsBound (sig_binds_in v)
  sig_binds_bound c g lo hi (of_sig_binds ws bs) h = (h.1, h.2)
  sig_binds_bound c g lo hi _ h = (tt, tt)

  pub desc_wheres_bound : (c : Class) (g lo hi : ℕ) (v : Phrase) → PhraseBound B c g lo hi v → WheresBound (desc_wheres_in v)
  desc_wheres_bound c g lo hi (of_str_descs ws ds) h = h.0
  desc_wheres_bound c g lo hi _ h = tt

  pub str_descs_bound : (c : Class) (g lo hi : ℕ) (v : Phrase) → PhraseBound B c g lo hi v → Named B S.Structures g lo hi (str_desc_names (str_descs_in v)) × StrDescsBound (str_descs_in v)
  str_descs_bound c g lo hi (of_str_descs ws ds) h = (h.1, h.2)
  str_descs_bound c g lo hi _ h = (tt, tt)

  pub constraint_wheres_bound : (c : Class) (g lo hi : ℕ) (v : Phrase) → PhraseBound B c g lo hi v → WheresBound (constraint_wheres_in v)
  constraint_wheres_bound c g lo hi (of_constraints ws cs) h = h.0
  constraint_wheres_bound c g lo hi _ h = tt

  pub constraints_bound : (c : Class) (g lo hi : ℕ) (v : Phrase) → PhraseBound B c g lo hi v → ConstraintsBound (constraints_in v)
  constraints_bound c g lo hi (of_constraints ws cs) h = h.1
  constraints_bound c g lo hi _ h = tt

  pub str_wheres_bound : (c : Class) (g lo hi : ℕ) (v : Phrase) → PhraseBound B c g lo hi v → WheresBound (str_wheres_in v)
  str_wheres_bound c g lo hi (of_str_binds ws cs bs) h = h.0
  str_wheres_bound c g lo hi _ h = tt

  pub str_constraints_bound : (c : Class) (g lo hi : ℕ) (v : Phrase) → PhraseBound B c g lo hi v → ConstraintsBound (str_constraints_in v)
  str_constraints_bound c g lo hi (of_str_binds ws cs bs) h = h.1
  str_constraints_bound c g lo hi _ h = tt

  pub str_binds_bound : (c : Class) (g lo hi : ℕ) (v : Phrase) → PhraseBound B c g lo hi v → Named B S.Structures g lo hi (str_names (str_binds_in v)) × StrBindsBound (str_binds_in v)
  str_binds_bound c g lo hi (of_str_binds ws cs bs) h = (h.2, h.3)
  str_binds_bound c g lo hi _ h = (tt, tt)

  pub fun_wheres_bound : (c : Class) (g lo hi : ℕ) (v : Phrase) → PhraseBound B c g lo hi v → WheresBound (fun_wheres_in v)
  fun_wheres_bound c g lo hi (of_fun_binds ws cs bs) h = h.0
  fun_wheres_bound c g lo hi _ h = tt

  pub fun_constraints_bound : (c : Class) (g lo hi : ℕ) (v : Phrase) → PhraseBound B c g lo hi v → ConstraintsBound (fun_constraints_in v)
  fun_constraints_bound c g lo hi (of_fun_binds ws cs bs) h = h.1
  fun_constraints_bound c g lo hi _ h = tt

  pub fun_binds_bound : (c : Class) (g lo hi : ℕ) (v : Phrase) → PhraseBound B c g lo hi v → Named B S.Functors g lo hi (functor_names (fun_binds_in v)) × FunBindsBound (fun_binds_in v)
  fun_binds_bound c g lo hi (of_fun_binds ws cs bs) h = (h.2, h.3)
  fun_binds_bound c g lo hi _ h = (tt, tt)

  pub names_bound : (g lo hi : ℕ) (v : Phrase) → PhraseBound B plain g lo hi v → AreDistinct (ids (names_in v))
  names_bound g lo hi (of_names xs) h = h
  names_bound g lo hi _ h = tt

  pub names_named : (g lo hi : ℕ) (v : Phrase) → PhraseBound B variables g lo hi v → Named B S.Variables g lo hi (ids (names_in v))
  names_named g lo hi (of_names xs) h = h
  names_named g lo hi _ h = tt
