-- What holds of the type variables of a phrase: L of those in a list that isn't part of a tree yet, V of those that occur
-- unguarded, and R of those that the value declarations in it list.
use Rattle.std.specs.Prelude.{ℕ, List, [], ◌∷◌, Option, Some, None, drop, get_or, set, zero, suc}
use Rattle.sml_lex.specs.declared.fault.Place.{Place}
use Rattle.sml_tree.specs.Trees.{Id}
use Rattle.sml_tree.specs.Patterns.{Pat}
use Rattle.sml_tree.specs.Expressions.{Exp, Rules, ValBind, bind}
use Rattle.sml_tree.specs.Clauses.{Clause}
use Rattle.sml_rules.specs.Every.{Every}
use Rattle.sml_phrases.specs.Phrases.{Phrase, of_names, of_ty, of_tys, of_ty_fields, of_arguments, of_pat, of_pats, of_pat_fields, of_atoms, of_layer, of_op_atoms, of_op_layer, of_exp, of_exps, of_series, of_fields, of_rules, of_rest, of_dec, of_decs, of_bind, of_binds, of_values, of_round_values, of_functions, of_right_side, of_clauses, of_round_functions, of_con_bind, of_exn_binds, of_str, of_str_dec, of_str_decs, of_str_binds, of_begun_str_bind, of_fun_binds, of_begun_fun_bind, of_begun_functor, of_top, names_in, ty_in, tys_in, ty_fields_in, pat_in, pats_in, exp_in, exps_in, fields_in, rules_in, dec_in, decs_in, bind_in, binds_in, clauses_in, exn_binds_in, str_in, str_dec_in, str_decs_in, top_in, ty_if_any, pat_if_any, exp_if_any, rules_if_any, str_binds_in, fun_binds_in}
use Rattle.sml_tree_laws.specs.Scoped.{ids, StrScoped, StrDecScoped, StrDecsScoped, StrBindsScoped, FunBindsScoped, TopScoped}
use Rattle.sml_tree_laws.proofs.Sits.{TySits, TysSit, TyFieldsSit, TySitsIfAny, PatSits, PatsSit, PatFieldsSit, ExnBindsSit, ExpSits, ExpsSit, FieldsSit, RulesSit, DecSits, DecsSit, BindsSit}

-- lists

module _ {A : Type 0} (Q : A → Type 0) where
  pub every_get_or : (xs : List A) (n : ℕ) (other : A) → Every Q xs → Q other → Q (get_or xs n other)
  every_get_or [] n other h k = k
  every_get_or (x ∷ xs) zero other h k = h.0
  every_get_or (x ∷ xs) (suc n) other h k = every_get_or xs n other h.1 k

  pub every_set : (xs : List A) (n : ℕ) (x : A) → Every Q xs → Q x → Every Q (set xs n x)
  every_set [] n x h k = tt
  every_set (y ∷ xs) zero x h k = (k, h.1)
  every_set (y ∷ xs) (suc n) x h k = (h.0, every_set xs n x h.1 k)

  pub every_drop : (n : ℕ) (xs : List A) → Every Q xs → Every Q (drop n xs)
  every_drop zero xs h = h
  every_drop (suc n) [] h = tt
  every_drop (suc n) (x ∷ xs) h = every_drop n xs h.1

module _ (L V R : Id → Type 0) where
  abbrev pub PatSitsIfAny : Option (Pat Place) → Type 0
  PatSitsIfAny None = Unit {0}
  PatSitsIfAny (Some q) = PatSits V q

  abbrev pub ExpSitsIfAny : Option (Exp Place) → Type 0
  ExpSitsIfAny None = Unit {0}
  ExpSitsIfAny (Some e) = ExpSits R V e

  abbrev pub RulesSitIfAny : Option (Rules Place) → Type 0
  RulesSitIfAny None = Unit {0}
  RulesSitIfAny (Some rs) = RulesSit R V rs

  abbrev pub BindSits : ValBind Place → Type 0
  BindSits (bind q e) = PatSits V q × ExpSits R V e

  abbrev pub ClauseSits : Clause Place → Type 0
  ClauseSits c = PatsSit V c.pats × TySitsIfAny V c.result × ExpSits R V c.body

  abbrev pub ClausesSit : List (Clause Place) → Type 0
  ClausesSit [] = Unit {0}
  ClausesSit (c ∷ cs) = ClauseSits c × ClausesSit cs

  abbrev pub PhraseSits : Phrase → Type 0
  PhraseSits (of_names xs) = Every L (ids xs)
  PhraseSits (of_ty t) = TySits V t
  PhraseSits (of_tys ts) = TysSit V ts
  PhraseSits (of_ty_fields fs) = TyFieldsSit V fs
  PhraseSits (of_arguments ts c) = TysSit V ts
  PhraseSits (of_pat q) = PatSits V q
  PhraseSits (of_pats qs) = PatsSit V qs
  PhraseSits (of_pat_fields fs b) = PatFieldsSit V fs
  PhraseSits (of_atoms qs ts) = PatsSit V qs × TysSit V ts
  PhraseSits (of_layer t q) = TySitsIfAny V t × PatSitsIfAny q
  PhraseSits (of_op_atoms c qs ts) = PatsSit V qs × TysSit V ts
  PhraseSits (of_op_layer x t q) = TySitsIfAny V t × PatSitsIfAny q
  PhraseSits (of_exp e) = ExpSits R V e
  PhraseSits (of_exps es) = ExpsSit R V es
  PhraseSits (of_series es) = ExpsSit R V es
  PhraseSits (of_fields fs) = FieldsSit R V fs
  PhraseSits (of_rules rs) = RulesSit R V rs
  PhraseSits (of_rest es ts a o rs) = ExpsSit R V es × TysSit V ts × ExpSitsIfAny a × ExpSitsIfAny o × RulesSitIfAny rs
  PhraseSits (of_dec d) = DecSits R V d
  PhraseSits (of_decs ds) = DecsSit R V ds
  PhraseSits (of_bind b) = BindSits b
  PhraseSits (of_binds bs) = BindsSit R V bs
  PhraseSits (of_values xs bs rs) = Every L (ids xs) × BindsSit R V bs × BindsSit R V rs
  PhraseSits (of_round_values ps qs ts e bs rs) = PatsSit V ps × PatsSit V qs × TysSit V ts × ExpSits R V e × BindsSit R V bs × BindsSit R V rs
  PhraseSits (of_functions xs bs) = Every L (ids xs) × BindsSit R V bs
  PhraseSits (of_right_side qs t e) = PatsSit V qs × TySitsIfAny V t × ExpSits R V e
  PhraseSits (of_clauses cs) = ClausesSit cs
  PhraseSits (of_round_functions ps qs t e cs bs) = PatsSit V ps × PatsSit V qs × TySitsIfAny V t × ExpSits R V e × ClausesSit cs × BindsSit R V bs
  PhraseSits (of_con_bind x t) = TySitsIfAny V t
  PhraseSits (of_exn_binds bs) = ExnBindsSit V bs
  PhraseSits (of_str e) = StrScoped e
  PhraseSits (of_str_dec d) = StrDecScoped d
  PhraseSits (of_str_decs ds) = StrDecsScoped ds
  PhraseSits (of_str_binds ws cs bs) = StrBindsScoped bs
  PhraseSits (of_begun_str_bind x cs e) = StrScoped e
  PhraseSits (of_fun_binds ws cs bs) = FunBindsScoped bs
  PhraseSits (of_begun_fun_bind f x s cs e) = StrScoped e
  PhraseSits (of_begun_functor f ss cs e) = StrScoped e
  PhraseSits (of_top d) = TopScoped d
  PhraseSits _ = Unit {0}

  -- what is taken out of a phrase

  pub names_sit : (v : Phrase) → PhraseSits v → Every L (ids (names_in v))
  names_sit (of_names xs) h = h
  names_sit _ h = tt

  pub ty_sits : (v : Phrase) → PhraseSits v → TySits V (ty_in v)
  ty_sits (of_ty t) h = h
  ty_sits _ h = tt

  pub tys_sit : (v : Phrase) → PhraseSits v → TysSit V (tys_in v)
  tys_sit (of_tys ts) h = h
  tys_sit _ h = tt

  pub ty_fields_sit : (v : Phrase) → PhraseSits v → TyFieldsSit V (ty_fields_in v)
  ty_fields_sit (of_ty_fields fs) h = h
  ty_fields_sit _ h = tt

  pub ty_sits_if_any : (v : Phrase) → PhraseSits v → TySitsIfAny V (ty_if_any v)
  ty_sits_if_any (of_ty t) h = h
  ty_sits_if_any _ h = tt

  pub pat_sits : (v : Phrase) → PhraseSits v → PatSits V (pat_in v)
  pat_sits (of_pat q) h = h
  pat_sits _ h = tt

  pub pats_sit : (v : Phrase) → PhraseSits v → PatsSit V (pats_in v)
  pats_sit (of_pats qs) h = h
  pats_sit _ h = tt

  pub pat_sits_if_any : (v : Phrase) → PhraseSits v → PatSitsIfAny (pat_if_any v)
  pat_sits_if_any (of_pat q) h = h
  pat_sits_if_any _ h = tt

  pub exp_sits : (v : Phrase) → PhraseSits v → ExpSits R V (exp_in v)
  exp_sits (of_exp e) h = h
  exp_sits _ h = tt

  pub exps_sit : (v : Phrase) → PhraseSits v → ExpsSit R V (exps_in v)
  exps_sit (of_exps es) h = h
  exps_sit _ h = tt

  pub exp_sits_if_any : (v : Phrase) → PhraseSits v → ExpSitsIfAny (exp_if_any v)
  exp_sits_if_any (of_exp e) h = h
  exp_sits_if_any _ h = tt

  pub fields_sit : (v : Phrase) → PhraseSits v → FieldsSit R V (fields_in v)
  fields_sit (of_fields fs) h = h
  fields_sit _ h = tt

  pub rules_sit : (v : Phrase) → PhraseSits v → RulesSit R V (rules_in v)
  rules_sit (of_rules rs) h = h
  rules_sit _ h = tt

  pub rules_sit_if_any : (v : Phrase) → PhraseSits v → RulesSitIfAny (rules_if_any v)
  rules_sit_if_any (of_rules rs) h = h
  rules_sit_if_any _ h = tt

  pub dec_sits : (v : Phrase) → PhraseSits v → DecSits R V (dec_in v)
  dec_sits (of_dec d) h = h
  dec_sits _ h = tt

  pub decs_sit : (v : Phrase) → PhraseSits v → DecsSit R V (decs_in v)
  decs_sit (of_decs ds) h = h
  decs_sit _ h = tt

  pub bind_sits : (v : Phrase) → PhraseSits v → BindSits (bind_in v)
  bind_sits (of_bind b) h = h
  bind_sits _ h = (tt, tt)

  pub binds_sit : (v : Phrase) → PhraseSits v → BindsSit R V (binds_in v)
  binds_sit (of_binds bs) h = h
  binds_sit _ h = tt

  pub clauses_sit : (v : Phrase) → PhraseSits v → ClausesSit (clauses_in v)
  clauses_sit (of_clauses cs) h = h
  clauses_sit _ h = tt

  pub exn_binds_sit : (v : Phrase) → PhraseSits v → ExnBindsSit V (exn_binds_in v)
  exn_binds_sit (of_exn_binds bs) h = h
  exn_binds_sit _ h = tt

  pub str_sits : (v : Phrase) → PhraseSits v → StrScoped (str_in v)
  str_sits (of_str e) h = h
  str_sits _ h = tt

  pub str_dec_sits : (v : Phrase) → PhraseSits v → StrDecScoped (str_dec_in v)
  str_dec_sits (of_str_dec d) h = h
  str_dec_sits _ h = tt

  pub str_decs_sit : (v : Phrase) → PhraseSits v → StrDecsScoped (str_decs_in v)
  str_decs_sit (of_str_decs ds) h = h
  str_decs_sit _ h = tt

  pub str_binds_sit : (v : Phrase) → PhraseSits v → StrBindsScoped (str_binds_in v)
  str_binds_sit (of_str_binds ws cs bs) h = h
  str_binds_sit _ h = tt

  pub fun_binds_sit : (v : Phrase) → PhraseSits v → FunBindsScoped (fun_binds_in v)
  fun_binds_sit (of_fun_binds ws cs bs) h = h
  fun_binds_sit _ h = tt

  pub top_sits : (v : Phrase) → PhraseSits v → TopScoped (top_in v)
  top_sits (of_top d) h = h
  top_sits _ h = tt
