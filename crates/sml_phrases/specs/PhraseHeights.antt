-- Whether a phrase is within the limit of heights: no tree that it makes is higher than 4,000.
use Rattle.std.specs.Prelude.{ℕ, List, Bool, true, ◌&&◌, nat_le}
use Rattle.sml_lex.specs.declared.fault.Place.{Place}
use Rattle.sml_tree.specs.Heights.{highest, height_if_any, ty_height, tys_height, ty_fields_height, pat_height, pats_height, pat_fields_height, typ_bind_height, con_bind_height, dat_bind_height, exn_bind_height, exp_height, exps_height, fields_height, rules_height, dec_height, decs_height, bind_height, binds_height, val_desc_height, sig_height, specs_height, str_descs_height, str_height, str_dec_height, str_decs_height, str_binds_height, sig_bind_height, fun_bind_height, top_height}
use Rattle.sml_tree.specs.Signatures.{WhereType}
use Rattle.sml_tree.specs.Clauses.{Clause, Constraint, clause_rules}
use Rattle.sml_phrases.specs.Phrases.{Phrase, nothing, of_word, of_name, of_long, of_constant, of_names, of_longs, of_ty, of_tys, of_ty_fields, of_arguments, of_pat, of_pats, of_pat_fields, of_atoms, of_layer, of_op_atoms, of_op_layer, of_exp, of_exps, of_series, of_fields, of_rules, of_rest, of_dec, of_decs, of_bind, of_binds, of_values, of_round_values, of_functions, of_right_side, of_clauses, of_round_functions, of_typ_bind, of_typ_binds, of_con_bind, of_con_binds, of_datatypes, of_constructors, of_copy, of_exn_binds, of_sig, of_where, of_wheres, of_begun_sig_bind, of_sig_binds, of_specs, of_val_desc, of_val_descs, of_typ_descs, of_type_rest, of_begun_str_desc, of_str_descs, of_shared_types, of_str, of_str_dec, of_str_decs, of_constraints, of_str_binds, of_begun_str_bind, of_functor_argument, of_fun_binds, of_begun_fun_bind, of_begun_functor, of_top}

-- the height of what stands after `where type`, of clauses, and of a constraint
abbrev pub where_height : WhereType Place → ℕ
where_height w = ty_height w.ty

abbrev pub clauses_height : List (Clause Place) → ℕ
clauses_height cs = rules_height (clause_rules cs)

abbrev pub constraint_height : Constraint Place → ℕ
constraint_height c = sig_height c.signature

abbrev pub low : ℕ → Bool
low height = nat_le height 4000

abbrev pub is_low : Phrase → Bool
is_low nothing = true
is_low (of_word p) = true
is_low (of_name x) = true
is_low (of_long c) = true
is_low (of_constant c) = true
is_low (of_names xs) = true
is_low (of_longs cs) = true
is_low (of_ty t) = low (ty_height t)
is_low (of_tys ts) = low (tys_height ts)
is_low (of_ty_fields fs) = low (ty_fields_height fs)
is_low (of_arguments ts c) = low (tys_height ts)
is_low (of_pat q) = low (pat_height q)
is_low (of_pats qs) = low (pats_height qs)
is_low (of_pat_fields fs flexible) = low (pat_fields_height fs)
is_low (of_atoms qs ts) = low (pats_height qs) && low (tys_height ts)
is_low (of_layer t q) = low (height_if_any ty_height t) && low (height_if_any pat_height q)
is_low (of_op_atoms c qs ts) = low (pats_height qs) && low (tys_height ts)
is_low (of_op_layer x t q) = low (height_if_any ty_height t) && low (height_if_any pat_height q)
is_low (of_exp e) = low (exp_height e)
is_low (of_exps es) = low (exps_height es)
is_low (of_series es) = low (exps_height es)
is_low (of_fields fs) = low (fields_height fs)
is_low (of_rules rs) = low (rules_height rs)
is_low (of_rest es ts a o rs) = low (exps_height es) && low (tys_height ts) && low (height_if_any exp_height a) && low (height_if_any exp_height o) && low (height_if_any rules_height rs)
is_low (of_dec d) = low (dec_height d)
is_low (of_decs ds) = low (decs_height ds)
is_low (of_bind b) = low (bind_height b)
is_low (of_binds bs) = low (binds_height bs)
is_low (of_values xs bs recs) = low (binds_height bs) && low (binds_height recs)
is_low (of_round_values qs rs ts e bs recs) = low (pats_height qs) && low (pats_height rs) && low (tys_height ts) && low (exp_height e) && low (binds_height bs) && low (binds_height recs)
is_low (of_functions xs bs) = low (binds_height bs)
is_low (of_right_side qs t e) = low (pats_height qs) && low (height_if_any ty_height t) && low (exp_height e)
is_low (of_clauses cs) = low (clauses_height cs)
is_low (of_round_functions qs rs t e cs bs) = low (pats_height qs) && low (pats_height rs) && low (height_if_any ty_height t) && low (exp_height e) && low (clauses_height cs) && low (binds_height bs)
is_low (of_typ_bind xs x t) = low (ty_height t)
is_low (of_typ_binds ts) = low (highest typ_bind_height ts)
is_low (of_con_bind x t) = low (height_if_any ty_height t)
is_low (of_con_binds cs) = low (highest con_bind_height cs)
is_low (of_datatypes ds ts) = low (highest dat_bind_height ds) && low (highest typ_bind_height ts)
is_low (of_constructors cs ds ts) = low (highest con_bind_height cs) && low (highest dat_bind_height ds) && low (highest typ_bind_height ts)
is_low (of_copy x c) = true
is_low (of_exn_binds es) = low (highest exn_bind_height es)
is_low (of_sig s) = low (sig_height s)
is_low (of_where xs c t) = low (ty_height t)
is_low (of_wheres ws) = low (highest where_height ws)
is_low (of_begun_sig_bind x s) = low (sig_height s)
is_low (of_sig_binds ws bs) = low (highest where_height ws) && low (highest sig_bind_height bs)
is_low (of_specs ss) = low (specs_height ss)
is_low (of_val_desc x t) = low (ty_height t)
is_low (of_val_descs ds) = low (highest val_desc_height ds)
is_low (of_typ_descs ds) = true
is_low (of_type_rest t ts) = low (ty_height t) && low (highest typ_bind_height ts)
is_low (of_begun_str_desc x s) = low (sig_height s)
is_low (of_str_descs ws ds) = low (highest where_height ws) && low (str_descs_height ds)
is_low (of_shared_types cs) = true
is_low (of_str e) = low (str_height e)
is_low (of_str_dec d) = low (str_dec_height d)
is_low (of_str_decs ds) = low (str_decs_height ds)
is_low (of_constraints ws cs) = low (highest where_height ws) && low (highest constraint_height cs)
is_low (of_str_binds ws cs bs) = low (highest where_height ws) && low (highest constraint_height cs) && low (str_binds_height bs)
is_low (of_begun_str_bind x cs e) = low (highest constraint_height cs) && low (str_height e)
is_low (of_functor_argument x s) = low (sig_height s)
is_low (of_fun_binds ws cs bs) = low (highest where_height ws) && low (highest constraint_height cs) && low (highest fun_bind_height bs)
is_low (of_begun_fun_bind x y s cs e) = low (sig_height s) && low (highest constraint_height cs) && low (str_height e)
is_low (of_begun_functor x ss cs e) = low (specs_height ss) && low (highest constraint_height cs) && low (str_height e)
is_low (of_top d) = low (top_height d)
