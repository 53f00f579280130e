-- What stands after `rec` in the value declarations of a phrase.
use Rattle.std.specs.Prelude.{◌≡◌, List, [], ◌∷◌, Option, Some, None, true}
use Rattle.std.proofs.lemmas.Bool.{false≢true}
use Rattle.sml_lex.specs.declared.fault.Place.{Place}
use Rattle.sml_tree.specs.Expressions.{Exp, Rules, ValBind, ValBinds, bind}
use Rattle.sml_tree.specs.Clauses.{Clause}
use Rattle.sml_phrases.specs.Phrases.{Phrase, of_exp, of_exps, of_series, of_fields, of_rules, of_rest, of_dec, of_decs, of_bind, of_binds, of_values, of_round_values, of_functions, of_right_side, of_clauses, of_round_functions, of_str, of_str_dec, of_str_decs, of_str_binds, of_begun_str_bind, of_fun_binds, of_begun_fun_bind, of_begun_functor, of_top, exp_in, exps_in, exp_if_any, fields_in, rules_in, rules_if_any, dec_in, decs_in, bind_in, binds_in, clauses_in, str_in, str_dec_in, str_decs_in, str_binds_in, fun_binds_in, top_in}
use Rattle.sml_tree_laws.specs.Recursive.{RecBind, RecBinds, ExpRec, ExpsRec, FieldsRec, RulesRec, DecRec, DecsRec, BindsRec, StrRec, StrDecRec, StrDecsRec, StrBindsRec, FunBindsRec, TopRec}
use Rattle.sml_tree_laws.proofs.NoExpressions.{is_free}

abbrev pub ExpRecIfAny : Option (Exp Place) → Type 0
ExpRecIfAny None = Unit {0}
ExpRecIfAny (Some e) = ExpRec e

abbrev pub RulesRecIfAny : Option (Rules Place) → Type 0
RulesRecIfAny None = Unit {0}
RulesRecIfAny (Some rs) = RulesRec rs

-- a binding of `fun`
abbrev pub FunctionRec : ValBind Place → Type 0
FunctionRec (bind q e) = RecBind (bind q e) × ExpRec e

abbrev pub FunctionsRec : ValBinds Place → Type 0
FunctionsRec bs = RecBinds bs × BindsRec bs

abbrev pub ClausesRec : List (Clause Place) → Type 0
ClausesRec [] = Unit {0}
ClausesRec (c ∷ cs) = ExpRec c.body × ClausesRec cs

abbrev pub PhraseRec : Phrase → Type 0
PhraseRec (of_exp e) = ExpRec e
PhraseRec (of_exps es) = ExpsRec es
PhraseRec (of_series es) = ExpsRec es
PhraseRec (of_fields fs) = FieldsRec fs
PhraseRec (of_rules rs) = RulesRec rs
PhraseRec (of_rest es ts a o rs) = ExpsRec es × ExpRecIfAny a × ExpRecIfAny o × RulesRecIfAny rs
PhraseRec (of_dec d) = DecRec d
PhraseRec (of_decs ds) = DecsRec ds
PhraseRec (of_bind b) = FunctionRec b
PhraseRec (of_binds bs) = FunctionsRec bs
PhraseRec (of_values xs bs rs) = RecBinds rs × BindsRec bs × BindsRec rs
PhraseRec (of_round_values ps qs ts e bs rs) = RecBinds rs × ExpRec e × BindsRec bs × BindsRec rs
PhraseRec (of_functions xs bs) = FunctionsRec bs
PhraseRec (of_right_side qs t e) = ExpRec e
PhraseRec (of_clauses cs) = ClausesRec cs
PhraseRec (of_round_functions ps qs t e cs bs) = ExpRec e × ClausesRec cs × FunctionsRec bs
PhraseRec (of_str e) = StrRec e
PhraseRec (of_str_dec d) = StrDecRec d
PhraseRec (of_str_decs ds) = StrDecsRec ds
PhraseRec (of_str_binds ws cs bs) = StrBindsRec bs
PhraseRec (of_begun_str_bind x cs e) = StrRec e
PhraseRec (of_fun_binds ws cs bs) = FunBindsRec bs
PhraseRec (of_begun_fun_bind f x s cs e) = StrRec e
PhraseRec (of_begun_functor f ss cs e) = StrRec e
PhraseRec (of_top d) = TopRec d
PhraseRec _ = Unit {0}

-- where no expression stands in a phrase
pub free_rec : (v : Phrase) → is_free v ≡ true → PhraseRec v
free_rec (of_exp e) h = absurd (false≢true h)
free_rec (of_exps es) h = absurd (false≢true h)
free_rec (of_series es) h = absurd (false≢true h)
free_rec (of_fields fs) h = absurd (false≢true h)
free_rec (of_rules rs) h = absurd (false≢true h)
free_rec (of_rest es ts a o rs) h = absurd (false≢true h)
free_rec (of_dec d) h = absurd (false≢true h)
free_rec (of_decs ds) h = absurd (false≢true h)
free_rec (of_bind b) h = absurd (false≢true h)
free_rec (of_binds bs) h = absurd (false≢true h)
free_rec (of_values xs bs rs) h = absurd (false≢true h)
free_rec (of_round_values ps qs ts e bs rs) h = absurd (false≢true h)
free_rec (of_functions xs bs) h = absurd (false≢true h)
free_rec (of_right_side qs t e) h = absurd (false≢true h)
free_rec (of_clauses cs) h = absurd (false≢true h)
free_rec (of_round_functions ps qs t e cs bs) h = absurd (false≢true h)
free_rec (of_str e) h = absurd (false≢true h)
free_rec (of_str_dec d) h = absurd (false≢true h)
free_rec (of_str_decs ds) h = absurd (false≢true h)
free_rec (of_str_binds ws cs bs) h = absurd (false≢true h)
free_rec (of_begun_str_bind x cs e) h = absurd (false≢true h)
free_rec (of_fun_binds ws cs bs) h = absurd (false≢true h)
free_rec (of_begun_fun_bind f x s cs e) h = absurd (false≢true h)
free_rec (of_begun_functor f ss cs e) h = absurd (false≢true h)
free_rec (of_top d) h = absurd (false≢true h)
free_rec _ h = tt

-- what is taken out of a phrase

pub exp_rec : (v : Phrase) → PhraseRec v → ExpRec (exp_in v)
exp_rec (of_exp e) h = h
exp_rec _ h = tt

pub exps_rec : (v : Phrase) → PhraseRec v → ExpsRec (exps_in v)
exps_rec (of_exps es) h = h
exps_rec _ h = tt

pub exp_rec_if_any : (v : Phrase) → PhraseRec v → ExpRecIfAny (exp_if_any v)
exp_rec_if_any (of_exp e) h = h
exp_rec_if_any _ h = tt

pub fields_rec : (v : Phrase) → PhraseRec v → FieldsRec (fields_in v)
fields_rec (of_fields fs) h = h
fields_rec _ h = tt

pub rules_rec : (v : Phrase) → PhraseRec v → RulesRec (rules_in v)
rules_rec (of_rules rs) h = h
rules_rec _ h = tt

pub rules_rec_if_any : (v : Phrase) → PhraseRec v → RulesRecIfAny (rules_if_any v)
rules_rec_if_any (of_rules rs) h = h
rules_rec_if_any _ h = tt

pub dec_rec : (v : Phrase) → PhraseRec v → DecRec (dec_in v)
dec_rec (of_dec d) h = h
dec_rec _ h = tt

pub decs_rec : (v : Phrase) → PhraseRec v → DecsRec (decs_in v)
decs_rec (of_decs ds) h = h
decs_rec _ h = tt

pub bind_rec : (v : Phrase) → PhraseRec v → FunctionRec (bind_in v)
bind_rec (of_bind b) h = h
bind_rec _ h = (tt, tt)

pub binds_rec : (v : Phrase) → PhraseRec v → FunctionsRec (binds_in v)
binds_rec (of_binds bs) h = h
binds_rec _ h = (tt, tt)

pub clauses_rec : (v : Phrase) → PhraseRec v → ClausesRec (clauses_in v)
clauses_rec (of_clauses cs) h = h
clauses_rec _ h = tt

pub str_rec : (v : Phrase) → PhraseRec v → StrRec (str_in v)
str_rec (of_str e) h = h
str_rec _ h = tt

pub str_dec_rec : (v : Phrase) → PhraseRec v → StrDecRec (str_dec_in v)
str_dec_rec (of_str_dec d) h = h
str_dec_rec _ h = tt

pub str_decs_rec : (v : Phrase) → PhraseRec v → StrDecsRec (str_decs_in v)
str_decs_rec (of_str_decs ds) h = h
str_decs_rec _ h = tt

pub str_binds_rec : (v : Phrase) → PhraseRec v → StrBindsRec (str_binds_in v)
str_binds_rec (of_str_binds ws cs bs) h = h
str_binds_rec _ h = tt

pub fun_binds_rec : (v : Phrase) → PhraseRec v → FunBindsRec (fun_binds_in v)
fun_binds_rec (of_fun_binds ws cs bs) h = h
fun_binds_rec _ h = tt

pub top_rec : (v : Phrase) → PhraseRec v → TopRec (top_in v)
top_rec (of_top d) h = h
top_rec _ h = tt
