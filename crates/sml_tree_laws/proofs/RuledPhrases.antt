-- The matches in a phrase: each has a rule.
use Rattle.std.specs.Prelude.{◌≡◌, List, [], ◌∷◌, IfSome, true}
use Rattle.std.proofs.lemmas.Bool.{false≢true}
use Rattle.sml_lex.specs.declared.fault.Place.{Place}
use Rattle.sml_tree.specs.Expressions.{Rules, ValBind, bind}
use Rattle.sml_tree.specs.Clauses.{Clause}
use Rattle.sml_phrases.specs.Phrases.{Phrase, of_exp, of_exps, of_series, of_fields, of_rules, of_rest, of_dec, of_decs, of_bind, of_binds, of_values, of_round_values, of_functions, of_right_side, of_clauses, of_round_functions, of_str, of_str_dec, of_str_decs, of_str_binds, of_begun_str_bind, of_fun_binds, of_begun_fun_bind, of_begun_functor, of_top, exp_in, exps_in, exp_if_any, fields_in, rules_in, rules_if_any, dec_in, decs_in, bind_in, binds_in, clauses_in, str_in, str_dec_in, str_decs_in, str_binds_in, fun_binds_in, top_in}
use Rattle.sml_tree_laws.specs.Matches.{HasRule, ExpRuled, ExpsRuled, FieldsRuled, RulesRuled, DecRuled, DecsRuled, BindsRuled, StrRuled, StrDecRuled, StrDecsRuled, StrBindsRuled, FunBindsRuled, TopRuled}
use Rattle.sml_tree_laws.proofs.NoExpressions.{is_free}

-- a match: it has a rule itself
abbrev pub MatchRuled : Rules Place → Type 0
MatchRuled m = HasRule m × RulesRuled m

abbrev pub BindRuled : ValBind Place → Type 0
BindRuled (bind q e) = ExpRuled e

abbrev pub ClausesRuled : List (Clause Place) → Type 0
ClausesRuled [] = Unit {0}
ClausesRuled (c ∷ cs) = ExpRuled c.body × ClausesRuled cs

-- Rules may be those after the first one of a match, and then there may be none.
abbrev pub PhraseRuled : Phrase → Type 0
PhraseRuled (of_exp e) = ExpRuled e
PhraseRuled (of_exps es) = ExpsRuled es
PhraseRuled (of_series es) = ExpsRuled es
PhraseRuled (of_fields fs) = FieldsRuled fs
PhraseRuled (of_rules rs) = RulesRuled rs
PhraseRuled (of_rest es ts a o rs) = ExpsRuled es × IfSome a ExpRuled × IfSome o ExpRuled × IfSome rs MatchRuled
PhraseRuled (of_dec d) = DecRuled d
PhraseRuled (of_decs ds) = DecsRuled ds
PhraseRuled (of_bind b) = BindRuled b
PhraseRuled (of_binds bs) = BindsRuled bs
PhraseRuled (of_values xs bs rs) = BindsRuled bs × BindsRuled rs
PhraseRuled (of_round_values ps qs ts e bs rs) = ExpRuled e × BindsRuled bs × BindsRuled rs
PhraseRuled (of_functions xs bs) = BindsRuled bs
PhraseRuled (of_right_side qs t e) = ExpRuled e
PhraseRuled (of_clauses cs) = ClausesRuled cs
PhraseRuled (of_round_functions ps qs t e cs bs) = ExpRuled e × ClausesRuled cs × BindsRuled bs
PhraseRuled (of_str e) = StrRuled e
PhraseRuled (of_str_dec d) = StrDecRuled d
PhraseRuled (of_str_decs ds) = StrDecsRuled ds
PhraseRuled (of_str_binds ws cs bs) = StrBindsRuled bs
PhraseRuled (of_begun_str_bind x cs e) = StrRuled e
PhraseRuled (of_fun_binds ws cs bs) = FunBindsRuled bs
PhraseRuled (of_begun_fun_bind f x s cs e) = StrRuled e
PhraseRuled (of_begun_functor f ss cs e) = StrRuled e
PhraseRuled (of_top d) = TopRuled d
PhraseRuled _ = Unit {0}

-- where no expression stands in a phrase
pub free_ruled : (v : Phrase) → is_free v ≡ true → PhraseRuled v
free_ruled (of_exp e) h = absurd (false≢true h)
free_ruled (of_exps es) h = absurd (false≢true h)
free_ruled (of_series es) h = absurd (false≢true h)
free_ruled (of_fields fs) h = absurd (false≢true h)
free_ruled (of_rules rs) h = absurd (false≢true h)
free_ruled (of_rest es ts a o rs) h = absurd (false≢true h)
free_ruled (of_dec d) h = absurd (false≢true h)
free_ruled (of_decs ds) h = absurd (false≢true h)
free_ruled (of_bind b) h = absurd (false≢true h)
free_ruled (of_binds bs) h = absurd (false≢true h)
free_ruled (of_values xs bs rs) h = absurd (false≢true h)
free_ruled (of_round_values ps qs ts e bs rs) h = absurd (false≢true h)
free_ruled (of_functions xs bs) h = absurd (false≢true h)
free_ruled (of_right_side qs t e) h = absurd (false≢true h)
free_ruled (of_clauses cs) h = absurd (false≢true h)
free_ruled (of_round_functions ps qs t e cs bs) h = absurd (false≢true h)
free_ruled (of_str e) h = absurd (false≢true h)
free_ruled (of_str_dec d) h = absurd (false≢true h)
free_ruled (of_str_decs ds) h = absurd (false≢true h)
free_ruled (of_str_binds ws cs bs) h = absurd (false≢true h)
free_ruled (of_begun_str_bind x cs e) h = absurd (false≢true h)
free_ruled (of_fun_binds ws cs bs) h = absurd (false≢true h)
free_ruled (of_begun_fun_bind f x s cs e) h = absurd (false≢true h)
free_ruled (of_begun_functor f ss cs e) h = absurd (false≢true h)
free_ruled (of_top d) h = absurd (false≢true h)
free_ruled _ h = tt

-- what is taken out of a phrase

pub exp_ruled : (v : Phrase) → PhraseRuled v → ExpRuled (exp_in v)
exp_ruled (of_exp e) h = h
exp_ruled _ h = tt

pub exps_ruled : (v : Phrase) → PhraseRuled v → ExpsRuled (exps_in v)
exps_ruled (of_exps es) h = h
exps_ruled _ h = tt

pub exp_ruled_if_any : (v : Phrase) → PhraseRuled v → IfSome (exp_if_any v) ExpRuled
exp_ruled_if_any (of_exp e) h = h
exp_ruled_if_any _ h = tt

pub fields_ruled : (v : Phrase) → PhraseRuled v → FieldsRuled (fields_in v)
fields_ruled (of_fields fs) h = h
fields_ruled _ h = tt

pub rules_ruled : (v : Phrase) → PhraseRuled v → RulesRuled (rules_in v)
rules_ruled (of_rules rs) h = h
rules_ruled _ h = tt

-- a match that may be there
pub match_if_any : (v : Phrase) → PhraseRuled v → IfSome (rules_if_any v) HasRule → IfSome (rules_if_any v) MatchRuled
match_if_any (of_rules rs) h k = (k, h)
match_if_any _ h k = tt

pub dec_ruled : (v : Phrase) → PhraseRuled v → DecRuled (dec_in v)
dec_ruled (of_dec d) h = h
dec_ruled _ h = tt

pub decs_ruled : (v : Phrase) → PhraseRuled v → DecsRuled (decs_in v)
decs_ruled (of_decs ds) h = h
decs_ruled _ h = tt

pub bind_ruled : (v : Phrase) → PhraseRuled v → BindRuled (bind_in v)
bind_ruled (of_bind b) h = h
bind_ruled _ h = tt

pub binds_ruled : (v : Phrase) → PhraseRuled v → BindsRuled (binds_in v)
binds_ruled (of_binds bs) h = h
binds_ruled _ h = tt

pub clauses_ruled : (v : Phrase) → PhraseRuled v → ClausesRuled (clauses_in v)
clauses_ruled (of_clauses cs) h = h
clauses_ruled _ h = tt

pub str_ruled : (v : Phrase) → PhraseRuled v → StrRuled (str_in v)
str_ruled (of_str e) h = h
str_ruled _ h = tt

pub str_dec_ruled : (v : Phrase) → PhraseRuled v → StrDecRuled (str_dec_in v)
str_dec_ruled (of_str_dec d) h = h
str_dec_ruled _ h = tt

pub str_decs_ruled : (v : Phrase) → PhraseRuled v → StrDecsRuled (str_decs_in v)
str_decs_ruled (of_str_decs ds) h = h
str_decs_ruled _ h = tt

pub str_binds_ruled : (v : Phrase) → PhraseRuled v → StrBindsRuled (str_binds_in v)
str_binds_ruled (of_str_binds ws cs bs) h = h
str_binds_ruled _ h = tt

pub fun_binds_ruled : (v : Phrase) → PhraseRuled v → FunBindsRuled (fun_binds_in v)
fun_binds_ruled (of_fun_binds ws cs bs) h = h
fun_binds_ruled _ h = tt

pub top_ruled : (v : Phrase) → PhraseRuled v → TopRuled (top_in v)
top_ruled (of_top d) h = h
top_ruled _ h = tt
