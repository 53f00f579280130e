-- The matches in declarations of the core.
use Rattle.std.specs.Prelude.{ℕ, zero, suc, List, [], ◌∷◌, Option, Some, None}
use Rattle.std.proofs.Common.{refl}
use Rattle.sml_lex.specs.declared.fault.Place.{Place}
use Rattle.sml_tree.specs.Trees.{Id}
use Rattle.sml_tree.specs.Names.{Name, LongName}
use Rattle.sml_tree.specs.Types.{Ty}
use Rattle.sml_tree.specs.Patterns.{Pat}
use Rattle.sml_tree.specs.Expressions.{TypBind, DatBind, Exp, Exps, ValBind, ValBinds, no_exp, and_exp, bind, no_bind, and_bind}
use Rattle.sml_tree.specs.Clauses.{Clause, constrained, clause_rules}
use Rattle.sml_fixity.specs.Shapes.{Shape}
use Rattle.sml_derived.specs.Derived.{count, row_of, hidden_from, curried, case_of, function_of}
use Rattle.sml_read.specs.declared.grammar.Rule.TheVariants as G
use Rattle.sml_read.specs.declared.grammar.DeclarationRule.{DeclarationRule}
use Rattle.sml_read.specs.declared.grammar.DeclarationRule.TheVariants.{DecLocal, CoreDecVal, CoreDecFun, CoreDecType, CoreDecDatatype, CoreDecException, CoreDecOpen, CoreDecInfix, CoreDecInfixr, CoreDecNonfix, OpenMoreNone, OpenMoreLongStrId, FixityNone, FixityLevel, VidMoreNone, VidMoreVid, ValDecTypeVariable, ValDecOpenRound, ValDecRec, ValDecBarePat, ValRoundTypeVariable, ValRoundPatRound, ValBindRec, ValBindPat, ValMoreNone, ValMoreAnd, FunDecTypeVariable, FunDecOpenRound, FunDecBareAtPat, FunRoundTypeVariable, FunRoundPatRound, ClausesAtPat, ClausesMoreNone, ClausesMoreAnd, ClauseAtPats, ClauseMoreNone, ClauseMoreBar, AtPatsNone, AtPatsAtPat, TypedNone, TypedColon, TypBindTvs, TypBindMoreNone, TypBindMoreAnd, DatDecSomeTvs, DatDecTyCon, DatRestDatatype, DatRestConBinds, DatBindMoreNone, DatBindMoreAnd, DatBindMoreWithtype, ConBindsMaybeOp, ConBindsMoreNone, ConBindsMoreBar, MaybeOpNone, MaybeOpOp, ExnBindMaybeOp, ExnBindMoreNone, ExnBindMoreAnd, ExnRestNone, ExnRestOf, ExnRestEquals}
use Rattle.sml_phrases.specs.Phrases.{Phrase, of_values, of_round_values, of_functions, of_right_side, of_round_functions, of_datatypes, of_copy, at, name_in, ty_if_any, pat_in, bind_in, binds_in, clauses_in}
use Rattle.sml_pat_sequences.specs.PatternSequences.{pat_place}
use Rattle.sml_pat_sequences.specs.RoundPatterns.{round_pat}
use Rattle.sml_bare_decs.specs.FunctionRules.{RightSide, heading, right_side_in, clause, function_from, round_functions}
use Rattle.sml_bare_decs.specs.DeclarationRules.{Values, Constructors, values_in, functions_in, joined, datatypes_dec, datatype_of, datatype_from, exception_of, round_value, long_if_any, constructors_if_any, declaration_phrase}
use Rattle.sml_tree_laws.specs.Matches.{ExpRuled, ExpsRuled, RulesRuled, DecRuled, BindsRuled}
use Rattle.sml_tree_laws.proofs.RuledPhrases.{BindRuled, ClausesRuled, PhraseRuled, exp_ruled, decs_ruled, bind_ruled, binds_ruled, clauses_ruled}
use Rattle.sml_tree_laws.proofs.RuledExpressions.{PartsRuled}

abbrev ValuesRuled : Values → Type 0
ValuesRuled w = BindsRuled w.plain × BindsRuled w.recursive

values_ruled : (v : Phrase) → PhraseRuled v → ValuesRuled (values_in v)
values_ruled (of_values xs bs rs) h = h
values_ruled _ h = (tt, tt)

functions_ruled : (v : Phrase) → PhraseRuled v → BindsRuled (functions_in v).binds
functions_ruled (of_functions xs bs) h = h
functions_ruled _ h = tt

right_side_ruled : (v : Phrase) → PhraseRuled v → ExpRuled (right_side_in v).body
right_side_ruled (of_right_side qs t e) h = h
right_side_ruled _ h = tt

joined_ruled : (bs rs : ValBinds Place) → BindsRuled bs → BindsRuled rs → BindsRuled (joined bs rs)
joined_ruled no_bind rs h k = k
joined_ruled (and_bind (bind q e) bs) rs h k = (h.0, joined_ruled bs rs h.1 k)

and_bind_ruled : (b : ValBind Place) (bs : ValBinds Place) → BindRuled b → BindsRuled bs → BindsRuled (and_bind b bs)
and_bind_ruled (bind q e) bs h k = (h, k)

datatype_from_ruled : (x : Name Place) (c : Option (LongName Place)) (w : Option Constructors) → PhraseRuled (datatype_from x c w)
datatype_from_ruled x (Some c) w = tt
datatype_from_ruled x None (Some w) = tt
datatype_from_ruled x None None = tt

exception_ruled : (x : Name Place) (c : Option (LongName Place)) (t : Option (Ty Place)) → PhraseRuled (exception_of x c t)
exception_ruled x (Some c) t = tt
exception_ruled x None t = tt

datatypes_ruled : (p : Place) (ds : List (DatBind Place)) (ts : List (TypBind Place)) → DecRuled (datatypes_dec p ds ts)
datatypes_ruled p ds [] = tt
datatypes_ruled p ds (t ∷ ts) = tt

datatype_ruled : (p : Place) (v : Phrase) → DecRuled (datatype_of p v)
datatype_ruled p (of_datatypes ds ts) = datatypes_ruled p ds ts
datatype_ruled p (of_copy x c) = tt
datatype_ruled p _ = tt

-- all of these bindings stand after `rec`
recursive_ruled : (v : Phrase) → PhraseRuled v → ValuesRuled (record { variables = []; plain = no_bind; recursive = joined (values_in v).plain (values_in v).recursive })
recursive_ruled v h = let w = values_ruled v h in (tt, joined_ruled (values_in v).plain (values_in v).recursive w.0 w.1)

round_value_ruled : (s : Option Shape) (p : Place) (v : Phrase) → PhraseRuled v → PhraseRuled (round_value s p v)
round_value_ruled s p (of_round_values ps qs ts e bs rs) h = ((h.0, h.1), h.2)
round_value_ruled s p v h = h

-- functions: their match has the rule of the first clause

hidden_ruled : (p : Place) (k n : ℕ) → ExpsRuled (hidden_from p k n)
hidden_ruled p k zero = tt
hidden_ruled p k (suc n) = (tt, hidden_ruled p (suc k) n)

row_ruled : (p : Place) (es : Exps Place) → ExpsRuled es → ExpRuled (row_of p es)
row_ruled p no_exp h = tt
row_ruled p (and_exp e no_exp) h = h.0
row_ruled p (and_exp e (and_exp f es)) h = h

curried_ruled : (p : Place) (k n : ℕ) (e : Exp Place) → ExpRuled e → ExpRuled (curried p k n e)
curried_ruled p k zero e h = h
curried_ruled p k (suc n) e h = (tt, (curried_ruled p (suc k) n e h, tt))

constrained_ruled : (p : Place) (e : Exp Place) (t : Option (Ty Place)) → ExpRuled e → ExpRuled (constrained p e t)
constrained_ruled p e None h = h
constrained_ruled p e (Some t) h = h

clause_rules_ruled : (cs : List (Clause Place)) → ClausesRuled cs → RulesRuled (clause_rules cs)
clause_rules_ruled [] h = tt
clause_rules_ruled (c ∷ cs) h = (constrained_ruled c.place c.body c.result h.0, clause_rules_ruled cs h.1)

function_of_ruled : (f : Id) (c : Clause Place) (cs : List (Clause Place)) → ExpRuled c.body → ClausesRuled cs → BindRuled (function_of f c cs)
function_of_ruled f c cs h k =
    curried_ruled c.place 1 (count c.pats) (case_of c.place (row_of c.place (hidden_from c.place 1 (count c.pats))) (clause_rules (c ∷ cs)))
    ((tt, clause_rules_ruled (c ∷ cs) (h, k)), row_ruled c.place (hidden_from c.place 1 (count c.pats)) (hidden_ruled c.place 1 (count c.pats)))

function_ruled : (s : Option Shape) (p : Place) (q : Pat Place) (r : RightSide) (cs : List (Clause Place)) → ExpRuled r.body → ClausesRuled cs → BindRuled (function_from s p q r cs)
function_ruled s p q r cs h k = function_of_ruled (heading s q r.pats).name (clause p (heading s q r.pats) r) cs h k

round_functions_ruled : (s : Option Shape) (p : Place) (v : Phrase) → PhraseRuled v → PhraseRuled (round_functions s p v)
round_functions_ruled s p (of_round_functions ps qs t e cs bs) h =
    and_bind_ruled (function_from s p (round_pat p ps) (record { pats = qs; result = t; body = e }) cs) bs
    (function_ruled s p (round_pat p ps) (record { pats = qs; result = t; body = e }) cs h.0 h.1) h.2
round_functions_ruled s p v h = h

pub declaration_ruled : (rule : DeclarationRule) (p : Place) (s : Option Shape) (vs : List Phrase) → PartsRuled (G.Declarations rule) vs → PhraseRuled (declaration_phrase rule p s vs)
declaration_ruled DecLocal p s vs h = (decs_ruled (at vs 1) (h 1 refl), decs_ruled (at vs 3) (h 3 refl))
declaration_ruled CoreDecVal p s vs h = values_ruled (at vs 1) (h 1 refl)
declaration_ruled CoreDecFun p s vs h = (tt, functions_ruled (at vs 1) (h 1 refl))
declaration_ruled CoreDecType p s vs h = tt
declaration_ruled CoreDecDatatype p s vs h = datatype_ruled p (at vs 1)
declaration_ruled CoreDecException p s vs h = tt
declaration_ruled CoreDecOpen p s vs h = tt
declaration_ruled CoreDecInfix p s vs h = tt
declaration_ruled CoreDecInfixr p s vs h = tt
declaration_ruled CoreDecNonfix p s vs h = tt
declaration_ruled OpenMoreNone p s vs h = tt
declaration_ruled OpenMoreLongStrId p s vs h = tt
declaration_ruled FixityNone p s vs h = tt
declaration_ruled FixityLevel p s vs h = tt
declaration_ruled VidMoreNone p s vs h = tt
declaration_ruled VidMoreVid p s vs h = tt
declaration_ruled ValDecTypeVariable p s vs h = values_ruled (at vs 1) (h 1 refl)
declaration_ruled ValDecOpenRound p s vs h = round_value_ruled s p (at vs 1) (h 1 refl)
declaration_ruled ValDecRec p s vs h = recursive_ruled (at vs 1) (h 1 refl)
declaration_ruled ValDecBarePat p s vs h = let w = values_ruled (at vs 3) (h 3 refl) in ((exp_ruled (at vs 2) (h 2 refl), w.0), w.1)
declaration_ruled ValRoundTypeVariable p s vs h = values_ruled (at vs 3) (h 3 refl)
declaration_ruled ValRoundPatRound p s vs h = let w = values_ruled (at vs 4) (h 4 refl) in (exp_ruled (at vs 3) (h 3 refl), w.0, w.1)
declaration_ruled ValBindRec p s vs h = recursive_ruled (at vs 1) (h 1 refl)
declaration_ruled ValBindPat p s vs h = let w = values_ruled (at vs 3) (h 3 refl) in ((exp_ruled (at vs 2) (h 2 refl), w.0), w.1)
declaration_ruled ValMoreNone p s vs h = (tt, tt)
declaration_ruled ValMoreAnd p s vs h = h 1 refl
declaration_ruled FunDecTypeVariable p s vs h = and_bind_ruled (bind_in (at vs 1)) (binds_in (at vs 2)) (bind_ruled (at vs 1) (h 1 refl)) (binds_ruled (at vs 2) (h 2 refl))
declaration_ruled FunDecOpenRound p s vs h = round_functions_ruled s p (at vs 1) (h 1 refl)
declaration_ruled FunDecBareAtPat p s vs h =
    and_bind_ruled (function_from s (pat_place (pat_in (at vs 0))) (pat_in (at vs 0)) (right_side_in (at vs 1)) (clauses_in (at vs 2))) (binds_in (at vs 3))
    (function_ruled s (pat_place (pat_in (at vs 0))) (pat_in (at vs 0)) (right_side_in (at vs 1)) (clauses_in (at vs 2)) (right_side_ruled (at vs 1) (h 1 refl)) (clauses_ruled (at vs 2) (h 2 refl)))
    (binds_ruled (at vs 3) (h 3 refl))
declaration_ruled FunRoundTypeVariable p s vs h = and_bind_ruled (bind_in (at vs 3)) (binds_in (at vs 4)) (bind_ruled (at vs 3) (h 3 refl)) (binds_ruled (at vs 4) (h 4 refl))
declaration_ruled FunRoundPatRound p s vs h = (right_side_ruled (at vs 1) (h 1 refl), clauses_ruled (at vs 2) (h 2 refl), binds_ruled (at vs 3) (h 3 refl))
declaration_ruled ClausesAtPat p s vs h =
    function_ruled s (pat_place (pat_in (at vs 0))) (pat_in (at vs 0)) (right_side_in (at vs 1)) (clauses_in (at vs 2)) (right_side_ruled (at vs 1) (h 1 refl)) (clauses_ruled (at vs 2) (h 2 refl))
declaration_ruled ClausesMoreNone p s vs h = tt
declaration_ruled ClausesMoreAnd p s vs h = and_bind_ruled (bind_in (at vs 1)) (binds_in (at vs 2)) (bind_ruled (at vs 1) (h 1 refl)) (binds_ruled (at vs 2) (h 2 refl))
declaration_ruled ClauseAtPats p s vs h = exp_ruled (at vs 3) (h 3 refl)
declaration_ruled ClauseMoreNone p s vs h = tt
declaration_ruled ClauseMoreBar p s vs h = (right_side_ruled (at vs 2) (h 2 refl), clauses_ruled (at vs 3) (h 3 refl))
declaration_ruled AtPatsNone p s vs h = tt
declaration_ruled AtPatsAtPat p s vs h = tt
declaration_ruled TypedNone p s vs h = tt
declaration_ruled TypedColon p s vs h = h 1 refl
declaration_ruled TypBindTvs p s vs h = tt
declaration_ruled TypBindMoreNone p s vs h = tt
declaration_ruled TypBindMoreAnd p s vs h = tt
declaration_ruled DatDecSomeTvs p s vs h = tt
declaration_ruled DatDecTyCon p s vs h = datatype_from_ruled (name_in (at vs 0)) (long_if_any (at vs 2)) (constructors_if_any (at vs 2))
declaration_ruled DatRestDatatype p s vs h = h 1 refl
declaration_ruled DatRestConBinds p s vs h = tt
declaration_ruled DatBindMoreNone p s vs h = tt
declaration_ruled DatBindMoreAnd p s vs h = tt
declaration_ruled DatBindMoreWithtype p s vs h = tt
declaration_ruled ConBindsMaybeOp p s vs h = tt
declaration_ruled ConBindsMoreNone p s vs h = tt
declaration_ruled ConBindsMoreBar p s vs h = h 1 refl
declaration_ruled MaybeOpNone p s vs h = tt
declaration_ruled MaybeOpOp p s vs h = tt
declaration_ruled ExnBindMaybeOp p s vs h = exception_ruled (name_in (at vs 1)) (long_if_any (at vs 2)) (ty_if_any (at vs 2))
declaration_ruled ExnBindMoreNone p s vs h = tt
declaration_ruled ExnBindMoreAnd p s vs h = tt
declaration_ruled ExnRestNone p s vs h = tt
declaration_ruled ExnRestOf p s vs h = h 1 refl
declaration_ruled ExnRestEquals p s vs h = h 2 refl
declaration_ruled _ p s vs h = h 0 refl
