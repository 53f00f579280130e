-- What stands after `rec` in declarations of the core.
use Rattle.std.specs.Prelude.{◌≡◌, ℕ, zero, suc, false, length, List, [], ◌∷◌, Bool, Option, Some, None}
use Rattle.std.proofs.Common.{refl, inl}
use Rattle.sml_lex.specs.declared.fault.Place.{Place}
use Rattle.sml_tree.specs.Trees.{Id}
use Rattle.sml_tree.specs.Names.{Name, LongName}
use Rattle.sml_tree.specs.Types.{Ty}
use Rattle.sml_tree.specs.Patterns.{Pat}
use Rattle.sml_tree.specs.Expressions.{TypBind, DatBind, Exp, Exps, ValBind, ValBinds, no_exp, and_exp, bind, no_bind, and_bind}
use Rattle.sml_tree.specs.Clauses.{Clause, constrained, clause_rules}
use Rattle.sml_fixity.specs.Shapes.{Shape}
use Rattle.sml_derived.specs.Derived.{count, row_of, hidden_from, curried, case_of, function_of}
use Rattle.sml_read.specs.Grammar.{right_side}
use Rattle.sml_read.specs.Parts.{part_of}
use Rattle.sml_read.specs.declared.grammar.Symbol.TheVariants.{Of}
use Rattle.sml_read.specs.declared.grammar.Rule.TheVariants as G
use Rattle.sml_read.specs.declared.grammar.DeclarationRule.{DeclarationRule}
use Rattle.sml_read.specs.declared.grammar.DeclarationRule.TheVariants.{DecLocal, CoreDecVal, CoreDecFun, CoreDecType, CoreDecDatatype, CoreDecException, CoreDecOpen, CoreDecInfix, CoreDecInfixr, CoreDecNonfix, OpenMoreNone, OpenMoreLongStrId, FixityNone, FixityLevel, VidMoreNone, VidMoreVid, ValDecTypeVariable, ValDecOpenRound, ValDecRec, ValDecBarePat, ValRoundTypeVariable, ValRoundPatRound, ValBindRec, ValBindPat, ValMoreNone, ValMoreAnd, FunDecTypeVariable, FunDecOpenRound, FunDecBareAtPat, FunRoundTypeVariable, FunRoundPatRound, ClausesAtPat, ClausesMoreNone, ClausesMoreAnd, ClauseAtPats, ClauseMoreNone, ClauseMoreBar, AtPatsNone, AtPatsAtPat, TypedNone, TypedColon, TypBindTvs, TypBindMoreNone, TypBindMoreAnd, DatDecSomeTvs, DatDecTyCon, DatRestDatatype, DatRestConBinds, DatBindMoreNone, DatBindMoreAnd, DatBindMoreWithtype, ConBindsMaybeOp, ConBindsMoreNone, ConBindsMoreBar, MaybeOpNone, MaybeOpOp, ExnBindMaybeOp, ExnBindMoreNone, ExnBindMoreAnd, ExnRestNone, ExnRestOf, ExnRestEquals}
use Rattle.sml_phrases.specs.Phrases.{Phrase, of_values, of_round_values, of_functions, of_right_side, of_round_functions, of_datatypes, of_copy, at, name_in, ty_if_any, pat_in, bind_in, binds_in, clauses_in}
use Rattle.sml_pat_sequences.specs.PatternSequences.{pat_place}
use Rattle.sml_pat_sequences.specs.RoundPatterns.{round_pat}
use Rattle.sml_bare_decs.specs.FunctionRules.{RightSide, heading, right_side_in, clause, function_from, round_functions}
use Rattle.sml_bare_decs.specs.DeclarationRules.{Values, Constructors, values_in, functions_in, joined, datatypes_dec, datatype_of, datatype_from, exception_of, round_value, long_if_any, constructors_if_any, declaration_phrase}
use Rattle.sml_flaws.specs.declared.mark.Context.{Context}
use Rattle.sml_flaws.specs.Roles.{entry_of}
use Rattle.sml_flaws.specs.Marks.{entered}
use Rattle.sml_flaws.specs.Flaws.{is_reserved}
use Rattle.sml_tree_laws.specs.Recursive.{RecBinds, ExpRec, ExpsRec, RulesRec, DecRec, BindsRec}
use Rattle.sml_tree_laws.proofs.RecPhrases.{PhraseRec, FunctionRec, FunctionsRec, ClausesRec, exp_rec, decs_rec, bind_rec, binds_rec, clauses_rec}
use Rattle.sml_tree_laws.proofs.RecExpressions.{PartsRec}
use Rattle.sml_tree_laws.proofs.RecPatterns.{PatRec, PartsPat}

abbrev ValuesRec : Values → Type 0
ValuesRec w = RecBinds w.recursive × BindsRec w.plain × BindsRec w.recursive

values_rec : (v : Phrase) → PhraseRec v → ValuesRec (values_in v)
values_rec (of_values xs bs rs) h = h
values_rec _ h = (tt, tt, tt)

functions_rec : (v : Phrase) → PhraseRec v → FunctionsRec (functions_in v).binds
functions_rec (of_functions xs bs) h = h
functions_rec _ h = (tt, tt)

right_side_rec : (v : Phrase) → PhraseRec v → ExpRec (right_side_in v).body
right_side_rec (of_right_side qs t e) h = h
right_side_rec _ h = tt

joined_rec : (bs rs : ValBinds Place) → BindsRec bs → BindsRec rs → BindsRec (joined bs rs)
joined_rec no_bind rs h k = k
joined_rec (and_bind (bind q e) bs) rs h k = (h.0, joined_rec bs rs h.1 k)

joined_binds : (bs rs : ValBinds Place) → RecBinds bs → RecBinds rs → RecBinds (joined bs rs)
joined_binds no_bind rs h k = k
joined_binds (and_bind b bs) rs h k = (h.0, joined_binds bs rs h.1 k)

and_function_rec : (b : ValBind Place) (bs : ValBinds Place) → FunctionRec b → FunctionsRec bs → FunctionsRec (and_bind b bs)
and_function_rec (bind q e) bs h k = ((h.0, k.0), (h.1, k.1))

datatype_from_rec : (x : Name Place) (c : Option (LongName Place)) (w : Option Constructors) → PhraseRec (datatype_from x c w)
datatype_from_rec x (Some c) w = tt
datatype_from_rec x None (Some w) = tt
datatype_from_rec x None None = tt

exception_rec : (x : Name Place) (c : Option (LongName Place)) (t : Option (Ty Place)) → PhraseRec (exception_of x c t)
exception_rec x (Some c) t = tt
exception_rec x None t = tt

datatypes_rec : (p : Place) (ds : List (DatBind Place)) (ts : List (TypBind Place)) → DecRec (datatypes_dec p ds ts)
datatypes_rec p ds [] = tt
datatypes_rec p ds (t ∷ ts) = tt

datatype_rec : (p : Place) (v : Phrase) → DecRec (datatype_of p v)
datatype_rec p (of_datatypes ds ts) = datatypes_rec p ds ts
datatype_rec p (of_copy x c) = tt
datatype_rec p _ = tt

-- all of these bindings stand after `rec`
recursive_rec : (v : Phrase) → PhraseRec v → RecBinds (values_in v).plain → ValuesRec (record { variables = []; plain = no_bind; recursive = joined (values_in v).plain (values_in v).recursive })
recursive_rec v h k =
    let w = values_rec v h in (joined_binds (values_in v).plain (values_in v).recursive k w.0, tt, joined_rec (values_in v).plain (values_in v).recursive w.1 w.2)

-- functions

hidden_rec : (p : Place) (k n : ℕ) → ExpsRec (hidden_from p k n)
hidden_rec p k zero = tt
hidden_rec p k (suc n) = (tt, hidden_rec p (suc k) n)

row_rec : (p : Place) (es : Exps Place) → ExpsRec es → ExpRec (row_of p es)
row_rec p no_exp h = tt
row_rec p (and_exp e no_exp) h = h.0
row_rec p (and_exp e (and_exp f es)) h = h

curried_rec : (p : Place) (k n : ℕ) (e : Exp Place) → ExpRec e → ExpRec (curried p k n e)
curried_rec p k zero e h = h
curried_rec p k (suc n) e h = (curried_rec p (suc k) n e h, tt)

constrained_rec : (p : Place) (e : Exp Place) (t : Option (Ty Place)) → ExpRec e → ExpRec (constrained p e t)
constrained_rec p e None h = h
constrained_rec p e (Some t) h = h

clause_rules_rec : (cs : List (Clause Place)) → ClausesRec cs → RulesRec (clause_rules cs)
clause_rules_rec [] h = tt
clause_rules_rec (c ∷ cs) h = (constrained_rec c.place c.body c.result h.0, clause_rules_rec cs h.1)

function_of_rec : (f : Id) (c : Clause Place) (cs : List (Clause Place)) → is_reserved f ≡ false → ExpRec c.body → ClausesRec cs → FunctionRec (function_of f c cs)
function_of_rec f c cs free h k = (
  (λ e. inl free),
  curried_rec c.place 1 (count c.pats) (case_of c.place (row_of c.place (hidden_from c.place 1 (count c.pats))) (clause_rules (c ∷ cs)))
      (clause_rules_rec (c ∷ cs) (h, k), row_rec c.place (hidden_from c.place 1 (count c.pats)) (hidden_rec c.place 1 (count c.pats))),
)

function_rec : (s : Option Shape) (p : Place) (q : Pat Place) (r : RightSide) (cs : List (Clause Place)) → is_reserved (heading s q r.pats).name ≡ false → ExpRec r.body → ClausesRec cs → FunctionRec (function_from s p q r cs)
function_rec s p q r cs free h k = function_of_rec (heading s q r.pats).name (clause p (heading s q r.pats) r) cs free h k

round_value_rec : (s : Option Shape) (p : Place) (v : Phrase) → PhraseRec v → PhraseRec (round_value s p v)
round_value_rec s p (of_round_values ps qs ts e bs rs) h = (h.0, (h.1, h.2), h.3)
round_value_rec s p v h = h

-- the name of a function may be bound

abbrev pub RoundFree : Option Shape → Place → Phrase → Type 0
RoundFree s p (of_round_functions ps qs t e cs bs) = is_reserved (heading s (round_pat p ps) qs).name ≡ false
RoundFree s p _ = Unit {0}

abbrev pub HeadFree : Option Shape → Place → DeclarationRule → List Phrase → Type 0
HeadFree s p FunDecOpenRound vs = RoundFree s p (at vs 1)
HeadFree s p FunDecBareAtPat vs = is_reserved (heading s (pat_in (at vs 0)) (right_side_in (at vs 1)).pats).name ≡ false
HeadFree s p ClausesAtPat vs = is_reserved (heading s (pat_in (at vs 0)) (right_side_in (at vs 1)).pats).name ≡ false
HeadFree s p _ vs = Unit {0}

round_functions_rec : (s : Option Shape) (p : Place) (v : Phrase) → RoundFree s p v → PhraseRec v → PhraseRec (round_functions s p v)
round_functions_rec s p (of_round_functions ps qs t e cs bs) free h =
    and_function_rec (function_from s p (round_pat p ps) (record { pats = qs; result = t; body = e }) cs) bs (function_rec s p (round_pat p ps) (record { pats = qs; result = t; body = e }) cs free h.0 h.1) h.2
round_functions_rec s p v free h = h

-- used: whether a sequence uses its atomic phrase with an index
module _ (used : ℕ → ℕ → Bool) (text : ℕ → Id) where
  pub declaration_pat : (rule : DeclarationRule) (i a : ℕ) (c : Context) (t : ℕ → ℕ) (p : Place) (s : Option Shape) (vs : List Phrase) → PartsPat used text (entered (entry_of (G.Declarations rule)) i a c) t (G.Declarations rule) vs
      → PatRec used text (Of (part_of (G.Declarations rule))) c (t 0) (t (length (right_side (G.Declarations rule)))) (declaration_phrase rule p s vs)
  declaration_pat ValBindRec i a c t p s vs h = λ b. tt
  declaration_pat ValBindPat i a c t p s vs h = λ b. ((h 0 refl).0 b, (h 3 refl).0 b)
  declaration_pat ValMoreNone i a c t p s vs h = λ b. tt
  declaration_pat ValMoreAnd i a c t p s vs h = (h 1 refl).0
  declaration_pat _ i a c t p s vs h = tt

  pub declaration_rec : (rule : DeclarationRule) (i a : ℕ) (c : Context) (t : ℕ → ℕ) (p : Place) (s : Option Shape) (vs : List Phrase) → PartsRec (G.Declarations rule) vs
      → PartsPat used text (entered (entry_of (G.Declarations rule)) i a c) t (G.Declarations rule) vs → HeadFree s p rule vs → PhraseRec (declaration_phrase rule p s vs)
  declaration_rec DecLocal i a c t p s vs h k free = (decs_rec (at vs 1) (h 1 refl), decs_rec (at vs 3) (h 3 refl))
  declaration_rec CoreDecVal i a c t p s vs h k free = values_rec (at vs 1) (h 1 refl)
  declaration_rec CoreDecFun i a c t p s vs h k free = let f = functions_rec (at vs 1) (h 1 refl) in (f.0, tt, f.1)
  declaration_rec CoreDecType i a c t p s vs h k free = tt
  declaration_rec CoreDecDatatype i a c t p s vs h k free = datatype_rec p (at vs 1)
  declaration_rec CoreDecException i a c t p s vs h k free = tt
  declaration_rec CoreDecOpen i a c t p s vs h k free = tt
  declaration_rec CoreDecInfix i a c t p s vs h k free = tt
  declaration_rec CoreDecInfixr i a c t p s vs h k free = tt
  declaration_rec CoreDecNonfix i a c t p s vs h k free = tt
  declaration_rec OpenMoreNone i a c t p s vs h k free = tt
  declaration_rec OpenMoreLongStrId i a c t p s vs h k free = tt
  declaration_rec FixityNone i a c t p s vs h k free = tt
  declaration_rec FixityLevel i a c t p s vs h k free = tt
  declaration_rec VidMoreNone i a c t p s vs h k free = tt
  declaration_rec VidMoreVid i a c t p s vs h k free = tt
  declaration_rec ValDecTypeVariable i a c t p s vs h k free = values_rec (at vs 1) (h 1 refl)
  declaration_rec ValDecOpenRound i a c t p s vs h k free = round_value_rec s p (at vs 1) (h 1 refl)
  declaration_rec ValDecRec i a c t p s vs h k free = recursive_rec (at vs 1) (h 1 refl) ((k 1 refl).0 refl)
  declaration_rec ValDecBarePat i a c t p s vs h k free = let w = values_rec (at vs 3) (h 3 refl) in (w.0, (exp_rec (at vs 2) (h 2 refl), w.1), w.2)
  declaration_rec ValRoundTypeVariable i a c t p s vs h k free = values_rec (at vs 3) (h 3 refl)
  declaration_rec ValRoundPatRound i a c t p s vs h k free = let w = values_rec (at vs 4) (h 4 refl) in (w.0, exp_rec (at vs 3) (h 3 refl), w.1, w.2)
  declaration_rec ValBindRec i a c t p s vs h k free = recursive_rec (at vs 1) (h 1 refl) ((k 1 refl).0 refl)
  declaration_rec ValBindPat i a c t p s vs h k free = let w = values_rec (at vs 3) (h 3 refl) in (w.0, (exp_rec (at vs 2) (h 2 refl), w.1), w.2)
  declaration_rec ValMoreNone i a c t p s vs h k free = (tt, tt, tt)
  declaration_rec ValMoreAnd i a c t p s vs h k free = h 1 refl
  declaration_rec FunDecTypeVariable i a c t p s vs h k free = and_function_rec (bind_in (at vs 1)) (binds_in (at vs 2)) (bind_rec (at vs 1) (h 1 refl)) (binds_rec (at vs 2) (h 2 refl))
  declaration_rec FunDecOpenRound i a c t p s vs h k free = round_functions_rec s p (at vs 1) free (h 1 refl)
  declaration_rec FunDecBareAtPat i a c t p s vs h k free =
      and_function_rec (function_from s (pat_place (pat_in (at vs 0))) (pat_in (at vs 0)) (right_side_in (at vs 1)) (clauses_in (at vs 2))) (binds_in (at vs 3))
      (function_rec s (pat_place (pat_in (at vs 0))) (pat_in (at vs 0)) (right_side_in (at vs 1)) (clauses_in (at vs 2)) free (right_side_rec (at vs 1) (h 1 refl)) (clauses_rec (at vs 2) (h 2 refl)))
      (binds_rec (at vs 3) (h 3 refl))
  declaration_rec FunRoundTypeVariable i a c t p s vs h k free = and_function_rec (bind_in (at vs 3)) (binds_in (at vs 4)) (bind_rec (at vs 3) (h 3 refl)) (binds_rec (at vs 4) (h 4 refl))
  declaration_rec FunRoundPatRound i a c t p s vs h k free = (right_side_rec (at vs 1) (h 1 refl), clauses_rec (at vs 2) (h 2 refl), binds_rec (at vs 3) (h 3 refl))
  declaration_rec ClausesAtPat i a c t p s vs h k free =
      function_rec s (pat_place (pat_in (at vs 0))) (pat_in (at vs 0)) (right_side_in (at vs 1)) (clauses_in (at vs 2)) free (right_side_rec (at vs 1) (h 1 refl)) (clauses_rec (at vs 2) (h 2 refl))
  declaration_rec ClausesMoreNone i a c t p s vs h k free = (tt, tt)
  declaration_rec ClausesMoreAnd i a c t p s vs h k free = and_function_rec (bind_in (at vs 1)) (binds_in (at vs 2)) (bind_rec (at vs 1) (h 1 refl)) (binds_rec (at vs 2) (h 2 refl))
  declaration_rec ClauseAtPats i a c t p s vs h k free = exp_rec (at vs 3) (h 3 refl)
  declaration_rec ClauseMoreNone i a c t p s vs h k free = tt
  declaration_rec ClauseMoreBar i a c t p s vs h k free = (right_side_rec (at vs 2) (h 2 refl), clauses_rec (at vs 3) (h 3 refl))
  declaration_rec AtPatsNone i a c t p s vs h k free = tt
  declaration_rec AtPatsAtPat i a c t p s vs h k free = tt
  declaration_rec TypedNone i a c t p s vs h k free = tt
  declaration_rec TypedColon i a c t p s vs h k free = h 1 refl
  declaration_rec TypBindTvs i a c t p s vs h k free = tt
  declaration_rec TypBindMoreNone i a c t p s vs h k free = tt
  declaration_rec TypBindMoreAnd i a c t p s vs h k free = tt
  declaration_rec DatDecSomeTvs i a c t p s vs h k free = tt
  declaration_rec DatDecTyCon i a c t p s vs h k free = datatype_from_rec (name_in (at vs 0)) (long_if_any (at vs 2)) (constructors_if_any (at vs 2))
  declaration_rec DatRestDatatype i a c t p s vs h k free = h 1 refl
  declaration_rec DatRestConBinds i a c t p s vs h k free = tt
  declaration_rec DatBindMoreNone i a c t p s vs h k free = tt
  declaration_rec DatBindMoreAnd i a c t p s vs h k free = tt
  declaration_rec DatBindMoreWithtype i a c t p s vs h k free = tt
  declaration_rec ConBindsMaybeOp i a c t p s vs h k free = tt
  declaration_rec ConBindsMoreNone i a c t p s vs h k free = tt
  declaration_rec ConBindsMoreBar i a c t p s vs h k free = h 1 refl
  declaration_rec MaybeOpNone i a c t p s vs h k free = tt
  declaration_rec MaybeOpOp i a c t p s vs h k free = tt
  declaration_rec ExnBindMaybeOp i a c t p s vs h k free = exception_rec (name_in (at vs 1)) (long_if_any (at vs 2)) (ty_if_any (at vs 2))
  declaration_rec ExnBindMoreNone i a c t p s vs h k free = tt
  declaration_rec ExnBindMoreAnd i a c t p s vs h k free = tt
  declaration_rec ExnRestNone i a c t p s vs h k free = tt
  declaration_rec ExnRestOf i a c t p s vs h k free = h 1 refl
  declaration_rec ExnRestEquals i a c t p s vs h k free = h 2 refl
  declaration_rec _ i a c t p s vs h k free = h 0 refl
