-- The rules of declarations of the core, without value declarations, types and datatypes.
use Rattle.std.specs.Prelude.{◌≡◌, ℕ, zero, suc, List, [], ◌∷◌, false, Option, Some, None}
use Rattle.std.proofs.Common.{refl}
use Rattle.std.proofs.lemmas.Bool.{true≢false}
use Rattle.sml_tree.specs.Names.{Name, LongName}
use Rattle.sml_tree.specs.Types.{Ty}
use Rattle.sml_tree.specs.Patterns.{Pat, Pats, wildcard, pat_constant, pat_name, pat_row, pat_tuple, pat_bracket, pat_apply, pat_typed, pat_as, no_pat, and_pat}
use Rattle.sml_tree.specs.Expressions.{Exp, Exps, ValBind, ValBinds, no_exp, and_exp, bind, no_bind, and_bind}
use Rattle.sml_tree.specs.Clauses.{Clause, constrained, pat_row_of, clause_rules}
use Rattle.sml_rules.specs.Every.{Every}
use Rattle.sml_fixity.specs.declared.heads.Head.TheVariants as K
use Rattle.sml_fixity.specs.Shapes.{Shape, tree, headed}
use Rattle.sml_derived.specs.Derived.{count, row_of, hidden_from, curried, case_of, function_of}
use Rattle.sml_read.specs.declared.grammar.DeclarationRule.{DeclarationRule}
use Rattle.sml_read.specs.declared.grammar.DeclarationRule.TheVariants.{DecLocal, CoreDecVal, CoreDecFun, CoreDecType, CoreDecDatatype, CoreDecException, CoreDecOpen, CoreDecInfix, CoreDecInfixr, CoreDecNonfix, OpenMoreNone, OpenMoreLongStrId, FixityNone, FixityLevel, VidMoreNone, VidMoreVid, ValDecTypeVariable, ValDecOpenRound, ValDecRec, ValDecBarePat, ValRoundTypeVariable, ValRoundPatRound, ValBindRec, ValBindPat, ValMoreNone, ValMoreAnd, FunDecTypeVariable, FunDecOpenRound, FunDecBareAtPat, FunRoundTypeVariable, FunRoundPatRound, ClausesAtPat, ClausesMoreNone, ClausesMoreAnd, ClauseAtPats, ClauseMoreNone, ClauseMoreBar, AtPatsNone, AtPatsAtPat, TypedNone, TypedColon, TypBindTvs, TypBindMoreNone, TypBindMoreAnd, DatDecSomeTvs, DatDecTyCon, DatRestDatatype, DatRestConBinds, DatBindMoreNone, DatBindMoreAnd, DatBindMoreWithtype, ConBindsMaybeOp, ConBindsMoreNone, ConBindsMoreBar, MaybeOpNone, MaybeOpOp, ExnBindMaybeOp, ExnBindMoreNone, ExnBindMoreAnd, ExnRestNone, ExnRestOf, ExnRestEquals}
use Rattle.sml_pat_sequences.specs.PatternSequences.{pat_place}
use Rattle.sml_pat_sequences.specs.RoundPatterns.{round_pat}
use Rattle.sml_bare_decs.specs.FunctionRules.{RightSide, prefix_head, infix_head, bracketed_head, in_brackets, between, heading, right_side_in, clause, function_from, round_functions}
use Rattle.sml_bare_decs.specs.DeclarationRules.{Values, Functions, Atoms, Constructors, values_in, functions_in, atoms_in, exn_bind_in, joined, datatype_from, exception_of, round_value, long_if_any, constructors_if_any, declaration_phrase}
use Rattle.sml_tree_laws.specs.Scoped.{ids}
use Rattle.sml_tree_laws.proofs.Parts.{scopes}
use Rattle.sml_tree_laws.proofs.PatternSequences.{round_sequence_sits}
use Rattle.sml_tree_laws.proofs.PatternRules.{round_pat_sits}
use Rattle.sml_lex.specs.declared.fault.Place.{Place}
use Rattle.sml_tree.specs.Trees.{Id}
use Rattle.sml_read.specs.declared.grammar.Rule.TheVariants as G
use Rattle.sml_phrases.specs.Phrases.{Phrase, of_atoms, of_values, of_round_values, of_functions, of_right_side, of_round_functions, of_con_bind, of_copy, at, ty_if_any, pat_in, bind_in, binds_in, clauses_in, name_in}
use Rattle.sml_tree_laws.proofs.Sits.{TysSit, TySitsIfAny, PatSits, PatsSit, ExnBindSits, ExpSits, ExpsSit, RulesSit, BindsSit}
use Rattle.sml_tree_laws.proofs.Phrases.{PhraseSits, BindSits, ClauseSits, ClausesSit, names_sit, ty_sits_if_any, pat_sits, pats_sit, exp_sits, decs_sit, bind_sits, binds_sit, clauses_sit, exn_binds_sit}
use Rattle.sml_tree_laws.proofs.Parts.{PartsSit}

module _ (L V R : Id → Type 0) where
  abbrev pub ValuesSit : Values → Type 0
  ValuesSit w = Every L (ids w.variables) × BindsSit R V w.plain × BindsSit R V w.recursive

  pub values_sit : (v : Phrase) → PhraseSits L V R v → ValuesSit (values_in v)
  values_sit (of_values xs bs rs) h = h
  values_sit _ h = (tt, tt, tt)

  abbrev pub FunctionsSit : Functions → Type 0
  FunctionsSit w = Every L (ids w.variables) × BindsSit R V w.binds

  pub functions_sit : (v : Phrase) → PhraseSits L V R v → FunctionsSit (functions_in v)
  functions_sit (of_functions xs bs) h = h
  functions_sit _ h = (tt, tt)

  abbrev AtomsSit : Atoms → Type 0
  AtomsSit a = PatsSit V a.pats × TysSit V a.tys

  all_atoms_sit : (v : Phrase) → PhraseSits L V R v → AtomsSit (atoms_in v)
  all_atoms_sit (of_atoms qs ts) h = h
  all_atoms_sit _ h = (tt, tt)

  abbrev RightSideSits : RightSide → Type 0
  RightSideSits r = PatsSit V r.pats × TySitsIfAny V r.result × ExpSits R V r.body

  right_side_sits : (v : Phrase) → PhraseSits L V R v → RightSideSits (right_side_in v)
  right_side_sits (of_right_side qs t e) h = h
  right_side_sits _ h = (tt, tt, tt)

  exn_bind_sits : (v : Phrase) → PhraseSits L V R v → ExnBindSits V (exn_bind_in v)
  exn_bind_sits (of_con_bind x t) h = h
  exn_bind_sits (of_copy x c) h = tt
  exn_bind_sits _ h = tt

  joined_sit : (bs rs : ValBinds Place) → BindsSit R V bs → BindsSit R V rs → BindsSit R V (joined bs rs)
  joined_sit no_bind rs h k = k
  joined_sit (and_bind (bind q e) bs) rs h k = (h.0, joined_sit bs rs h.1 k)

  and_bind_sits : (b : ValBind Place) (bs : ValBinds Place) → BindSits L V R b → BindsSit R V bs → BindsSit R V (and_bind b bs)
  and_bind_sits (bind q e) bs h k = (h, k)

  datatype_from_sits : (x : Name Place) (c : Option (LongName Place)) (w : Option Constructors) → PhraseSits L V R (datatype_from x c w)
  datatype_from_sits x (Some c) w = tt
  datatype_from_sits x None (Some w) = tt
  datatype_from_sits x None None = tt

  exception_sits : (x : Name Place) (c : Option (LongName Place)) (t : Option (Ty Place)) → TySitsIfAny V t → PhraseSits L V R (exception_of x c t)
  exception_sits x (Some c) t h = tt
  exception_sits x None t h = h

  round_value_sits : (s : Option Shape) (p : Place) (v : Phrase) → PhraseSits L V R v → PhraseSits L V R (round_value s p v)
  round_value_sits s p (of_round_values ps qs ts e bs rs) h = (tt, ((round_sequence_sits V s (round_pat p ps) qs ts (round_pat_sits L V R p ps h.0) h.1 h.2, h.3), h.4), h.5)
  round_value_sits s p v h = h

  -- the heads of clauses

  prefix_sits : (q : Pat Place) (qs : Pats Place) → PatSits V q → PatsSit V qs → PatsSit V (prefix_head q qs).arguments
  prefix_sits (pat_name p f) qs h k = k
  prefix_sits (wildcard p) qs h k = (h, k)
  prefix_sits (pat_constant p c) qs h k = (h, k)
  prefix_sits (pat_row p fs b) qs h k = (h, k)
  prefix_sits (pat_tuple p rs) qs h k = (h, k)
  prefix_sits (pat_bracket p r) qs h k = (h, k)
  prefix_sits (pat_apply p x r) qs h k = (h, k)
  prefix_sits (pat_typed p r t) qs h k = (h, k)
  prefix_sits (pat_as p x t r) qs h k = (h, k)

  between_sits : (a f b : Pat Place) → PatSits V a → PatSits V f → PatSits V b → PatsSit V (between a f b).arguments
  between_sits a (pat_name p f) b h k l = ((h, (l, tt)), tt)
  between_sits a (wildcard p) b h k l = (h, (k, (l, tt)))
  between_sits a (pat_constant p c) b h k l = (h, (k, (l, tt)))
  between_sits a (pat_row p fs flexible) b h k l = (h, (k, (l, tt)))
  between_sits a (pat_tuple p rs) b h k l = (h, (k, (l, tt)))
  between_sits a (pat_bracket p r) b h k l = (h, (k, (l, tt)))
  between_sits a (pat_apply p x r) b h k l = (h, (k, (l, tt)))
  between_sits a (pat_typed p r t) b h k l = (h, (k, (l, tt)))
  between_sits a (pat_as p x t r) b h k l = (h, (k, (l, tt)))

  infix_sits : (a : Pat Place) (qs : Pats Place) → PatSits V a → PatsSit V qs → PatsSit V (infix_head a qs).arguments
  infix_sits a no_pat h k = (h, k)
  infix_sits a (and_pat f no_pat) h k = (h, k)
  infix_sits a (and_pat f (and_pat b no_pat)) h k = between_sits a f b h k.0 k.1.0
  infix_sits a (and_pat f (and_pat b (and_pat c qs))) h k = (h, k)

  in_brackets_sits : (p : Place) (q : Pat Place) (qs : Pats Place) → PatSits V q → PatsSit V qs → PatsSit V (in_brackets p q qs).arguments
  in_brackets_sits p (pat_apply r f q) qs h k = (h, k)
  in_brackets_sits p (pat_name r f) qs h k = (h, k)
  in_brackets_sits p (wildcard r) qs h k = (h, k)
  in_brackets_sits p (pat_constant r c) qs h k = (h, k)
  in_brackets_sits p (pat_row r fs b) qs h k = (h, k)
  in_brackets_sits p (pat_tuple r rs) qs h k = (h, k)
  in_brackets_sits p (pat_bracket r s) qs h k = (h, k)
  in_brackets_sits p (pat_typed r s t) qs h k = (h, k)
  in_brackets_sits p (pat_as r x t s) qs h k = (h, k)

  bracketed_sits : (q : Pat Place) (qs : Pats Place) → PatSits V q → PatsSit V qs → PatsSit V (bracketed_head q qs).arguments
  bracketed_sits (pat_bracket p q) qs h k = in_brackets_sits p q qs h k
  bracketed_sits (pat_name p f) qs h k = (h, k)
  bracketed_sits (wildcard p) qs h k = (h, k)
  bracketed_sits (pat_constant p c) qs h k = (h, k)
  bracketed_sits (pat_row p fs b) qs h k = (h, k)
  bracketed_sits (pat_tuple p rs) qs h k = (h, k)
  bracketed_sits (pat_apply p x r) qs h k = (h, k)
  bracketed_sits (pat_typed p r t) qs h k = (h, k)
  bracketed_sits (pat_as p x t r) qs h k = (h, k)

  heading_sits : (s : Option Shape) (q : Pat Place) (qs : Pats Place) → PatSits V q → PatsSit V qs → PatsSit V (heading s q qs).arguments
  heading_sits None q qs h k = (h, k)
  heading_sits (Some (tree steps)) q qs h k = (h, k)
  heading_sits (Some (headed K.Prefix)) q qs h k = prefix_sits q qs h k
  heading_sits (Some (headed K.Infix)) q qs h k = infix_sits q qs h k
  heading_sits (Some (headed K.Bracketed)) q qs h k = bracketed_sits q qs h k

  -- functions

  hidden_sit : (p : Place) (k n : ℕ) → ExpsSit R V (hidden_from p k n)
  hidden_sit p k zero = tt
  hidden_sit p k (suc n) = (tt, hidden_sit p (suc k) n)

  row_sits : (p : Place) (es : Exps Place) → ExpsSit R V es → ExpSits R V (row_of p es)
  row_sits p no_exp h = tt
  row_sits p (and_exp e no_exp) h = h.0
  row_sits p (and_exp e (and_exp f es)) h = h

  curried_sits : (p : Place) (k n : ℕ) (e : Exp Place) → ExpSits R V e → ExpSits R V (curried p k n e)
  curried_sits p k zero e h = h
  curried_sits p k (suc n) e h = ((tt, curried_sits p (suc k) n e h), tt)

  pat_row_sits : (p : Place) (qs : Pats Place) → PatsSit V qs → PatSits V (pat_row_of p qs)
  pat_row_sits p no_pat h = tt
  pat_row_sits p (and_pat q no_pat) h = h.0
  pat_row_sits p (and_pat q (and_pat r qs)) h = h

  constrained_sits : (p : Place) (e : Exp Place) (t : Option (Ty Place)) → ExpSits R V e → TySitsIfAny V t → ExpSits R V (constrained p e t)
  constrained_sits p e None h k = h
  constrained_sits p e (Some t) h k = (h, k)

  clause_rules_sit : (cs : List (Clause Place)) → ClausesSit L V R cs → RulesSit R V (clause_rules cs)
  clause_rules_sit [] h = tt
  clause_rules_sit (c ∷ cs) h = ((pat_row_sits c.place c.pats h.0.0, constrained_sits c.place c.body c.result h.0.2 h.0.1), clause_rules_sit cs h.1)

  function_of_sits : (f : Id) (c : Clause Place) (cs : List (Clause Place)) → ClauseSits L V R c → ClausesSit L V R cs → BindSits L V R (function_of f c cs)
  function_of_sits f c cs h k =
      (tt, curried_sits c.place 1 (count c.pats) (case_of c.place (row_of c.place (hidden_from c.place 1 (count c.pats))) (clause_rules (c ∷ cs))) (clause_rules_sit (c ∷ cs) (h, k), row_sits c.place (hidden_from c.place 1 (count c.pats)) (hidden_sit c.place 1 (count c.pats))))

  clause_sits : (s : Option Shape) (p : Place) (q : Pat Place) (r : RightSide) → PatSits V q → RightSideSits r → ClauseSits L V R (clause p (heading s q r.pats) r)
  clause_sits s p q r h k = (heading_sits s q r.pats h k.0, k.1, k.2)

  function_sits : (s : Option Shape) (p : Place) (q : Pat Place) (r : RightSide) (cs : List (Clause Place)) → PatSits V q → RightSideSits r → ClausesSit L V R cs
      → BindSits L V R (function_from s p q r cs)
  function_sits s p q r cs h k l = function_of_sits (heading s q r.pats).name (clause p (heading s q r.pats) r) cs (clause_sits s p q r h k) l

  round_functions_sit : (s : Option Shape) (p : Place) (v : Phrase) → PhraseSits L V R v → PhraseSits L V R (round_functions s p v)
  round_functions_sit s p (of_round_functions ps qs t e cs bs) h =
      (tt, and_bind_sits (function_from s p (round_pat p ps) (record { pats = qs; result = t; body = e }) cs) bs (function_sits s p (round_pat p ps) (record { pats = qs; result = t; body = e }) cs (round_pat_sits L V R p ps h.0) (h.1, h.2, h.3) h.4) h.5)
  round_functions_sit s p v h = h

  pub declaration_sits : (rule : DeclarationRule) (p : Place) (s : Option Shape) (vs : List Phrase) → scopes (G.Declarations rule) ≡ false
      → PartsSit L V R (G.Declarations rule) vs → PhraseSits L V R (declaration_phrase rule p s vs)
  declaration_sits DecLocal p s vs o h = ((decs_sit L V R (at vs 1) (h 1 refl).0), (decs_sit L V R (at vs 3) (h 3 refl).0))
  declaration_sits CoreDecVal p s vs o h = absurd (true≢false o)
  declaration_sits CoreDecFun p s vs o h = absurd (true≢false o)
  declaration_sits CoreDecType p s vs o h = absurd (true≢false o)
  declaration_sits CoreDecDatatype p s vs o h = absurd (true≢false o)
  declaration_sits CoreDecException p s vs o h = ((exn_bind_sits (at vs 1) (h 1 refl).0), (exn_binds_sit L V R (at vs 2) (h 2 refl).0))
  declaration_sits CoreDecOpen p s vs o h = tt
  declaration_sits CoreDecInfix p s vs o h = tt
  declaration_sits CoreDecInfixr p s vs o h = tt
  declaration_sits CoreDecNonfix p s vs o h = tt
  declaration_sits OpenMoreNone p s vs o h = tt
  declaration_sits OpenMoreLongStrId p s vs o h = tt
  declaration_sits FixityNone p s vs o h = tt
  declaration_sits FixityLevel p s vs o h = tt
  declaration_sits VidMoreNone p s vs o h = tt
  declaration_sits VidMoreVid p s vs o h = tt
  declaration_sits ValDecTypeVariable p s vs o h = (((h 0 refl).1, tt), (values_sit (at vs 1) (h 1 refl).0).1, (values_sit (at vs 1) (h 1 refl).0).2)
  declaration_sits ValDecOpenRound p s vs o h = round_value_sits s p (at vs 1) (h 1 refl).0
  declaration_sits ValDecRec p s vs o h = (tt, tt, joined_sit (values_in (at vs 1)).plain (values_in (at vs 1)).recursive (values_sit (at vs 1) (h 1 refl).0).1 (values_sit (at vs 1) (h 1 refl).0).2)
  declaration_sits ValBindRec p s vs o h = (tt, tt, joined_sit (values_in (at vs 1)).plain (values_in (at vs 1)).recursive (values_sit (at vs 1) (h 1 refl).0).1 (values_sit (at vs 1) (h 1 refl).0).2)
  declaration_sits ValDecBarePat p s vs o h = (tt, (((pat_sits L V R (at vs 0) (h 0 refl).0), (exp_sits L V R (at vs 2) (h 2 refl).0)), (values_sit (at vs 3) (h 3 refl).0).1), (values_sit (at vs 3) (h 3 refl).0).2)
  declaration_sits ValBindPat p s vs o h = (tt, (((pat_sits L V R (at vs 0) (h 0 refl).0), (exp_sits L V R (at vs 2) (h 2 refl).0)), (values_sit (at vs 3) (h 3 refl).0).1), (values_sit (at vs 3) (h 3 refl).0).2)
  declaration_sits ValRoundTypeVariable p s vs o h = (((h 0 refl).1, (names_sit L V R (at vs 1) (h 1 refl).0)), (values_sit (at vs 3) (h 3 refl).0).1, (values_sit (at vs 3) (h 3 refl).0).2)
  declaration_sits ValRoundPatRound p s vs o h = ((pats_sit L V R (at vs 0) (h 0 refl).0), (all_atoms_sit (at vs 1) (h 1 refl).0).0, (all_atoms_sit (at vs 1) (h 1 refl).0).1, (exp_sits L V R (at vs 3) (h 3 refl).0), (values_sit (at vs 4) (h 4 refl).0).1, (values_sit (at vs 4) (h 4 refl).0).2)
  declaration_sits ValMoreNone p s vs o h = (tt, tt, tt)
  declaration_sits ValMoreAnd p s vs o h = (h 1 refl).0
  declaration_sits FunDecTypeVariable p s vs o h = (((h 0 refl).1, tt), and_bind_sits (bind_in (at vs 1)) (binds_in (at vs 2)) (bind_sits L V R (at vs 1) (h 1 refl).0) (binds_sit L V R (at vs 2) (h 2 refl).0))
  declaration_sits FunDecOpenRound p s vs o h = round_functions_sit s p (at vs 1) (h 1 refl).0
  declaration_sits FunDecBareAtPat p s vs o h = (tt, and_bind_sits (function_from s (pat_place (pat_in (at vs 0))) (pat_in (at vs 0)) (right_side_in (at vs 1)) (clauses_in (at vs 2))) (binds_in (at vs 3)) (function_sits s (pat_place (pat_in (at vs 0))) (pat_in (at vs 0)) (right_side_in (at vs 1)) (clauses_in (at vs 2)) (pat_sits L V R (at vs 0) (h 0 refl).0) (right_side_sits (at vs 1) (h 1 refl).0) (clauses_sit L V R (at vs 2) (h 2 refl).0)) (binds_sit L V R (at vs 3) (h 3 refl).0))
  declaration_sits FunRoundTypeVariable p s vs o h = (((h 0 refl).1, (names_sit L V R (at vs 1) (h 1 refl).0)), and_bind_sits (bind_in (at vs 3)) (binds_in (at vs 4)) (bind_sits L V R (at vs 3) (h 3 refl).0) (binds_sit L V R (at vs 4) (h 4 refl).0))
  declaration_sits FunRoundPatRound p s vs o h = ((pats_sit L V R (at vs 0) (h 0 refl).0), (right_side_sits (at vs 1) (h 1 refl).0).0, (right_side_sits (at vs 1) (h 1 refl).0).1, (right_side_sits (at vs 1) (h 1 refl).0).2, (clauses_sit L V R (at vs 2) (h 2 refl).0), (binds_sit L V R (at vs 3) (h 3 refl).0))
  declaration_sits ClausesAtPat p s vs o h = function_sits s (pat_place (pat_in (at vs 0))) (pat_in (at vs 0)) (right_side_in (at vs 1)) (clauses_in (at vs 2)) (pat_sits L V R (at vs 0) (h 0 refl).0) (right_side_sits (at vs 1) (h 1 refl).0) (clauses_sit L V R (at vs 2) (h 2 refl).0)
  declaration_sits ClausesMoreNone p s vs o h = tt
  declaration_sits ClausesMoreAnd p s vs o h = and_bind_sits (bind_in (at vs 1)) (binds_in (at vs 2)) (bind_sits L V R (at vs 1) (h 1 refl).0) (binds_sit L V R (at vs 2) (h 2 refl).0)
  declaration_sits ClauseAtPats p s vs o h = ((pats_sit L V R (at vs 0) (h 0 refl).0), (ty_sits_if_any L V R (at vs 1) (h 1 refl).0), (exp_sits L V R (at vs 3) (h 3 refl).0))
  declaration_sits ClauseMoreNone p s vs o h = tt
  declaration_sits ClauseMoreBar p s vs o h = (clause_sits s (pat_place (pat_in (at vs 1))) (pat_in (at vs 1)) (right_side_in (at vs 2)) (pat_sits L V R (at vs 1) (h 1 refl).0) (right_side_sits (at vs 2) (h 2 refl).0), (clauses_sit L V R (at vs 3) (h 3 refl).0))
  declaration_sits AtPatsNone p s vs o h = tt
  declaration_sits AtPatsAtPat p s vs o h = ((pat_sits L V R (at vs 0) (h 0 refl).0), (pats_sit L V R (at vs 1) (h 1 refl).0))
  declaration_sits TypedNone p s vs o h = tt
  declaration_sits TypedColon p s vs o h = (h 1 refl).0
  declaration_sits TypBindTvs p s vs o h = tt
  declaration_sits TypBindMoreNone p s vs o h = tt
  declaration_sits TypBindMoreAnd p s vs o h = tt
  declaration_sits DatDecSomeTvs p s vs o h = tt
  declaration_sits DatRestConBinds p s vs o h = tt
  declaration_sits DatBindMoreNone p s vs o h = tt
  declaration_sits DatBindMoreAnd p s vs o h = tt
  declaration_sits DatBindMoreWithtype p s vs o h = tt
  declaration_sits ConBindsMaybeOp p s vs o h = tt
  declaration_sits ConBindsMoreNone p s vs o h = tt
  declaration_sits MaybeOpNone p s vs o h = tt
  declaration_sits MaybeOpOp p s vs o h = tt
  declaration_sits DatDecTyCon p s vs o h = datatype_from_sits (name_in (at vs 0)) (long_if_any (at vs 2)) (constructors_if_any (at vs 2))
  declaration_sits DatRestDatatype p s vs o h = (h 1 refl).0
  declaration_sits ConBindsMoreBar p s vs o h = (h 1 refl).0
  declaration_sits ExnBindMaybeOp p s vs o h = exception_sits (name_in (at vs 1)) (long_if_any (at vs 2)) (ty_if_any (at vs 2)) (ty_sits_if_any L V R (at vs 2) (h 2 refl).0)
  declaration_sits ExnBindMoreNone p s vs o h = tt
  declaration_sits ExnBindMoreAnd p s vs o h = ((exn_bind_sits (at vs 1) (h 1 refl).0), (exn_binds_sit L V R (at vs 2) (h 2 refl).0))
  declaration_sits ExnRestNone p s vs o h = tt
  declaration_sits ExnRestOf p s vs o h = (h 1 refl).0
  declaration_sits ExnRestEquals p s vs o h = (h 2 refl).0
  declaration_sits _ p s vs o h = (h 0 refl).0
