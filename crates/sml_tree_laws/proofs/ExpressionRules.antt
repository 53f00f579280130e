-- The rules of expressions, without `while`.
use Rattle.std.specs.Prelude.{◌≡◌, List, false, Option, Some, None}
use Rattle.std.proofs.Common.{refl}
use Rattle.std.proofs.lemmas.Bool.{true≢false}
use Rattle.sml_tree.specs.Types.{Ty, no_ty}
use Rattle.sml_tree.specs.Expressions.{Exp, Exps, Rules, no_exp, and_exp}
use Rattle.sml_fixity.specs.Shapes.{Shape}
use Rattle.sml_read.specs.declared.grammar.ExpressionRule.{ExpressionRule}
use Rattle.sml_read.specs.declared.grammar.ExpressionRule.TheVariants.{ExpAt, MoreNone, MoreAt, MoreColon, MoreAndalso, MoreOrelse, MoreHandle, TyRestNone, TyRestColon, TyRestAndalso, TyRestOrelse, TyRestHandle, AndMoreNone, AndMoreAndalso, AndRestTyp, OrMoreNone, OrMoreOrelse, OrRestTyp, HandleMoreNone, HandleMoreHandle, TypAt, AtMoreNone, AtMoreAt, TyMoreNone, TyMoreColon, OpenRaise, OpenIf, OpenWhile, OpenCase, OpenFn, MatchPat, MatchMoreNone, MatchMoreBar, AtNumeral, AtZeroNumeral, AtInteger, AtWordConstant, AtRealConstant, AtStringConstant, AtCharacterConstant, AtAlphanumeric, AtSymbolic, AtStar, AtEquals, AtLongAlphanumeric, AtLongSymbolic, AtLongStar, AtOp, AtOpenCurly, AtHash, AtOpenRound, AtOpenSquare, AtLet, ExpRowCloseCurly, ExpRowLab, ExpRowMoreCloseCurly, ExpRowMoreComma, ExpRoundCloseRound, ExpRoundExp, ExpRoundMoreCloseRound, ExpRoundMoreComma, ExpRoundMoreSemicolon, TupleMoreCloseRound, TupleMoreComma, SequenceMoreCloseRound, SequenceMoreSemicolon, ExpListCloseSquare, ExpListExp, ExpListMoreCloseSquare, ExpListMoreComma, LetMoreEnd, LetMoreSemicolon}
use Rattle.sml_bare_exps.specs.ExpressionSequences.{exp_place, sequence_exp}
use Rattle.sml_bare_exps.specs.ExpressionRules.{conjunction, disjunction, handled, with_operand, with_type, whole, series_of, list_of, tuple_of, round_of, round_parts, expression_phrase}
use Rattle.sml_tree_laws.proofs.ExpressionSequences.{sequence_exp_sits}
use Rattle.sml_tree_laws.proofs.Parts.{scopes}
use Rattle.sml_lex.specs.declared.fault.Place.{Place}
use Rattle.sml_tree.specs.Trees.{Id}
use Rattle.sml_read.specs.declared.grammar.Rule.TheVariants as G
use Rattle.sml_phrases.specs.Phrases.{Phrase, nothing, of_exp, of_series, of_rest, at, ty_in, tys_in, exp_in, exps_in, exp_if_any}
use Rattle.sml_tree_laws.proofs.Sits.{TySits, ExpSits, ExpsSit}
use Rattle.sml_tree_laws.proofs.Phrases.{PhraseSits, ExpSitsIfAny, RulesSitIfAny, ty_sits, tys_sit, pat_sits, exp_sits, exps_sit, exp_sits_if_any, fields_sit, rules_sit, rules_sit_if_any, decs_sit}
use Rattle.sml_tree_laws.proofs.Parts.{PartsSit}

module _ (L V R : Id → Type 0) where
  conjunction_sits : (p : Place) (e : Exp Place) (o : Option (Exp Place)) → ExpSits R V e → ExpSitsIfAny L V R o → ExpSits R V (conjunction p e o)
  conjunction_sits p e None h k = h
  conjunction_sits p e (Some a) h k = (((tt, k), ((tt, tt), tt)), h)

  disjunction_sits : (p : Place) (e : Exp Place) (o : Option (Exp Place)) → ExpSits R V e → ExpSitsIfAny L V R o → ExpSits R V (disjunction p e o)
  disjunction_sits p e None h k = h
  disjunction_sits p e (Some a) h k = (((tt, tt), ((tt, k), tt)), h)

  handled_sits : (p : Place) (e : Exp Place) (o : Option (Rules Place)) → ExpSits R V e → RulesSitIfAny L V R o → ExpSits R V (handled p e o)
  handled_sits p e None h k = h
  handled_sits p e (Some rs) h k = (h, k)

  with_operand_sits : (e : Exp Place) (v : Phrase) → ExpSits R V e → PhraseSits L V R v → PhraseSits L V R (with_operand e v)
  with_operand_sits e (of_rest es ts a o rs) h k = ((h, k.0), k.1, k.2, k.3, k.4)
  with_operand_sits e v h k = (h, exps_sit L V R v k)

  with_type_sits : (t : Ty Place) (v : Phrase) → TySits V t → PhraseSits L V R v → PhraseSits L V R (with_type t v)
  with_type_sits t (of_rest es ts a o rs) h k = (k.0, (h, k.1), k.2, k.3, k.4)
  with_type_sits t v h k = (tt, (h, tt), tt, tt, tt)

  whole_sits : (p : Place) (s : Option Shape) (e : Exp Place) (v : Phrase) → ExpSits R V e → PhraseSits L V R v → ExpSits R V (whole p s e v)
  whole_sits p s e (of_rest es ts a o rs) h k =
      let d = sequence_exp s (and_exp e es) ts in
      let f = conjunction_sits p d a (sequence_exp_sits R V s (and_exp e es) ts (h, k.0) k.1) k.2 in
      handled_sits p (disjunction p (conjunction p d a) o) rs (disjunction_sits p (conjunction p d a) o f k.3) k.4
  whole_sits p s e v h k = sequence_exp_sits R V s (and_exp e (exps_in v)) no_ty (h, exps_sit L V R v k) tt

  series_sits : (p : Place) (es : Exps Place) → ExpsSit R V es → ExpSits R V (series_of p es)
  series_sits p no_exp h = tt
  series_sits p (and_exp e no_exp) h = h.0
  series_sits p (and_exp e (and_exp f es)) h = (((tt, series_sits p (and_exp f es) h.1), tt), h.0)

  list_sits : (p : Place) (es : Exps Place) → ExpsSit R V es → ExpSits R V (list_of p es)
  list_sits p no_exp h = tt
  list_sits p (and_exp e es) h = (tt, (h.0, (list_sits p es h.1, tt)))

  tuple_sits : (p : Place) (es : Exps Place) → ExpsSit R V es → ExpSits R V (tuple_of p es)
  tuple_sits p no_exp h = tt
  tuple_sits p (and_exp e no_exp) h = h.0
  tuple_sits p (and_exp e (and_exp f es)) h = h

  round_sits : (p : Place) (v : Phrase) → PhraseSits L V R v → ExpSits R V (round_of p v)
  round_sits p (of_exp e) h = h
  round_sits p (of_series es) h = series_sits p es h
  round_sits p v h = tuple_sits p (exps_in v) (exps_sit L V R v h)

  round_parts_sit : (e : Exp Place) (v : Phrase) → ExpSits R V e → PhraseSits L V R v → PhraseSits L V R (round_parts e v)
  round_parts_sit e nothing h k = h
  round_parts_sit e (of_series es) h k = (h, k)
  round_parts_sit e v h k = (h, exps_sit L V R v k)

  pub expression_sits : (rule : ExpressionRule) (p : Place) (s : Option Shape) (vs : List Phrase) → scopes (G.Expressions rule) ≡ false
      → PartsSit L V R (G.Expressions rule) vs → PhraseSits L V R (expression_phrase rule p s vs)
  expression_sits ExpAt p s vs o h = whole_sits p s (exp_in (at vs 0)) (at vs 1) (exp_sits L V R (at vs 0) (h 0 refl).0) (h 1 refl).0
  expression_sits MoreNone p s vs o h = tt
  expression_sits TyRestNone p s vs o h = tt
  expression_sits MoreAt p s vs o h = with_operand_sits (exp_in (at vs 0)) (at vs 1) (exp_sits L V R (at vs 0) (h 0 refl).0) (h 1 refl).0
  expression_sits MoreColon p s vs o h = with_type_sits (ty_in (at vs 1)) (at vs 2) (ty_sits L V R (at vs 1) (h 1 refl).0) (h 2 refl).0
  expression_sits MoreAndalso p s vs o h = (tt, tt, (exp_sits L V R (at vs 1) (h 1 refl).0), exp_sits_if_any L V R (at vs 2) (h 2 refl).0, rules_sit_if_any L V R (at vs 3) (h 3 refl).0)
  expression_sits MoreOrelse p s vs o h = (tt, tt, tt, (exp_sits L V R (at vs 1) (h 1 refl).0), rules_sit_if_any L V R (at vs 2) (h 2 refl).0)
  expression_sits MoreHandle p s vs o h = (tt, tt, tt, tt, rules_sit L V R (at vs 1) (h 1 refl).0)
  expression_sits TyRestColon p s vs o h = with_type_sits (ty_in (at vs 1)) (at vs 2) (ty_sits L V R (at vs 1) (h 1 refl).0) (h 2 refl).0
  expression_sits TyRestAndalso p s vs o h = (tt, tt, (exp_sits L V R (at vs 1) (h 1 refl).0), exp_sits_if_any L V R (at vs 2) (h 2 refl).0, rules_sit_if_any L V R (at vs 3) (h 3 refl).0)
  expression_sits TyRestOrelse p s vs o h = (tt, tt, tt, (exp_sits L V R (at vs 1) (h 1 refl).0), rules_sit_if_any L V R (at vs 2) (h 2 refl).0)
  expression_sits TyRestHandle p s vs o h = (tt, tt, tt, tt, rules_sit L V R (at vs 1) (h 1 refl).0)
  expression_sits AndMoreNone p s vs o h = tt
  expression_sits OrMoreNone p s vs o h = tt
  expression_sits HandleMoreNone p s vs o h = tt
  expression_sits AndMoreAndalso p s vs o h = (h 1 refl).0
  expression_sits OrMoreOrelse p s vs o h = (h 1 refl).0
  expression_sits HandleMoreHandle p s vs o h = (h 1 refl).0
  expression_sits AndRestTyp p s vs o h = conjunction_sits p (exp_in (at vs 0)) (exp_if_any (at vs 1)) (exp_sits L V R (at vs 0) (h 0 refl).0) (exp_sits_if_any L V R (at vs 1) (h 1 refl).0)
  expression_sits OrRestTyp p s vs o h = disjunction_sits p (conjunction p (exp_in (at vs 0)) (exp_if_any (at vs 1))) (exp_if_any (at vs 2)) (conjunction_sits p (exp_in (at vs 0)) (exp_if_any (at vs 1)) (exp_sits L V R (at vs 0) (h 0 refl).0) (exp_sits_if_any L V R (at vs 1) (h 1 refl).0)) (exp_sits_if_any L V R (at vs 2) (h 2 refl).0)
  expression_sits TypAt p s vs o h = sequence_exp_sits R V s (and_exp (exp_in (at vs 0)) (exps_in (at vs 1))) (tys_in (at vs 2)) ((exp_sits L V R (at vs 0) (h 0 refl).0), (exps_sit L V R (at vs 1) (h 1 refl).0)) (tys_sit L V R (at vs 2) (h 2 refl).0)
  expression_sits AtMoreNone p s vs o h = tt
  expression_sits AtMoreAt p s vs o h = ((exp_sits L V R (at vs 0) (h 0 refl).0), (exps_sit L V R (at vs 1) (h 1 refl).0))
  expression_sits TyMoreNone p s vs o h = tt
  expression_sits TyMoreColon p s vs o h = ((ty_sits L V R (at vs 1) (h 1 refl).0), (tys_sit L V R (at vs 2) (h 2 refl).0))
  expression_sits OpenRaise p s vs o h = (exp_sits L V R (at vs 1) (h 1 refl).0)
  expression_sits OpenIf p s vs o h = (((tt, (exp_sits L V R (at vs 3) (h 3 refl).0)), ((tt, (exp_sits L V R (at vs 5) (h 5 refl).0)), tt)), (exp_sits L V R (at vs 1) (h 1 refl).0))
  expression_sits OpenWhile p s vs o h = absurd (true≢false o)
  expression_sits OpenCase p s vs o h = ((rules_sit L V R (at vs 3) (h 3 refl).0), (exp_sits L V R (at vs 1) (h 1 refl).0))
  expression_sits OpenFn p s vs o h = (rules_sit L V R (at vs 1) (h 1 refl).0)
  expression_sits MatchPat p s vs o h = (((pat_sits L V R (at vs 0) (h 0 refl).0), (exp_sits L V R (at vs 2) (h 2 refl).0)), (rules_sit L V R (at vs 3) (h 3 refl).0))
  expression_sits MatchMoreNone p s vs o h = tt
  expression_sits MatchMoreBar p s vs o h = (h 1 refl).0
  expression_sits AtNumeral p s vs o h = tt
  expression_sits AtZeroNumeral p s vs o h = tt
  expression_sits AtInteger p s vs o h = tt
  expression_sits AtWordConstant p s vs o h = tt
  expression_sits AtRealConstant p s vs o h = tt
  expression_sits AtStringConstant p s vs o h = tt
  expression_sits AtCharacterConstant p s vs o h = tt
  expression_sits AtAlphanumeric p s vs o h = tt
  expression_sits AtSymbolic p s vs o h = tt
  expression_sits AtStar p s vs o h = tt
  expression_sits AtEquals p s vs o h = tt
  expression_sits AtLongAlphanumeric p s vs o h = tt
  expression_sits AtLongSymbolic p s vs o h = tt
  expression_sits AtLongStar p s vs o h = tt
  expression_sits AtOp p s vs o h = tt
  expression_sits AtOpenCurly p s vs o h = (fields_sit L V R (at vs 1) (h 1 refl).0)
  expression_sits AtHash p s vs o h = (((tt, tt), tt), tt)
  expression_sits AtOpenRound p s vs o h = round_sits p (at vs 1) (h 1 refl).0
  expression_sits AtOpenSquare p s vs o h = list_sits p (exps_in (at vs 1)) (exps_sit L V R (at vs 1) (h 1 refl).0)
  expression_sits AtLet p s vs o h = ((decs_sit L V R (at vs 1) (h 1 refl).0), series_sits (exp_place (exp_in (at vs 3))) (and_exp (exp_in (at vs 3)) (exps_in (at vs 4))) ((exp_sits L V R (at vs 3) (h 3 refl).0), (exps_sit L V R (at vs 4) (h 4 refl).0)))
  expression_sits ExpRowCloseCurly p s vs o h = tt
  expression_sits ExpRowMoreCloseCurly p s vs o h = tt
  expression_sits ExpRowLab p s vs o h = ((exp_sits L V R (at vs 2) (h 2 refl).0), (fields_sit L V R (at vs 3) (h 3 refl).0))
  expression_sits ExpRowMoreComma p s vs o h = ((exp_sits L V R (at vs 3) (h 3 refl).0), (fields_sit L V R (at vs 4) (h 4 refl).0))
  expression_sits ExpRoundCloseRound p s vs o h = tt
  expression_sits ExpRoundMoreCloseRound p s vs o h = tt
  expression_sits TupleMoreCloseRound p s vs o h = tt
  expression_sits SequenceMoreCloseRound p s vs o h = tt
  expression_sits ExpListCloseSquare p s vs o h = tt
  expression_sits ExpListMoreCloseSquare p s vs o h = tt
  expression_sits LetMoreEnd p s vs o h = tt
  expression_sits ExpRoundExp p s vs o h = round_parts_sit (exp_in (at vs 0)) (at vs 1) (exp_sits L V R (at vs 0) (h 0 refl).0) (h 1 refl).0
  expression_sits ExpRoundMoreComma p s vs o h = ((exp_sits L V R (at vs 1) (h 1 refl).0), (exps_sit L V R (at vs 2) (h 2 refl).0))
  expression_sits ExpRoundMoreSemicolon p s vs o h = ((exp_sits L V R (at vs 1) (h 1 refl).0), (exps_sit L V R (at vs 2) (h 2 refl).0))
  expression_sits TupleMoreComma p s vs o h = ((exp_sits L V R (at vs 1) (h 1 refl).0), (exps_sit L V R (at vs 2) (h 2 refl).0))
  expression_sits SequenceMoreSemicolon p s vs o h = ((exp_sits L V R (at vs 1) (h 1 refl).0), (exps_sit L V R (at vs 2) (h 2 refl).0))
  expression_sits ExpListMoreComma p s vs o h = ((exp_sits L V R (at vs 1) (h 1 refl).0), (exps_sit L V R (at vs 2) (h 2 refl).0))
  expression_sits LetMoreSemicolon p s vs o h = ((exp_sits L V R (at vs 1) (h 1 refl).0), (exps_sit L V R (at vs 2) (h 2 refl).0))
  expression_sits ExpListExp p s vs o h = ((exp_sits L V R (at vs 0) (h 0 refl).0), (exps_sit L V R (at vs 1) (h 1 refl).0))
  expression_sits _ p s vs o h = (h 0 refl).0
