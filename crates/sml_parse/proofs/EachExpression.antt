-- Each place in expressions is such a one.
use Rattle.std.specs.Prelude.{◌≡◌, ℕ, List, [], ◌∷◌, get_or, false, Option, Some, None}
use Rattle.std.specs.List.{AllByRecursion}
use Rattle.std.proofs.Common.{refl}
use Rattle.sml_lex.specs.declared.fault.Place.{Place}
use Rattle.sml_lex.specs.Faults.{first_place}
use Rattle.sml_tree.specs.Names.{Name}
use Rattle.sml_tree.specs.Types.{Ty, Tys, no_ty, and_ty}
use Rattle.sml_tree.specs.Expressions.{Exp, Exps, Rules, constant, name, row, tuple, let_in, bracket, apply, typed, handle, raise, fn, no_exp, and_exp}
use Rattle.sml_fixity.specs.declared.sequences.Step.{Step}
use Rattle.sml_fixity.specs.declared.sequences.Step.TheVariants.{Push, Apply, Combine}
use Rattle.sml_fixity.specs.Shapes.{Shape, tree, headed}
use Rattle.sml_read.specs.Grammar.{right_side}
use Rattle.sml_read.specs.Spelling.{all_empty}
use Rattle.sml_read.specs.declared.grammar.Rule.TheVariants as G
use Rattle.sml_read.specs.declared.grammar.ExpressionRule.{ExpressionRule}
use Rattle.sml_read.specs.declared.grammar.ExpressionRule.TheVariants.{ExpAt, MoreNone, MoreAt, MoreColon, MoreAndalso, MoreOrelse, MoreHandle, TyRestNone, TyRestColon, TyRestAndalso, TyRestOrelse, TyRestHandle, AndMoreNone, AndMoreAndalso, AndRestTyp, OrMoreNone, OrMoreOrelse, OrRestTyp, HandleMoreNone, HandleMoreHandle, TypAt, AtMoreNone, AtMoreAt, TyMoreNone, TyMoreColon, OpenRaise, OpenIf, OpenWhile, OpenCase, OpenFn, MatchPat, MatchMoreNone, MatchMoreBar, AtNumeral, AtZeroNumeral, AtInteger, AtWordConstant, AtRealConstant, AtStringConstant, AtCharacterConstant, AtAlphanumeric, AtSymbolic, AtStar, AtEquals, AtLongAlphanumeric, AtLongSymbolic, AtLongStar, AtOp, AtOpenCurly, AtHash, AtOpenRound, AtOpenSquare, AtLet, ExpRowCloseCurly, ExpRowLab, ExpRowMoreCloseCurly, ExpRowMoreComma, ExpRoundCloseRound, ExpRoundExp, ExpRoundMoreCloseRound, ExpRoundMoreComma, ExpRoundMoreSemicolon, TupleMoreCloseRound, TupleMoreComma, SequenceMoreCloseRound, SequenceMoreSemicolon, ExpListCloseSquare, ExpListExp, ExpListMoreCloseSquare, ExpListMoreComma, LetMoreEnd, LetMoreSemicolon}
use Rattle.sml_phrases.specs.Phrases.{Phrase, nothing, of_exp, of_series, of_rest, name_in, ty_in, tys_in, exp_in, exps_in, rules_in, exp_if_any, rules_if_any, at}
use Rattle.sml_bare_exps.specs.ExpressionSequences as S
use Rattle.sml_bare_exps.specs.ExpressionRules.{conjunction, disjunction, handled, with_operand, with_type, whole, series_of, list_of, tuple_of, round_of, round_parts, body_of, expression_phrase}
use Rattle.sml_parse.specs.EachPlace.{EachInName, EachInTy, EachInTys, EachInExp, EachInExps}
use Rattle.sml_parse.proofs.EachPhrase.{EachInExpIfAny, EachInRulesIfAny, EachInPhrase, EachInPhrases, all_get_or, all_set, at_each, name_in_each, long_in_each, ty_in_each, tys_in_each, pat_in_each, exp_in_each, exps_in_each, fields_in_each, rules_in_each, decs_in_each, exp_if_any_each, rules_if_any_each}
use Rattle.sml_parse.proofs.EachDerived.{select_each, case_of_each, if_of_each, orelse_of_each, andalso_of_each, sequence_of_each, while_of_each, cons_of_each, infix_of_each}

module _ (Q : Place → Type 0) (origin : Q first_place) where
  -- sequences of atomic expressions
  abbrev EachExp : List (Exp Place) → Type 0
  EachExp es = AllByRecursion (EachInExp Q) es

  exp_place_each : (e : Exp Place) → EachInExp Q e → Q (S.exp_place e)
  exp_place_each (constant p c) h = h
  exp_place_each (name p x) h = h.0
  exp_place_each (row p fs) h = h.0
  exp_place_each (tuple p es) h = h.0
  exp_place_each (let_in p ds e) h = h.0
  exp_place_each (bracket p e) h = h.0
  exp_place_each (apply p f e) h = h.0
  exp_place_each (typed p e t) h = h.0
  exp_place_each (handle p e rs) h = h.0
  exp_place_each (raise p e) h = h.0
  exp_place_each (fn p rs) h = h.0

  listed_each : (es : Exps Place) → EachInExps Q es → EachExp (S.list_of_exps es)
  listed_each no_exp h = tt
  listed_each (and_exp e es) h = (h.0, listed_each es h.1)

  operator_each : (e : Exp Place) → EachInExp Q e → EachInName Q (S.operator_of e)
  operator_each (name p x) h = h.1
  operator_each _ h = origin

  applied_each : (es : List (Exp Place)) → EachExp es → EachExp (S.applied es)
  applied_each [] h = tt
  applied_each (x ∷ []) h = h
  applied_each (x ∷ f ∷ es) h = ((exp_place_each f h.1.0, h.1.0, h.0), h.1.1)

  combined_each : (f : Name Place) (es : List (Exp Place)) → EachInName Q f → EachExp es → EachExp (S.combined f es)
  combined_each f [] n h = tt
  combined_each f (b ∷ []) n h = h
  combined_each f (b ∷ a ∷ es) n h = (infix_of_each Q (S.exp_place a) f a b (exp_place_each a h.1.0) n h.1.0 h.0, h.1.1)

  record EachBuilt (b : S.Building) : Type 0 where
    pub atoms_each : EachExp b.atoms
    pub stack_each : EachExp b.stack

  after_each : (s : Step) (b : S.Building) → EachBuilt b → EachBuilt (S.after s b)
  after_each (Push i) b h = record {
    atoms_each = all_set (EachInExp Q) b.atoms i S.no_operand h.atoms_each (origin, tt);
    stack_each = (all_get_or (EachInExp Q) b.atoms i S.no_operand h.atoms_each (origin, tt), h.stack_each);
  }
  after_each Apply b h = record { atoms_each = h.atoms_each; stack_each = applied_each b.stack h.stack_each }
  after_each (Combine i) b h =
      let f = get_or b.atoms i S.no_operand in
      record {
        atoms_each = all_set (EachInExp Q) b.atoms i S.no_operand h.atoms_each (origin, tt);
        stack_each = combined_each (S.operator_of f) b.stack (operator_each f (all_get_or (EachInExp Q) b.atoms i S.no_operand h.atoms_each (origin, tt))) h.stack_each;
      }

  joined_each : (e : Exp Place) (es : List (Exp Place)) → EachInExp Q e → EachExp es → EachInExp Q (S.joined e es)
  joined_each e [] h k = h
  joined_each e (f ∷ es) h k = joined_each (apply (S.exp_place f) f e) es (exp_place_each f k.0, k.0, h) k.1

  all_of_each : (es : List (Exp Place)) → EachExp es → EachInExp Q (S.all_of es)
  all_of_each [] h = (origin, tt)
  all_of_each (e ∷ es) h = joined_each e es h.0 h.1

  steps_each : (ss : List Step) (b : S.Building) → EachBuilt b → EachInExp Q (S.exp_of_steps ss b)
  steps_each [] b h = all_of_each b.stack h.stack_each
  steps_each (s ∷ ss) b h = steps_each ss (S.after s b) (after_each s b h)

  typed_by_each : (p : Place) (e : Exp Place) (ts : Tys Place) → Q p → EachInExp Q e → EachInTys Q ts → EachInExp Q (S.typed_by p e ts)
  typed_by_each p e no_ty o h k = h
  typed_by_each p e (and_ty t ts) o h k = typed_by_each p (typed p e t) ts o (o, h, k.0) k.1

  shaped_each : (s : Option Shape) (es : Exps Place) → EachInExps Q es → EachInExp Q (S.shaped s es)
  shaped_each (Some (tree steps)) es h = steps_each steps (S.starting (S.list_of_exps es)) (record { atoms_each = listed_each es h; stack_each = tt })
  shaped_each (Some (headed how)) es h = (origin, tt)
  shaped_each None es h = all_get_or (EachInExp Q) (S.list_of_exps es) 0 S.no_operand (listed_each es h) (origin, tt)

  sequence_exp_each : (s : Option Shape) (es : Exps Place) (ts : Tys Place) → EachInExps Q es → EachInTys Q ts → EachInExp Q (S.sequence_exp s es ts)
  sequence_exp_each s es ts h k =
      let e = shaped_each s es h in
      typed_by_each (S.exp_place (S.shaped s es)) (S.shaped s es) ts (exp_place_each (S.shaped s es) e) e k

  -- an expression and what stands after it
  conjunction_each : (p : Place) (e : Exp Place) (a : Option (Exp Place)) → Q p → EachInExp Q e → EachInExpIfAny Q a → EachInExp Q (conjunction p e a)
  conjunction_each p e None o h k = h
  conjunction_each p e (Some a) o h k = andalso_of_each Q p e a o h k

  disjunction_each : (p : Place) (e : Exp Place) (a : Option (Exp Place)) → Q p → EachInExp Q e → EachInExpIfAny Q a → EachInExp Q (disjunction p e a)
  disjunction_each p e None o h k = h
  disjunction_each p e (Some a) o h k = orelse_of_each Q p e a o h k

  handled_each : (p : Place) (e : Exp Place) (rs : Option (Rules Place)) → Q p → EachInExp Q e → EachInRulesIfAny Q rs → EachInExp Q (handled p e rs)
  handled_each p e None o h k = h
  handled_each p e (Some rs) o h k = (o, h, k)

  with_operand_each : (e : Exp Place) (v : Phrase) → EachInExp Q e → EachInPhrase Q v → EachInPhrase Q (with_operand e v)
  with_operand_each e (of_rest es ts a o rs) h k = ((h, k.0), k.1, k.2, k.3, k.4)
  with_operand_each e v h k = (h, exps_in_each Q origin v k)

  with_type_each : (t : Ty Place) (v : Phrase) → EachInTy Q t → EachInPhrase Q v → EachInPhrase Q (with_type t v)
  with_type_each t (of_rest es ts a o rs) h k = (k.0, (h, k.1), k.2, k.3, k.4)
  with_type_each t v h k = (tt, (h, tt), tt, tt, tt)

  whole_each : (p : Place) (s : Option Shape) (e : Exp Place) (v : Phrase) → Q p → EachInExp Q e → EachInPhrase Q v → EachInExp Q (whole p s e v)
  whole_each p s e (of_rest es ts a o rs) q h k =
      let d = S.sequence_exp s (and_exp e es) ts in
      let f = conjunction_each p d a q (sequence_exp_each s (and_exp e es) ts (h, k.0) k.1) k.2 in
      handled_each p (disjunction p (conjunction p d a) o) rs q (disjunction_each p (conjunction p d a) o q f k.3) k.4
  whole_each p s e v q h k = sequence_exp_each s (and_exp e (exps_in v)) no_ty (h, exps_in_each Q origin v k) tt

  -- expressions in brackets, and after `in`
  series_each : (p : Place) (es : Exps Place) → Q p → EachInExps Q es → EachInExp Q (series_of p es)
  series_each p no_exp o h = (o, tt)
  series_each p (and_exp e no_exp) o h = h.0
  series_each p (and_exp e (and_exp f es)) o h = sequence_of_each Q p e (series_of p (and_exp f es)) o h.0 (series_each p (and_exp f es) o h.1)

  list_each : (p : Place) (es : Exps Place) → Q p → EachInExps Q es → EachInExp Q (list_of p es)
  list_each p no_exp o h = (o, o)
  list_each p (and_exp e es) o h = cons_of_each Q p e (list_of p es) o h.0 (list_each p es o h.1)

  tuple_each : (p : Place) (es : Exps Place) → Q p → EachInExps Q es → EachInExp Q (tuple_of p es)
  tuple_each p no_exp o h = (o, tt)
  tuple_each p (and_exp e no_exp) o h = (o, h.0)
  tuple_each p (and_exp e (and_exp f es)) o h = (o, h)

  round_each : (p : Place) (v : Phrase) → Q p → EachInPhrase Q v → EachInExp Q (round_of p v)
  round_each p (of_exp e) o h = (o, h)
  round_each p (of_series es) o h = series_each p es o h
  round_each p v o h = tuple_each p (exps_in v) o (exps_in_each Q origin v h)

  round_parts_each : (e : Exp Place) (v : Phrase) → EachInExp Q e → EachInPhrase Q v → EachInPhrase Q (round_parts e v)
  round_parts_each e nothing h k = h
  round_parts_each e (of_series es) h k = (h, k)
  round_parts_each e v h k = (h, exps_in_each Q origin v k)

  body_each : (e : Exp Place) (es : Exps Place) → EachInExp Q e → EachInExps Q es → EachInExp Q (body_of e es)
  body_each e es h k = series_each (S.exp_place e) (and_exp e es) (exp_place_each e h) (h, k)

  -- the rules
  expression_parts : (rule : ExpressionRule) (p : Place) (s : Option Shape) (vs : List Phrase) → (all_empty (right_side (G.Expressions rule)) ≡ false → Q p)
      → ((k : ℕ) → EachInPhrase Q (at vs k)) → EachInPhrase Q (expression_phrase rule p s vs)
  expression_parts ExpAt p s vs o h = whole_each p s (exp_in (at vs 0)) (at vs 1) (o refl) (exp_in_each Q origin (at vs 0) (h 0)) (h 1)
  expression_parts MoreNone p s vs o h = tt
  expression_parts MoreAt p s vs o h = with_operand_each (exp_in (at vs 0)) (at vs 1) (exp_in_each Q origin (at vs 0) (h 0)) (h 1)
  expression_parts MoreColon p s vs o h = with_type_each (ty_in (at vs 1)) (at vs 2) (ty_in_each Q origin (at vs 1) (h 1)) (h 2)
  expression_parts MoreAndalso p s vs o h = (tt, tt, exp_in_each Q origin (at vs 1) (h 1), exp_if_any_each Q origin (at vs 2) (h 2), rules_if_any_each Q origin (at vs 3) (h 3))
  expression_parts MoreOrelse p s vs o h = (tt, tt, tt, exp_in_each Q origin (at vs 1) (h 1), rules_if_any_each Q origin (at vs 2) (h 2))
  expression_parts MoreHandle p s vs o h = (tt, tt, tt, tt, rules_in_each Q origin (at vs 1) (h 1))
  expression_parts TyRestNone p s vs o h = tt
  expression_parts TyRestColon p s vs o h = with_type_each (ty_in (at vs 1)) (at vs 2) (ty_in_each Q origin (at vs 1) (h 1)) (h 2)
  expression_parts TyRestAndalso p s vs o h = (tt, tt, exp_in_each Q origin (at vs 1) (h 1), exp_if_any_each Q origin (at vs 2) (h 2), rules_if_any_each Q origin (at vs 3) (h 3))
  expression_parts TyRestOrelse p s vs o h = (tt, tt, tt, exp_in_each Q origin (at vs 1) (h 1), rules_if_any_each Q origin (at vs 2) (h 2))
  expression_parts TyRestHandle p s vs o h = (tt, tt, tt, tt, rules_in_each Q origin (at vs 1) (h 1))
  expression_parts AndMoreNone p s vs o h = tt
  expression_parts AndMoreAndalso p s vs o h = h 1
  expression_parts AndRestTyp p s vs o h = conjunction_each p (exp_in (at vs 0)) (exp_if_any (at vs 1)) (o refl) (exp_in_each Q origin (at vs 0) (h 0)) (exp_if_any_each Q origin (at vs 1) (h 1))
  expression_parts OrMoreNone p s vs o h = tt
  expression_parts OrMoreOrelse p s vs o h = h 1
  expression_parts OrRestTyp p s vs o h =
      let q = o refl in
      let e = conjunction_each p (exp_in (at vs 0)) (exp_if_any (at vs 1)) q (exp_in_each Q origin (at vs 0) (h 0)) (exp_if_any_each Q origin (at vs 1) (h 1)) in
      disjunction_each p (conjunction p (exp_in (at vs 0)) (exp_if_any (at vs 1))) (exp_if_any (at vs 2)) q e (exp_if_any_each Q origin (at vs 2) (h 2))
  expression_parts HandleMoreNone p s vs o h = tt
  expression_parts HandleMoreHandle p s vs o h = h 1
  expression_parts TypAt p s vs o h =
      sequence_exp_each s (and_exp (exp_in (at vs 0)) (exps_in (at vs 1))) (tys_in (at vs 2))
      (exp_in_each Q origin (at vs 0) (h 0), exps_in_each Q origin (at vs 1) (h 1)) (tys_in_each Q origin (at vs 2) (h 2))
  expression_parts AtMoreNone p s vs o h = tt
  expression_parts AtMoreAt p s vs o h = (exp_in_each Q origin (at vs 0) (h 0), exps_in_each Q origin (at vs 1) (h 1))
  expression_parts TyMoreNone p s vs o h = tt
  expression_parts TyMoreColon p s vs o h = (ty_in_each Q origin (at vs 1) (h 1), tys_in_each Q origin (at vs 2) (h 2))
  expression_parts OpenRaise p s vs o h = (o refl, exp_in_each Q origin (at vs 1) (h 1))
  expression_parts OpenIf p s vs o h =
      if_of_each Q p (exp_in (at vs 1)) (exp_in (at vs 3)) (exp_in (at vs 5)) (o refl)
      (exp_in_each Q origin (at vs 1) (h 1)) (exp_in_each Q origin (at vs 3) (h 3)) (exp_in_each Q origin (at vs 5) (h 5))
  expression_parts OpenWhile p s vs o h = while_of_each Q p (exp_in (at vs 1)) (exp_in (at vs 3)) (o refl) (exp_in_each Q origin (at vs 1) (h 1)) (exp_in_each Q origin (at vs 3) (h 3))
  expression_parts OpenCase p s vs o h = case_of_each Q p (exp_in (at vs 1)) (rules_in (at vs 3)) (o refl) (exp_in_each Q origin (at vs 1) (h 1)) (rules_in_each Q origin (at vs 3) (h 3))
  expression_parts OpenFn p s vs o h = (o refl, rules_in_each Q origin (at vs 1) (h 1))
  expression_parts MatchPat p s vs o h = ((o refl, pat_in_each Q origin (at vs 0) (h 0), exp_in_each Q origin (at vs 2) (h 2)), rules_in_each Q origin (at vs 3) (h 3))
  expression_parts MatchMoreNone p s vs o h = tt
  expression_parts MatchMoreBar p s vs o h = h 1
  expression_parts AtNumeral p s vs o h = o refl
  expression_parts AtZeroNumeral p s vs o h = o refl
  expression_parts AtInteger p s vs o h = o refl
  expression_parts AtWordConstant p s vs o h = o refl
  expression_parts AtRealConstant p s vs o h = o refl
  expression_parts AtStringConstant p s vs o h = o refl
  expression_parts AtCharacterConstant p s vs o h = o refl
  expression_parts AtAlphanumeric p s vs o h = (o refl, name_in_each Q origin (at vs 0) (h 0))
  expression_parts AtSymbolic p s vs o h = (o refl, name_in_each Q origin (at vs 0) (h 0))
  expression_parts AtStar p s vs o h = (o refl, name_in_each Q origin (at vs 0) (h 0))
  expression_parts AtEquals p s vs o h = (o refl, name_in_each Q origin (at vs 0) (h 0))
  expression_parts AtLongAlphanumeric p s vs o h = (o refl, long_in_each Q origin (at vs 0) (h 0))
  expression_parts AtLongSymbolic p s vs o h = (o refl, long_in_each Q origin (at vs 0) (h 0))
  expression_parts AtLongStar p s vs o h = (o refl, long_in_each Q origin (at vs 0) (h 0))
  expression_parts AtOp p s vs o h = (o refl, long_in_each Q origin (at vs 1) (h 1))
  expression_parts AtOpenCurly p s vs o h = (o refl, fields_in_each Q origin (at vs 1) (h 1))
  expression_parts AtHash p s vs o h = select_each Q p (name_in (at vs 1)) (o refl) (name_in_each Q origin (at vs 1) (h 1))
  expression_parts AtOpenRound p s vs o h = round_each p (at vs 1) (o refl) (h 1)
  expression_parts AtOpenSquare p s vs o h = list_each p (exps_in (at vs 1)) (o refl) (exps_in_each Q origin (at vs 1) (h 1))
  expression_parts AtLet p s vs o h = (
    o refl,
    decs_in_each Q origin (at vs 1) (h 1),
    body_each (exp_in (at vs 3)) (exps_in (at vs 4)) (exp_in_each Q origin (at vs 3) (h 3)) (exps_in_each Q origin (at vs 4) (h 4)),
  )
  expression_parts ExpRowCloseCurly p s vs o h = tt
  expression_parts ExpRowLab p s vs o h = ((name_in_each Q origin (at vs 0) (h 0), exp_in_each Q origin (at vs 2) (h 2)), fields_in_each Q origin (at vs 3) (h 3))
  expression_parts ExpRowMoreCloseCurly p s vs o h = tt
  expression_parts ExpRowMoreComma p s vs o h = ((name_in_each Q origin (at vs 1) (h 1), exp_in_each Q origin (at vs 3) (h 3)), fields_in_each Q origin (at vs 4) (h 4))
  expression_parts ExpRoundCloseRound p s vs o h = tt
  expression_parts ExpRoundExp p s vs o h = round_parts_each (exp_in (at vs 0)) (at vs 1) (exp_in_each Q origin (at vs 0) (h 0)) (h 1)
  expression_parts ExpRoundMoreCloseRound p s vs o h = tt
  expression_parts ExpRoundMoreComma p s vs o h = (exp_in_each Q origin (at vs 1) (h 1), exps_in_each Q origin (at vs 2) (h 2))
  expression_parts ExpRoundMoreSemicolon p s vs o h = (exp_in_each Q origin (at vs 1) (h 1), exps_in_each Q origin (at vs 2) (h 2))
  expression_parts TupleMoreCloseRound p s vs o h = tt
  expression_parts TupleMoreComma p s vs o h = (exp_in_each Q origin (at vs 1) (h 1), exps_in_each Q origin (at vs 2) (h 2))
  expression_parts SequenceMoreCloseRound p s vs o h = tt
  expression_parts SequenceMoreSemicolon p s vs o h = (exp_in_each Q origin (at vs 1) (h 1), exps_in_each Q origin (at vs 2) (h 2))
  expression_parts ExpListCloseSquare p s vs o h = tt
  expression_parts ExpListExp p s vs o h = (exp_in_each Q origin (at vs 0) (h 0), exps_in_each Q origin (at vs 1) (h 1))
  expression_parts ExpListMoreCloseSquare p s vs o h = tt
  expression_parts ExpListMoreComma p s vs o h = (exp_in_each Q origin (at vs 1) (h 1), exps_in_each Q origin (at vs 2) (h 2))
  expression_parts LetMoreEnd p s vs o h = tt
  expression_parts LetMoreSemicolon p s vs o h = (exp_in_each Q origin (at vs 1) (h 1), exps_in_each Q origin (at vs 2) (h 2))
  expression_parts _ p s vs o h = h 0

  pub expression_each : (rule : ExpressionRule) (p : Place) (s : Option Shape) (vs : List Phrase) → (all_empty (right_side (G.Expressions rule)) ≡ false → Q p)
      → EachInPhrases Q vs → EachInPhrase Q (expression_phrase rule p s vs)
  expression_each rule p s vs o h = expression_parts rule p s vs o (λ k. at_each Q origin vs k h)
