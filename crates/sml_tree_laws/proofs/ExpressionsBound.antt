-- The rules of expressions.
use Rattle.sml_read.specs.Grammar.{right_side}
use Rattle.sml_read.specs.Parts.{part_of}
use Rattle.sml_read.specs.declared.grammar.Symbol.TheVariants.{Of}
use Rattle.std.specs.Prelude.{ℕ, suc, ◌≤◌, ◌<◌, length, get_or, List, [], ◌∷◌, Option, Some, None}
use Rattle.std.proofs.Common.{refl, arith}
use Rattle.sml_lex.specs.declared.fault.Place.{Place}
use Rattle.sml_tree.specs.Trees.{Id}
use Rattle.sml_tree.specs.Names.{Name}
use Rattle.sml_read.specs.declared.grammar.Rule.TheVariants as G
use Rattle.sml_phrases.specs.Phrases.{Phrase, nothing, of_exp, of_series, of_rest, at, name_in, ty_in, tys_in, exp_in, exps_in, fields_in, exp_if_any}
use Rattle.sml_flaws.specs.declared.role.Space.{Space}
use Rattle.sml_flaws.specs.declared.role.Space.TheVariants as S
use Rattle.sml_tree_laws.specs.WellBound.{AreDistinct, TyBound, TysBound, labels, ExpBound, ExpsBound}
use Rattle.sml_tree_laws.proofs.Named.{distinct}
use Rattle.sml_tree_laws.proofs.PhrasesBound.{plain, class_of, ExpBoundIfAny, RulesBoundIfAny, PhraseBound}
use Rattle.sml_tree_laws.proofs.AccessorsBound.{ty_bound, tys_bound, pat_bound, exp_bound, exps_bound, exp_bound_if_any, rules_bound, rules_bound_if_any, decs_bound, fields_bound}
use Rattle.sml_tree_laws.proofs.PartsBound.{PartsBound, two, pass}
use Rattle.sml_tree.specs.Types.{Ty, Tys, no_ty, and_ty}
use Rattle.sml_tree.specs.Expressions.{Exp, Exps, Rules, typed, no_exp, and_exp}
use Rattle.sml_rules.specs.Every.{Every}
use Rattle.sml_objects.specs.Appearance.{Stands}
use Rattle.sml_fixity.specs.declared.sequences.Step.{Step}
use Rattle.sml_fixity.specs.declared.sequences.Step.TheVariants.{Push, Apply, Combine}
use Rattle.sml_fixity.specs.Shapes.{Shape, tree, headed}
use Rattle.sml_read.specs.declared.grammar.ExpressionRule.{ExpressionRule}
use Rattle.sml_read.specs.declared.grammar.ExpressionRule.TheVariants.{ExpAt, MoreNone, MoreAt, MoreColon, MoreAndalso, MoreOrelse, MoreHandle, TyRestNone, TyRestColon, TyRestAndalso, TyRestOrelse, TyRestHandle, AndMoreNone, AndMoreAndalso, AndRestTyp, OrMoreNone, OrMoreOrelse, OrRestTyp, HandleMoreNone, HandleMoreHandle, TypAt, AtMoreNone, AtMoreAt, TyMoreNone, TyMoreColon, OpenRaise, OpenIf, OpenWhile, OpenCase, OpenFn, MatchPat, MatchMoreNone, MatchMoreBar, AtNumeral, AtZeroNumeral, AtInteger, AtWordConstant, AtRealConstant, AtStringConstant, AtCharacterConstant, AtAlphanumeric, AtSymbolic, AtStar, AtEquals, AtLongAlphanumeric, AtLongSymbolic, AtLongStar, AtOp, AtOpenCurly, AtHash, AtOpenRound, AtOpenSquare, AtLet, ExpRowCloseCurly, ExpRowLab, ExpRowMoreCloseCurly, ExpRowMoreComma, ExpRoundCloseRound, ExpRoundExp, ExpRoundMoreCloseRound, ExpRoundMoreComma, ExpRoundMoreSemicolon, TupleMoreCloseRound, TupleMoreComma, SequenceMoreCloseRound, SequenceMoreSemicolon, ExpListCloseSquare, ExpListExp, ExpListMoreCloseSquare, ExpListMoreComma, LetMoreEnd, LetMoreSemicolon}
use Rattle.sml_bare_exps.specs.ExpressionSequences as E
use Rattle.sml_bare_exps.specs.ExpressionRules.{conjunction, disjunction, handled, with_operand, with_type, whole, series_of, list_of, tuple_of, round_of, round_parts, expression_phrase}
use Rattle.sml_tree_laws.proofs.Phrases.{every_get_or, every_set}

abbrev EachExp : List (Exp Place) → Type 0
EachExp es = Every (λ e. ExpBound e) es

exps_listed : (es : Exps Place) → ExpsBound es → EachExp (E.list_of_exps es)
exps_listed no_exp h = tt
exps_listed (and_exp e es) h = (h.0, exps_listed es h.1)

record ExpsBuilt (b : E.Building) : Type 0 where
  pub atoms_bound : EachExp b.atoms
  pub stack_bound : EachExp b.stack

exps_applied : (es : List (Exp Place)) → EachExp es → EachExp (E.applied es)
exps_applied [] h = tt
exps_applied (x ∷ []) h = h
exps_applied (x ∷ f ∷ es) h = ((h.1.0, h.0), h.1.1)

exps_combined : (f : Name Place) (es : List (Exp Place)) → EachExp es → EachExp (E.combined f es)
exps_combined f [] h = tt
exps_combined f (b ∷ []) h = h
exps_combined f (b ∷ a ∷ es) h = ((tt, (h.1.0, (h.0, tt))), h.1.1)

after_bound : (s : Step) (b : E.Building) → ExpsBuilt b → ExpsBuilt (E.after s b)
after_bound (Push i) b h = record {
  atoms_bound = every_set (λ e. ExpBound e) b.atoms i E.no_operand h.atoms_bound tt;
  stack_bound = (every_get_or (λ e. ExpBound e) b.atoms i E.no_operand h.atoms_bound tt, h.stack_bound);
}
after_bound Apply b h = record { atoms_bound = h.atoms_bound; stack_bound = exps_applied b.stack h.stack_bound }
after_bound (Combine i) b h = record {
  atoms_bound = every_set (λ e. ExpBound e) b.atoms i E.no_operand h.atoms_bound tt;
  stack_bound = exps_combined (E.operator_of (get_or b.atoms i E.no_operand)) b.stack h.stack_bound;
}

exps_joined : (e : Exp Place) (es : List (Exp Place)) → ExpBound e → EachExp es → ExpBound (E.joined e es)
exps_joined e [] h k = h
exps_joined e (f ∷ es) h k = exps_joined _ es (k.0, h) k.1

all_of_bound : (es : List (Exp Place)) → EachExp es → ExpBound (E.all_of es)
all_of_bound [] h = tt
all_of_bound (e ∷ es) h = exps_joined e es h.0 h.1

exp_steps_bound : (ss : List Step) (b : E.Building) → ExpsBuilt b → ExpBound (E.exp_of_steps ss b)
exp_steps_bound [] b h = all_of_bound b.stack h.stack_bound
exp_steps_bound (s ∷ ss) b h = exp_steps_bound ss (E.after s b) (after_bound s b h)

exp_typed_by : (p : Place) (e : Exp Place) (ts : Tys Place) → ExpBound e → TysBound ts → ExpBound (E.typed_by p e ts)
exp_typed_by p e no_ty h k = h
exp_typed_by p e (and_ty t ts) h k = exp_typed_by p (typed p e t) ts (h, k.0) k.1

exp_shaped : (s : Option Shape) (es : Exps Place) → ExpsBound es → ExpBound (E.shaped s es)
exp_shaped None es h = every_get_or (λ e. ExpBound e) (E.list_of_exps es) 0 E.no_operand (exps_listed es h) tt
exp_shaped (Some (tree steps)) es h = exp_steps_bound steps (E.starting (E.list_of_exps es)) (record { atoms_bound = exps_listed es h; stack_bound = tt })
exp_shaped (Some (headed how)) es h = tt

sequence_bound : (s : Option Shape) (es : Exps Place) (ts : Tys Place) → ExpsBound es → TysBound ts → ExpBound (E.sequence_exp s es ts)
sequence_bound s es ts h k = exp_typed_by (E.exp_place (E.shaped s es)) (E.shaped s es) ts (exp_shaped s es h) k

conjunction_bound : (p : Place) (e : Exp Place) (o : Option (Exp Place)) → ExpBound e → ExpBoundIfAny o → ExpBound (conjunction p e o)
conjunction_bound p e None h k = h
conjunction_bound p e (Some a) h k = (((tt, k), ((tt, tt), tt)), h)

disjunction_bound : (p : Place) (e : Exp Place) (o : Option (Exp Place)) → ExpBound e → ExpBoundIfAny o → ExpBound (disjunction p e o)
disjunction_bound p e None h k = h
disjunction_bound p e (Some a) h k = (((tt, tt), ((tt, k), tt)), h)

handled_bound : (p : Place) (e : Exp Place) (o : Option (Rules Place)) → ExpBound e → RulesBoundIfAny o → ExpBound (handled p e o)
handled_bound p e None h k = h
handled_bound p e (Some rs) h k = (h, k)

series_bound : (p : Place) (es : Exps Place) → ExpsBound es → ExpBound (series_of p es)
series_bound p no_exp h = tt
series_bound p (and_exp e no_exp) h = h.0
series_bound p (and_exp e (and_exp f es)) h = (((tt, series_bound p (and_exp f es) h.1), tt), h.0)

list_bound : (p : Place) (es : Exps Place) → ExpsBound es → ExpBound (list_of p es)
list_bound p no_exp h = tt
list_bound p (and_exp e es) h = (tt, (h.0, (list_bound p es h.1, tt)))

tuple_bound : (p : Place) (es : Exps Place) → ExpsBound es → ExpBound (tuple_of p es)
tuple_bound p no_exp h = tt
tuple_bound p (and_exp e no_exp) h = h.0
tuple_bound p (and_exp e (and_exp f es)) h = h

pub alone : (x : Id) → AreDistinct (x ∷ [])
unfolding Stands
alone x = ((λ s. s), tt)

module _ (B : Space → ℕ → ℕ → Id → Type 0) (apart : (sp : Space) (g t u : ℕ) (x : Id) → t < u → B sp g t x → B sp g u x → ⊥) where
  round_bound : (g lo hi : ℕ) (p : Place) (v : Phrase) → PhraseBound B plain g lo hi v → ExpBound (round_of p v)
  round_bound g lo hi p (of_exp e) h = h
  round_bound g lo hi p (of_series es) h = series_bound p es h
  round_bound g lo hi p v h = tuple_bound p (exps_in v) (exps_bound B plain g lo hi v h)

  round_parts_bound : (g lo hi lo' hi' : ℕ) (e : Exp Place) (v : Phrase) → ExpBound e → PhraseBound B plain g lo hi v → PhraseBound B plain g lo' hi' (round_parts e v)
  round_parts_bound g lo hi lo' hi' e nothing h k = h
  round_parts_bound g lo hi lo' hi' e (of_series es) h k = (h, k)
  round_parts_bound g lo hi lo' hi' e v h k = (h, exps_bound B plain g lo hi v k)

  with_operand_bound : (g lo hi lo' hi' : ℕ) (e : Exp Place) (v : Phrase) → ExpBound e → PhraseBound B plain g lo hi v → PhraseBound B plain g lo' hi' (with_operand e v)
  with_operand_bound g lo hi lo' hi' e (of_rest es ts a o rs) h k = ((h, k.0), k.1, k.2, k.3, k.4)
  with_operand_bound g lo hi lo' hi' e v h k = (h, exps_bound B plain g lo hi v k)

  with_type_bound : (g lo hi lo' hi' : ℕ) (t : Ty Place) (v : Phrase) → TyBound t → PhraseBound B plain g lo hi v → PhraseBound B plain g lo' hi' (with_type t v)
  with_type_bound g lo hi lo' hi' t (of_rest es ts a o rs) h k = (k.0, (h, k.1), k.2, k.3, k.4)
  with_type_bound g lo hi lo' hi' t v h k = (tt, (h, tt), tt, tt, tt)

  whole_bound : (g lo hi : ℕ) (p : Place) (s : Option Shape) (e : Exp Place) (v : Phrase) → ExpBound e → PhraseBound B plain g lo hi v → ExpBound (whole p s e v)
  whole_bound g lo hi p s e (of_rest es ts a o rs) h k =
      let d = E.sequence_exp s (and_exp e es) ts in
      let f = conjunction_bound p d a (sequence_bound s (and_exp e es) ts (h, k.0) k.1) k.2 in
      handled_bound p (disjunction p (conjunction p d a) o) rs (disjunction_bound p (conjunction p d a) o f k.3) k.4
  whole_bound g lo hi p s e v h k = sequence_bound s (and_exp e (exps_in v)) no_ty (h, exps_bound B plain g lo hi v k) tt

  module _ (g : ℕ) (t : ℕ → ℕ) (mono : (k : ℕ) → t k ≤ t (suc k)) where
    pub expression_bound : (rule : ExpressionRule) (p : Place) (s : Option Shape) (vs : List Phrase) → PartsBound B g t (G.Expressions rule) vs
        → PhraseBound B (class_of (Of (part_of (G.Expressions rule)))) g (t 0) (t (length (right_side (G.Expressions rule)))) (expression_phrase rule p s vs)
    expression_bound ExpAt p s vs h = whole_bound g (t 1) (t 2) p s (exp_in (at vs 0)) (at vs 1) (exp_bound B plain g (t 0) (t 1) (at vs 0) (h 0 refl).0) (h 1 refl).0
    expression_bound MoreNone p s vs h = tt
    expression_bound TyRestNone p s vs h = tt
    expression_bound MoreAt p s vs h = with_operand_bound g (t 1) (t 2) (t 0) (t 2) (exp_in (at vs 0)) (at vs 1) (exp_bound B plain g (t 0) (t 1) (at vs 0) (h 0 refl).0) (h 1 refl).0
    expression_bound MoreColon p s vs h = with_type_bound g (t 2) (t 3) (t 0) (t 3) (ty_in (at vs 1)) (at vs 2) (ty_bound B plain g (t 1) (t 2) (at vs 1) (h 1 refl).0) (h 2 refl).0
    expression_bound MoreAndalso p s vs h = (tt, tt, (exp_bound B plain g (t 1) (t 2) (at vs 1) (h 1 refl).0), exp_bound_if_any B plain g (t 2) (t 3) (at vs 2) (h 2 refl).0, rules_bound_if_any B plain g (t 3) (t 4) (at vs 3) (h 3 refl).0)
    expression_bound MoreOrelse p s vs h = (tt, tt, tt, (exp_bound B plain g (t 1) (t 2) (at vs 1) (h 1 refl).0), rules_bound_if_any B plain g (t 2) (t 3) (at vs 2) (h 2 refl).0)
    expression_bound MoreHandle p s vs h = (tt, tt, tt, tt, rules_bound B plain g (t 1) (t 2) (at vs 1) (h 1 refl).0)
    expression_bound TyRestColon p s vs h = with_type_bound g (t 2) (t 3) (t 0) (t 3) (ty_in (at vs 1)) (at vs 2) (ty_bound B plain g (t 1) (t 2) (at vs 1) (h 1 refl).0) (h 2 refl).0
    expression_bound TyRestAndalso p s vs h = (tt, tt, (exp_bound B plain g (t 1) (t 2) (at vs 1) (h 1 refl).0), exp_bound_if_any B plain g (t 2) (t 3) (at vs 2) (h 2 refl).0, rules_bound_if_any B plain g (t 3) (t 4) (at vs 3) (h 3 refl).0)
    expression_bound TyRestOrelse p s vs h = (tt, tt, tt, (exp_bound B plain g (t 1) (t 2) (at vs 1) (h 1 refl).0), rules_bound_if_any B plain g (t 2) (t 3) (at vs 2) (h 2 refl).0)
    expression_bound TyRestHandle p s vs h = (tt, tt, tt, tt, rules_bound B plain g (t 1) (t 2) (at vs 1) (h 1 refl).0)
    expression_bound AndMoreNone p s vs h = tt
    expression_bound OrMoreNone p s vs h = tt
    expression_bound HandleMoreNone p s vs h = tt
    expression_bound AndMoreAndalso p s vs h = (pass B g t mono 1 2 (at vs 1) (omega arith) (h 1 refl).0)
    expression_bound OrMoreOrelse p s vs h = (pass B g t mono 1 2 (at vs 1) (omega arith) (h 1 refl).0)
    expression_bound HandleMoreHandle p s vs h = (pass B g t mono 1 2 (at vs 1) (omega arith) (h 1 refl).0)
    expression_bound AndRestTyp p s vs h =
        conjunction_bound p (exp_in (at vs 0)) (exp_if_any (at vs 1))
        (exp_bound B plain g (t 0) (t 1) (at vs 0) (h 0 refl).0) (exp_bound_if_any B plain g (t 1) (t 2) (at vs 1) (h 1 refl).0)
    expression_bound OrRestTyp p s vs h =
        disjunction_bound p (conjunction p (exp_in (at vs 0)) (exp_if_any (at vs 1))) (exp_if_any (at vs 2))
        (conjunction_bound p (exp_in (at vs 0)) (exp_if_any (at vs 1)) (exp_bound B plain g (t 0) (t 1) (at vs 0) (h 0 refl).0) (exp_bound_if_any B plain g (t 1) (t 2) (at vs 1) (h 1 refl).0))
        (exp_bound_if_any B plain g (t 2) (t 3) (at vs 2) (h 2 refl).0)
    expression_bound TypAt p s vs h =
        sequence_bound s (and_exp (exp_in (at vs 0)) (exps_in (at vs 1))) (tys_in (at vs 2))
        ((exp_bound B plain g (t 0) (t 1) (at vs 0) (h 0 refl).0), (exps_bound B plain g (t 1) (t 2) (at vs 1) (h 1 refl).0))
        (tys_bound B plain g (t 2) (t 3) (at vs 2) (h 2 refl).0)
    expression_bound AtMoreNone p s vs h = tt
    expression_bound AtMoreAt p s vs h = ((exp_bound B plain g (t 0) (t 1) (at vs 0) (h 0 refl).0), (exps_bound B plain g (t 1) (t 2) (at vs 1) (h 1 refl).0))
    expression_bound TyMoreNone p s vs h = tt
    expression_bound TyMoreColon p s vs h = ((ty_bound B plain g (t 1) (t 2) (at vs 1) (h 1 refl).0), (tys_bound B plain g (t 2) (t 3) (at vs 2) (h 2 refl).0))
    expression_bound OpenRaise p s vs h = (exp_bound B plain g (t 1) (t 2) (at vs 1) (h 1 refl).0)
    expression_bound OpenIf p s vs h = (
      ((tt, (exp_bound B plain g (t 3) (t 4) (at vs 3) (h 3 refl).0)), ((tt, (exp_bound B plain g (t 5) (t 6) (at vs 5) (h 5 refl).0)), tt)),
      (exp_bound B plain g (t 1) (t 2) (at vs 1) (h 1 refl).0),
    )
    expression_bound OpenWhile p s vs h = (
      (
        (
          tt,
          tt,
          (
            (
              tt,
              (
                (
                  tt,
                  (
                    ((tt, (((tt, (tt, tt)), tt), (exp_bound B plain g (t 3) (t 4) (at vs 3) (h 3 refl).0))), ((tt, tt), tt)),
                    (exp_bound B plain g (t 1) (t 2) (at vs 1) (h 1 refl).0),
                  ),
                ),
                tt,
              ),
            ),
            tt,
          ),
        ),
        tt,
      ),
      (tt, tt),
    )
    expression_bound OpenCase p s vs h = ((rules_bound B plain g (t 3) (t 4) (at vs 3) (h 3 refl).0), (exp_bound B plain g (t 1) (t 2) (at vs 1) (h 1 refl).0))
    expression_bound OpenFn p s vs h = (rules_bound B plain g (t 1) (t 2) (at vs 1) (h 1 refl).0)
    expression_bound MatchPat p s vs h = (
      ((pat_bound B plain g (t 0) (t 1) (at vs 0) (h 0 refl).0), (exp_bound B plain g (t 2) (t 3) (at vs 2) (h 2 refl).0)),
      (rules_bound B plain g (t 3) (t 4) (at vs 3) (h 3 refl).0),
    )
    expression_bound MatchMoreNone p s vs h = tt
    expression_bound MatchMoreBar p s vs h = (pass B g t mono 1 2 (at vs 1) (omega arith) (h 1 refl).0)
    expression_bound AtNumeral p s vs h = tt
    expression_bound AtZeroNumeral p s vs h = tt
    expression_bound AtInteger p s vs h = tt
    expression_bound AtWordConstant p s vs h = tt
    expression_bound AtRealConstant p s vs h = tt
    expression_bound AtStringConstant p s vs h = tt
    expression_bound AtCharacterConstant p s vs h = tt
    expression_bound AtAlphanumeric p s vs h = tt
    expression_bound AtSymbolic p s vs h = tt
    expression_bound AtStar p s vs h = tt
    expression_bound AtEquals p s vs h = tt
    expression_bound AtLongAlphanumeric p s vs h = tt
    expression_bound AtLongSymbolic p s vs h = tt
    expression_bound AtLongStar p s vs h = tt
    expression_bound AtOp p s vs h = tt
    expression_bound AtOpenCurly p s vs h = (
      distinct B apart S.Labels g (t 1) (t 2) (labels (fields_in (at vs 1))) (fields_bound B plain g (t 1) (t 2) (at vs 1) (h 1 refl).0).0,
      (fields_bound B plain g (t 1) (t 2) (at vs 1) (h 1 refl).0).1,
    )
    expression_bound AtHash p s vs h = (((alone (name_in (at vs 1)).id, (tt, tt)), tt), tt)
    expression_bound AtOpenRound p s vs h = round_bound g (t 1) (t 2) p (at vs 1) (h 1 refl).0
    expression_bound AtOpenSquare p s vs h = list_bound p (exps_in (at vs 1)) (exps_bound B plain g (t 1) (t 2) (at vs 1) (h 1 refl).0)
    expression_bound AtLet p s vs h = (
      (decs_bound B plain g (t 1) (t 2) (at vs 1) (h 1 refl).0),
      series_bound (E.exp_place (exp_in (at vs 3))) (and_exp (exp_in (at vs 3)) (exps_in (at vs 4)))
          ((exp_bound B plain g (t 3) (t 4) (at vs 3) (h 3 refl).0), (exps_bound B plain g (t 4) (t 5) (at vs 4) (h 4 refl).0)),
    )
    expression_bound ExpRowCloseCurly p s vs h = (tt, tt)
    expression_bound ExpRowMoreCloseCurly p s vs h = (tt, tt)
    expression_bound ExpRowLab p s vs h = (
      two B g t mono S.Labels 0 3 4 ((name_in (at vs 0)).id ∷ []) (labels (fields_in (at vs 3))) (omega arith)
          (omega arith) (h 0 refl).1 (fields_bound B plain g (t 3) (t 4) (at vs 3) (h 3 refl).0).0,
      ((exp_bound B plain g (t 2) (t 3) (at vs 2) (h 2 refl).0), (fields_bound B plain g (t 3) (t 4) (at vs 3) (h 3 refl).0).1),
    )
    expression_bound ExpRowMoreComma p s vs h = (
      two B g t mono S.Labels 1 4 5 ((name_in (at vs 1)).id ∷ []) (labels (fields_in (at vs 4))) (omega arith)
          (omega arith) (h 1 refl).1 (fields_bound B plain g (t 4) (t 5) (at vs 4) (h 4 refl).0).0,
      ((exp_bound B plain g (t 3) (t 4) (at vs 3) (h 3 refl).0), (fields_bound B plain g (t 4) (t 5) (at vs 4) (h 4 refl).0).1),
    )
    expression_bound ExpRoundCloseRound p s vs h = tt
    expression_bound ExpRoundMoreCloseRound p s vs h = tt
    expression_bound TupleMoreCloseRound p s vs h = tt
    expression_bound SequenceMoreCloseRound p s vs h = tt
    expression_bound ExpListCloseSquare p s vs h = tt
    expression_bound ExpListMoreCloseSquare p s vs h = tt
    expression_bound LetMoreEnd p s vs h = tt
    expression_bound ExpRoundExp p s vs h = round_parts_bound g (t 1) (t 2) (t 0) (t 2) (exp_in (at vs 0)) (at vs 1) (exp_bound B plain g (t 0) (t 1) (at vs 0) (h 0 refl).0) (h 1 refl).0
    expression_bound ExpRoundMoreComma p s vs h = ((exp_bound B plain g (t 1) (t 2) (at vs 1) (h 1 refl).0), (exps_bound B plain g (t 2) (t 3) (at vs 2) (h 2 refl).0))
    expression_bound ExpRoundMoreSemicolon p s vs h = ((exp_bound B plain g (t 1) (t 2) (at vs 1) (h 1 refl).0), (exps_bound B plain g (t 2) (t 3) (at vs 2) (h 2 refl).0))
    expression_bound TupleMoreComma p s vs h = ((exp_bound B plain g (t 1) (t 2) (at vs 1) (h 1 refl).0), (exps_bound B plain g (t 2) (t 3) (at vs 2) (h 2 refl).0))
    expression_bound SequenceMoreSemicolon p s vs h = ((exp_bound B plain g (t 1) (t 2) (at vs 1) (h 1 refl).0), (exps_bound B plain g (t 2) (t 3) (at vs 2) (h 2 refl).0))
    expression_bound ExpListMoreComma p s vs h = ((exp_bound B plain g (t 1) (t 2) (at vs 1) (h 1 refl).0), (exps_bound B plain g (t 2) (t 3) (at vs 2) (h 2 refl).0))
    expression_bound LetMoreSemicolon p s vs h = ((exp_bound B plain g (t 1) (t 2) (at vs 1) (h 1 refl).0), (exps_bound B plain g (t 2) (t 3) (at vs 2) (h 2 refl).0))
    expression_bound ExpListExp p s vs h = ((exp_bound B plain g (t 0) (t 1) (at vs 0) (h 0 refl).0), (exps_bound B plain g (t 1) (t 2) (at vs 1) (h 1 refl).0))
    expression_bound _ p s vs h = (pass B g t mono 0 1 (at vs 0) (omega arith) (h 0 refl).0)
