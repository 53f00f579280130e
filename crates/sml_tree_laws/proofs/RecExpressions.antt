-- What stands after `rec` in expressions: sequences of atomic expressions, and the rules.
use Rattle.std.specs.Prelude.{◌≡◌, ℕ, List, [], ◌∷◌, Option, Some, None, get_or, false}
use Rattle.std.proofs.Common.{refl, inl}
use Rattle.sml_lex.specs.declared.fault.Place.{Place}
use Rattle.sml_tree.specs.Names.{Name}
use Rattle.sml_tree.specs.Types.{Ty, Tys, no_ty, and_ty}
use Rattle.sml_tree.specs.Expressions.{Exp, Exps, Rules, typed, no_exp, and_exp}
use Rattle.sml_rules.specs.Every.{Every}
use Rattle.sml_fixity.specs.declared.sequences.Step.{Step}
use Rattle.sml_fixity.specs.declared.sequences.Step.TheVariants.{Push, Apply, Combine}
use Rattle.sml_fixity.specs.Shapes.{Shape, tree, headed}
use Rattle.sml_read.specs.declared.grammar.Rule.{Rule}
use Rattle.sml_read.specs.declared.grammar.Rule.TheVariants as G
use Rattle.sml_read.specs.declared.grammar.ExpressionRule.{ExpressionRule}
use Rattle.sml_read.specs.declared.grammar.ExpressionRule.TheVariants.{ExpAt, MoreNone, MoreAt, MoreColon, MoreAndalso, MoreOrelse, MoreHandle, TyRestNone, TyRestColon, TyRestAndalso, TyRestOrelse, TyRestHandle, AndMoreNone, AndMoreAndalso, AndRestTyp, OrMoreNone, OrMoreOrelse, OrRestTyp, HandleMoreNone, HandleMoreHandle, TypAt, AtMoreNone, AtMoreAt, TyMoreNone, TyMoreColon, OpenRaise, OpenIf, OpenWhile, OpenCase, OpenFn, MatchPat, MatchMoreNone, MatchMoreBar, AtNumeral, AtZeroNumeral, AtInteger, AtWordConstant, AtRealConstant, AtStringConstant, AtCharacterConstant, AtAlphanumeric, AtSymbolic, AtStar, AtEquals, AtLongAlphanumeric, AtLongSymbolic, AtLongStar, AtOp, AtOpenCurly, AtHash, AtOpenRound, AtOpenSquare, AtLet, ExpRowCloseCurly, ExpRowLab, ExpRowMoreCloseCurly, ExpRowMoreComma, ExpRoundCloseRound, ExpRoundExp, ExpRoundMoreCloseRound, ExpRoundMoreComma, ExpRoundMoreSemicolon, TupleMoreCloseRound, TupleMoreComma, SequenceMoreCloseRound, SequenceMoreSemicolon, ExpListCloseSquare, ExpListExp, ExpListMoreCloseSquare, ExpListMoreComma, LetMoreEnd, LetMoreSemicolon}
use Rattle.sml_phrases.specs.Phrases.{Phrase, nothing, of_exp, of_series, of_rest, at, ty_in, tys_in, exp_in, exps_in, exp_if_any}
use Rattle.sml_bare_exps.specs.ExpressionSequences as E
use Rattle.sml_bare_exps.specs.ExpressionSequences.{exp_place}
use Rattle.sml_bare_exps.specs.ExpressionRules.{conjunction, disjunction, handled, with_operand, with_type, whole, series_of, list_of, tuple_of, round_of, round_parts, expression_phrase}
use Rattle.sml_derived.specs.Words.{hidden}
use Rattle.sml_flaws.specs.Flaws.{is_reserved}
use Rattle.sml_tree_laws.specs.Recursive.{ExpRec, ExpsRec}
use Rattle.sml_tree_laws.proofs.Phrases.{every_get_or, every_set}
use Rattle.sml_tree_laws.proofs.NoExpressions.{EachPart}
use Rattle.sml_tree_laws.proofs.RecPhrases.{PhraseRec, ExpRecIfAny, RulesRecIfAny, exp_rec, exps_rec, exp_rec_if_any, fields_rec, rules_rec, rules_rec_if_any, decs_rec}

-- what stands so in the parts of a phrase
abbrev pub PartsRec : Rule → List Phrase → Type 0
PartsRec rule vs = EachPart PhraseRec rule vs

exps_listed_rec : (es : Exps Place) → ExpsRec es → Every (λ e. ExpRec e) (E.list_of_exps es)
exps_listed_rec no_exp h = tt
exps_listed_rec (and_exp e es) h = (h.0, exps_listed_rec es h.1)

record ExpsBuiltRec (b : E.Building) : Type 0 where
  pub atoms_rec : Every (λ e. ExpRec e) b.atoms
  pub stack_rec : Every (λ e. ExpRec e) b.stack

exps_applied_rec : (es : List (Exp Place)) → Every (λ e. ExpRec e) es → Every (λ e. ExpRec e) (E.applied es)
exps_applied_rec [] h = tt
exps_applied_rec (x ∷ []) h = h
exps_applied_rec (x ∷ f ∷ es) h = ((h.1.0, h.0), h.1.1)

exps_combined_rec : (f : Name Place) (es : List (Exp Place)) → Every (λ e. ExpRec e) es → Every (λ e. ExpRec e) (E.combined f es)
exps_combined_rec f [] h = tt
exps_combined_rec f (b ∷ []) h = h
exps_combined_rec f (b ∷ a ∷ es) h = ((tt, (h.1.0, (h.0, tt))), h.1.1)

after_rec : (s : Step) (b : E.Building) → ExpsBuiltRec b → ExpsBuiltRec (E.after s b)
after_rec (Push i) b h = record {
  atoms_rec = every_set (λ e. ExpRec e) b.atoms i E.no_operand h.atoms_rec tt;
  stack_rec = (every_get_or (λ e. ExpRec e) b.atoms i E.no_operand h.atoms_rec tt, h.stack_rec);
}
after_rec Apply b h = record { atoms_rec = h.atoms_rec; stack_rec = exps_applied_rec b.stack h.stack_rec }
after_rec (Combine i) b h = record {
  atoms_rec = every_set (λ e. ExpRec e) b.atoms i E.no_operand h.atoms_rec tt;
  stack_rec = exps_combined_rec (E.operator_of (get_or b.atoms i E.no_operand)) b.stack h.stack_rec;
}

exps_joined_rec : (e : Exp Place) (es : List (Exp Place)) → ExpRec e → Every (λ e. ExpRec e) es → ExpRec (E.joined e es)
exps_joined_rec e [] h k = h
exps_joined_rec e (f ∷ es) h k = exps_joined_rec _ es (k.0, h) k.1

all_of_rec : (es : List (Exp Place)) → Every (λ e. ExpRec e) es → ExpRec (E.all_of es)
all_of_rec [] h = tt
all_of_rec (e ∷ es) h = exps_joined_rec e es h.0 h.1

exp_steps_rec : (ss : List Step) (b : E.Building) → ExpsBuiltRec b → ExpRec (E.exp_of_steps ss b)
exp_steps_rec [] b h = all_of_rec b.stack h.stack_rec
exp_steps_rec (s ∷ ss) b h = exp_steps_rec ss (E.after s b) (after_rec s b h)

exp_typed_rec : (p : Place) (e : Exp Place) (ts : Tys Place) → ExpRec e → ExpRec (E.typed_by p e ts)
exp_typed_rec p e no_ty h = h
exp_typed_rec p e (and_ty t ts) h = exp_typed_rec p (typed p e t) ts h

exp_shaped_rec : (s : Option Shape) (es : Exps Place) → ExpsRec es → ExpRec (E.shaped s es)
exp_shaped_rec None es h = every_get_or (λ e. ExpRec e) (E.list_of_exps es) 0 E.no_operand (exps_listed_rec es h) tt
exp_shaped_rec (Some (tree steps)) es h = exp_steps_rec steps (E.starting (E.list_of_exps es)) (record { atoms_rec = exps_listed_rec es h; stack_rec = tt })
exp_shaped_rec (Some (headed how)) es h = tt

pub sequence_exp_rec : (s : Option Shape) (es : Exps Place) (ts : Tys Place) → ExpsRec es → ExpRec (E.sequence_exp s es ts)
sequence_exp_rec s es ts h = exp_typed_rec (E.exp_place (E.shaped s es)) (E.shaped s es) ts (exp_shaped_rec s es h)

-- no hidden variable is a reserved name
hidden_free : (n : ℕ) → is_reserved (hidden n) ≡ false
unfolding hidden
hidden_free n = refl

conjunction_rec : (p : Place) (e : Exp Place) (o : Option (Exp Place)) → ExpRec e → ExpRecIfAny o → ExpRec (conjunction p e o)
conjunction_rec p e None h k = h
conjunction_rec p e (Some a) h k = ((k, (tt, tt)), h)

disjunction_rec : (p : Place) (e : Exp Place) (o : Option (Exp Place)) → ExpRec e → ExpRecIfAny o → ExpRec (disjunction p e o)
disjunction_rec p e None h k = h
disjunction_rec p e (Some a) h k = ((tt, (k, tt)), h)

handled_rec : (p : Place) (e : Exp Place) (o : Option (Rules Place)) → ExpRec e → RulesRecIfAny o → ExpRec (handled p e o)
handled_rec p e None h k = h
handled_rec p e (Some rs) h k = (h, k)

with_operand_rec : (e : Exp Place) (v : Phrase) → ExpRec e → PhraseRec v → PhraseRec (with_operand e v)
with_operand_rec e (of_rest es ts a o rs) h k = ((h, k.0), k.1, k.2, k.3)
with_operand_rec e v h k = (h, exps_rec v k)

with_type_rec : (t : Ty Place) (v : Phrase) → PhraseRec v → PhraseRec (with_type t v)
with_type_rec t (of_rest es ts a o rs) k = k
with_type_rec t v k = (tt, tt, tt, tt)

whole_rec : (p : Place) (s : Option Shape) (e : Exp Place) (v : Phrase) → ExpRec e → PhraseRec v → ExpRec (whole p s e v)
whole_rec p s e (of_rest es ts a o rs) h k =
    let d = E.sequence_exp s (and_exp e es) ts in
    let f = conjunction_rec p d a (sequence_exp_rec s (and_exp e es) ts (h, k.0)) k.1 in
    handled_rec p (disjunction p (conjunction p d a) o) rs (disjunction_rec p (conjunction p d a) o f k.2) k.3
whole_rec p s e v h k = sequence_exp_rec s (and_exp e (exps_in v)) no_ty (h, exps_rec v k)

series_rec : (p : Place) (es : Exps Place) → ExpsRec es → ExpRec (series_of p es)
series_rec p no_exp h = tt
series_rec p (and_exp e no_exp) h = h.0
series_rec p (and_exp e (and_exp f es)) h = ((series_rec p (and_exp f es) h.1, tt), h.0)

list_rec : (p : Place) (es : Exps Place) → ExpsRec es → ExpRec (list_of p es)
list_rec p no_exp h = tt
list_rec p (and_exp e es) h = (tt, (h.0, (list_rec p es h.1, tt)))

tuple_rec : (p : Place) (es : Exps Place) → ExpsRec es → ExpRec (tuple_of p es)
tuple_rec p no_exp h = tt
tuple_rec p (and_exp e no_exp) h = h.0
tuple_rec p (and_exp e (and_exp f es)) h = h

round_rec : (p : Place) (v : Phrase) → PhraseRec v → ExpRec (round_of p v)
round_rec p (of_exp e) h = h
round_rec p (of_series es) h = series_rec p es h
round_rec p v h = tuple_rec p (exps_in v) (exps_rec v h)

round_parts_rec : (e : Exp Place) (v : Phrase) → ExpRec e → PhraseRec v → PhraseRec (round_parts e v)
round_parts_rec e nothing h k = h
round_parts_rec e (of_series es) h k = (h, k)
round_parts_rec e v h k = (h, exps_rec v k)

pub expression_rec : (rule : ExpressionRule) (p : Place) (s : Option Shape) (vs : List Phrase) → PartsRec (G.Expressions rule) vs → PhraseRec (expression_phrase rule p s vs)
expression_rec ExpAt p s vs h = whole_rec p s (exp_in (at vs 0)) (at vs 1) (exp_rec (at vs 0) (h 0 refl)) (h 1 refl)
expression_rec MoreNone p s vs h = tt
expression_rec TyRestNone p s vs h = tt
expression_rec MoreAt p s vs h = with_operand_rec (exp_in (at vs 0)) (at vs 1) (exp_rec (at vs 0) (h 0 refl)) (h 1 refl)
expression_rec MoreColon p s vs h = with_type_rec (ty_in (at vs 1)) (at vs 2) (h 2 refl)
expression_rec MoreAndalso p s vs h = (tt, exp_rec (at vs 1) (h 1 refl), exp_rec_if_any (at vs 2) (h 2 refl), rules_rec_if_any (at vs 3) (h 3 refl))
expression_rec MoreOrelse p s vs h = (tt, tt, exp_rec (at vs 1) (h 1 refl), rules_rec_if_any (at vs 2) (h 2 refl))
expression_rec MoreHandle p s vs h = (tt, tt, tt, rules_rec (at vs 1) (h 1 refl))
expression_rec TyRestColon p s vs h = with_type_rec (ty_in (at vs 1)) (at vs 2) (h 2 refl)
expression_rec TyRestAndalso p s vs h = (tt, exp_rec (at vs 1) (h 1 refl), exp_rec_if_any (at vs 2) (h 2 refl), rules_rec_if_any (at vs 3) (h 3 refl))
expression_rec TyRestOrelse p s vs h = (tt, tt, exp_rec (at vs 1) (h 1 refl), rules_rec_if_any (at vs 2) (h 2 refl))
expression_rec TyRestHandle p s vs h = (tt, tt, tt, rules_rec (at vs 1) (h 1 refl))
expression_rec AndMoreNone p s vs h = tt
expression_rec OrMoreNone p s vs h = tt
expression_rec HandleMoreNone p s vs h = tt
expression_rec AndMoreAndalso p s vs h = (h 1 refl)
expression_rec OrMoreOrelse p s vs h = (h 1 refl)
expression_rec HandleMoreHandle p s vs h = (h 1 refl)
expression_rec AndRestTyp p s vs h = conjunction_rec p (exp_in (at vs 0)) (exp_if_any (at vs 1)) (exp_rec (at vs 0) (h 0 refl)) (exp_rec_if_any (at vs 1) (h 1 refl))
expression_rec OrRestTyp p s vs h = disjunction_rec p (conjunction p (exp_in (at vs 0)) (exp_if_any (at vs 1))) (exp_if_any (at vs 2)) (conjunction_rec p (exp_in (at vs 0)) (exp_if_any (at vs 1)) (exp_rec (at vs 0) (h 0 refl)) (exp_rec_if_any (at vs 1) (h 1 refl))) (exp_rec_if_any (at vs 2) (h 2 refl))
expression_rec TypAt p s vs h = sequence_exp_rec s (and_exp (exp_in (at vs 0)) (exps_in (at vs 1))) (tys_in (at vs 2)) ((exp_rec (at vs 0) (h 0 refl)), (exps_rec (at vs 1) (h 1 refl)))
expression_rec AtMoreNone p s vs h = tt
expression_rec AtMoreAt p s vs h = ((exp_rec (at vs 0) (h 0 refl)), (exps_rec (at vs 1) (h 1 refl)))
expression_rec TyMoreNone p s vs h = tt
expression_rec TyMoreColon p s vs h = tt
expression_rec OpenRaise p s vs h = (exp_rec (at vs 1) (h 1 refl))
expression_rec OpenIf p s vs h = ((exp_rec (at vs 3) (h 3 refl), (exp_rec (at vs 5) (h 5 refl), tt)), exp_rec (at vs 1) (h 1 refl))
expression_rec OpenWhile p s vs h =
    (((((λ e. inl (hidden_free 0)), tt), tt, (((((((tt, tt), tt), exp_rec (at vs 3) (h 3 refl)), (tt, tt)), exp_rec (at vs 1) (h 1 refl)), tt), tt)), tt), (tt, tt))
expression_rec OpenCase p s vs h = ((rules_rec (at vs 3) (h 3 refl)), (exp_rec (at vs 1) (h 1 refl)))
expression_rec OpenFn p s vs h = (rules_rec (at vs 1) (h 1 refl))
expression_rec MatchPat p s vs h = ((exp_rec (at vs 2) (h 2 refl)), (rules_rec (at vs 3) (h 3 refl)))
expression_rec MatchMoreNone p s vs h = tt
expression_rec MatchMoreBar p s vs h = (h 1 refl)
expression_rec AtNumeral p s vs h = tt
expression_rec AtZeroNumeral p s vs h = tt
expression_rec AtInteger p s vs h = tt
expression_rec AtWordConstant p s vs h = tt
expression_rec AtRealConstant p s vs h = tt
expression_rec AtStringConstant p s vs h = tt
expression_rec AtCharacterConstant p s vs h = tt
expression_rec AtAlphanumeric p s vs h = tt
expression_rec AtSymbolic p s vs h = tt
expression_rec AtStar p s vs h = tt
expression_rec AtEquals p s vs h = tt
expression_rec AtLongAlphanumeric p s vs h = tt
expression_rec AtLongSymbolic p s vs h = tt
expression_rec AtLongStar p s vs h = tt
expression_rec AtOp p s vs h = tt
expression_rec AtOpenCurly p s vs h = (fields_rec (at vs 1) (h 1 refl))
expression_rec AtHash p s vs h = (tt, tt)
expression_rec AtOpenRound p s vs h = round_rec p (at vs 1) (h 1 refl)
expression_rec AtOpenSquare p s vs h = list_rec p (exps_in (at vs 1)) (exps_rec (at vs 1) (h 1 refl))
expression_rec AtLet p s vs h = ((decs_rec (at vs 1) (h 1 refl)), series_rec (exp_place (exp_in (at vs 3))) (and_exp (exp_in (at vs 3)) (exps_in (at vs 4))) ((exp_rec (at vs 3) (h 3 refl)), (exps_rec (at vs 4) (h 4 refl))))
expression_rec ExpRowCloseCurly p s vs h = tt
expression_rec ExpRowMoreCloseCurly p s vs h = tt
expression_rec ExpRowLab p s vs h = ((exp_rec (at vs 2) (h 2 refl)), (fields_rec (at vs 3) (h 3 refl)))
expression_rec ExpRowMoreComma p s vs h = ((exp_rec (at vs 3) (h 3 refl)), (fields_rec (at vs 4) (h 4 refl)))
expression_rec ExpRoundCloseRound p s vs h = tt
expression_rec ExpRoundMoreCloseRound p s vs h = tt
expression_rec TupleMoreCloseRound p s vs h = tt
expression_rec SequenceMoreCloseRound p s vs h = tt
expression_rec ExpListCloseSquare p s vs h = tt
expression_rec ExpListMoreCloseSquare p s vs h = tt
expression_rec LetMoreEnd p s vs h = tt
expression_rec ExpRoundExp p s vs h = round_parts_rec (exp_in (at vs 0)) (at vs 1) (exp_rec (at vs 0) (h 0 refl)) (h 1 refl)
expression_rec ExpRoundMoreComma p s vs h = ((exp_rec (at vs 1) (h 1 refl)), (exps_rec (at vs 2) (h 2 refl)))
expression_rec ExpRoundMoreSemicolon p s vs h = ((exp_rec (at vs 1) (h 1 refl)), (exps_rec (at vs 2) (h 2 refl)))
expression_rec TupleMoreComma p s vs h = ((exp_rec (at vs 1) (h 1 refl)), (exps_rec (at vs 2) (h 2 refl)))
expression_rec SequenceMoreSemicolon p s vs h = ((exp_rec (at vs 1) (h 1 refl)), (exps_rec (at vs 2) (h 2 refl)))
expression_rec ExpListMoreComma p s vs h = ((exp_rec (at vs 1) (h 1 refl)), (exps_rec (at vs 2) (h 2 refl)))
expression_rec LetMoreSemicolon p s vs h = ((exp_rec (at vs 1) (h 1 refl)), (exps_rec (at vs 2) (h 2 refl)))
expression_rec ExpListExp p s vs h = ((exp_rec (at vs 0) (h 0 refl)), (exps_rec (at vs 1) (h 1 refl)))
expression_rec _ p s vs h = (h 0 refl)
