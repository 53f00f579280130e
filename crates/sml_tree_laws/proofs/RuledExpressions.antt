-- The matches in expressions: sequences of atomic expressions, and the rules.
use Rattle.std.specs.Prelude.{List, [], ◌∷◌, Option, Some, None, IfSome, get_or}
use Rattle.std.proofs.Common.{refl}
use Rattle.sml_lex.specs.declared.fault.Place.{Place}
use Rattle.sml_tree.specs.Names.{Name}
use Rattle.sml_tree.specs.Types.{Ty, Tys, no_ty, and_ty}
use Rattle.sml_tree.specs.Expressions.{Exp, Exps, Rules, typed, no_exp, and_exp}
use Rattle.sml_rules.specs.Every.{Every}
use Rattle.sml_fixity.specs.declared.sequences.Step.{Step}
use Rattle.sml_fixity.specs.declared.sequences.Step.TheVariants.{Push, Apply, Combine}
use Rattle.sml_fixity.specs.Shapes.{Shape, tree, headed}
use Rattle.sml_read.specs.Grammar.{right_side}
use Rattle.sml_read.specs.Parts.{part_of}
use Rattle.sml_read.specs.declared.grammar.Part.TheVariants as Part
use Rattle.sml_read.specs.declared.grammar.Symbol.{Symbol}
use Rattle.sml_read.specs.declared.grammar.Symbol.TheVariants.{Of}
use Rattle.sml_read.specs.declared.grammar.Rule.{Rule}
use Rattle.sml_read.specs.declared.grammar.Rule.TheVariants as G
use Rattle.sml_read.specs.declared.grammar.ExpressionRule.{ExpressionRule}
use Rattle.sml_read.specs.declared.grammar.ExpressionRule.TheVariants.{ExpAt, MoreNone, MoreAt, MoreColon, MoreAndalso, MoreOrelse, MoreHandle, TyRestNone, TyRestColon, TyRestAndalso, TyRestOrelse, TyRestHandle, AndMoreNone, AndMoreAndalso, AndRestTyp, OrMoreNone, OrMoreOrelse, OrRestTyp, HandleMoreNone, HandleMoreHandle, TypAt, AtMoreNone, AtMoreAt, TyMoreNone, TyMoreColon, OpenRaise, OpenIf, OpenWhile, OpenCase, OpenFn, MatchPat, MatchMoreNone, MatchMoreBar, AtNumeral, AtZeroNumeral, AtInteger, AtWordConstant, AtRealConstant, AtStringConstant, AtCharacterConstant, AtAlphanumeric, AtSymbolic, AtStar, AtEquals, AtLongAlphanumeric, AtLongSymbolic, AtLongStar, AtOp, AtOpenCurly, AtHash, AtOpenRound, AtOpenSquare, AtLet, ExpRowCloseCurly, ExpRowLab, ExpRowMoreCloseCurly, ExpRowMoreComma, ExpRoundCloseRound, ExpRoundExp, ExpRoundMoreCloseRound, ExpRoundMoreComma, ExpRoundMoreSemicolon, TupleMoreCloseRound, TupleMoreComma, SequenceMoreCloseRound, SequenceMoreSemicolon, ExpListCloseSquare, ExpListExp, ExpListMoreCloseSquare, ExpListMoreComma, LetMoreEnd, LetMoreSemicolon}
use Rattle.sml_phrases.specs.Phrases.{Phrase, nothing, of_exp, of_series, of_rules, of_rest, at, ty_in, tys_in, exp_in, exps_in, exp_if_any, rules_in, rules_if_any}
use Rattle.sml_bare_exps.specs.ExpressionSequences as E
use Rattle.sml_bare_exps.specs.ExpressionSequences.{exp_place}
use Rattle.sml_bare_exps.specs.ExpressionRules.{conjunction, disjunction, handled, with_operand, with_type, whole, series_of, list_of, tuple_of, round_of, round_parts, expression_phrase}
use Rattle.sml_tree_laws.specs.Matches.{HasRule, ExpRuled, ExpsRuled}
use Rattle.sml_tree_laws.proofs.Phrases.{every_get_or, every_set}
use Rattle.sml_tree_laws.proofs.NoExpressions.{EachPart}
use Rattle.sml_tree_laws.proofs.PartWalk.{AllOf}
use Rattle.sml_tree_laws.proofs.RuledPhrases.{MatchRuled, PhraseRuled, exp_ruled, exps_ruled, exp_ruled_if_any, fields_ruled, rules_ruled, match_if_any, decs_ruled}

-- a phrase that is a match by its symbol has a rule
abbrev pub Begun : Symbol → Phrase → Type 0
Begun (Of Part.Match) v = HasRule (rules_in v)
Begun (Of Part.HandleMore) v = IfSome (rules_if_any v) HasRule
Begun _ v = Unit {0}

begun_if_any : (v : Phrase) → HasRule (rules_in v) → IfSome (rules_if_any v) HasRule
begun_if_any (of_rules rs) h = h
begun_if_any _ h = tt

pub expression_begun : (rule : ExpressionRule) (p : Place) (s : Option Shape) (vs : List Phrase) → AllOf Begun (right_side (G.Expressions rule)) 0 vs
    → Begun (Of (part_of (G.Expressions rule))) (expression_phrase rule p s vs)
expression_begun MatchPat p s vs b = tt
expression_begun HandleMoreNone p s vs b = tt
expression_begun HandleMoreHandle p s vs b = begun_if_any (at vs 1) b.1.0
expression_begun _ p s vs b = tt

-- what stands so in the parts of a phrase
abbrev pub PartsRuled : Rule → List Phrase → Type 0
PartsRuled rule vs = EachPart PhraseRuled rule vs

exps_listed_ruled : (es : Exps Place) → ExpsRuled es → Every (λ e. ExpRuled e) (E.list_of_exps es)
exps_listed_ruled no_exp h = tt
exps_listed_ruled (and_exp e es) h = (h.0, exps_listed_ruled es h.1)

record ExpsBuilt (b : E.Building) : Type 0 where
  pub atoms_ruled : Every (λ e. ExpRuled e) b.atoms
  pub stack_ruled : Every (λ e. ExpRuled e) b.stack

exps_applied_ruled : (es : List (Exp Place)) → Every (λ e. ExpRuled e) es → Every (λ e. ExpRuled e) (E.applied es)
exps_applied_ruled [] h = tt
exps_applied_ruled (x ∷ []) h = h
exps_applied_ruled (x ∷ f ∷ es) h = ((h.1.0, h.0), h.1.1)

exps_combined_ruled : (f : Name Place) (es : List (Exp Place)) → Every (λ e. ExpRuled e) es → Every (λ e. ExpRuled e) (E.combined f es)
exps_combined_ruled f [] h = tt
exps_combined_ruled f (b ∷ []) h = h
exps_combined_ruled f (b ∷ a ∷ es) h = ((tt, (h.1.0, (h.0, tt))), h.1.1)

after_ruled : (s : Step) (b : E.Building) → ExpsBuilt b → ExpsBuilt (E.after s b)
after_ruled (Push i) b h = record {
  atoms_ruled = every_set (λ e. ExpRuled e) b.atoms i E.no_operand h.atoms_ruled tt;
  stack_ruled = (every_get_or (λ e. ExpRuled e) b.atoms i E.no_operand h.atoms_ruled tt, h.stack_ruled);
}
after_ruled Apply b h = record { atoms_ruled = h.atoms_ruled; stack_ruled = exps_applied_ruled b.stack h.stack_ruled }
after_ruled (Combine i) b h = record {
  atoms_ruled = every_set (λ e. ExpRuled e) b.atoms i E.no_operand h.atoms_ruled tt;
  stack_ruled = exps_combined_ruled (E.operator_of (get_or b.atoms i E.no_operand)) b.stack h.stack_ruled;
}

exps_joined_ruled : (e : Exp Place) (es : List (Exp Place)) → ExpRuled e → Every (λ e. ExpRuled e) es → ExpRuled (E.joined e es)
exps_joined_ruled e [] h k = h
exps_joined_ruled e (f ∷ es) h k = exps_joined_ruled _ es (k.0, h) k.1

all_of_ruled : (es : List (Exp Place)) → Every (λ e. ExpRuled e) es → ExpRuled (E.all_of es)
all_of_ruled [] h = tt
all_of_ruled (e ∷ es) h = exps_joined_ruled e es h.0 h.1

exp_steps_ruled : (ss : List Step) (b : E.Building) → ExpsBuilt b → ExpRuled (E.exp_of_steps ss b)
exp_steps_ruled [] b h = all_of_ruled b.stack h.stack_ruled
exp_steps_ruled (s ∷ ss) b h = exp_steps_ruled ss (E.after s b) (after_ruled s b h)

exp_typed_ruled : (p : Place) (e : Exp Place) (ts : Tys Place) → ExpRuled e → ExpRuled (E.typed_by p e ts)
exp_typed_ruled p e no_ty h = h
exp_typed_ruled p e (and_ty t ts) h = exp_typed_ruled p (typed p e t) ts h

exp_shaped_ruled : (s : Option Shape) (es : Exps Place) → ExpsRuled es → ExpRuled (E.shaped s es)
exp_shaped_ruled None es h = every_get_or (λ e. ExpRuled e) (E.list_of_exps es) 0 E.no_operand (exps_listed_ruled es h) tt
exp_shaped_ruled (Some (tree steps)) es h = exp_steps_ruled steps (E.starting (E.list_of_exps es)) (record { atoms_ruled = exps_listed_ruled es h; stack_ruled = tt })
exp_shaped_ruled (Some (headed how)) es h = tt

pub sequence_exp_ruled : (s : Option Shape) (es : Exps Place) (ts : Tys Place) → ExpsRuled es → ExpRuled (E.sequence_exp s es ts)
sequence_exp_ruled s es ts h = exp_typed_ruled (E.exp_place (E.shaped s es)) (E.shaped s es) ts (exp_shaped_ruled s es h)

conjunction_ruled : (p : Place) (e : Exp Place) (o : Option (Exp Place)) → ExpRuled e → IfSome o ExpRuled → ExpRuled (conjunction p e o)
conjunction_ruled p e None h k = h
conjunction_ruled p e (Some a) h k = ((tt, (k, (tt, tt))), h)

disjunction_ruled : (p : Place) (e : Exp Place) (o : Option (Exp Place)) → ExpRuled e → IfSome o ExpRuled → ExpRuled (disjunction p e o)
disjunction_ruled p e None h k = h
disjunction_ruled p e (Some a) h k = ((tt, (tt, (k, tt))), h)

handled_ruled : (p : Place) (e : Exp Place) (o : Option (Rules Place)) → ExpRuled e → IfSome o MatchRuled → ExpRuled (handled p e o)
handled_ruled p e None h k = h
handled_ruled p e (Some rs) h k = (h, k.0, k.1)

with_operand_ruled : (e : Exp Place) (v : Phrase) → ExpRuled e → PhraseRuled v → PhraseRuled (with_operand e v)
with_operand_ruled e (of_rest es ts a o rs) h k = ((h, k.0), k.1, k.2, k.3)
with_operand_ruled e v h k = (h, exps_ruled v k)

with_type_ruled : (t : Ty Place) (v : Phrase) → PhraseRuled v → PhraseRuled (with_type t v)
with_type_ruled t (of_rest es ts a o rs) k = k
with_type_ruled t v k = (tt, tt, tt, tt)

whole_ruled : (p : Place) (s : Option Shape) (e : Exp Place) (v : Phrase) → ExpRuled e → PhraseRuled v → ExpRuled (whole p s e v)
whole_ruled p s e (of_rest es ts a o rs) h k =
    let d = E.sequence_exp s (and_exp e es) ts in
    let f = conjunction_ruled p d a (sequence_exp_ruled s (and_exp e es) ts (h, k.0)) k.1 in
    handled_ruled p (disjunction p (conjunction p d a) o) rs (disjunction_ruled p (conjunction p d a) o f k.2) k.3
whole_ruled p s e v h k = sequence_exp_ruled s (and_exp e (exps_in v)) no_ty (h, exps_ruled v k)

series_ruled : (p : Place) (es : Exps Place) → ExpsRuled es → ExpRuled (series_of p es)
series_ruled p no_exp h = tt
series_ruled p (and_exp e no_exp) h = h.0
series_ruled p (and_exp e (and_exp f es)) h = ((tt, (series_ruled p (and_exp f es) h.1, tt)), h.0)

list_ruled : (p : Place) (es : Exps Place) → ExpsRuled es → ExpRuled (list_of p es)
list_ruled p no_exp h = tt
list_ruled p (and_exp e es) h = (tt, (h.0, (list_ruled p es h.1, tt)))

tuple_ruled : (p : Place) (es : Exps Place) → ExpsRuled es → ExpRuled (tuple_of p es)
tuple_ruled p no_exp h = tt
tuple_ruled p (and_exp e no_exp) h = h.0
tuple_ruled p (and_exp e (and_exp f es)) h = h

round_ruled : (p : Place) (v : Phrase) → PhraseRuled v → ExpRuled (round_of p v)
round_ruled p (of_exp e) h = h
round_ruled p (of_series es) h = series_ruled p es h
round_ruled p v h = tuple_ruled p (exps_in v) (exps_ruled v h)

round_parts_ruled : (e : Exp Place) (v : Phrase) → ExpRuled e → PhraseRuled v → PhraseRuled (round_parts e v)
round_parts_ruled e nothing h k = h
round_parts_ruled e (of_series es) h k = (h, k)
round_parts_ruled e v h k = (h, exps_ruled v k)

pub expression_ruled : (rule : ExpressionRule) (p : Place) (s : Option Shape) (vs : List Phrase) → PartsRuled (G.Expressions rule) vs → AllOf Begun (right_side (G.Expressions rule)) 0 vs
    → PhraseRuled (expression_phrase rule p s vs)
expression_ruled ExpAt p s vs h b = whole_ruled p s (exp_in (at vs 0)) (at vs 1) (exp_ruled (at vs 0) (h 0 refl)) (h 1 refl)
expression_ruled MoreNone p s vs h b = tt
expression_ruled TyRestNone p s vs h b = tt
expression_ruled MoreAt p s vs h b = with_operand_ruled (exp_in (at vs 0)) (at vs 1) (exp_ruled (at vs 0) (h 0 refl)) (h 1 refl)
expression_ruled MoreColon p s vs h b = with_type_ruled (ty_in (at vs 1)) (at vs 2) (h 2 refl)
expression_ruled MoreAndalso p s vs h b = (tt, exp_ruled (at vs 1) (h 1 refl), exp_ruled_if_any (at vs 2) (h 2 refl), match_if_any (at vs 3) (h 3 refl) b.1.1.1.0)
expression_ruled MoreOrelse p s vs h b = (tt, tt, exp_ruled (at vs 1) (h 1 refl), match_if_any (at vs 2) (h 2 refl) b.1.1.0)
expression_ruled MoreHandle p s vs h b = (tt, tt, tt, (b.1.0, rules_ruled (at vs 1) (h 1 refl)))
expression_ruled TyRestColon p s vs h b = with_type_ruled (ty_in (at vs 1)) (at vs 2) (h 2 refl)
expression_ruled TyRestAndalso p s vs h b = (tt, exp_ruled (at vs 1) (h 1 refl), exp_ruled_if_any (at vs 2) (h 2 refl), match_if_any (at vs 3) (h 3 refl) b.1.1.1.0)
expression_ruled TyRestOrelse p s vs h b = (tt, tt, exp_ruled (at vs 1) (h 1 refl), match_if_any (at vs 2) (h 2 refl) b.1.1.0)
expression_ruled TyRestHandle p s vs h b = (tt, tt, tt, (b.1.0, rules_ruled (at vs 1) (h 1 refl)))
expression_ruled AndMoreNone p s vs h b = tt
expression_ruled OrMoreNone p s vs h b = tt
expression_ruled HandleMoreNone p s vs h b = tt
expression_ruled AndMoreAndalso p s vs h b = h 1 refl
expression_ruled OrMoreOrelse p s vs h b = h 1 refl
expression_ruled HandleMoreHandle p s vs h b = h 1 refl
expression_ruled AndRestTyp p s vs h b = conjunction_ruled p (exp_in (at vs 0)) (exp_if_any (at vs 1)) (exp_ruled (at vs 0) (h 0 refl)) (exp_ruled_if_any (at vs 1) (h 1 refl))
expression_ruled OrRestTyp p s vs h b =
    disjunction_ruled p (conjunction p (exp_in (at vs 0)) (exp_if_any (at vs 1))) (exp_if_any (at vs 2))
    (conjunction_ruled p (exp_in (at vs 0)) (exp_if_any (at vs 1)) (exp_ruled (at vs 0) (h 0 refl)) (exp_ruled_if_any (at vs 1) (h 1 refl)))
    (exp_ruled_if_any (at vs 2) (h 2 refl))
expression_ruled TypAt p s vs h b =
    sequence_exp_ruled s (and_exp (exp_in (at vs 0)) (exps_in (at vs 1))) (tys_in (at vs 2)) (exp_ruled (at vs 0) (h 0 refl), exps_ruled (at vs 1) (h 1 refl))
expression_ruled AtMoreNone p s vs h b = tt
expression_ruled AtMoreAt p s vs h b = (exp_ruled (at vs 0) (h 0 refl), exps_ruled (at vs 1) (h 1 refl))
expression_ruled TyMoreNone p s vs h b = tt
expression_ruled TyMoreColon p s vs h b = tt
expression_ruled OpenRaise p s vs h b = exp_ruled (at vs 1) (h 1 refl)
expression_ruled OpenIf p s vs h b = ((tt, (exp_ruled (at vs 3) (h 3 refl), (exp_ruled (at vs 5) (h 5 refl), tt))), exp_ruled (at vs 1) (h 1 refl))
expression_ruled OpenWhile p s vs h b =
    (((tt, ((tt, (((tt, (((tt, ((tt, tt), tt)), exp_ruled (at vs 3) (h 3 refl)), (tt, tt))), exp_ruled (at vs 1) (h 1 refl)), tt)), tt)), tt), (tt, tt))
expression_ruled OpenCase p s vs h b = ((b.1.1.1.0, rules_ruled (at vs 3) (h 3 refl)), exp_ruled (at vs 1) (h 1 refl))
expression_ruled OpenFn p s vs h b = (b.1.0, rules_ruled (at vs 1) (h 1 refl))
expression_ruled MatchPat p s vs h b = (exp_ruled (at vs 2) (h 2 refl), rules_ruled (at vs 3) (h 3 refl))
expression_ruled MatchMoreNone p s vs h b = tt
expression_ruled MatchMoreBar p s vs h b = h 1 refl
expression_ruled AtNumeral p s vs h b = tt
expression_ruled AtZeroNumeral p s vs h b = tt
expression_ruled AtInteger p s vs h b = tt
expression_ruled AtWordConstant p s vs h b = tt
expression_ruled AtRealConstant p s vs h b = tt
expression_ruled AtStringConstant p s vs h b = tt
expression_ruled AtCharacterConstant p s vs h b = tt
expression_ruled AtAlphanumeric p s vs h b = tt
expression_ruled AtSymbolic p s vs h b = tt
expression_ruled AtStar p s vs h b = tt
expression_ruled AtEquals p s vs h b = tt
expression_ruled AtLongAlphanumeric p s vs h b = tt
expression_ruled AtLongSymbolic p s vs h b = tt
expression_ruled AtLongStar p s vs h b = tt
expression_ruled AtOp p s vs h b = tt
expression_ruled AtOpenCurly p s vs h b = fields_ruled (at vs 1) (h 1 refl)
expression_ruled AtHash p s vs h b = (tt, (tt, tt))
expression_ruled AtOpenRound p s vs h b = round_ruled p (at vs 1) (h 1 refl)
expression_ruled AtOpenSquare p s vs h b = list_ruled p (exps_in (at vs 1)) (exps_ruled (at vs 1) (h 1 refl))
expression_ruled AtLet p s vs h b = (
  decs_ruled (at vs 1) (h 1 refl),
  series_ruled (exp_place (exp_in (at vs 3))) (and_exp (exp_in (at vs 3)) (exps_in (at vs 4))) (exp_ruled (at vs 3) (h 3 refl), exps_ruled (at vs 4) (h 4 refl)),
)
expression_ruled ExpRowCloseCurly p s vs h b = tt
expression_ruled ExpRowMoreCloseCurly p s vs h b = tt
expression_ruled ExpRowLab p s vs h b = (exp_ruled (at vs 2) (h 2 refl), fields_ruled (at vs 3) (h 3 refl))
expression_ruled ExpRowMoreComma p s vs h b = (exp_ruled (at vs 3) (h 3 refl), fields_ruled (at vs 4) (h 4 refl))
expression_ruled ExpRoundCloseRound p s vs h b = tt
expression_ruled ExpRoundMoreCloseRound p s vs h b = tt
expression_ruled TupleMoreCloseRound p s vs h b = tt
expression_ruled SequenceMoreCloseRound p s vs h b = tt
expression_ruled ExpListCloseSquare p s vs h b = tt
expression_ruled ExpListMoreCloseSquare p s vs h b = tt
expression_ruled LetMoreEnd p s vs h b = tt
expression_ruled ExpRoundExp p s vs h b = round_parts_ruled (exp_in (at vs 0)) (at vs 1) (exp_ruled (at vs 0) (h 0 refl)) (h 1 refl)
expression_ruled ExpRoundMoreComma p s vs h b = (exp_ruled (at vs 1) (h 1 refl), exps_ruled (at vs 2) (h 2 refl))
expression_ruled ExpRoundMoreSemicolon p s vs h b = (exp_ruled (at vs 1) (h 1 refl), exps_ruled (at vs 2) (h 2 refl))
expression_ruled TupleMoreComma p s vs h b = (exp_ruled (at vs 1) (h 1 refl), exps_ruled (at vs 2) (h 2 refl))
expression_ruled SequenceMoreSemicolon p s vs h b = (exp_ruled (at vs 1) (h 1 refl), exps_ruled (at vs 2) (h 2 refl))
expression_ruled ExpListMoreComma p s vs h b = (exp_ruled (at vs 1) (h 1 refl), exps_ruled (at vs 2) (h 2 refl))
expression_ruled LetMoreSemicolon p s vs h b = (exp_ruled (at vs 1) (h 1 refl), exps_ruled (at vs 2) (h 2 refl))
expression_ruled ExpListExp p s vs h b = (exp_ruled (at vs 0) (h 0 refl), exps_ruled (at vs 1) (h 1 refl))
expression_ruled _ p s vs h b = h 0 refl
