-- What the rules of expressions make of their parts (the Definition, section 2.8): one line a rule, with the place of
-- the phrase, what its sequence stands for and all phrases from its first part on. Any other rule's phrase is its first
-- part.
use Rattle.std.specs.Prelude.{List, Option, Some, None}
use Rattle.sml_lex.specs.declared.fault.Place.{Place}
use Rattle.sml_tree.specs.Types.{Ty, no_ty, and_ty}
use Rattle.sml_tree.specs.Expressions.{Exp, Exps, Rules, constant, name, row, tuple, let_in, bracket, handle, raise, fn, no_exp, and_exp, field, no_field, and_field, rule, no_rule, and_rule}
use Rattle.sml_read.specs.declared.grammar.ExpressionRule.{ExpressionRule}
use Rattle.sml_read.specs.declared.grammar.ExpressionRule.TheVariants.{ExpAt, MoreNone, MoreAt, MoreColon, MoreAndalso, MoreOrelse, MoreHandle, TyRestNone, TyRestColon, TyRestAndalso, TyRestOrelse, TyRestHandle, AndMoreNone, AndMoreAndalso, AndRestTyp, OrMoreNone, OrMoreOrelse, OrRestTyp, HandleMoreNone, HandleMoreHandle, TypAt, AtMoreNone, AtMoreAt, TyMoreNone, TyMoreColon, OpenRaise, OpenIf, OpenWhile, OpenCase, OpenFn, MatchPat, MatchMoreNone, MatchMoreBar, AtNumeral, AtZeroNumeral, AtInteger, AtWordConstant, AtRealConstant, AtStringConstant, AtCharacterConstant, AtAlphanumeric, AtSymbolic, AtStar, AtEquals, AtLongAlphanumeric, AtLongSymbolic, AtLongStar, AtOp, AtOpenCurly, AtHash, AtOpenRound, AtOpenSquare, AtLet, ExpRowCloseCurly, ExpRowLab, ExpRowMoreCloseCurly, ExpRowMoreComma, ExpRoundCloseRound, ExpRoundExp, ExpRoundMoreCloseRound, ExpRoundMoreComma, ExpRoundMoreSemicolon, TupleMoreCloseRound, TupleMoreComma, SequenceMoreCloseRound, SequenceMoreSemicolon, ExpListCloseSquare, ExpListExp, ExpListMoreCloseSquare, ExpListMoreComma, LetMoreEnd, LetMoreSemicolon}
use Rattle.sml_derived.specs.Derived.{unit, long, select, case_of, if_of, orelse_of, andalso_of, sequence_of, while_of, nil_of, cons_of}
use Rattle.sml_phrases.specs.Phrases.{Phrase, nothing, of_exp, of_exps, of_series, of_fields, of_rules, of_rest, of_tys, name_in, long_in, constant_in, numeral, ty_in, tys_in, pat_in, exp_in, exps_in, fields_in, rules_in, decs_in, exp_if_any, rules_if_any, at}
use Rattle.sml_fixity.specs.Shapes.{Shape}
use Rattle.sml_bare_exps.specs.ExpressionSequences.{exp_place, sequence_exp}

-- an expression, and perhaps the right operand of `andalso`
abbrev pub conjunction : Place → Exp Place → Option (Exp Place) → Exp Place
conjunction p e None = e
conjunction p e (Some a) = andalso_of p e a

-- an expression, and perhaps the right operand of `orelse`
abbrev pub disjunction : Place → Exp Place → Option (Exp Place) → Exp Place
disjunction p e None = e
disjunction p e (Some o) = orelse_of p e o

-- an expression, and perhaps the match after `handle`
abbrev pub handled : Place → Exp Place → Option (Rules Place) → Exp Place
handled p e None = e
handled p e (Some rs) = handle p e rs

-- what stands after an expression's first atomic one: an atomic one before it, and a type before it
abbrev pub with_operand : Exp Place → Phrase → Phrase
with_operand e (of_rest es ts a o rs) = of_rest (and_exp e es) ts a o rs
with_operand e v = of_exps (and_exp e (exps_in v))

abbrev pub with_type : Ty Place → Phrase → Phrase
with_type t (of_rest es ts a o rs) = of_rest es (and_ty t ts) a o rs
with_type t v = of_rest no_exp (and_ty t no_ty) None None None

-- an atomic expression and what stands after it
abbrev pub whole : Place → Option Shape → Exp Place → Phrase → Exp Place
whole p s e (of_rest es ts a o rs) = handled p (disjunction p (conjunction p (sequence_exp s (and_exp e es) ts) a) o) rs
whole p s e v = sequence_exp s (and_exp e (exps_in v)) no_ty

-- `(a; ..; z)`
abbrev pub series_of : Place → Exps Place → Exp Place
series_of p no_exp = unit p
series_of p (and_exp e no_exp) = e
series_of p (and_exp e es) = sequence_of p e (series_of p es)

-- `[a, .., z]`
abbrev pub list_of : Place → Exps Place → Exp Place
list_of p no_exp = nil_of p
list_of p (and_exp e es) = cons_of p e (list_of p es)

-- `()`, `(e)` and `(a, .., z)`
abbrev pub tuple_of : Place → Exps Place → Exp Place
tuple_of p (and_exp e no_exp) = bracket p e
tuple_of p es = tuple p es

-- what stands in round brackets: one expression alone, expressions between semicolons, or a row of them
abbrev pub round_of : Place → Phrase → Exp Place
round_of p (of_exp e) = bracket p e
round_of p (of_series es) = series_of p es
round_of p v = tuple_of p (exps_in v)

-- an expression in round brackets, and what stands after it
abbrev pub round_parts : Exp Place → Phrase → Phrase
round_parts e nothing = of_exp e
round_parts e (of_series es) = of_series (and_exp e es)
round_parts e v = of_exps (and_exp e (exps_in v))

-- what stands after `in`: `e` or `e; ..; z`
abbrev pub body_of : Exp Place → Exps Place → Exp Place
body_of e es = series_of (exp_place e) (and_exp e es)

abbrev pub expression_phrase : ExpressionRule → Place → Option Shape → List Phrase → Phrase
expression_phrase ExpAt p s vs = of_exp (whole p s (exp_in (at vs 0)) (at vs 1))
expression_phrase MoreNone p s vs = nothing
expression_phrase MoreAt p s vs = with_operand (exp_in (at vs 0)) (at vs 1)
expression_phrase MoreColon p s vs = with_type (ty_in (at vs 1)) (at vs 2)
expression_phrase MoreAndalso p s vs = of_rest no_exp no_ty (Some (exp_in (at vs 1))) (exp_if_any (at vs 2)) (rules_if_any (at vs 3))
expression_phrase MoreOrelse p s vs = of_rest no_exp no_ty None (Some (exp_in (at vs 1))) (rules_if_any (at vs 2))
expression_phrase MoreHandle p s vs = of_rest no_exp no_ty None None (Some (rules_in (at vs 1)))
expression_phrase TyRestNone p s vs = nothing
expression_phrase TyRestColon p s vs = with_type (ty_in (at vs 1)) (at vs 2)
expression_phrase TyRestAndalso p s vs = of_rest no_exp no_ty (Some (exp_in (at vs 1))) (exp_if_any (at vs 2)) (rules_if_any (at vs 3))
expression_phrase TyRestOrelse p s vs = of_rest no_exp no_ty None (Some (exp_in (at vs 1))) (rules_if_any (at vs 2))
expression_phrase TyRestHandle p s vs = of_rest no_exp no_ty None None (Some (rules_in (at vs 1)))
expression_phrase AndMoreNone p s vs = nothing
expression_phrase AndMoreAndalso p s vs = at vs 1
expression_phrase AndRestTyp p s vs = of_exp (conjunction p (exp_in (at vs 0)) (exp_if_any (at vs 1)))
expression_phrase OrMoreNone p s vs = nothing
expression_phrase OrMoreOrelse p s vs = at vs 1
expression_phrase OrRestTyp p s vs = of_exp (disjunction p (conjunction p (exp_in (at vs 0)) (exp_if_any (at vs 1))) (exp_if_any (at vs 2)))
expression_phrase HandleMoreNone p s vs = nothing
expression_phrase HandleMoreHandle p s vs = at vs 1
expression_phrase TypAt p s vs = of_exp (sequence_exp s (and_exp (exp_in (at vs 0)) (exps_in (at vs 1))) (tys_in (at vs 2)))
expression_phrase AtMoreNone p s vs = of_exps no_exp
expression_phrase AtMoreAt p s vs = of_exps (and_exp (exp_in (at vs 0)) (exps_in (at vs 1)))
expression_phrase TyMoreNone p s vs = of_tys no_ty
expression_phrase TyMoreColon p s vs = of_tys (and_ty (ty_in (at vs 1)) (tys_in (at vs 2)))
expression_phrase OpenRaise p s vs = of_exp (raise p (exp_in (at vs 1)))
expression_phrase OpenIf p s vs = of_exp (if_of p (exp_in (at vs 1)) (exp_in (at vs 3)) (exp_in (at vs 5)))
expression_phrase OpenWhile p s vs = of_exp (while_of p (exp_in (at vs 1)) (exp_in (at vs 3)))
expression_phrase OpenCase p s vs = of_exp (case_of p (exp_in (at vs 1)) (rules_in (at vs 3)))
expression_phrase OpenFn p s vs = of_exp (fn p (rules_in (at vs 1)))
expression_phrase MatchPat p s vs = of_rules (and_rule (rule p (pat_in (at vs 0)) (exp_in (at vs 2))) (rules_in (at vs 3)))
expression_phrase MatchMoreNone p s vs = of_rules no_rule
expression_phrase MatchMoreBar p s vs = at vs 1
expression_phrase AtNumeral p s vs = of_exp (constant p (numeral (name_in (at vs 0))))
expression_phrase AtZeroNumeral p s vs = of_exp (constant p (numeral (name_in (at vs 0))))
expression_phrase AtInteger p s vs = of_exp (constant p (constant_in (at vs 0)))
expression_phrase AtWordConstant p s vs = of_exp (constant p (constant_in (at vs 0)))
expression_phrase AtRealConstant p s vs = of_exp (constant p (constant_in (at vs 0)))
expression_phrase AtStringConstant p s vs = of_exp (constant p (constant_in (at vs 0)))
expression_phrase AtCharacterConstant p s vs = of_exp (constant p (constant_in (at vs 0)))
expression_phrase AtAlphanumeric p s vs = of_exp (name p (long (name_in (at vs 0))))
expression_phrase AtSymbolic p s vs = of_exp (name p (long (name_in (at vs 0))))
expression_phrase AtStar p s vs = of_exp (name p (long (name_in (at vs 0))))
expression_phrase AtEquals p s vs = of_exp (name p (long (name_in (at vs 0))))
expression_phrase AtLongAlphanumeric p s vs = of_exp (name p (long_in (at vs 0)))
expression_phrase AtLongSymbolic p s vs = of_exp (name p (long_in (at vs 0)))
expression_phrase AtLongStar p s vs = of_exp (name p (long_in (at vs 0)))
expression_phrase AtOp p s vs = of_exp (name p (long_in (at vs 1)))
expression_phrase AtOpenCurly p s vs = of_exp (row p (fields_in (at vs 1)))
expression_phrase AtHash p s vs = of_exp (select p (name_in (at vs 1)))
expression_phrase AtOpenRound p s vs = of_exp (round_of p (at vs 1))
expression_phrase AtOpenSquare p s vs = of_exp (list_of p (exps_in (at vs 1)))
expression_phrase AtLet p s vs = of_exp (let_in p (decs_in (at vs 1)) (body_of (exp_in (at vs 3)) (exps_in (at vs 4))))
expression_phrase ExpRowCloseCurly p s vs = of_fields no_field
expression_phrase ExpRowLab p s vs = of_fields (and_field (field (name_in (at vs 0)) (exp_in (at vs 2))) (fields_in (at vs 3)))
expression_phrase ExpRowMoreCloseCurly p s vs = of_fields no_field
expression_phrase ExpRowMoreComma p s vs = of_fields (and_field (field (name_in (at vs 1)) (exp_in (at vs 3))) (fields_in (at vs 4)))
expression_phrase ExpRoundCloseRound p s vs = of_exps no_exp
expression_phrase ExpRoundExp p s vs = round_parts (exp_in (at vs 0)) (at vs 1)
expression_phrase ExpRoundMoreCloseRound p s vs = nothing
expression_phrase ExpRoundMoreComma p s vs = of_exps (and_exp (exp_in (at vs 1)) (exps_in (at vs 2)))
expression_phrase ExpRoundMoreSemicolon p s vs = of_series (and_exp (exp_in (at vs 1)) (exps_in (at vs 2)))
expression_phrase TupleMoreCloseRound p s vs = of_exps no_exp
expression_phrase TupleMoreComma p s vs = of_exps (and_exp (exp_in (at vs 1)) (exps_in (at vs 2)))
expression_phrase SequenceMoreCloseRound p s vs = of_exps no_exp
expression_phrase SequenceMoreSemicolon p s vs = of_exps (and_exp (exp_in (at vs 1)) (exps_in (at vs 2)))
expression_phrase ExpListCloseSquare p s vs = of_exps no_exp
expression_phrase ExpListExp p s vs = of_exps (and_exp (exp_in (at vs 0)) (exps_in (at vs 1)))
expression_phrase ExpListMoreCloseSquare p s vs = of_exps no_exp
expression_phrase ExpListMoreComma p s vs = of_exps (and_exp (exp_in (at vs 1)) (exps_in (at vs 2)))
expression_phrase LetMoreEnd p s vs = of_exps no_exp
expression_phrase LetMoreSemicolon p s vs = of_exps (and_exp (exp_in (at vs 1)) (exps_in (at vs 2)))
expression_phrase _ p s vs = at vs 0
