-- What the rules of types make of their parts (the Definition, section 2.8): one line a rule, with the place of the
-- phrase and all phrases from its first part on. Any other rule's phrase is its first part.
use Rattle.std.specs.Prelude.{List, [], ◌∷◌, Option, Some, None}
use Rattle.sml_lex.specs.declared.fault.Place.{Place}
use Rattle.sml_tree.specs.Names.{LongName}
use Rattle.sml_tree.specs.Types.{Ty, Tys, ty_variable, ty_row, ty_tuple, ty_constructor, ty_arrow, ty_bracket, no_ty, and_ty, ty_field, no_ty_field, and_ty_field}
use Rattle.sml_read.specs.declared.grammar.TypeRule.{TypeRule}
use Rattle.sml_read.specs.declared.grammar.TypeRule.TheVariants.{TyTup, TyArrowNone, TyArrowArrow, TupCon, TupMoreNone, TupMoreStar, ConATy, ConMoreNone, ConMoreLongTyCon, ATyTypeVariable, ATyLongTyCon, ATyOpenCurly, ATyOpenRound, TyRowCloseCurly, TyRowLab, TyRowMoreCloseCurly, TyRowMoreComma, TyRoundCloseRound, TyRoundComma, TyRoundMoreCloseRound, TyRoundMoreComma, TvsNone, SomeTvsTypeVariable, SomeTvsOpenRound, TvsMoreNone, TvsMoreComma}
use Rattle.sml_phrases.specs.Phrases.{Phrase, nothing, of_names, of_longs, of_ty, of_tys, of_ty_fields, of_arguments, name_in, names_in, long_in, longs_in, ty_in, tys_in, ty_fields_in, ty_if_any, at}

-- a type, and perhaps another one after an arrow
abbrev pub arrow : Place → Ty Place → Option (Ty Place) → Ty Place
arrow p t None = t
arrow p t (Some u) = ty_arrow p t u

-- a type, and others after stars
abbrev pub product : Place → Ty Place → Tys Place → Ty Place
product p t no_ty = t
product p t (and_ty u us) = ty_tuple p (and_ty t (and_ty u us))

-- a type and the type constructors after it
abbrev pub constructed : Place → Ty Place → List (LongName Place) → Ty Place
constructed p t [] = t
constructed p t (c ∷ cs) = constructed p (ty_constructor p (and_ty t no_ty) c) cs

-- a type in round brackets, or the first of several before their type constructor
abbrev pub round_ty : Place → Ty Place → Phrase → Ty Place
round_ty p t (of_arguments ts c) = ty_constructor p (and_ty t ts) c
round_ty p t _ = ty_bracket p t

-- one type more before a type constructor
abbrev pub and_argument : Ty Place → Phrase → Phrase
and_argument t (of_arguments ts c) = of_arguments (and_ty t ts) c
and_argument t _ = nothing

abbrev pub type_phrase : TypeRule → Place → List Phrase → Phrase
type_phrase TyTup p vs = of_ty (arrow p (ty_in (at vs 0)) (ty_if_any (at vs 1)))
type_phrase TyArrowNone p vs = nothing
type_phrase TyArrowArrow p vs = of_ty (ty_in (at vs 1))
type_phrase TupCon p vs = of_ty (product p (ty_in (at vs 0)) (tys_in (at vs 1)))
type_phrase TupMoreNone p vs = of_tys no_ty
type_phrase TupMoreStar p vs = of_tys (and_ty (ty_in (at vs 1)) (tys_in (at vs 2)))
type_phrase ConATy p vs = of_ty (constructed p (ty_in (at vs 0)) (longs_in (at vs 1)))
type_phrase ConMoreNone p vs = of_longs []
type_phrase ConMoreLongTyCon p vs = of_longs (long_in (at vs 0) ∷ longs_in (at vs 1))
type_phrase ATyTypeVariable p vs = of_ty (ty_variable p (name_in (at vs 0)).id)
type_phrase ATyLongTyCon p vs = of_ty (ty_constructor p no_ty (long_in (at vs 0)))
type_phrase ATyOpenCurly p vs = of_ty (ty_row p (ty_fields_in (at vs 1)))
type_phrase ATyOpenRound p vs = of_ty (round_ty p (ty_in (at vs 1)) (at vs 2))
type_phrase TyRowCloseCurly p vs = of_ty_fields no_ty_field
type_phrase TyRowLab p vs = of_ty_fields (and_ty_field (ty_field (name_in (at vs 0)) (ty_in (at vs 2))) (ty_fields_in (at vs 3)))
type_phrase TyRowMoreCloseCurly p vs = of_ty_fields no_ty_field
type_phrase TyRowMoreComma p vs = of_ty_fields (and_ty_field (ty_field (name_in (at vs 1)) (ty_in (at vs 3))) (ty_fields_in (at vs 4)))
type_phrase TyRoundCloseRound p vs = nothing
type_phrase TyRoundComma p vs = and_argument (ty_in (at vs 1)) (at vs 2)
type_phrase TyRoundMoreCloseRound p vs = of_arguments no_ty (long_in (at vs 1))
type_phrase TyRoundMoreComma p vs = and_argument (ty_in (at vs 1)) (at vs 2)
type_phrase TvsNone p vs = of_names []
type_phrase SomeTvsTypeVariable p vs = of_names (name_in (at vs 0) ∷ [])
type_phrase SomeTvsOpenRound p vs = of_names (name_in (at vs 1) ∷ names_in (at vs 2))
type_phrase TvsMoreNone p vs = of_names []
type_phrase TvsMoreComma p vs = of_names (name_in (at vs 1) ∷ names_in (at vs 2))
type_phrase _ p vs = at vs 0
