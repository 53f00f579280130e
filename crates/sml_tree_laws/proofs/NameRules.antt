-- The rules of identifiers, constants and types.
use Rattle.std.specs.Prelude.{List, [], ◌∷◌, Option, Some, None}
use Rattle.std.proofs.Common.{refl}
use Rattle.sml_tree.specs.Names.{LongName}
use Rattle.sml_tree.specs.Types.{Ty, Tys, ty_constructor, no_ty, and_ty}
use Rattle.sml_read.specs.declared.grammar.NameRule.{NameRule}
use Rattle.sml_read.specs.declared.grammar.NameRule.TheVariants.{LongVidAlphanumeric, LongVidSymbolic, LongVidStar, ExpVidEquals, LongTyConAlphanumeric, LongTyConSymbolic, LongStrIdAlphanumeric, ConstantNumeral, ConstantZeroNumeral}
use Rattle.sml_read.specs.declared.grammar.TypeRule.{TypeRule}
use Rattle.sml_read.specs.declared.grammar.TypeRule.TheVariants.{TyTup, TyArrowNone, TyArrowArrow, TupCon, TupMoreNone, TupMoreStar, ConATy, ConMoreNone, ConMoreLongTyCon, ATyTypeVariable, ATyLongTyCon, ATyOpenCurly, ATyOpenRound, TyRowCloseCurly, TyRowLab, TyRowMoreCloseCurly, TyRowMoreComma, TyRoundCloseRound, TyRoundComma, TyRoundMoreCloseRound, TyRoundMoreComma, TvsNone, SomeTvsTypeVariable, SomeTvsOpenRound, TvsMoreNone, TvsMoreComma}
use Rattle.sml_bare_pats.specs.NameRules.{name_phrase}
use Rattle.sml_bare_pats.specs.TypeRules.{arrow, product, constructed, round_ty, and_argument, type_phrase}
use Rattle.sml_lex.specs.declared.fault.Place.{Place}
use Rattle.sml_tree.specs.Trees.{Id}
use Rattle.sml_read.specs.declared.grammar.Rule.TheVariants as G
use Rattle.sml_phrases.specs.Phrases.{Phrase, of_arguments, at, ty_in, tys_in, ty_if_any, longs_in}
use Rattle.sml_tree_laws.proofs.Sits.{TySits, TysSit, TySitsIfAny}
use Rattle.sml_tree_laws.proofs.Phrases.{PhraseSits, names_sit, ty_sits, tys_sit, ty_fields_sit, ty_sits_if_any}
use Rattle.sml_tree_laws.proofs.Parts.{PartsSit}

module _ (L V R : Id → Type 0) where
  arrow_sits : (p : Place) (t : Ty Place) (o : Option (Ty Place)) → TySits V t → TySitsIfAny V o → TySits V (arrow p t o)
  arrow_sits p t None h k = h
  arrow_sits p t (Some u) h k = (h, k)

  product_sits : (p : Place) (t : Ty Place) (ts : Tys Place) → TySits V t → TysSit V ts → TySits V (product p t ts)
  product_sits p t no_ty h k = h
  product_sits p t (and_ty u us) h k = (h, k)

  constructed_sits : (p : Place) (t : Ty Place) (cs : List (LongName Place)) → TySits V t → TySits V (constructed p t cs)
  constructed_sits p t [] h = h
  constructed_sits p t (c ∷ cs) h = constructed_sits p (ty_constructor p (and_ty t no_ty) c) cs (h, tt)

  round_ty_sits : (p : Place) (t : Ty Place) (v : Phrase) → TySits V t → PhraseSits L V R v → TySits V (round_ty p t v)
  round_ty_sits p t (of_arguments ts c) h k = (h, k)
  round_ty_sits p t _ h k = h

  and_argument_sits : (t : Ty Place) (v : Phrase) → TySits V t → PhraseSits L V R v → PhraseSits L V R (and_argument t v)
  and_argument_sits t (of_arguments ts c) h k = (h, k)
  and_argument_sits t _ h k = tt

  pub name_sits : (rule : NameRule) (p : Place) (vs : List Phrase) → PartsSit L V R (G.Names rule) vs → PhraseSits L V R (name_phrase rule p vs)
  name_sits LongVidAlphanumeric p vs h = tt
  name_sits LongVidSymbolic p vs h = tt
  name_sits LongVidStar p vs h = tt
  name_sits ExpVidEquals p vs h = tt
  name_sits LongTyConAlphanumeric p vs h = tt
  name_sits LongTyConSymbolic p vs h = tt
  name_sits LongStrIdAlphanumeric p vs h = tt
  name_sits ConstantNumeral p vs h = tt
  name_sits ConstantZeroNumeral p vs h = tt
  name_sits _ p vs h = (h 0 refl).0

  pub type_sits : (rule : TypeRule) (p : Place) (vs : List Phrase) → PartsSit L V R (G.Types rule) vs → PhraseSits L V R (type_phrase rule p vs)
  type_sits TyTup p vs h = arrow_sits p (ty_in (at vs 0)) (ty_if_any (at vs 1)) (ty_sits L V R (at vs 0) (h 0 refl).0) (ty_sits_if_any L V R (at vs 1) (h 1 refl).0)
  type_sits TyArrowNone p vs h = tt
  type_sits TyArrowArrow p vs h = (ty_sits L V R (at vs 1) (h 1 refl).0)
  type_sits TupCon p vs h = product_sits p (ty_in (at vs 0)) (tys_in (at vs 1)) (ty_sits L V R (at vs 0) (h 0 refl).0) (tys_sit L V R (at vs 1) (h 1 refl).0)
  type_sits TupMoreNone p vs h = tt
  type_sits TupMoreStar p vs h = ((ty_sits L V R (at vs 1) (h 1 refl).0), (tys_sit L V R (at vs 2) (h 2 refl).0))
  type_sits ConATy p vs h = constructed_sits p (ty_in (at vs 0)) (longs_in (at vs 1)) (ty_sits L V R (at vs 0) (h 0 refl).0)
  type_sits ConMoreNone p vs h = tt
  type_sits ConMoreLongTyCon p vs h = tt
  type_sits ATyTypeVariable p vs h = (h 0 refl).1
  type_sits ATyLongTyCon p vs h = tt
  type_sits ATyOpenCurly p vs h = (ty_fields_sit L V R (at vs 1) (h 1 refl).0)
  type_sits ATyOpenRound p vs h = round_ty_sits p (ty_in (at vs 1)) (at vs 2) (ty_sits L V R (at vs 1) (h 1 refl).0) (h 2 refl).0
  type_sits TyRowCloseCurly p vs h = tt
  type_sits TyRowMoreCloseCurly p vs h = tt
  type_sits TyRowLab p vs h = ((ty_sits L V R (at vs 2) (h 2 refl).0), (ty_fields_sit L V R (at vs 3) (h 3 refl).0))
  type_sits TyRowMoreComma p vs h = ((ty_sits L V R (at vs 3) (h 3 refl).0), (ty_fields_sit L V R (at vs 4) (h 4 refl).0))
  type_sits TyRoundCloseRound p vs h = tt
  type_sits TyRoundComma p vs h = and_argument_sits (ty_in (at vs 1)) (at vs 2) (ty_sits L V R (at vs 1) (h 1 refl).0) (h 2 refl).0
  type_sits TyRoundMoreCloseRound p vs h = tt
  type_sits TyRoundMoreComma p vs h = and_argument_sits (ty_in (at vs 1)) (at vs 2) (ty_sits L V R (at vs 1) (h 1 refl).0) (h 2 refl).0
  type_sits TvsNone p vs h = tt
  type_sits TvsMoreNone p vs h = tt
  type_sits SomeTvsTypeVariable p vs h = ((h 0 refl).1, tt)
  type_sits SomeTvsOpenRound p vs h = ((h 1 refl).1, (names_sit L V R (at vs 2) (h 2 refl).0))
  type_sits TvsMoreComma p vs h = ((h 1 refl).1, (names_sit L V R (at vs 2) (h 2 refl).0))
  type_sits _ p vs h = (h 0 refl).0
