-- The rules of identifiers, constants and types.
use Rattle.sml_read.specs.Grammar.{right_side}
use Rattle.sml_read.specs.Parts.{part_of}
use Rattle.sml_read.specs.declared.grammar.Symbol.TheVariants.{Of}
use Rattle.std.specs.Prelude.{ℕ, suc, ◌≤◌, ◌<◌, length, List, [], ◌∷◌, Option, Some, None}
use Rattle.std.proofs.Common.{refl, arith}
use Rattle.sml_lex.specs.declared.fault.Place.{Place}
use Rattle.sml_tree.specs.Trees.{Id}
use Rattle.sml_tree.specs.Names.{LongName}
use Rattle.sml_read.specs.declared.grammar.Rule.TheVariants as G
use Rattle.sml_phrases.specs.Phrases.{Phrase, of_arguments, at, name_in, names_in, longs_in, ty_in, tys_in, ty_fields_in, ty_if_any}
use Rattle.sml_flaws.specs.declared.role.Space.{Space}
use Rattle.sml_flaws.specs.declared.role.Space.TheVariants as S
use Rattle.sml_tree_laws.specs.Scoped.{ids}
use Rattle.sml_tree_laws.specs.WellBound.{ty_labels, TyBound, TysBound, TyBoundIfAny}
use Rattle.sml_tree_laws.proofs.Named.{distinct}
use Rattle.sml_tree_laws.proofs.PhrasesBound.{plain, class_of, PhraseBound}
use Rattle.sml_tree_laws.proofs.AccessorsBound.{ty_bound, tys_bound, ty_bound_if_any, ty_fields_bound, names_named}
use Rattle.sml_tree_laws.proofs.PartsBound.{PartsBound, two, pass}
use Rattle.sml_tree.specs.Types.{Ty, Tys, ty_constructor, no_ty, and_ty}
use Rattle.sml_read.specs.declared.grammar.NameRule.{NameRule}
use Rattle.sml_read.specs.declared.grammar.NameRule.TheVariants.{LongVidAlphanumeric, LongVidSymbolic, LongVidStar, ExpVidEquals, LongTyConAlphanumeric, LongTyConSymbolic, LongStrIdAlphanumeric, ConstantNumeral, ConstantZeroNumeral}
use Rattle.sml_read.specs.declared.grammar.TypeRule.{TypeRule}
use Rattle.sml_read.specs.declared.grammar.TypeRule.TheVariants.{TyTup, TyArrowNone, TyArrowArrow, TupCon, TupMoreNone, TupMoreStar, ConATy, ConMoreNone, ConMoreLongTyCon, ATyTypeVariable, ATyLongTyCon, ATyOpenCurly, ATyOpenRound, TyRowCloseCurly, TyRowLab, TyRowMoreCloseCurly, TyRowMoreComma, TyRoundCloseRound, TyRoundComma, TyRoundMoreCloseRound, TyRoundMoreComma, TvsNone, SomeTvsTypeVariable, SomeTvsOpenRound, TvsMoreNone, TvsMoreComma}
use Rattle.sml_bare_pats.specs.NameRules.{name_phrase}
use Rattle.sml_bare_pats.specs.TypeRules.{arrow, product, constructed, round_ty, and_argument, type_phrase}

module _ (B : Space → ℕ → ℕ → Id → Type 0) (apart : (sp : Space) (g t u : ℕ) (x : Id) → t < u → B sp g t x → B sp g u x → ⊥) where
  arrow_bound : (p : Place) (t : Ty Place) (o : Option (Ty Place)) → TyBound t → TyBoundIfAny o → TyBound (arrow p t o)
  arrow_bound p t None h k = h
  arrow_bound p t (Some u) h k = (h, k)

  product_bound : (p : Place) (t : Ty Place) (ts : Tys Place) → TyBound t → TysBound ts → TyBound (product p t ts)
  product_bound p t no_ty h k = h
  product_bound p t (and_ty u us) h k = (h, k)

  constructed_bound : (p : Place) (t : Ty Place) (cs : List (LongName Place)) → TyBound t → TyBound (constructed p t cs)
  constructed_bound p t [] h = h
  constructed_bound p t (c ∷ cs) h = constructed_bound p (ty_constructor p (and_ty t no_ty) c) cs (h, tt)

  round_ty_bound : (g lo hi : ℕ) (p : Place) (t : Ty Place) (v : Phrase) → TyBound t → PhraseBound B plain g lo hi v → TyBound (round_ty p t v)
  round_ty_bound g lo hi p t (of_arguments ts c) h k = (h, k)
  round_ty_bound g lo hi p t _ h k = h

  and_argument_bound : (g lo hi lo' hi' : ℕ) (t : Ty Place) (v : Phrase) → TyBound t → PhraseBound B plain g lo hi v → PhraseBound B plain g lo' hi' (and_argument t v)
  and_argument_bound g lo hi lo' hi' t (of_arguments ts c) h k = (h, k)
  and_argument_bound g lo hi lo' hi' t _ h k = tt

  module _ (g : ℕ) (t : ℕ → ℕ) (mono : (k : ℕ) → t k ≤ t (suc k)) where
    pub name_bound : (rule : NameRule) (p : Place) (vs : List Phrase) → PartsBound B g t (G.Names rule) vs → PhraseBound B (class_of (Of (part_of (G.Names rule)))) g (t 0) (t (length (right_side (G.Names rule)))) (name_phrase rule p vs)
    name_bound LongVidAlphanumeric p vs h = tt
    name_bound LongVidSymbolic p vs h = tt
    name_bound LongVidStar p vs h = tt
    name_bound ExpVidEquals p vs h = tt
    name_bound LongTyConAlphanumeric p vs h = tt
    name_bound LongTyConSymbolic p vs h = tt
    name_bound LongStrIdAlphanumeric p vs h = tt
    name_bound ConstantNumeral p vs h = tt
    name_bound ConstantZeroNumeral p vs h = tt
    name_bound _ p vs h = (pass B g t mono 0 1 (at vs 0) (omega arith) (h 0 refl).0)

    pub type_bound : (rule : TypeRule) (p : Place) (vs : List Phrase) → PartsBound B g t (G.Types rule) vs
        → PhraseBound B (class_of (Of (part_of (G.Types rule)))) g (t 0) (t (length (right_side (G.Types rule)))) (type_phrase rule p vs)
    type_bound TyTup p vs h =
        arrow_bound p (ty_in (at vs 0)) (ty_if_any (at vs 1)) (ty_bound B plain g (t 0) (t 1) (at vs 0) (h 0 refl).0)
        (ty_bound_if_any B plain g (t 1) (t 2) (at vs 1) (h 1 refl).0)
    type_bound TyArrowNone p vs h = tt
    type_bound TyArrowArrow p vs h = (ty_bound B plain g (t 1) (t 2) (at vs 1) (h 1 refl).0)
    type_bound TupCon p vs h =
        product_bound p (ty_in (at vs 0)) (tys_in (at vs 1)) (ty_bound B plain g (t 0) (t 1) (at vs 0) (h 0 refl).0) (tys_bound B plain g (t 1) (t 2) (at vs 1) (h 1 refl).0)
    type_bound TupMoreNone p vs h = tt
    type_bound TupMoreStar p vs h = ((ty_bound B plain g (t 1) (t 2) (at vs 1) (h 1 refl).0), (tys_bound B plain g (t 2) (t 3) (at vs 2) (h 2 refl).0))
    type_bound ConATy p vs h = constructed_bound p (ty_in (at vs 0)) (longs_in (at vs 1)) (ty_bound B plain g (t 0) (t 1) (at vs 0) (h 0 refl).0)
    type_bound ConMoreNone p vs h = tt
    type_bound ConMoreLongTyCon p vs h = tt
    type_bound ATyTypeVariable p vs h = tt
    type_bound ATyLongTyCon p vs h = tt
    type_bound ATyOpenCurly p vs h = (
      distinct B apart S.Labels g (t 1) (t 2) (ty_labels (ty_fields_in (at vs 1))) (ty_fields_bound B plain g (t 1) (t 2) (at vs 1) (h 1 refl).0).0,
      (ty_fields_bound B plain g (t 1) (t 2) (at vs 1) (h 1 refl).0).1,
    )
    type_bound ATyOpenRound p vs h = round_ty_bound g (t 2) (t 3) p (ty_in (at vs 1)) (at vs 2) (ty_bound B plain g (t 1) (t 2) (at vs 1) (h 1 refl).0) (h 2 refl).0
    type_bound TyRowCloseCurly p vs h = (tt, tt)
    type_bound TyRowMoreCloseCurly p vs h = (tt, tt)
    type_bound TyRowLab p vs h = (
      two B g t mono S.Labels 0 3 4 ((name_in (at vs 0)).id ∷ []) (ty_labels (ty_fields_in (at vs 3))) (omega arith)
          (omega arith) (h 0 refl).1 (ty_fields_bound B plain g (t 3) (t 4) (at vs 3) (h 3 refl).0).0,
      ((ty_bound B plain g (t 2) (t 3) (at vs 2) (h 2 refl).0), (ty_fields_bound B plain g (t 3) (t 4) (at vs 3) (h 3 refl).0).1),
    )
    type_bound TyRowMoreComma p vs h = (
      two B g t mono S.Labels 1 4 5 ((name_in (at vs 1)).id ∷ []) (ty_labels (ty_fields_in (at vs 4))) (omega arith)
          (omega arith) (h 1 refl).1 (ty_fields_bound B plain g (t 4) (t 5) (at vs 4) (h 4 refl).0).0,
      ((ty_bound B plain g (t 3) (t 4) (at vs 3) (h 3 refl).0), (ty_fields_bound B plain g (t 4) (t 5) (at vs 4) (h 4 refl).0).1),
    )
    type_bound TyRoundCloseRound p vs h = tt
    type_bound TyRoundComma p vs h = and_argument_bound g (t 2) (t 3) (t 0) (t 3) (ty_in (at vs 1)) (at vs 2) (ty_bound B plain g (t 1) (t 2) (at vs 1) (h 1 refl).0) (h 2 refl).0
    type_bound TyRoundMoreCloseRound p vs h = tt
    type_bound TyRoundMoreComma p vs h = and_argument_bound g (t 2) (t 3) (t 0) (t 3) (ty_in (at vs 1)) (at vs 2) (ty_bound B plain g (t 1) (t 2) (at vs 1) (h 1 refl).0) (h 2 refl).0
    type_bound TvsNone p vs h = tt
    type_bound TvsMoreNone p vs h = tt
    type_bound SomeTvsTypeVariable p vs h = distinct B apart S.Variables g (t 0) (t 1) ((name_in (at vs 0)).id ∷ []) (h 0 refl).1
    type_bound SomeTvsOpenRound p vs h =
        distinct B apart S.Variables g (t 0) (t 3) ((name_in (at vs 1)).id ∷ ids (names_in (at vs 2)))
        (two B g t mono S.Variables 1 2 3 ((name_in (at vs 1)).id ∷ []) (ids (names_in (at vs 2))) (omega arith) (omega arith) (h 1 refl).1 (names_named B g (t 2) (t 3) (at vs 2) (h 2 refl).0))
    type_bound TvsMoreComma p vs h =
        two B g t mono S.Variables 1 2 3 ((name_in (at vs 1)).id ∷ []) (ids (names_in (at vs 2))) (omega arith)
        (omega arith) (h 1 refl).1 (names_named B g (t 2) (t 3) (at vs 2) (h 2 refl).0)
    type_bound _ p vs h = (pass B g t mono 0 1 (at vs 0) (omega arith) (h 0 refl).0)
