-- The rules of patterns.
use Rattle.std.specs.Prelude.{List, Option, Some, None}
use Rattle.std.proofs.Common.{refl}
use Rattle.sml_tree.specs.Names.{Name}
use Rattle.sml_tree.specs.Types.{Ty}
use Rattle.sml_tree.specs.Patterns.{Pat, Pats, pat_name, no_pat, and_pat}
use Rattle.sml_fixity.specs.Shapes.{Shape}
use Rattle.sml_derived.specs.Derived.{long, layered}
use Rattle.sml_read.specs.declared.grammar.PatternRule.{PatternRule}
use Rattle.sml_read.specs.declared.grammar.PatternRule.TheVariants.{PatOpenRound, PatAlphanumeric, PatSymbolic, PatStar, BarePatAlphanumeric, BarePatSymbolic, BarePatStar, PatOp, BarePatOp, PatOtherAtPat, BarePatOtherAtPat, OpPatVid, OpPatQualified, AfterVidNone, AfterVidAs, AfterVidColon, AfterVidAtPat, AfterVidTyNone, AfterVidTyAs, AfterVidTyColon, AtPatMoreNone, AtPatMoreAtPat, AtPatMoreColon, AtPatOpenRound, AtPatAlphanumeric, AtPatSymbolic, AtPatStar, BareAtPatAlphanumeric, BareAtPatSymbolic, BareAtPatStar, AtPatOp, BareAtPatOp, OtherAtPatWildcard, OtherAtPatConstant, OtherAtPatQualified, OtherAtPatOpenCurly, OtherAtPatOpenSquare, PatRoundCloseRound, PatRoundPat, PatRoundMoreCloseRound, PatRoundMoreComma, PatListCloseSquare, PatListPat, PatListMoreCloseSquare, PatListMoreComma, PatRowCloseCurly, RowDots, RowNumeral, RowVid, RowRestEquals, RowRestTyped, RowAsNone, RowAsAs, RowMoreNone, RowMoreComma}
use Rattle.sml_pat_sequences.specs.RoundPatterns.{round_pat}
use Rattle.sml_bare_pats.specs.PatternPhrases.{pat_fields_in, atoms_in, colons_in}
use Rattle.sml_bare_pats.specs.PatternRules.{list_pat, from_vid, op_from_vid, after_op, after_colon, field_pat, pattern_phrase}
use Rattle.sml_tree_laws.proofs.PatternSequences.{sequence_pat_sits, round_sequence_sits}
use Rattle.sml_lex.specs.declared.fault.Place.{Place}
use Rattle.sml_tree.specs.Trees.{Id}
use Rattle.sml_read.specs.declared.grammar.Rule.TheVariants as G
use Rattle.sml_phrases.specs.Phrases.{Phrase, of_pat_fields, of_atoms, of_layer, of_op_atoms, of_op_layer, of_pat, at, ty_in, pat_in, pats_in, name_in}
use Rattle.sml_tree_laws.proofs.Sits.{TySits, TysSit, TySitsIfAny, PatSits, PatsSit, PatFieldsSit}
use Rattle.sml_tree_laws.proofs.Phrases.{PhraseSits, PatSitsIfAny, ty_sits, tys_sit, ty_sits_if_any, pat_sits, pats_sit, pat_sits_if_any}
use Rattle.sml_tree_laws.proofs.Parts.{PartsSit}

module _ (L V R : Id → Type 0) where
  atoms_sit : (v : Phrase) → PhraseSits L V R v → PatsSit V (atoms_in v)
  atoms_sit (of_atoms qs ts) h = h.0
  atoms_sit _ h = tt

  colons_sit : (v : Phrase) → PhraseSits L V R v → TysSit V (colons_in v)
  colons_sit (of_atoms qs ts) h = h.1
  colons_sit _ h = tt

  pat_fields_sit : (v : Phrase) → PhraseSits L V R v → PatFieldsSit V (pat_fields_in v)
  pat_fields_sit (of_pat_fields fs b) h = h
  pat_fields_sit _ h = tt

  pub round_pat_sits : (p : Place) (qs : Pats Place) → PatsSit V qs → PatSits V (round_pat p qs)
  round_pat_sits p no_pat h = tt
  round_pat_sits p (and_pat q no_pat) h = h.0
  round_pat_sits p (and_pat q (and_pat r qs)) h = h

  list_pat_sits : (p : Place) (qs : Pats Place) → PatsSit V qs → PatSits V (list_pat p qs)
  list_pat_sits p no_pat h = tt
  list_pat_sits p (and_pat q qs) h = (h.0, (list_pat_sits p qs h.1, tt))

  layered_sits : (x : Name Place) (t : Option (Ty Place)) (q : Option (Pat Place)) → TySitsIfAny V t → PatSitsIfAny L V R q → PatSits V (layered x t q)
  layered_sits x None None h k = tt
  layered_sits x (Some t) None h k = (tt, h)
  layered_sits x None (Some q) h k = (h, k)
  layered_sits x (Some t) (Some q) h k = (h, k)

  from_vid_sits : (s : Option Shape) (p : Place) (x : Name Place) (v : Phrase) → PhraseSits L V R v → PatSits V (from_vid s p x v)
  from_vid_sits s p x (of_layer t q) h = layered_sits x t q h.0 h.1
  from_vid_sits s p x v h = sequence_pat_sits V s (and_pat (pat_name p (long x)) (atoms_in v)) (colons_in v) (tt, atoms_sit v h) (colons_sit v h)

  op_from_vid_sits : (x : Name Place) (v : Phrase) → PhraseSits L V R v → PhraseSits L V R (op_from_vid x v)
  op_from_vid_sits x (of_layer t q) h = h
  op_from_vid_sits x v h = (atoms_sit v h, colons_sit v h)

  after_op_sits : (s : Option Shape) (p : Place) (v : Phrase) → PhraseSits L V R v → PatSits V (after_op s p v)
  after_op_sits s p (of_op_layer x t (Some q)) h = h
  after_op_sits s p (of_op_layer x t None) h = tt
  after_op_sits s p (of_op_atoms c qs ts) h = sequence_pat_sits V s (and_pat (pat_name p c) qs) ts (tt, h.0) h.1
  after_op_sits s p _ h = tt

  after_colon_sits : (t : Ty Place) (v : Phrase) → TySits V t → PhraseSits L V R v → PhraseSits L V R (after_colon t v)
  after_colon_sits t (of_layer u q) h k = (h, k.1)
  after_colon_sits t v h k = (tt, (h, tys_sit L V R v k))

  field_pat_sits : (x : Name Place) (v : Phrase) → PhraseSits L V R v → PatSits V (field_pat x v)
  field_pat_sits x (of_pat q) h = h
  field_pat_sits x (of_layer t q) h = layered_sits x t q h.0 h.1
  field_pat_sits x _ h = tt

  pub pattern_sits : (rule : PatternRule) (p : Place) (s : Option Shape) (vs : List Phrase) → PartsSit L V R (G.Patterns rule) vs → PhraseSits L V R (pattern_phrase rule p s vs)
  pattern_sits PatOpenRound p s vs h = round_sequence_sits V s (round_pat p (pats_in (at vs 1))) (atoms_in (at vs 2)) (colons_in (at vs 2)) (round_pat_sits p (pats_in (at vs 1)) (pats_sit L V R (at vs 1) (h 1 refl).0)) (atoms_sit (at vs 2) (h 2 refl).0) (colons_sit (at vs 2) (h 2 refl).0)
  pattern_sits PatAlphanumeric p s vs h = from_vid_sits s p (name_in (at vs 0)) (at vs 1) (h 1 refl).0
  pattern_sits PatSymbolic p s vs h = from_vid_sits s p (name_in (at vs 0)) (at vs 1) (h 1 refl).0
  pattern_sits PatStar p s vs h = from_vid_sits s p (name_in (at vs 0)) (at vs 1) (h 1 refl).0
  pattern_sits BarePatAlphanumeric p s vs h = from_vid_sits s p (name_in (at vs 0)) (at vs 1) (h 1 refl).0
  pattern_sits BarePatSymbolic p s vs h = from_vid_sits s p (name_in (at vs 0)) (at vs 1) (h 1 refl).0
  pattern_sits BarePatStar p s vs h = from_vid_sits s p (name_in (at vs 0)) (at vs 1) (h 1 refl).0
  pattern_sits PatOp p s vs h = after_op_sits s p (at vs 1) (h 1 refl).0
  pattern_sits BarePatOp p s vs h = after_op_sits s p (at vs 1) (h 1 refl).0
  pattern_sits PatOtherAtPat p s vs h = sequence_pat_sits V s (and_pat (pat_in (at vs 0)) (atoms_in (at vs 1))) (colons_in (at vs 1)) ((pat_sits L V R (at vs 0) (h 0 refl).0), (atoms_sit (at vs 1) (h 1 refl).0)) (colons_sit (at vs 1) (h 1 refl).0)
  pattern_sits BarePatOtherAtPat p s vs h = sequence_pat_sits V s (and_pat (pat_in (at vs 0)) (atoms_in (at vs 1))) (colons_in (at vs 1)) ((pat_sits L V R (at vs 0) (h 0 refl).0), (atoms_sit (at vs 1) (h 1 refl).0)) (colons_sit (at vs 1) (h 1 refl).0)
  pattern_sits OpPatVid p s vs h = op_from_vid_sits (name_in (at vs 0)) (at vs 1) (h 1 refl).0
  pattern_sits OpPatQualified p s vs h = ((atoms_sit (at vs 1) (h 1 refl).0), (colons_sit (at vs 1) (h 1 refl).0))
  pattern_sits AfterVidNone p s vs h = (tt, tt)
  pattern_sits AfterVidAs p s vs h = (tt, (pat_sits L V R (at vs 1) (h 1 refl).0))
  pattern_sits AfterVidColon p s vs h = after_colon_sits (ty_in (at vs 1)) (at vs 2) (ty_sits L V R (at vs 1) (h 1 refl).0) (h 2 refl).0
  pattern_sits AfterVidAtPat p s vs h = (((pat_sits L V R (at vs 0) (h 0 refl).0), (atoms_sit (at vs 1) (h 1 refl).0)), (colons_sit (at vs 1) (h 1 refl).0))
  pattern_sits AfterVidTyNone p s vs h = tt
  pattern_sits AfterVidTyAs p s vs h = (tt, (pat_sits L V R (at vs 1) (h 1 refl).0))
  pattern_sits AfterVidTyColon p s vs h = ((ty_sits L V R (at vs 1) (h 1 refl).0), (tys_sit L V R (at vs 2) (h 2 refl).0))
  pattern_sits AtPatMoreNone p s vs h = (tt, tt)
  pattern_sits AtPatMoreAtPat p s vs h = (((pat_sits L V R (at vs 0) (h 0 refl).0), (atoms_sit (at vs 1) (h 1 refl).0)), (colons_sit (at vs 1) (h 1 refl).0))
  pattern_sits AtPatMoreColon p s vs h = (tt, ((ty_sits L V R (at vs 1) (h 1 refl).0), (tys_sit L V R (at vs 2) (h 2 refl).0)))
  pattern_sits AtPatOpenRound p s vs h = round_pat_sits p (pats_in (at vs 1)) (pats_sit L V R (at vs 1) (h 1 refl).0)
  pattern_sits AtPatAlphanumeric p s vs h = tt
  pattern_sits AtPatSymbolic p s vs h = tt
  pattern_sits AtPatStar p s vs h = tt
  pattern_sits BareAtPatAlphanumeric p s vs h = tt
  pattern_sits BareAtPatSymbolic p s vs h = tt
  pattern_sits BareAtPatStar p s vs h = tt
  pattern_sits AtPatOp p s vs h = tt
  pattern_sits BareAtPatOp p s vs h = tt
  pattern_sits OtherAtPatWildcard p s vs h = tt
  pattern_sits OtherAtPatConstant p s vs h = tt
  pattern_sits OtherAtPatQualified p s vs h = tt
  pattern_sits OtherAtPatOpenCurly p s vs h = (pat_fields_sit (at vs 1) (h 1 refl).0)
  pattern_sits OtherAtPatOpenSquare p s vs h = list_pat_sits p (pats_in (at vs 1)) (pats_sit L V R (at vs 1) (h 1 refl).0)
  pattern_sits PatRoundCloseRound p s vs h = tt
  pattern_sits PatRoundMoreCloseRound p s vs h = tt
  pattern_sits PatListCloseSquare p s vs h = tt
  pattern_sits PatListMoreCloseSquare p s vs h = tt
  pattern_sits PatRowCloseCurly p s vs h = tt
  pattern_sits RowDots p s vs h = tt
  pattern_sits PatRoundPat p s vs h = ((pat_sits L V R (at vs 0) (h 0 refl).0), (pats_sit L V R (at vs 1) (h 1 refl).0))
  pattern_sits PatListPat p s vs h = ((pat_sits L V R (at vs 0) (h 0 refl).0), (pats_sit L V R (at vs 1) (h 1 refl).0))
  pattern_sits PatRoundMoreComma p s vs h = ((pat_sits L V R (at vs 1) (h 1 refl).0), (pats_sit L V R (at vs 2) (h 2 refl).0))
  pattern_sits PatListMoreComma p s vs h = ((pat_sits L V R (at vs 1) (h 1 refl).0), (pats_sit L V R (at vs 2) (h 2 refl).0))
  pattern_sits RowNumeral p s vs h = ((pat_sits L V R (at vs 2) (h 2 refl).0), (pat_fields_sit (at vs 3) (h 3 refl).0))
  pattern_sits RowVid p s vs h = (field_pat_sits (name_in (at vs 0)) (at vs 1) (h 1 refl).0, (pat_fields_sit (at vs 2) (h 2 refl).0))
  pattern_sits RowRestEquals p s vs h = (pat_sits L V R (at vs 1) (h 1 refl).0)
  pattern_sits RowRestTyped p s vs h = ((ty_sits_if_any L V R (at vs 0) (h 0 refl).0), (pat_sits_if_any L V R (at vs 1) (h 1 refl).0))
  pattern_sits RowAsNone p s vs h = tt
  pattern_sits RowAsAs p s vs h = (pat_sits L V R (at vs 1) (h 1 refl).0)
  pattern_sits RowMoreNone p s vs h = tt
  pattern_sits RowMoreComma p s vs h = (h 1 refl).0
  pattern_sits _ p s vs h = (h 0 refl).0
