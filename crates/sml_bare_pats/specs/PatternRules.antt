-- What the rules of patterns make of their parts (the Definition, section 2.8): one line a rule, with the place of the
-- phrase, what the sequence that begins here stands for, and all phrases from its first part on. Any other rule's
-- phrase is its first part.
use Rattle.std.specs.Prelude.{List, true, false, Option, Some, None}
use Rattle.sml_lex.specs.declared.fault.Place.{Place}
use Rattle.sml_tree.specs.Names.{Name}
use Rattle.sml_tree.specs.Types.{Ty, no_ty, and_ty}
use Rattle.sml_tree.specs.Patterns.{Pat, Pats, wildcard, pat_constant, pat_name, pat_row, pat_as, no_pat, and_pat, pat_field, no_pat_field, and_pat_field}
use Rattle.sml_read.specs.declared.grammar.PatternRule.{PatternRule}
use Rattle.sml_read.specs.declared.grammar.PatternRule.TheVariants.{PatOpenRound, PatAlphanumeric, PatSymbolic, PatStar, BarePatAlphanumeric, BarePatSymbolic, BarePatStar, PatOp, BarePatOp, PatOtherAtPat, BarePatOtherAtPat, OpPatVid, OpPatQualified, AfterVidNone, AfterVidAs, AfterVidColon, AfterVidAtPat, AfterVidTyNone, AfterVidTyAs, AfterVidTyColon, AtPatMoreNone, AtPatMoreAtPat, AtPatMoreColon, AtPatOpenRound, AtPatAlphanumeric, AtPatSymbolic, AtPatStar, BareAtPatAlphanumeric, BareAtPatSymbolic, BareAtPatStar, AtPatOp, BareAtPatOp, OtherAtPatWildcard, OtherAtPatConstant, OtherAtPatQualified, OtherAtPatOpenCurly, OtherAtPatOpenSquare, PatRoundCloseRound, PatRoundPat, PatRoundMoreCloseRound, PatRoundMoreComma, PatListCloseSquare, PatListPat, PatListMoreCloseSquare, PatListMoreComma, PatRowCloseCurly, RowDots, RowNumeral, RowVid, RowRestEquals, RowRestTyped, RowAsNone, RowAsAs, RowMoreNone, RowMoreComma}
use Rattle.sml_derived.specs.Derived.{long, pat_nil, pat_cons, layered}
use Rattle.sml_bare_pats.specs.PatternPhrases.{pat_fields_in, flexible_in, atoms_in, colons_in}
use Rattle.sml_pat_sequences.specs.PatternSequences.{no_operand, sequence_pat, round_sequence}
use Rattle.sml_pat_sequences.specs.RoundPatterns.{round_pat}
use Rattle.sml_phrases.specs.Phrases.{Phrase, nothing, of_tys, of_pat, of_pats, of_pat_fields, of_atoms, of_layer, of_op_atoms, of_op_layer, name_in, long_in, constant_in, ty_in, tys_in, pat_in, pats_in, ty_if_any, pat_if_any, at}
use Rattle.sml_fixity.specs.Shapes.{Shape}

-- a list of patterns
abbrev pub list_pat : Place → Pats Place → Pat Place
list_pat p no_pat = pat_nil p
list_pat p (and_pat q qs) = pat_cons p q (list_pat p qs)

-- a sequence, from its first pattern and what stands after that
abbrev pub sequence_from : Option Shape → Pat Place → Phrase → Pat Place
sequence_from s q v = sequence_pat s (and_pat q (atoms_in v)) (colons_in v)

-- an identifier and what stands after it
abbrev pub from_vid : Option Shape → Place → Name Place → Phrase → Pat Place
from_vid s p x (of_layer t q) = layered x t q
from_vid s p x v = sequence_from s (pat_name p (long x)) v

-- the same after `op`
abbrev pub op_from_vid : Name Place → Phrase → Phrase
op_from_vid x (of_layer t q) = of_op_layer x t q
op_from_vid x v = of_op_atoms (long x) (atoms_in v) (colons_in v)

-- what stands after `op`, as a pattern
abbrev pub after_op : Option Shape → Place → Phrase → Pat Place
after_op s p (of_op_layer x t (Some q)) = pat_as p x t q
after_op s p (of_op_atoms c qs ts) = sequence_pat s (and_pat (pat_name p c) qs) ts
after_op s p _ = no_operand

-- what stands after an identifier that a colon follows
abbrev pub after_colon : Ty Place → Phrase → Phrase
after_colon t (of_layer u q) = of_layer (Some t) q
after_colon t v = of_atoms no_pat (and_ty t (tys_in v))

-- one atomic pattern more
abbrev pub and_atom : Pat Place → Phrase → Phrase
and_atom q v = of_atoms (and_pat q (atoms_in v)) (colons_in v)

-- the pattern of a field, from its identifier and what stands after it
abbrev pub field_pat : Name Place → Phrase → Pat Place
field_pat x (of_pat q) = q
field_pat x (of_layer t q) = layered x t q
field_pat x _ = layered x None None

-- one field more
abbrev pub and_field : Name Place → Pat Place → Phrase → Phrase
and_field l q v = of_pat_fields (and_pat_field (pat_field l q) (pat_fields_in v)) (flexible_in v)

abbrev pub pattern_phrase : PatternRule → Place → Option Shape → List Phrase → Phrase
pattern_phrase PatOpenRound p s vs = of_pat (round_sequence s (round_pat p (pats_in (at vs 1))) (atoms_in (at vs 2)) (colons_in (at vs 2)))
pattern_phrase PatAlphanumeric p s vs = of_pat (from_vid s p (name_in (at vs 0)) (at vs 1))
pattern_phrase PatSymbolic p s vs = of_pat (from_vid s p (name_in (at vs 0)) (at vs 1))
pattern_phrase PatStar p s vs = of_pat (from_vid s p (name_in (at vs 0)) (at vs 1))
pattern_phrase BarePatAlphanumeric p s vs = of_pat (from_vid s p (name_in (at vs 0)) (at vs 1))
pattern_phrase BarePatSymbolic p s vs = of_pat (from_vid s p (name_in (at vs 0)) (at vs 1))
pattern_phrase BarePatStar p s vs = of_pat (from_vid s p (name_in (at vs 0)) (at vs 1))
pattern_phrase PatOp p s vs = of_pat (after_op s p (at vs 1))
pattern_phrase BarePatOp p s vs = of_pat (after_op s p (at vs 1))
pattern_phrase PatOtherAtPat p s vs = of_pat (sequence_from s (pat_in (at vs 0)) (at vs 1))
pattern_phrase BarePatOtherAtPat p s vs = of_pat (sequence_from s (pat_in (at vs 0)) (at vs 1))
pattern_phrase OpPatVid p s vs = op_from_vid (name_in (at vs 0)) (at vs 1)
pattern_phrase OpPatQualified p s vs = of_op_atoms (long_in (at vs 0)) (atoms_in (at vs 1)) (colons_in (at vs 1))
pattern_phrase AfterVidNone p s vs = of_atoms no_pat no_ty
pattern_phrase AfterVidAs p s vs = of_layer None (Some (pat_in (at vs 1)))
pattern_phrase AfterVidColon p s vs = after_colon (ty_in (at vs 1)) (at vs 2)
pattern_phrase AfterVidAtPat p s vs = and_atom (pat_in (at vs 0)) (at vs 1)
pattern_phrase AfterVidTyNone p s vs = of_tys no_ty
pattern_phrase AfterVidTyAs p s vs = of_layer None (Some (pat_in (at vs 1)))
pattern_phrase AfterVidTyColon p s vs = of_tys (and_ty (ty_in (at vs 1)) (tys_in (at vs 2)))
pattern_phrase AtPatMoreNone p s vs = of_atoms no_pat no_ty
pattern_phrase AtPatMoreAtPat p s vs = and_atom (pat_in (at vs 0)) (at vs 1)
pattern_phrase AtPatMoreColon p s vs = of_atoms no_pat (and_ty (ty_in (at vs 1)) (tys_in (at vs 2)))
pattern_phrase AtPatOpenRound p s vs = of_pat (round_pat p (pats_in (at vs 1)))
pattern_phrase AtPatAlphanumeric p s vs = of_pat (pat_name p (long (name_in (at vs 0))))
pattern_phrase AtPatSymbolic p s vs = of_pat (pat_name p (long (name_in (at vs 0))))
pattern_phrase AtPatStar p s vs = of_pat (pat_name p (long (name_in (at vs 0))))
pattern_phrase BareAtPatAlphanumeric p s vs = of_pat (pat_name p (long (name_in (at vs 0))))
pattern_phrase BareAtPatSymbolic p s vs = of_pat (pat_name p (long (name_in (at vs 0))))
pattern_phrase BareAtPatStar p s vs = of_pat (pat_name p (long (name_in (at vs 0))))
pattern_phrase AtPatOp p s vs = of_pat (pat_name p (long_in (at vs 1)))
pattern_phrase BareAtPatOp p s vs = of_pat (pat_name p (long_in (at vs 1)))
pattern_phrase OtherAtPatWildcard p s vs = of_pat (wildcard p)
pattern_phrase OtherAtPatConstant p s vs = of_pat (pat_constant p (constant_in (at vs 0)))
pattern_phrase OtherAtPatQualified p s vs = of_pat (pat_name p (long_in (at vs 0)))
pattern_phrase OtherAtPatOpenCurly p s vs = of_pat (pat_row p (pat_fields_in (at vs 1)) (flexible_in (at vs 1)))
pattern_phrase OtherAtPatOpenSquare p s vs = of_pat (list_pat p (pats_in (at vs 1)))
pattern_phrase PatRoundCloseRound p s vs = of_pats no_pat
pattern_phrase PatRoundPat p s vs = of_pats (and_pat (pat_in (at vs 0)) (pats_in (at vs 1)))
pattern_phrase PatRoundMoreCloseRound p s vs = of_pats no_pat
pattern_phrase PatRoundMoreComma p s vs = of_pats (and_pat (pat_in (at vs 1)) (pats_in (at vs 2)))
pattern_phrase PatListCloseSquare p s vs = of_pats no_pat
pattern_phrase PatListPat p s vs = of_pats (and_pat (pat_in (at vs 0)) (pats_in (at vs 1)))
pattern_phrase PatListMoreCloseSquare p s vs = of_pats no_pat
pattern_phrase PatListMoreComma p s vs = of_pats (and_pat (pat_in (at vs 1)) (pats_in (at vs 2)))
pattern_phrase PatRowCloseCurly p s vs = of_pat_fields no_pat_field false
pattern_phrase RowDots p s vs = of_pat_fields no_pat_field true
pattern_phrase RowNumeral p s vs = and_field (name_in (at vs 0)) (pat_in (at vs 2)) (at vs 3)
pattern_phrase RowVid p s vs = and_field (name_in (at vs 0)) (field_pat (name_in (at vs 0)) (at vs 1)) (at vs 2)
pattern_phrase RowRestEquals p s vs = of_pat (pat_in (at vs 1))
pattern_phrase RowRestTyped p s vs = of_layer (ty_if_any (at vs 0)) (pat_if_any (at vs 1))
pattern_phrase RowAsNone p s vs = nothing
pattern_phrase RowAsAs p s vs = of_pat (pat_in (at vs 1))
pattern_phrase RowMoreNone p s vs = of_pat_fields no_pat_field false
pattern_phrase RowMoreComma p s vs = at vs 1
pattern_phrase _ p s vs = at vs 0
