-- Rules by which nothing is made that has expressions in it: those of names, patterns, types, signatures and specifications. What
-- holds of each phrase without expressions, and of the parts of a phrase, holds of what they make.
use Rattle.std.specs.Prelude.{◌≡◌, ℕ, nat_lt, length, List, [], ◌∷◌, Option, Bool, true, false}
use Rattle.std.proofs.Common.{refl}
use Rattle.sml_lex.specs.declared.fault.Place.{Place}
use Rattle.sml_tree.specs.Names.{Name}
use Rattle.sml_tree.specs.Types.{Ty}
use Rattle.sml_fixity.specs.Shapes.{Shape}
use Rattle.sml_read.specs.Grammar.{right_side}
use Rattle.sml_read.specs.declared.grammar.Rule.{Rule}
use Rattle.sml_read.specs.declared.grammar.Rule.TheVariants as G
use Rattle.sml_read.specs.declared.grammar.NameRule.{NameRule}
use Rattle.sml_read.specs.declared.grammar.NameRule.TheVariants as N
use Rattle.sml_read.specs.declared.grammar.PatternRule.{PatternRule}
use Rattle.sml_read.specs.declared.grammar.PatternRule.TheVariants as Q
use Rattle.sml_read.specs.declared.grammar.TypeRule.{TypeRule}
use Rattle.sml_read.specs.declared.grammar.TypeRule.TheVariants as T
use Rattle.sml_read.specs.declared.grammar.SignatureRule.{SignatureRule}
use Rattle.sml_read.specs.declared.grammar.SignatureRule.TheVariants as S
use Rattle.sml_read.specs.declared.grammar.SpecificationRule.{SpecificationRule}
use Rattle.sml_read.specs.declared.grammar.SpecificationRule.TheVariants as C
use Rattle.sml_phrases.specs.Phrases.{Phrase, of_names, of_long, of_longs, of_arguments, of_layer, of_exp, of_exps, of_series, of_fields, of_rules, of_rest, of_dec, of_decs, of_bind, of_binds, of_values, of_round_values, of_functions, of_right_side, of_clauses, of_round_functions, of_typ_binds, of_datatypes, of_constructors, of_copy, of_sig, of_wheres, of_typ_descs, of_type_rest, of_shared_types, of_str, of_str_dec, of_str_decs, of_str_binds, of_begun_str_bind, of_fun_binds, of_begun_fun_bind, of_begun_functor, of_top, at, name_in, names_in, ty_in}
use Rattle.sml_bare_pats.specs.NameRules.{name_phrase}
use Rattle.sml_bare_pats.specs.TypeRules.{and_argument, type_phrase}
use Rattle.sml_bare_pats.specs.PatternRules.{op_from_vid, after_colon, pattern_phrase}
use Rattle.sml_bare_mods.specs.SignatureRules.{signature_phrase}
use Rattle.sml_bare_mods.specs.SpecificationRules.{types, type_rest, datatypes, datatype_rest, included, included_name, shared, specification_phrase}

-- whether no expression stands in a phrase of this kind
abbrev pub is_free : Phrase → Bool
is_free (of_exp e) = false
is_free (of_exps es) = false
is_free (of_series es) = false
is_free (of_fields fs) = false
is_free (of_rules rs) = false
is_free (of_rest es ts a o rs) = false
is_free (of_dec d) = false
is_free (of_decs ds) = false
is_free (of_bind b) = false
is_free (of_binds bs) = false
is_free (of_values xs bs rs) = false
is_free (of_round_values ps qs ts e bs rs) = false
is_free (of_functions xs bs) = false
is_free (of_right_side qs t e) = false
is_free (of_clauses cs) = false
is_free (of_round_functions ps qs t e cs bs) = false
is_free (of_str e) = false
is_free (of_str_dec d) = false
is_free (of_str_decs ds) = false
is_free (of_str_binds ws cs bs) = false
is_free (of_begun_str_bind x cs e) = false
is_free (of_fun_binds ws cs bs) = false
is_free (of_begun_fun_bind f x s cs e) = false
is_free (of_begun_functor f ss cs e) = false
is_free (of_top d) = false
is_free _ = true

-- P of each part of a phrase
abbrev pub EachPart : (Phrase → Type 0) → Rule → List Phrase → Type 0
EachPart P rule vs = (k : ℕ) → nat_lt k (length (right_side rule)) ≡ true → P (at vs k)

module _ (P : Phrase → Type 0) (free : (v : Phrase) → is_free v ≡ true → P v) where
  pub name_free : (rule : NameRule) (p : Place) (vs : List Phrase) → EachPart P (G.Names rule) vs → P (name_phrase rule p vs)
  name_free N.LongVidAlphanumeric p vs h = free _ refl
  name_free N.LongVidSymbolic p vs h = free _ refl
  name_free N.LongVidStar p vs h = free _ refl
  name_free N.ExpVidEquals p vs h = free _ refl
  name_free N.LongTyConAlphanumeric p vs h = free _ refl
  name_free N.LongTyConSymbolic p vs h = free _ refl
  name_free N.LongStrIdAlphanumeric p vs h = free _ refl
  name_free N.ConstantNumeral p vs h = free _ refl
  name_free N.ConstantZeroNumeral p vs h = free _ refl
  name_free _ p vs h = h 0 refl

  argument_free : (t : Ty Place) (v : Phrase) → P (and_argument t v)
  argument_free t (of_arguments ts c) = free _ refl
  argument_free t _ = free _ refl

  pub type_free : (rule : TypeRule) (p : Place) (vs : List Phrase) → EachPart P (G.Types rule) vs → P (type_phrase rule p vs)
  type_free T.TyTup p vs h = free _ refl
  type_free T.TyArrowNone p vs h = free _ refl
  type_free T.TyArrowArrow p vs h = free _ refl
  type_free T.TupCon p vs h = free _ refl
  type_free T.TupMoreNone p vs h = free _ refl
  type_free T.TupMoreStar p vs h = free _ refl
  type_free T.ConATy p vs h = free _ refl
  type_free T.ConMoreNone p vs h = free _ refl
  type_free T.ConMoreLongTyCon p vs h = free _ refl
  type_free T.ATyTypeVariable p vs h = free _ refl
  type_free T.ATyLongTyCon p vs h = free _ refl
  type_free T.ATyOpenCurly p vs h = free _ refl
  type_free T.ATyOpenRound p vs h = free _ refl
  type_free T.TyRowCloseCurly p vs h = free _ refl
  type_free T.TyRowMoreCloseCurly p vs h = free _ refl
  type_free T.TyRowLab p vs h = free _ refl
  type_free T.TyRowMoreComma p vs h = free _ refl
  type_free T.TyRoundCloseRound p vs h = free _ refl
  type_free T.TyRoundComma p vs h = argument_free (ty_in (at vs 1)) (at vs 2)
  type_free T.TyRoundMoreCloseRound p vs h = free _ refl
  type_free T.TyRoundMoreComma p vs h = argument_free (ty_in (at vs 1)) (at vs 2)
  type_free T.TvsNone p vs h = free _ refl
  type_free T.TvsMoreNone p vs h = free _ refl
  type_free T.SomeTvsTypeVariable p vs h = free _ refl
  type_free T.SomeTvsOpenRound p vs h = free _ refl
  type_free T.TvsMoreComma p vs h = free _ refl
  type_free _ p vs h = h 0 refl

  op_from_vid_free : (x : Name Place) (v : Phrase) → P (op_from_vid x v)
  op_from_vid_free x (of_layer t q) = free _ refl
  op_from_vid_free x _ = free _ refl

  after_colon_free : (t : Ty Place) (v : Phrase) → P (after_colon t v)
  after_colon_free t (of_layer u q) = free _ refl
  after_colon_free t _ = free _ refl

  pub pattern_free : (rule : PatternRule) (p : Place) (s : Option Shape) (vs : List Phrase) → EachPart P (G.Patterns rule) vs → P (pattern_phrase rule p s vs)
  pattern_free Q.PatOpenRound p s vs h = free _ refl
  pattern_free Q.PatAlphanumeric p s vs h = free _ refl
  pattern_free Q.PatSymbolic p s vs h = free _ refl
  pattern_free Q.PatStar p s vs h = free _ refl
  pattern_free Q.BarePatAlphanumeric p s vs h = free _ refl
  pattern_free Q.BarePatSymbolic p s vs h = free _ refl
  pattern_free Q.BarePatStar p s vs h = free _ refl
  pattern_free Q.PatOp p s vs h = free _ refl
  pattern_free Q.BarePatOp p s vs h = free _ refl
  pattern_free Q.PatOtherAtPat p s vs h = free _ refl
  pattern_free Q.BarePatOtherAtPat p s vs h = free _ refl
  pattern_free Q.OpPatVid p s vs h = op_from_vid_free (name_in (at vs 0)) (at vs 1)
  pattern_free Q.OpPatQualified p s vs h = free _ refl
  pattern_free Q.AfterVidNone p s vs h = free _ refl
  pattern_free Q.AfterVidAs p s vs h = free _ refl
  pattern_free Q.AfterVidColon p s vs h = after_colon_free (ty_in (at vs 1)) (at vs 2)
  pattern_free Q.AfterVidAtPat p s vs h = free _ refl
  pattern_free Q.AfterVidTyNone p s vs h = free _ refl
  pattern_free Q.AfterVidTyAs p s vs h = free _ refl
  pattern_free Q.AfterVidTyColon p s vs h = free _ refl
  pattern_free Q.AtPatMoreNone p s vs h = free _ refl
  pattern_free Q.AtPatMoreAtPat p s vs h = free _ refl
  pattern_free Q.AtPatMoreColon p s vs h = free _ refl
  pattern_free Q.AtPatOpenRound p s vs h = free _ refl
  pattern_free Q.AtPatAlphanumeric p s vs h = free _ refl
  pattern_free Q.AtPatSymbolic p s vs h = free _ refl
  pattern_free Q.AtPatStar p s vs h = free _ refl
  pattern_free Q.BareAtPatAlphanumeric p s vs h = free _ refl
  pattern_free Q.BareAtPatSymbolic p s vs h = free _ refl
  pattern_free Q.BareAtPatStar p s vs h = free _ refl
  pattern_free Q.AtPatOp p s vs h = free _ refl
  pattern_free Q.BareAtPatOp p s vs h = free _ refl
  pattern_free Q.OtherAtPatWildcard p s vs h = free _ refl
  pattern_free Q.OtherAtPatConstant p s vs h = free _ refl
  pattern_free Q.OtherAtPatQualified p s vs h = free _ refl
  pattern_free Q.OtherAtPatOpenCurly p s vs h = free _ refl
  pattern_free Q.OtherAtPatOpenSquare p s vs h = free _ refl
  pattern_free Q.PatRoundCloseRound p s vs h = free _ refl
  pattern_free Q.PatRoundPat p s vs h = free _ refl
  pattern_free Q.PatRoundMoreCloseRound p s vs h = free _ refl
  pattern_free Q.PatRoundMoreComma p s vs h = free _ refl
  pattern_free Q.PatListCloseSquare p s vs h = free _ refl
  pattern_free Q.PatListPat p s vs h = free _ refl
  pattern_free Q.PatListMoreCloseSquare p s vs h = free _ refl
  pattern_free Q.PatListMoreComma p s vs h = free _ refl
  pattern_free Q.PatRowCloseCurly p s vs h = free _ refl
  pattern_free Q.RowDots p s vs h = free _ refl
  pattern_free Q.RowNumeral p s vs h = free _ refl
  pattern_free Q.RowVid p s vs h = free _ refl
  pattern_free Q.RowRestEquals p s vs h = free _ refl
  pattern_free Q.RowRestTyped p s vs h = free _ refl
  pattern_free Q.RowAsNone p s vs h = free _ refl
  pattern_free Q.RowAsAs p s vs h = free _ refl
  pattern_free Q.RowMoreNone p s vs h = free _ refl
  pattern_free Q.RowMoreComma p s vs h = h 1 refl
  pattern_free _ p s vs h = h 0 refl

  -- signatures and specifications

  types_free : (p : Place) (v : Phrase) → P (types p v)
  types_free p (of_typ_binds []) = free _ refl
  types_free p (of_typ_binds (b ∷ bs)) = free _ refl
  types_free p (of_typ_descs ds) = free _ refl
  types_free p _ = free _ refl

  type_rest_free : (xs : List (Name Place)) (x : Name Place) (v : Phrase) → P (type_rest xs x v)
  type_rest_free xs x (of_type_rest t bs) = free _ refl
  type_rest_free xs x (of_typ_descs ds) = free _ refl
  type_rest_free xs x _ = free _ refl

  datatypes_free : (p : Place) (v : Phrase) → P (datatypes p v)
  datatypes_free p (of_datatypes ds ts) = free _ refl
  datatypes_free p (of_copy x c) = free _ refl
  datatypes_free p _ = free _ refl

  datatype_rest_free : (x : Name Place) (v : Phrase) → P (datatype_rest x v)
  datatype_rest_free x (of_constructors cs ds ts) = free _ refl
  datatype_rest_free x (of_long c) = free _ refl
  datatype_rest_free x _ = free _ refl

  included_free : (p : Place) (v : Phrase) → P (included p v)
  included_free p (of_sig s) = free _ refl
  included_free p (of_names xs) = free _ refl
  included_free p _ = free _ refl

  included_name_free : (p : Place) (x : Name Place) (v : Phrase) → P (included_name p x v)
  included_name_free p x (of_wheres ws) = free _ refl
  included_name_free p x (of_names xs) = free _ refl
  included_name_free p x _ = free _ refl

  shared_free : (p : Place) (v : Phrase) → P (shared p v)
  shared_free p (of_shared_types cs) = free _ refl
  shared_free p (of_longs cs) = free _ refl
  shared_free p _ = free _ refl

  pub signature_free : (rule : SignatureRule) (p : Place) (vs : List Phrase) → EachPart P (G.Signatures rule) vs → P (signature_phrase rule p vs)
  signature_free S.SigSigAtom p vs h = free _ refl
  signature_free S.SigAtomSig p vs h = free _ refl
  signature_free S.SigAtomAlphanumeric p vs h = free _ refl
  signature_free S.SigMoreNone p vs h = free _ refl
  signature_free S.SigMoreWhere p vs h = free _ refl
  signature_free S.SigWhereNone p vs h = free _ refl
  signature_free S.SigWhereWhere p vs h = free _ refl
  signature_free S.SigWhereAnd p vs h = free _ refl
  signature_free S.WhereType p vs h = free _ refl
  signature_free S.SigBindAlphanumeric p vs h = free _ refl
  signature_free S.SigBindMoreNone p vs h = free _ refl
  signature_free S.SigBindMoreWhere p vs h = free _ refl
  signature_free S.SigBindMoreAnd p vs h = free _ refl
  signature_free S.SigBindWhereNone p vs h = free _ refl
  signature_free S.SigBindWhereWhere p vs h = free _ refl
  signature_free S.SigBindAndWhere p vs h = free _ refl
  signature_free S.SigBindAndSigBind p vs h = free _ refl
  signature_free S.SigBindWhereAnd p vs h = h 1 refl

  pub specification_free : (rule : SpecificationRule) (p : Place) (vs : List Phrase) → EachPart P (G.Specifications rule) vs → P (specification_phrase rule p vs)
  specification_free C.SpecVal p vs h = free _ refl
  specification_free C.SpecEqtype p vs h = free _ refl
  specification_free C.SpecException p vs h = free _ refl
  specification_free C.SpecStructure p vs h = free _ refl
  specification_free C.ValSpecVid p vs h = free _ refl
  specification_free C.ValSpecMoreNone p vs h = free _ refl
  specification_free C.ValSpecMoreAnd p vs h = free _ refl
  specification_free C.TypeSpecRestEquals p vs h = free _ refl
  specification_free C.TypeSpecMoreNone p vs h = free _ refl
  specification_free C.TypeSpecMoreAnd p vs h = free _ refl
  specification_free C.DatSpecSomeTvs p vs h = free _ refl
  specification_free C.DatSpecRestConSpecs p vs h = free _ refl
  specification_free C.DatSpecMoreNone p vs h = free _ refl
  specification_free C.DatSpecMoreAnd p vs h = free _ refl
  specification_free C.ConSpecsVid p vs h = free _ refl
  specification_free C.ConSpecsMoreNone p vs h = free _ refl
  specification_free C.ExnSpecMoreNone p vs h = free _ refl
  specification_free C.ExnSpecMoreAnd p vs h = free _ refl
  specification_free C.StrSpecAlphanumeric p vs h = free _ refl
  specification_free C.StrSpecMoreNone p vs h = free _ refl
  specification_free C.StrSpecMoreWhere p vs h = free _ refl
  specification_free C.StrSpecMoreAnd p vs h = free _ refl
  specification_free C.StrSpecWhereNone p vs h = free _ refl
  specification_free C.StrSpecWhereWhere p vs h = free _ refl
  specification_free C.StrSpecAndWhere p vs h = free _ refl
  specification_free C.StrSpecAndStrSpec p vs h = free _ refl
  specification_free C.IncludeSig p vs h = free _ refl
  specification_free C.OfTyNone p vs h = free _ refl
  specification_free C.SharingType p vs h = free _ refl
  specification_free C.SharingLongStrId p vs h = free _ refl
  specification_free C.TypeShareMoreNone p vs h = free _ refl
  specification_free C.TypeShareMoreEquals p vs h = free _ refl
  specification_free C.StrShareMoreNone p vs h = free _ refl
  specification_free C.StrShareMoreEquals p vs h = free _ refl
  specification_free C.SpecType p vs h = types_free p (at vs 1)
  specification_free C.SpecDatatype p vs h = datatypes_free p (at vs 1)
  specification_free C.SpecInclude p vs h = included_free p (at vs 1)
  specification_free C.SpecSharing p vs h = shared_free p (at vs 1)
  specification_free C.TypeSpecTvs p vs h = type_rest_free (names_in (at vs 0)) (name_in (at vs 1)) (at vs 2)
  specification_free C.DatSpecTyCon p vs h = datatype_rest_free (name_in (at vs 0)) (at vs 2)
  specification_free C.DatSpecRestDatatype p vs h = h 1 refl
  specification_free C.ConSpecsMoreBar p vs h = h 1 refl
  specification_free C.OfTyOf p vs h = h 1 refl
  specification_free C.StrSpecWhereAnd p vs h = h 1 refl
  specification_free C.ExnSpecVid p vs h = free _ refl
  specification_free C.IncludeAlphanumeric p vs h = included_name_free p (name_in (at vs 0)) (at vs 1)
  specification_free C.IncludeMoreAlphanumeric p vs h = free _ refl
  specification_free C.IncludeIdsAlphanumeric p vs h = free _ refl
  specification_free C.IncludeIdsNone p vs h = free _ refl
  specification_free _ p vs h = h 0 refl
