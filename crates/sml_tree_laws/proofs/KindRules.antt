-- What a rule makes is what its part makes, where it finds its parts.
use Rattle.std.proofs.Common.{◌≡◌, List, ◌∷◌, Bool, true, false, Option, refl}
use Rattle.std.specs.Prelude.{◌||◌}
use Rattle.std.proofs.lemmas.Bool.{false≢true}
use Rattle.sml_lex.specs.declared.fault.Place.{Place}
use Rattle.sml_tree.specs.Names.{Name}
use Rattle.sml_tree.specs.Types.{Ty}
use Rattle.sml_tree.specs.Expressions.{Exp}
use Rattle.sml_tree.specs.Structures.{StrExp}
use Rattle.sml_tree.specs.Clauses.{Constraint}
use Rattle.sml_read.specs.declared.grammar.Rule.{Rule}
use Rattle.sml_read.specs.declared.grammar.Rule.TheVariants as V
use Rattle.sml_read.specs.declared.grammar.NameRule.{NameRule}
use Rattle.sml_read.specs.declared.grammar.NameRule.TheVariants as N
use Rattle.sml_read.specs.declared.grammar.UnitRule.{UnitRule}
use Rattle.sml_read.specs.declared.grammar.UnitRule.TheVariants as U
use Rattle.sml_read.specs.declared.grammar.StructureRule.{StructureRule}
use Rattle.sml_read.specs.declared.grammar.StructureRule.TheVariants as R
use Rattle.sml_read.specs.declared.grammar.SignatureRule.{SignatureRule}
use Rattle.sml_read.specs.declared.grammar.SignatureRule.TheVariants as I
use Rattle.sml_read.specs.declared.grammar.SpecificationRule.{SpecificationRule}
use Rattle.sml_read.specs.declared.grammar.SpecificationRule.TheVariants as W
use Rattle.sml_read.specs.declared.grammar.DeclarationRule.{DeclarationRule}
use Rattle.sml_read.specs.declared.grammar.DeclarationRule.TheVariants as C
use Rattle.sml_read.specs.declared.grammar.ExpressionRule.{ExpressionRule}
use Rattle.sml_read.specs.declared.grammar.ExpressionRule.TheVariants as X
use Rattle.sml_read.specs.declared.grammar.PatternRule.{PatternRule}
use Rattle.sml_read.specs.declared.grammar.PatternRule.TheVariants as A
use Rattle.sml_read.specs.declared.grammar.TypeRule.{TypeRule}
use Rattle.sml_read.specs.declared.grammar.TypeRule.TheVariants as Y
use Rattle.sml_read.specs.Grammar.{right_side}
use Rattle.sml_read.specs.Parts.{part_of}
use Rattle.sml_read.specs.declared.grammar.Part.TheVariants as Part
use Rattle.sml_fixity.specs.Shapes.{Shape}
use Rattle.sml_phrases.specs.Phrases.{Phrase, at, nothing, of_long, of_names, of_longs, of_ty, of_tys, of_arguments, of_atoms, of_layer, of_exps, of_rest, of_series, of_values, of_round_values, of_functions, of_round_functions, of_typ_binds, of_datatypes, of_constructors, of_copy, of_sig, of_wheres, of_specs, of_typ_descs, of_type_rest, of_shared_types, of_functor_argument, constraints_in, exp_in, name_in, names_in, str_in, ty_in}
use Rattle.sml_bare_decs.specs.DeclarationRules as D
use Rattle.sml_bare_exps.specs.ExpressionRules as E
use Rattle.sml_bare_pats.specs.PatternRules as Q
use Rattle.sml_bare_pats.specs.TypeRules as T
use Rattle.sml_bare_mods.specs.SpecificationRules as S
use Rattle.sml_bare_mods.specs.StructureRules as M
use Rattle.sml_bare_decs.specs.FunctionRules as F
use Rattle.sml_bare_pats.specs.NameRules.{name_phrase}
use Rattle.sml_bare_mods.specs.UnitRules.{unit_phrase}
use Rattle.sml_bare_mods.specs.StructureRules.{structure_phrase}
use Rattle.sml_bare_mods.specs.SignatureRules.{signature_phrase}
use Rattle.sml_bare_mods.specs.SpecificationRules.{specification_phrase}
use Rattle.sml_bare_decs.specs.DeclarationRules.{declaration_phrase}
use Rattle.sml_bare_exps.specs.ExpressionRules.{expression_phrase}
use Rattle.sml_bare_pats.specs.PatternRules.{pattern_phrase}
use Rattle.sml_bare_pats.specs.TypeRules.{type_phrase}
use Rattle.sml_bare.specs.RulePhrases.{rule_phrase}
use Rattle.sml_tree_laws.specs.Kinds.{is_exp, is_of_part, AreOf, is_arguments, is_atoms, is_begun_fun_bind, is_begun_functor, is_con_bind, is_constructors, is_copy, is_datatypes, is_exps, is_functions, is_functor_argument, is_layer, is_long, is_longs, is_names, is_nothing, is_op_atoms, is_op_layer, is_round_functions, is_round_values, is_series, is_shared_types, is_sig, is_some_typ_binds, is_specs, is_ty, is_typ_descs, is_type_rest, is_tys, is_values, is_wheres}

left_so : (a b : Bool) → a ≡ true → (a || b) ≡ true
left_so true b h = refl
left_so false b h = absurd (false≢true h)

right_so : (a b : Bool) → b ≡ true → (a || b) ≡ true
right_so true b h = refl
right_so false b h = h

-- what is made of one part, by what that is

made_value : (s : Option Shape) (p : Place) (v : Phrase) → (is_values v || is_round_values v) ≡ true → (is_values (D.round_value s p v)) ≡ true
made_value s p (of_values a0 a1 a2) h = refl
made_value s p (of_round_values a0 a1 a2 a3 a4 a5) h = refl
made_value s p _ h = absurd (false≢true h)

made_functions : (s : Option Shape) (p : Place) (v : Phrase) → (is_functions v || is_round_functions v) ≡ true → (is_functions (F.round_functions s p v)) ≡ true
made_functions s p (of_functions a0 a1) h = refl
made_functions s p (of_round_functions a0 a1 a2 a3 a4 a5) h = refl
made_functions s p _ h = absurd (false≢true h)

made_datatype : (x : Name Place) (v : Phrase) → (is_long v || is_constructors v) ≡ true → (is_datatypes (D.datatype_rest x v) || is_copy (D.datatype_rest x v)) ≡ true
made_datatype x (of_long a0) h = refl
made_datatype x (of_constructors a0 a1 a2) h = refl
made_datatype x _ h = absurd (false≢true h)

made_exception : (x : Name Place) (v : Phrase) → (is_nothing v || (is_long v || is_ty v)) ≡ true → (is_con_bind (D.exn_rest x v) || is_copy (D.exn_rest x v)) ≡ true
made_exception x nothing h = refl
made_exception x (of_long a0) h = refl
made_exception x (of_ty a0) h = refl
made_exception x _ h = absurd (false≢true h)

made_round : (e : Exp Place) (v : Phrase) → (is_nothing v || (is_exps v || is_series v)) ≡ true → (is_exp (E.round_parts e v) || (is_exps (E.round_parts e v) || is_series (E.round_parts e v))) ≡ true
made_round e nothing h = refl
made_round e (of_exps a0) h = refl
made_round e (of_series a0) h = refl
made_round e _ h = absurd (false≢true h)

made_op : (x : Name Place) (v : Phrase) → (is_atoms v || is_layer v) ≡ true → (is_op_atoms (Q.op_from_vid x v) || is_op_layer (Q.op_from_vid x v)) ≡ true
made_op x (of_atoms a0 a1) h = refl
made_op x (of_layer a0 a1) h = refl
made_op x _ h = absurd (false≢true h)

made_colon : (t : Ty Place) (v : Phrase) → (is_tys v || is_layer v) ≡ true → (is_atoms (Q.after_colon t v) || is_layer (Q.after_colon t v)) ≡ true
made_colon t (of_tys a0) h = refl
made_colon t (of_layer a0 a1) h = refl
made_colon t _ h = absurd (false≢true h)

made_argument : (t : Ty Place) (v : Phrase) → (is_arguments v) ≡ true → (is_arguments (T.and_argument t v)) ≡ true
made_argument t (of_arguments a0 a1) h = refl
made_argument t _ h = absurd (false≢true h)

made_types : (p : Place) (v : Phrase) → (is_some_typ_binds v || is_typ_descs v) ≡ true → (is_specs (S.types p v)) ≡ true
made_types p (of_typ_binds (a0 ∷ a1)) h = refl
made_types p (of_typ_descs a0) h = refl
made_types p _ h = absurd (false≢true h)

made_datatypes : (p : Place) (v : Phrase) → (is_datatypes v || is_copy v) ≡ true → (is_specs (S.datatypes p v)) ≡ true
made_datatypes p (of_datatypes a0 a1) h = refl
made_datatypes p (of_copy a0 a1) h = refl
made_datatypes p _ h = absurd (false≢true h)

made_included : (p : Place) (v : Phrase) → (is_names v || is_sig v) ≡ true → (is_specs (S.included p v)) ≡ true
made_included p (of_names a0) h = refl
made_included p (of_sig a0) h = refl
made_included p _ h = absurd (false≢true h)

made_shared : (p : Place) (v : Phrase) → (is_longs v || is_shared_types v) ≡ true → (is_specs (S.shared p v)) ≡ true
made_shared p (of_longs a0) h = refl
made_shared p (of_shared_types a0) h = refl
made_shared p _ h = absurd (false≢true h)

made_type_rest : (xs : List (Name Place)) (x : Name Place) (v : Phrase) → (is_typ_descs v || is_type_rest v) ≡ true → (is_some_typ_binds (S.type_rest xs x v) || is_typ_descs (S.type_rest xs x v)) ≡ true
made_type_rest xs x (of_typ_descs a0) h = refl
made_type_rest xs x (of_type_rest a0 a1) h = refl
made_type_rest xs x _ h = absurd (false≢true h)

made_datatype_rest : (x : Name Place) (v : Phrase) → (is_long v || is_constructors v) ≡ true → (is_datatypes (S.datatype_rest x v) || is_copy (S.datatype_rest x v)) ≡ true
made_datatype_rest x (of_long a0) h = refl
made_datatype_rest x (of_constructors a0 a1 a2) h = refl
made_datatype_rest x _ h = absurd (false≢true h)

made_included_name : (p : Place) (x : Name Place) (v : Phrase) → (is_names v || is_wheres v) ≡ true → (is_names (S.included_name p x v) || is_sig (S.included_name p x v)) ≡ true
made_included_name p x (of_names a0) h = refl
made_included_name p x (of_wheres a0) h = refl
made_included_name p x _ h = absurd (false≢true h)

made_fun_bind : (f : Name Place) (own : List (Constraint Place)) (e : StrExp Place) (v : Phrase) → (is_specs v || is_functor_argument v) ≡ true → (is_begun_fun_bind (M.begun_fun_bind f v own e) || is_begun_functor (M.begun_fun_bind f v own e)) ≡ true
made_fun_bind f own e (of_specs a0) h = refl
made_fun_bind f own e (of_functor_argument a0 a1) h = refl
made_fun_bind f own e _ h = absurd (false≢true h)

-- by the rules

name_made : (rule : NameRule) (p : Place) (vs : List Phrase) → AreOf (right_side (V.Names rule)) 0 vs → is_of_part (part_of (V.Names rule)) (name_phrase rule p vs) ≡ true
name_made N.VidAlphanumeric p vs h = h.0
name_made N.VidSymbolic p vs h = h.0
name_made N.VidStar p vs h = h.0
name_made N.TyConAlphanumeric p vs h = h.0
name_made N.TyConSymbolic p vs h = h.0
name_made N.LongVidAlphanumeric p vs h = refl
name_made N.LongVidSymbolic p vs h = refl
name_made N.LongVidStar p vs h = refl
name_made N.LongVidQualified p vs h = h.0
name_made N.QualifiedLongAlphanumeric p vs h = h.0
name_made N.QualifiedLongSymbolic p vs h = h.0
name_made N.QualifiedLongStar p vs h = h.0
name_made N.ExpVidLongVid p vs h = h.0
name_made N.ExpVidEquals p vs h = refl
name_made N.LongTyConAlphanumeric p vs h = refl
name_made N.LongTyConSymbolic p vs h = refl
name_made N.LongTyConLongAlphanumeric p vs h = h.0
name_made N.LongTyConLongSymbolic p vs h = h.0
name_made N.LongStrIdAlphanumeric p vs h = refl
name_made N.LongStrIdLongAlphanumeric p vs h = h.0
name_made N.LabVid p vs h = h.0
name_made N.LabNumeral p vs h = h.0
name_made N.LevelNumeral p vs h = h.0
name_made N.LevelZeroNumeral p vs h = h.0
name_made N.ConstantNumeral p vs h = refl
name_made N.ConstantZeroNumeral p vs h = refl
name_made N.ConstantInteger p vs h = h.0
name_made N.ConstantWordConstant p vs h = h.0
name_made N.ConstantRealConstant p vs h = h.0
name_made N.ConstantStringConstant p vs h = h.0
name_made N.ConstantCharacterConstant p vs h = h.0

unit_made : (rule : UnitRule) (p : Place) (vs : List Phrase) → AreOf (right_side (V.Units rule)) 0 vs → is_of_part (part_of (V.Units rule)) (unit_phrase rule p vs) ≡ true
unit_made U.StartNone p vs h = refl
unit_made U.StartSemicolon p vs h = refl
unit_made U.StartTop p vs h = refl
unit_made U.StartExp p vs h = refl
unit_made U.AfterTopNone p vs h = refl
unit_made U.AfterTopSemicolon p vs h = refl
unit_made U.AfterTopTop p vs h = refl
unit_made U.AfterExpNone p vs h = refl
unit_made U.AfterExpSemicolon p vs h = refl
unit_made U.TopStr p vs h = refl
unit_made U.TopSignature p vs h = refl
unit_made U.TopFunctor p vs h = refl
unit_made U.StrCoreDec p vs h = refl
unit_made U.StrStructure p vs h = refl
unit_made U.StrLocal p vs h = refl
unit_made U.StrsNone p vs h = refl
unit_made U.StrsSemicolon p vs h = h.1.0
unit_made U.StrsStr p vs h = refl
unit_made U.DecsNone p vs h = refl
unit_made U.DecsSemicolon p vs h = h.1.0
unit_made U.DecsDec p vs h = refl
unit_made U.SpecsNone p vs h = refl
unit_made U.SpecsSemicolon p vs h = h.1.0
unit_made U.SpecsSpec p vs h = refl

structure_made : (rule : StructureRule) (p : Place) (vs : List Phrase) → AreOf (right_side (V.Structures rule)) 0 vs → is_of_part (part_of (V.Structures rule)) (structure_phrase rule p vs) ≡ true
structure_made R.StrBindAlphanumeric p vs h = refl
structure_made R.SealNone p vs h = refl
structure_made R.SealColon p vs h = refl
structure_made R.SealSeals p vs h = refl
structure_made R.StrBindMoreNone p vs h = refl
structure_made R.StrBindMoreAscription p vs h = refl
structure_made R.StrBindMoreAnd p vs h = refl
structure_made R.AscriptionColon p vs h = refl
structure_made R.AscriptionSeals p vs h = refl
structure_made R.StrBindSigNone p vs h = refl
structure_made R.StrBindSigWhere p vs h = refl
structure_made R.StrBindSigAscription p vs h = refl
structure_made R.StrBindSigAnd p vs h = refl
structure_made R.StrBindWhereNone p vs h = refl
structure_made R.StrBindWhereWhere p vs h = refl
structure_made R.StrBindWhereAscription p vs h = refl
structure_made R.StrBindWhereAnd p vs h = h.1.0
structure_made R.StrBindAndWhere p vs h = refl
structure_made R.StrBindAndStrBind p vs h = refl
structure_made R.FunBindAlphanumeric p vs h = made_fun_bind (name_in (at vs 0)) (constraints_in (at vs 4)) (str_in (at vs 6)) (at vs 2) h.1.1.0
structure_made R.FunArgAlphanumeric p vs h = refl
structure_made R.FunArgSpecs p vs h = (left_so _ _ h.0)
structure_made R.FunBindMoreNone p vs h = refl
structure_made R.FunBindMoreAscription p vs h = refl
structure_made R.FunBindMoreAnd p vs h = refl
structure_made R.FunBindSigNone p vs h = refl
structure_made R.FunBindSigWhere p vs h = refl
structure_made R.FunBindSigAscription p vs h = refl
structure_made R.FunBindSigAnd p vs h = refl
structure_made R.FunBindWhereNone p vs h = refl
structure_made R.FunBindWhereWhere p vs h = refl
structure_made R.FunBindWhereAscription p vs h = refl
structure_made R.FunBindWhereAnd p vs h = h.1.0
structure_made R.FunBindAndWhere p vs h = refl
structure_made R.FunBindAndFunBind p vs h = refl
structure_made R.StrExpStrAtom p vs h = refl
structure_made R.StrExpMoreNone p vs h = refl
structure_made R.StrExpMoreAscription p vs h = refl
structure_made R.StrExpSigNone p vs h = refl
structure_made R.StrExpSigWhere p vs h = refl
structure_made R.StrExpSigAscription p vs h = refl
structure_made R.StrExpWhereNone p vs h = refl
structure_made R.StrExpWhereWhere p vs h = refl
structure_made R.StrExpWhereAscription p vs h = refl
structure_made R.StrExpWhereAnd p vs h = refl
structure_made R.StrAtomStruct p vs h = refl
structure_made R.StrAtomLongAlphanumeric p vs h = refl
structure_made R.StrAtomAlphanumeric p vs h = refl
structure_made R.StrAtomLet p vs h = refl
structure_made R.ActualNone p vs h = refl
structure_made R.ActualOpenRound p vs h = (right_so _ _ h.1.0)
structure_made R.StrArgStrExp p vs h = (left_so _ _ h.0)
structure_made R.StrArgStrs p vs h = (right_so _ _ h.0)

signature_made : (rule : SignatureRule) (p : Place) (vs : List Phrase) → AreOf (right_side (V.Signatures rule)) 0 vs → is_of_part (part_of (V.Signatures rule)) (signature_phrase rule p vs) ≡ true
signature_made I.SigSigAtom p vs h = refl
signature_made I.SigAtomSig p vs h = refl
signature_made I.SigAtomAlphanumeric p vs h = refl
signature_made I.SigMoreNone p vs h = refl
signature_made I.SigMoreWhere p vs h = refl
signature_made I.SigWhereNone p vs h = refl
signature_made I.SigWhereWhere p vs h = refl
signature_made I.SigWhereAnd p vs h = refl
signature_made I.WhereType p vs h = refl
signature_made I.SigBindAlphanumeric p vs h = refl
signature_made I.SigBindMoreNone p vs h = refl
signature_made I.SigBindMoreWhere p vs h = refl
signature_made I.SigBindMoreAnd p vs h = refl
signature_made I.SigBindWhereNone p vs h = refl
signature_made I.SigBindWhereWhere p vs h = refl
signature_made I.SigBindWhereAnd p vs h = h.1.0
signature_made I.SigBindAndWhere p vs h = refl
signature_made I.SigBindAndSigBind p vs h = refl

specification_made : (rule : SpecificationRule) (p : Place) (vs : List Phrase) → AreOf (right_side (V.Specifications rule)) 0 vs → is_of_part (part_of (V.Specifications rule)) (specification_phrase rule p vs) ≡ true
specification_made W.SpecVal p vs h = refl
specification_made W.SpecType p vs h = made_types p (at vs 1) h.1.0
specification_made W.SpecEqtype p vs h = refl
specification_made W.SpecDatatype p vs h = made_datatypes p (at vs 1) h.1.0
specification_made W.SpecException p vs h = refl
specification_made W.SpecStructure p vs h = refl
specification_made W.SpecInclude p vs h = made_included p (at vs 1) h.1.0
specification_made W.SpecSharing p vs h = made_shared p (at vs 1) h.1.0
specification_made W.ValSpecVid p vs h = refl
specification_made W.ValSpecMoreNone p vs h = refl
specification_made W.ValSpecMoreAnd p vs h = refl
specification_made W.TypeSpecTvs p vs h = made_type_rest (names_in (at vs 0)) (name_in (at vs 1)) (at vs 2) h.1.1.0
specification_made W.TypeSpecRestEquals p vs h = refl
specification_made W.TypeSpecRestTypeSpecMore p vs h = (left_so _ _ h.0)
specification_made W.TypeSpecMoreNone p vs h = refl
specification_made W.TypeSpecMoreAnd p vs h = refl
specification_made W.DatSpecSomeTvs p vs h = refl
specification_made W.DatSpecTyCon p vs h = made_datatype_rest (name_in (at vs 0)) (at vs 2) h.1.1.0
specification_made W.DatSpecRestDatatype p vs h = (left_so _ _ h.1.0)
specification_made W.DatSpecRestConSpecs p vs h = refl
specification_made W.DatSpecMoreNone p vs h = refl
specification_made W.DatSpecMoreAnd p vs h = refl
specification_made W.ConSpecsVid p vs h = refl
specification_made W.ConSpecsMoreNone p vs h = refl
specification_made W.ConSpecsMoreBar p vs h = h.1.0
specification_made W.OfTyNone p vs h = refl
specification_made W.OfTyOf p vs h = (right_so _ _ h.1.0)
specification_made W.ExnSpecVid p vs h = refl
specification_made W.ExnSpecMoreNone p vs h = refl
specification_made W.ExnSpecMoreAnd p vs h = refl
specification_made W.StrSpecAlphanumeric p vs h = refl
specification_made W.StrSpecMoreNone p vs h = refl
specification_made W.StrSpecMoreWhere p vs h = refl
specification_made W.StrSpecMoreAnd p vs h = refl
specification_made W.StrSpecWhereNone p vs h = refl
specification_made W.StrSpecWhereWhere p vs h = refl
specification_made W.StrSpecWhereAnd p vs h = h.1.0
specification_made W.StrSpecAndWhere p vs h = refl
specification_made W.StrSpecAndStrSpec p vs h = refl
specification_made W.IncludeSig p vs h = refl
specification_made W.IncludeAlphanumeric p vs h = made_included_name p (name_in (at vs 0)) (at vs 1) h.1.0
specification_made W.IncludeMoreSigMore p vs h = (right_so _ _ h.0)
specification_made W.IncludeMoreAlphanumeric p vs h = refl
specification_made W.IncludeIdsNone p vs h = refl
specification_made W.IncludeIdsAlphanumeric p vs h = refl
specification_made W.SharingType p vs h = refl
specification_made W.SharingLongStrId p vs h = refl
specification_made W.TypeShareMoreNone p vs h = refl
specification_made W.TypeShareMoreEquals p vs h = refl
specification_made W.StrShareMoreNone p vs h = refl
specification_made W.StrShareMoreEquals p vs h = refl

declaration_made : (rule : DeclarationRule) (p : Place) (s : Option Shape) (vs : List Phrase) → AreOf (right_side (V.Declarations rule)) 0 vs → is_of_part (part_of (V.Declarations rule)) (declaration_phrase rule p s vs) ≡ true
declaration_made C.DecCoreDec p s vs h = h.0
declaration_made C.DecLocal p s vs h = refl
declaration_made C.CoreDecVal p s vs h = refl
declaration_made C.CoreDecFun p s vs h = refl
declaration_made C.CoreDecType p s vs h = refl
declaration_made C.CoreDecDatatype p s vs h = refl
declaration_made C.CoreDecException p s vs h = refl
declaration_made C.CoreDecOpen p s vs h = refl
declaration_made C.CoreDecInfix p s vs h = refl
declaration_made C.CoreDecInfixr p s vs h = refl
declaration_made C.CoreDecNonfix p s vs h = refl
declaration_made C.OpenMoreNone p s vs h = refl
declaration_made C.OpenMoreLongStrId p s vs h = refl
declaration_made C.FixityNone p s vs h = refl
declaration_made C.FixityLevel p s vs h = refl
declaration_made C.VidMoreNone p s vs h = refl
declaration_made C.VidMoreVid p s vs h = refl
declaration_made C.ValDecTypeVariable p s vs h = refl
declaration_made C.ValDecOpenRound p s vs h = made_value s p (at vs 1) h.1.0
declaration_made C.ValDecRec p s vs h = refl
declaration_made C.ValDecBarePat p s vs h = refl
declaration_made C.ValRoundTypeVariable p s vs h = refl
declaration_made C.ValRoundPatRound p s vs h = refl
declaration_made C.ValBindRec p s vs h = refl
declaration_made C.ValBindPat p s vs h = refl
declaration_made C.ValMoreNone p s vs h = refl
declaration_made C.ValMoreAnd p s vs h = h.1.0
declaration_made C.FunDecTypeVariable p s vs h = refl
declaration_made C.FunDecOpenRound p s vs h = made_functions s p (at vs 1) h.1.0
declaration_made C.FunDecBareAtPat p s vs h = refl
declaration_made C.FunRoundTypeVariable p s vs h = refl
declaration_made C.FunRoundPatRound p s vs h = refl
declaration_made C.ClausesAtPat p s vs h = refl
declaration_made C.ClausesMoreNone p s vs h = refl
declaration_made C.ClausesMoreAnd p s vs h = refl
declaration_made C.ClauseAtPats p s vs h = refl
declaration_made C.ClauseMoreNone p s vs h = refl
declaration_made C.ClauseMoreBar p s vs h = refl
declaration_made C.AtPatsNone p s vs h = refl
declaration_made C.AtPatsAtPat p s vs h = refl
declaration_made C.TypedNone p s vs h = refl
declaration_made C.TypedColon p s vs h = (right_so _ _ h.1.0)
declaration_made C.TypBindTvs p s vs h = refl
declaration_made C.TypBindMoreNone p s vs h = refl
declaration_made C.TypBindMoreAnd p s vs h = refl
declaration_made C.DatDecSomeTvs p s vs h = refl
declaration_made C.DatDecTyCon p s vs h = made_datatype (name_in (at vs 0)) (at vs 2) h.1.1.0
declaration_made C.DatRestDatatype p s vs h = (left_so _ _ h.1.0)
declaration_made C.DatRestConBinds p s vs h = refl
declaration_made C.DatBindMoreNone p s vs h = refl
declaration_made C.DatBindMoreAnd p s vs h = refl
declaration_made C.DatBindMoreWithtype p s vs h = refl
declaration_made C.ConBindsMaybeOp p s vs h = refl
declaration_made C.ConBindsMoreNone p s vs h = refl
declaration_made C.ConBindsMoreBar p s vs h = h.1.0
declaration_made C.MaybeOpNone p s vs h = refl
declaration_made C.MaybeOpOp p s vs h = refl
declaration_made C.ExnBindMaybeOp p s vs h = made_exception (name_in (at vs 1)) (at vs 2) h.1.1.0
declaration_made C.ExnBindMoreNone p s vs h = refl
declaration_made C.ExnBindMoreAnd p s vs h = refl
declaration_made C.ExnRestNone p s vs h = refl
declaration_made C.ExnRestOf p s vs h = (right_so _ _ (right_so _ _ h.1.0))
declaration_made C.ExnRestEquals p s vs h = (right_so _ _ (left_so _ _ h.1.1.0))

made_operand : (e : Exp Place) (v : Phrase) → is_of_part Part.More (E.with_operand e v) ≡ true
made_operand e (of_rest es ts a o rs) = refl
made_operand e _ = refl

made_typed : (t : Ty Place) (v : Phrase) → is_of_part Part.More (E.with_type t v) ≡ true
made_typed t (of_rest es ts a o rs) = refl
made_typed t _ = refl

made_type : (t : Ty Place) (v : Phrase) → is_of_part Part.TyRest (E.with_type t v) ≡ true
made_type t (of_rest es ts a o rs) = refl
made_type t _ = refl

expression_made : (rule : ExpressionRule) (p : Place) (s : Option Shape) (vs : List Phrase) → AreOf (right_side (V.Expressions rule)) 0 vs → is_of_part (part_of (V.Expressions rule)) (expression_phrase rule p s vs) ≡ true
expression_made X.ExpOpen p s vs h = h.0
expression_made X.ExpAt p s vs h = refl
expression_made X.MoreNone p s vs h = refl
expression_made X.MoreAt p s vs h = made_operand (exp_in (at vs 0)) (at vs 1)
expression_made X.MoreColon p s vs h = made_typed (ty_in (at vs 1)) (at vs 2)
expression_made X.MoreAndalso p s vs h = refl
expression_made X.MoreOrelse p s vs h = refl
expression_made X.MoreHandle p s vs h = refl
expression_made X.TyRestNone p s vs h = refl
expression_made X.TyRestColon p s vs h = made_type (ty_in (at vs 1)) (at vs 2)
expression_made X.TyRestAndalso p s vs h = refl
expression_made X.TyRestOrelse p s vs h = refl
expression_made X.TyRestHandle p s vs h = refl
expression_made X.AndMoreNone p s vs h = refl
expression_made X.AndMoreAndalso p s vs h = (right_so _ _ h.1.0)
expression_made X.AndRestOpen p s vs h = h.0
expression_made X.AndRestTyp p s vs h = refl
expression_made X.OrMoreNone p s vs h = refl
expression_made X.OrMoreOrelse p s vs h = (right_so _ _ h.1.0)
expression_made X.OrRestOpen p s vs h = h.0
expression_made X.OrRestTyp p s vs h = refl
expression_made X.HandleMoreNone p s vs h = refl
expression_made X.HandleMoreHandle p s vs h = (right_so _ _ h.1.0)
expression_made X.TypAt p s vs h = refl
expression_made X.AtMoreNone p s vs h = refl
expression_made X.AtMoreAt p s vs h = refl
expression_made X.TyMoreNone p s vs h = refl
expression_made X.TyMoreColon p s vs h = refl
expression_made X.OpenRaise p s vs h = refl
expression_made X.OpenIf p s vs h = refl
expression_made X.OpenWhile p s vs h = refl
expression_made X.OpenCase p s vs h = refl
expression_made X.OpenFn p s vs h = refl
expression_made X.MatchPat p s vs h = refl
expression_made X.MatchMoreNone p s vs h = refl
expression_made X.MatchMoreBar p s vs h = h.1.0
expression_made X.AtNumeral p s vs h = refl
expression_made X.AtZeroNumeral p s vs h = refl
expression_made X.AtInteger p s vs h = refl
expression_made X.AtWordConstant p s vs h = refl
expression_made X.AtRealConstant p s vs h = refl
expression_made X.AtStringConstant p s vs h = refl
expression_made X.AtCharacterConstant p s vs h = refl
expression_made X.AtAlphanumeric p s vs h = refl
expression_made X.AtSymbolic p s vs h = refl
expression_made X.AtStar p s vs h = refl
expression_made X.AtEquals p s vs h = refl
expression_made X.AtLongAlphanumeric p s vs h = refl
expression_made X.AtLongSymbolic p s vs h = refl
expression_made X.AtLongStar p s vs h = refl
expression_made X.AtOp p s vs h = refl
expression_made X.AtOpenCurly p s vs h = refl
expression_made X.AtHash p s vs h = refl
expression_made X.AtOpenRound p s vs h = refl
expression_made X.AtOpenSquare p s vs h = refl
expression_made X.AtLet p s vs h = refl
expression_made X.ExpRowCloseCurly p s vs h = refl
expression_made X.ExpRowLab p s vs h = refl
expression_made X.ExpRowMoreCloseCurly p s vs h = refl
expression_made X.ExpRowMoreComma p s vs h = refl
expression_made X.ExpRoundCloseRound p s vs h = refl
expression_made X.ExpRoundExp p s vs h = made_round (exp_in (at vs 0)) (at vs 1) h.1.0
expression_made X.ExpRoundMoreCloseRound p s vs h = refl
expression_made X.ExpRoundMoreComma p s vs h = refl
expression_made X.ExpRoundMoreSemicolon p s vs h = refl
expression_made X.TupleMoreCloseRound p s vs h = refl
expression_made X.TupleMoreComma p s vs h = refl
expression_made X.SequenceMoreCloseRound p s vs h = refl
expression_made X.SequenceMoreSemicolon p s vs h = refl
expression_made X.ExpListCloseSquare p s vs h = refl
expression_made X.ExpListExp p s vs h = refl
expression_made X.ExpListMoreCloseSquare p s vs h = refl
expression_made X.ExpListMoreComma p s vs h = refl
expression_made X.LetMoreEnd p s vs h = refl
expression_made X.LetMoreSemicolon p s vs h = refl

pattern_made : (rule : PatternRule) (p : Place) (s : Option Shape) (vs : List Phrase) → AreOf (right_side (V.Patterns rule)) 0 vs → is_of_part (part_of (V.Patterns rule)) (pattern_phrase rule p s vs) ≡ true
pattern_made A.PatOpenRound p s vs h = refl
pattern_made A.PatAlphanumeric p s vs h = refl
pattern_made A.PatSymbolic p s vs h = refl
pattern_made A.PatStar p s vs h = refl
pattern_made A.BarePatAlphanumeric p s vs h = refl
pattern_made A.BarePatSymbolic p s vs h = refl
pattern_made A.BarePatStar p s vs h = refl
pattern_made A.PatOp p s vs h = refl
pattern_made A.BarePatOp p s vs h = refl
pattern_made A.PatOtherAtPat p s vs h = refl
pattern_made A.BarePatOtherAtPat p s vs h = refl
pattern_made A.OpPatVid p s vs h = made_op (name_in (at vs 0)) (at vs 1) h.1.0
pattern_made A.OpPatQualified p s vs h = refl
pattern_made A.AfterVidNone p s vs h = refl
pattern_made A.AfterVidAs p s vs h = refl
pattern_made A.AfterVidColon p s vs h = made_colon (ty_in (at vs 1)) (at vs 2) h.1.1.0
pattern_made A.AfterVidAtPat p s vs h = refl
pattern_made A.AfterVidTyNone p s vs h = refl
pattern_made A.AfterVidTyAs p s vs h = refl
pattern_made A.AfterVidTyColon p s vs h = refl
pattern_made A.AtPatMoreNone p s vs h = refl
pattern_made A.AtPatMoreAtPat p s vs h = refl
pattern_made A.AtPatMoreColon p s vs h = refl
pattern_made A.AtPatOpenRound p s vs h = refl
pattern_made A.AtPatAlphanumeric p s vs h = refl
pattern_made A.AtPatSymbolic p s vs h = refl
pattern_made A.AtPatStar p s vs h = refl
pattern_made A.BareAtPatAlphanumeric p s vs h = refl
pattern_made A.BareAtPatSymbolic p s vs h = refl
pattern_made A.BareAtPatStar p s vs h = refl
pattern_made A.AtPatOp p s vs h = refl
pattern_made A.BareAtPatOp p s vs h = refl
pattern_made A.AtPatOtherAtPat p s vs h = h.0
pattern_made A.BareAtPatOtherAtPat p s vs h = h.0
pattern_made A.OtherAtPatWildcard p s vs h = refl
pattern_made A.OtherAtPatConstant p s vs h = refl
pattern_made A.OtherAtPatQualified p s vs h = refl
pattern_made A.OtherAtPatOpenCurly p s vs h = refl
pattern_made A.OtherAtPatOpenSquare p s vs h = refl
pattern_made A.PatRoundCloseRound p s vs h = refl
pattern_made A.PatRoundPat p s vs h = refl
pattern_made A.PatRoundMoreCloseRound p s vs h = refl
pattern_made A.PatRoundMoreComma p s vs h = refl
pattern_made A.PatListCloseSquare p s vs h = refl
pattern_made A.PatListPat p s vs h = refl
pattern_made A.PatListMoreCloseSquare p s vs h = refl
pattern_made A.PatListMoreComma p s vs h = refl
pattern_made A.PatRowCloseCurly p s vs h = refl
pattern_made A.PatRowRow p s vs h = h.0
pattern_made A.RowDots p s vs h = refl
pattern_made A.RowNumeral p s vs h = refl
pattern_made A.RowVid p s vs h = refl
pattern_made A.RowRestEquals p s vs h = refl
pattern_made A.RowRestTyped p s vs h = refl
pattern_made A.RowAsNone p s vs h = refl
pattern_made A.RowAsAs p s vs h = refl
pattern_made A.RowMoreNone p s vs h = refl
pattern_made A.RowMoreComma p s vs h = h.1.0

type_made : (rule : TypeRule) (p : Place) (vs : List Phrase) → AreOf (right_side (V.Types rule)) 0 vs → is_of_part (part_of (V.Types rule)) (type_phrase rule p vs) ≡ true
type_made Y.TyTup p vs h = refl
type_made Y.TyArrowNone p vs h = refl
type_made Y.TyArrowArrow p vs h = refl
type_made Y.TupCon p vs h = refl
type_made Y.TupMoreNone p vs h = refl
type_made Y.TupMoreStar p vs h = refl
type_made Y.ConATy p vs h = refl
type_made Y.ConMoreNone p vs h = refl
type_made Y.ConMoreLongTyCon p vs h = refl
type_made Y.ATyTypeVariable p vs h = refl
type_made Y.ATyLongTyCon p vs h = refl
type_made Y.ATyOpenCurly p vs h = refl
type_made Y.ATyOpenRound p vs h = refl
type_made Y.TyRowCloseCurly p vs h = refl
type_made Y.TyRowLab p vs h = refl
type_made Y.TyRowMoreCloseCurly p vs h = refl
type_made Y.TyRowMoreComma p vs h = refl
type_made Y.TyRoundCloseRound p vs h = refl
type_made Y.TyRoundComma p vs h = (right_so _ _ (made_argument (ty_in (at vs 1)) (at vs 2) h.1.1.0))
type_made Y.TyRoundMoreCloseRound p vs h = refl
type_made Y.TyRoundMoreComma p vs h = made_argument (ty_in (at vs 1)) (at vs 2) h.1.1.0
type_made Y.TvsNone p vs h = refl
type_made Y.TvsSomeTvs p vs h = h.0
type_made Y.SomeTvsTypeVariable p vs h = refl
type_made Y.SomeTvsOpenRound p vs h = refl
type_made Y.TvsMoreNone p vs h = refl
type_made Y.TvsMoreComma p vs h = refl

pub rule_made : (rule : Rule) (p : Place) (s : Option Shape) (vs : List Phrase) → AreOf (right_side rule) 0 vs → is_of_part (part_of rule) (rule_phrase rule p s vs) ≡ true
rule_made (V.Names rule) p s vs h = name_made rule p vs h
rule_made (V.Units rule) p s vs h = unit_made rule p vs h
rule_made (V.Structures rule) p s vs h = structure_made rule p vs h
rule_made (V.Signatures rule) p s vs h = signature_made rule p vs h
rule_made (V.Specifications rule) p s vs h = specification_made rule p vs h
rule_made (V.Declarations rule) p s vs h = declaration_made rule p s vs h
rule_made (V.Expressions rule) p s vs h = expression_made rule p s vs h
rule_made (V.Patterns rule) p s vs h = pattern_made rule p s vs h
rule_made (V.Types rule) p s vs h = type_made rule p vs h
