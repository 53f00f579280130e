-- What each rule of the grammar is to the names that its phrases bind (the Definition, sections 2.9 and 3.5).
use Rattle.std.specs.Prelude.{List, [], ◌∷◌}
use Rattle.sml_read.specs.declared.grammar.Rule.{Rule}
use Rattle.sml_read.specs.declared.grammar.Rule.TheVariants.{Units, Structures, Signatures, Specifications, Declarations, Expressions, Patterns, Types}
use Rattle.sml_read.specs.declared.grammar.UnitRule.{UnitRule}
use Rattle.sml_read.specs.declared.grammar.UnitRule.TheVariants.{StartExp, TopSignature, TopFunctor, StrStructure}
use Rattle.sml_read.specs.declared.grammar.StructureRule.{StructureRule}
use Rattle.sml_read.specs.declared.grammar.StructureRule.TheVariants.{StrBindAlphanumeric, FunBindAlphanumeric}
use Rattle.sml_read.specs.declared.grammar.SignatureRule.{SignatureRule}
use Rattle.sml_read.specs.declared.grammar.SignatureRule.TheVariants.{SigBindAlphanumeric}
use Rattle.sml_read.specs.declared.grammar.SpecificationRule.{SpecificationRule}
use Rattle.sml_read.specs.declared.grammar.SpecificationRule.TheVariants.{ValSpecVid, TypeSpecTvs, DatSpecSomeTvs, DatSpecTyCon, SpecEqtype, TypeSpecMoreAnd, DatSpecMoreAnd, ConSpecsVid, ExnSpecVid, StrSpecAlphanumeric, SpecVal, SpecType, SpecDatatype, SpecException, SpecStructure}
use Rattle.sml_read.specs.declared.grammar.DeclarationRule.{DeclarationRule}
use Rattle.sml_read.specs.declared.grammar.DeclarationRule.TheVariants.{ValDecTypeVariable, FunDecTypeVariable, ValRoundTypeVariable, FunRoundTypeVariable, ValRoundPatRound, FunDecBareAtPat, FunRoundPatRound, ClausesAtPat, AtPatsAtPat, ClauseMoreBar, ValBindPat, TypBindTvs, DatDecSomeTvs, DatDecTyCon, DatBindMoreAnd, ConBindsMaybeOp, ExnBindMaybeOp, CoreDecVal, CoreDecFun, CoreDecType, CoreDecDatatype, CoreDecException, DatBindMoreWithtype, ValDecRec, ValBindRec, ValDecOpenRound, FunDecOpenRound}
use Rattle.sml_read.specs.declared.grammar.ExpressionRule.{ExpressionRule}
use Rattle.sml_read.specs.declared.grammar.ExpressionRule.TheVariants.{ExpRowLab, ExpRowMoreComma, OpenWhile, AtOpenCurly}
use Rattle.sml_read.specs.declared.grammar.PatternRule.{PatternRule}
use Rattle.sml_read.specs.declared.grammar.PatternRule.TheVariants.{PatOpenRound, PatAlphanumeric, PatSymbolic, PatStar, BarePatAlphanumeric, BarePatSymbolic, BarePatStar, OpPatVid, PatOtherAtPat, BarePatOtherAtPat, OpPatQualified, AfterVidAtPat, AtPatMoreAtPat, AtPatAlphanumeric, AtPatSymbolic, AtPatStar, BareAtPatAlphanumeric, BareAtPatSymbolic, BareAtPatStar, AtPatOp, BareAtPatOp, OtherAtPatConstant, RowNumeral, RowVid, PatOp, BarePatOp, OtherAtPatOpenCurly}
use Rattle.sml_read.specs.declared.grammar.TypeRule.{TypeRule}
use Rattle.sml_read.specs.declared.grammar.TypeRule.TheVariants.{ATyTypeVariable, SomeTvsTypeVariable, SomeTvsOpenRound, TvsMoreComma, TyRowLab, TyRowMoreComma, ATyOpenCurly}
use Rattle.sml_flaws.specs.declared.role.Space.TheVariants as P
use Rattle.sml_flaws.specs.declared.role.Word.TheVariants as W
use Rattle.sml_flaws.specs.declared.role.Role.{Role}
use Rattle.sml_flaws.specs.declared.role.Role.TheVariants as R
use Rattle.sml_flaws.specs.declared.role.Entry.{Entry}
use Rattle.sml_flaws.specs.declared.role.Entry.TheVariants as O

abbrev pub structure_roles : StructureRule → List Role
structure_roles StrBindAlphanumeric = R.Word (W.Bound P.Structures) ∷ []
structure_roles FunBindAlphanumeric = R.Word (W.Bound P.Functors) ∷ []
structure_roles _ = []

abbrev pub signature_roles : SignatureRule → List Role
signature_roles SigBindAlphanumeric = R.Word (W.Bound P.Signatures) ∷ []
signature_roles _ = []

abbrev pub specification_roles : SpecificationRule → List Role
specification_roles ValSpecVid = R.Word (W.Bound P.Values) ∷ []
specification_roles TypeSpecTvs = R.Same ∷ R.Word (W.Bound P.Types) ∷ []
specification_roles DatSpecSomeTvs = R.Same ∷ R.Word (W.Bound P.Types) ∷ []
specification_roles DatSpecTyCon = R.Word (W.Bound P.Types) ∷ []
specification_roles SpecEqtype = R.Same ∷ R.Same ∷ R.Word (W.Bound P.Types) ∷ []
specification_roles TypeSpecMoreAnd = R.Same ∷ R.Same ∷ R.Word (W.Bound P.Types) ∷ []
specification_roles DatSpecMoreAnd = R.Same ∷ R.Same ∷ R.Word (W.Bound P.Types) ∷ []
specification_roles ConSpecsVid = R.Word (W.Bound P.Constructors) ∷ []
specification_roles ExnSpecVid = R.Word (W.Bound P.Exceptions) ∷ []
specification_roles StrSpecAlphanumeric = R.Word (W.Bound P.Structures) ∷ []
specification_roles _ = []

abbrev pub declaration_roles : DeclarationRule → List Role
declaration_roles ValDecTypeVariable = R.Word W.Listed ∷ []
declaration_roles FunDecTypeVariable = R.Word W.Listed ∷ []
declaration_roles ValRoundTypeVariable = R.Word W.Listed ∷ []
declaration_roles FunRoundTypeVariable = R.Word W.Listed ∷ []
declaration_roles ValRoundPatRound = R.Same ∷ R.Next ∷ []
declaration_roles FunDecBareAtPat = R.Same ∷ R.Next ∷ []
declaration_roles FunRoundPatRound = R.Same ∷ R.Next ∷ []
declaration_roles ClausesAtPat = R.Same ∷ R.Next ∷ []
declaration_roles AtPatsAtPat = R.Same ∷ R.Next ∷ []
declaration_roles ClauseMoreBar = R.Same ∷ R.Same ∷ R.Next ∷ []
declaration_roles ValBindPat = R.Same ∷ R.Same ∷ R.Expression ∷ []
declaration_roles TypBindTvs = R.Same ∷ R.Word (W.Bound P.Types) ∷ []
declaration_roles DatDecSomeTvs = R.Same ∷ R.Word (W.Bound P.Types) ∷ []
declaration_roles DatDecTyCon = R.Word (W.Bound P.Types) ∷ []
declaration_roles DatBindMoreAnd = R.Same ∷ R.Same ∷ R.Word (W.Bound P.Types) ∷ []
declaration_roles ConBindsMaybeOp = R.Same ∷ R.Word (W.Bound P.Constructors) ∷ []
declaration_roles ExnBindMaybeOp = R.Same ∷ R.Word (W.Bound P.Exceptions) ∷ []
declaration_roles _ = []

abbrev pub expression_roles : ExpressionRule → List Role
expression_roles ExpRowLab = R.Word (W.Bound P.Labels) ∷ []
expression_roles ExpRowMoreComma = R.Same ∷ R.Word (W.Bound P.Labels) ∷ []
expression_roles _ = []

abbrev pub pattern_roles : PatternRule → List Role
pattern_roles PatOpenRound = R.Same ∷ R.Same ∷ R.Next ∷ []
pattern_roles PatAlphanumeric = R.Word W.Atom ∷ R.Next ∷ []
pattern_roles PatSymbolic = R.Word W.Atom ∷ R.Next ∷ []
pattern_roles PatStar = R.Word W.Atom ∷ R.Next ∷ []
pattern_roles BarePatAlphanumeric = R.Word W.Atom ∷ R.Next ∷ []
pattern_roles BarePatSymbolic = R.Word W.Atom ∷ R.Next ∷ []
pattern_roles BarePatStar = R.Word W.Atom ∷ R.Next ∷ []
pattern_roles OpPatVid = R.Word W.Atom ∷ R.Next ∷ []
pattern_roles PatOtherAtPat = R.Same ∷ R.Next ∷ []
pattern_roles BarePatOtherAtPat = R.Same ∷ R.Next ∷ []
pattern_roles OpPatQualified = R.Same ∷ R.Next ∷ []
pattern_roles AfterVidAtPat = R.Same ∷ R.Next ∷ []
pattern_roles AtPatMoreAtPat = R.Same ∷ R.Next ∷ []
pattern_roles AtPatAlphanumeric = R.Word W.Atom ∷ []
pattern_roles AtPatSymbolic = R.Word W.Atom ∷ []
pattern_roles AtPatStar = R.Word W.Atom ∷ []
pattern_roles BareAtPatAlphanumeric = R.Word W.Atom ∷ []
pattern_roles BareAtPatSymbolic = R.Word W.Atom ∷ []
pattern_roles BareAtPatStar = R.Word W.Atom ∷ []
pattern_roles AtPatOp = R.Same ∷ R.Word W.Atom ∷ []
pattern_roles BareAtPatOp = R.Same ∷ R.Word W.Atom ∷ []
pattern_roles OtherAtPatConstant = R.Word W.Constant ∷ []
pattern_roles RowNumeral = R.Word (W.Bound P.Labels) ∷ []
pattern_roles RowVid = R.Word (W.Bound P.Labels) ∷ []
pattern_roles _ = []

abbrev pub type_roles : TypeRule → List Role
type_roles ATyTypeVariable = R.Word W.Variable ∷ []
type_roles SomeTvsTypeVariable = R.Word W.Listed ∷ []
type_roles SomeTvsOpenRound = R.Same ∷ R.Word W.Listed ∷ []
type_roles TvsMoreComma = R.Same ∷ R.Word W.Listed ∷ []
type_roles TyRowLab = R.Word (W.Bound P.Labels) ∷ []
type_roles TyRowMoreComma = R.Same ∷ R.Word (W.Bound P.Labels) ∷ []
type_roles _ = []

-- the roles of the first symbols of a rule; those after have the context of the whole
abbrev pub roles_of : Rule → List Role
roles_of (Structures rule) = structure_roles rule
roles_of (Signatures rule) = signature_roles rule
roles_of (Specifications rule) = specification_roles rule
roles_of (Declarations rule) = declaration_roles rule
roles_of (Expressions rule) = expression_roles rule
roles_of (Patterns rule) = pattern_roles rule
roles_of (Types rule) = type_roles rule
roles_of _ = []

abbrev pub unit_entry : UnitRule → Entry
unit_entry StartExp = O.Value
unit_entry TopSignature = O.Group
unit_entry TopFunctor = O.Group
unit_entry StrStructure = O.Group
unit_entry _ = O.Nothing

abbrev pub specification_entry : SpecificationRule → Entry
specification_entry SpecVal = O.Group
specification_entry SpecType = O.Group
specification_entry SpecEqtype = O.Group
specification_entry SpecDatatype = O.Group
specification_entry SpecException = O.Group
specification_entry SpecStructure = O.Group
specification_entry _ = O.Nothing

abbrev pub declaration_entry : DeclarationRule → Entry
declaration_entry CoreDecVal = O.Value
declaration_entry CoreDecFun = O.Value
declaration_entry CoreDecType = O.Types
declaration_entry CoreDecDatatype = O.Types
declaration_entry CoreDecException = O.Group
declaration_entry DatBindMoreWithtype = O.Group
declaration_entry ValDecTypeVariable = O.Group
declaration_entry ValRoundTypeVariable = O.Group
declaration_entry FunDecTypeVariable = O.Group
declaration_entry FunRoundTypeVariable = O.Group
declaration_entry ValDecRec = O.Recursive
declaration_entry ValBindRec = O.Recursive
declaration_entry ValDecOpenRound = O.Sequence
declaration_entry FunDecOpenRound = O.Function
declaration_entry FunDecBareAtPat = O.Function
declaration_entry ClausesAtPat = O.Function
declaration_entry ClauseMoreBar = O.Clause
declaration_entry _ = O.Nothing

abbrev pub expression_entry : ExpressionRule → Entry
expression_entry OpenWhile = O.Value
expression_entry AtOpenCurly = O.Group
expression_entry _ = O.Nothing

abbrev pub pattern_entry : PatternRule → Entry
pattern_entry PatOpenRound = O.Sequence
pattern_entry PatAlphanumeric = O.Sequence
pattern_entry PatSymbolic = O.Sequence
pattern_entry PatStar = O.Sequence
pattern_entry BarePatAlphanumeric = O.Sequence
pattern_entry BarePatSymbolic = O.Sequence
pattern_entry BarePatStar = O.Sequence
pattern_entry PatOp = O.Sequence
pattern_entry BarePatOp = O.Sequence
pattern_entry PatOtherAtPat = O.Sequence
pattern_entry BarePatOtherAtPat = O.Sequence
pattern_entry OtherAtPatOpenCurly = O.Group
pattern_entry _ = O.Nothing

abbrev pub type_entry : TypeRule → Entry
type_entry SomeTvsTypeVariable = O.Group
type_entry SomeTvsOpenRound = O.Group
type_entry ATyOpenCurly = O.Group
type_entry _ = O.Nothing

-- what begins with a phrase of a rule
abbrev pub entry_of : Rule → Entry
entry_of (Units rule) = unit_entry rule
entry_of (Specifications rule) = specification_entry rule
entry_of (Declarations rule) = declaration_entry rule
entry_of (Expressions rule) = expression_entry rule
entry_of (Patterns rule) = pattern_entry rule
entry_of (Types rule) = type_entry rule
entry_of _ = O.Nothing
