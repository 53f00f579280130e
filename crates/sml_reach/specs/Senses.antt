-- What each rule of the grammar is to the sequences of atomic phrases and to fixities (the Definition, section 2.6).
use Rattle.std.specs.Prelude.{Bool, true, false}
use Rattle.sml_fixity.specs.declared.scopes.Directive.TheVariants.{Infix, Infixr, Nonfix}
use Rattle.sml_lex.specs.declared.token.Kind.{Kind}
use Rattle.sml_lex.specs.declared.token.Kind.TheVariants.{LetWord, LocalWord, StructWord, SigWord, OpenRound, EndWord, CloseRound}
use Rattle.sml_read.specs.declared.grammar.Rule.{Rule}
use Rattle.sml_read.specs.declared.grammar.Rule.TheVariants.{Names, Units, Declarations, Expressions, Patterns}
use Rattle.sml_read.specs.declared.grammar.NameRule.{NameRule}
use Rattle.sml_read.specs.declared.grammar.NameRule.TheVariants.{VidAlphanumeric, VidSymbolic, VidStar, LongVidAlphanumeric, LongVidSymbolic, LongVidStar, LongVidQualified, QualifiedLongAlphanumeric, QualifiedLongSymbolic, QualifiedLongStar, ExpVidLongVid, ExpVidEquals, LevelNumeral, LevelZeroNumeral}
use Rattle.sml_read.specs.declared.grammar.UnitRule.TheVariants.{StartTop, StartExp, AfterTopTop}
use Rattle.sml_read.specs.declared.grammar.DeclarationRule.{DeclarationRule}
use Rattle.sml_read.specs.declared.grammar.DeclarationRule.TheVariants.{CoreDecInfix, CoreDecInfixr, CoreDecNonfix, FixityLevel, VidMoreNone, VidMoreVid, ValDecOpenRound, ValRoundPatRound, FunDecOpenRound, FunDecBareAtPat, FunRoundPatRound, ClausesAtPat, ClauseAtPats, ClauseMoreBar, AtPatsNone, AtPatsAtPat}
use Rattle.sml_read.specs.declared.grammar.ExpressionRule.{ExpressionRule}
use Rattle.sml_read.specs.declared.grammar.ExpressionRule.TheVariants.{ExpAt, MoreNone, MoreAt, MoreColon, MoreAndalso, MoreOrelse, MoreHandle, TypAt, AtMoreNone, AtMoreAt, AtNumeral, AtZeroNumeral, AtInteger, AtWordConstant, AtRealConstant, AtStringConstant, AtCharacterConstant, AtAlphanumeric, AtSymbolic, AtStar, AtEquals, AtLongAlphanumeric, AtLongSymbolic, AtLongStar, AtOp, AtOpenCurly, AtHash, AtOpenRound, AtOpenSquare, AtLet}
use Rattle.sml_read.specs.declared.grammar.PatternRule.{PatternRule}
use Rattle.sml_read.specs.declared.grammar.PatternRule.TheVariants.{PatOpenRound, PatAlphanumeric, PatSymbolic, PatStar, BarePatAlphanumeric, BarePatSymbolic, BarePatStar, PatOp, BarePatOp, PatOtherAtPat, BarePatOtherAtPat, OpPatVid, OpPatQualified, AfterVidNone, AfterVidColon, AfterVidAtPat, AfterVidTyNone, AfterVidTyColon, AtPatMoreNone, AtPatMoreAtPat, AtPatMoreColon, AtPatOpenRound, AtPatAlphanumeric, AtPatSymbolic, AtPatStar, BareAtPatAlphanumeric, BareAtPatSymbolic, BareAtPatStar, AtPatOp, BareAtPatOp, AtPatOtherAtPat, BareAtPatOtherAtPat, OtherAtPatWildcard, OtherAtPatConstant, OtherAtPatQualified, OtherAtPatOpenCurly, OtherAtPatOpenSquare, PatRoundPat, PatRoundMoreCloseRound}
use Rattle.sml_reach.specs.declared.sense.Sense.{Sense}
use Rattle.sml_reach.specs.declared.sense.Sense.TheVariants as S
use Rattle.sml_reach.specs.declared.sense.Deed.{Deed}
use Rattle.sml_reach.specs.declared.sense.Deed.TheVariants as D

abbrev pub name_sense : NameRule → Sense
name_sense VidAlphanumeric = S.Passed
name_sense VidSymbolic = S.Passed
name_sense VidStar = S.Passed
name_sense LongVidQualified = S.Passed
name_sense ExpVidLongVid = S.Passed
name_sense LevelNumeral = S.Passed
name_sense LevelZeroNumeral = S.Passed
name_sense LongVidAlphanumeric = S.Short
name_sense LongVidSymbolic = S.Short
name_sense LongVidStar = S.Short
name_sense ExpVidEquals = S.Short
name_sense QualifiedLongAlphanumeric = S.Long
name_sense QualifiedLongSymbolic = S.Long
name_sense QualifiedLongStar = S.Long
name_sense _ = S.Nothing

abbrev pub declaration_sense : DeclarationRule → Sense
declaration_sense CoreDecInfix = S.Level
declaration_sense CoreDecInfixr = S.Level
declaration_sense CoreDecNonfix = S.NoLevel
declaration_sense FixityLevel = S.Passed
declaration_sense ClauseAtPats = S.Passed
declaration_sense VidMoreNone = S.Empty
declaration_sense AtPatsNone = S.Empty
declaration_sense VidMoreVid = S.Named
declaration_sense ValDecOpenRound = S.After
declaration_sense FunDecOpenRound = S.After
declaration_sense ValRoundPatRound = S.RoundMore
declaration_sense FunRoundPatRound = S.RoundMore
declaration_sense FunDecBareAtPat = S.More
declaration_sense ClausesAtPat = S.More
declaration_sense AtPatsAtPat = S.More
declaration_sense ClauseMoreBar = S.MoreAfter
declaration_sense _ = S.Nothing

abbrev pub expression_sense : ExpressionRule → Sense
expression_sense ExpAt = S.More
expression_sense MoreAt = S.More
expression_sense TypAt = S.More
expression_sense AtMoreAt = S.More
expression_sense MoreNone = S.Empty
expression_sense MoreColon = S.Empty
expression_sense MoreAndalso = S.Empty
expression_sense MoreOrelse = S.Empty
expression_sense MoreHandle = S.Empty
expression_sense AtMoreNone = S.Empty
expression_sense AtAlphanumeric = S.Short
expression_sense AtSymbolic = S.Short
expression_sense AtStar = S.Short
expression_sense AtEquals = S.Short
expression_sense AtLongAlphanumeric = S.Long
expression_sense AtLongSymbolic = S.Long
expression_sense AtLongStar = S.Long
expression_sense AtOp = S.Op
expression_sense AtNumeral = S.Phrase
expression_sense AtZeroNumeral = S.Phrase
expression_sense AtInteger = S.Phrase
expression_sense AtWordConstant = S.Phrase
expression_sense AtRealConstant = S.Phrase
expression_sense AtStringConstant = S.Phrase
expression_sense AtCharacterConstant = S.Phrase
expression_sense AtOpenCurly = S.Phrase
expression_sense AtHash = S.Phrase
expression_sense AtOpenRound = S.Phrase
expression_sense AtOpenSquare = S.Phrase
expression_sense AtLet = S.Phrase
expression_sense _ = S.Nothing

-- an identifier before `as` stands in no sequence
abbrev pub pattern_sense : PatternRule → Sense
pattern_sense PatOpenRound = S.OpenRoundMore
pattern_sense AtPatOtherAtPat = S.Passed
pattern_sense BareAtPatOtherAtPat = S.Passed
pattern_sense OtherAtPatQualified = S.Passed
pattern_sense PatRoundMoreCloseRound = S.Passed
pattern_sense PatAlphanumeric = S.Named
pattern_sense PatSymbolic = S.Named
pattern_sense PatStar = S.Named
pattern_sense BarePatAlphanumeric = S.Named
pattern_sense BarePatSymbolic = S.Named
pattern_sense BarePatStar = S.Named
pattern_sense PatOp = S.After
pattern_sense BarePatOp = S.After
pattern_sense OpPatVid = S.OpNamed
pattern_sense PatOtherAtPat = S.More
pattern_sense BarePatOtherAtPat = S.More
pattern_sense OpPatQualified = S.More
pattern_sense AfterVidAtPat = S.More
pattern_sense AtPatMoreAtPat = S.More
pattern_sense AfterVidNone = S.Empty
pattern_sense AtPatMoreNone = S.Empty
pattern_sense AfterVidColon = S.Third
pattern_sense AfterVidTyNone = S.Typed
pattern_sense AfterVidTyColon = S.Typed
pattern_sense AtPatMoreColon = S.Typed
pattern_sense AtPatOpenRound = S.Round
pattern_sense AtPatAlphanumeric = S.Short
pattern_sense AtPatSymbolic = S.Short
pattern_sense AtPatStar = S.Short
pattern_sense BareAtPatAlphanumeric = S.Short
pattern_sense BareAtPatSymbolic = S.Short
pattern_sense BareAtPatStar = S.Short
pattern_sense AtPatOp = S.Op
pattern_sense BareAtPatOp = S.Op
pattern_sense OtherAtPatWildcard = S.Phrase
pattern_sense OtherAtPatConstant = S.Phrase
pattern_sense OtherAtPatOpenCurly = S.Phrase
pattern_sense OtherAtPatOpenSquare = S.Phrase
pattern_sense PatRoundPat = S.Inner
pattern_sense _ = S.Nothing

-- what a phrase of a rule is to the sequence that it stands in
abbrev pub sense_of : Rule → Sense
sense_of (Names rule) = name_sense rule
sense_of (Declarations rule) = declaration_sense rule
sense_of (Expressions rule) = expression_sense rule
sense_of (Patterns rule) = pattern_sense rule
sense_of _ = S.Nothing

abbrev pub declaration_deed : DeclarationRule → Deed
declaration_deed CoreDecInfix = D.Directs Infix
declaration_deed CoreDecInfixr = D.Directs Infixr
declaration_deed CoreDecNonfix = D.Directs Nonfix
declaration_deed ValDecOpenRound = D.Pattern
declaration_deed FunDecOpenRound = D.Head
declaration_deed FunDecBareAtPat = D.Head
declaration_deed ClausesAtPat = D.Head
declaration_deed ClauseMoreBar = D.Head
declaration_deed _ = D.Nothing

-- what happens where a phrase of a rule begins
abbrev pub deed_of : Rule → Deed
deed_of (Units StartTop) = D.Begins
deed_of (Units StartExp) = D.Begins
deed_of (Units AfterTopTop) = D.Begins
deed_of (Declarations rule) = declaration_deed rule
deed_of (Expressions ExpAt) = D.Expression
deed_of (Expressions TypAt) = D.Expression
deed_of (Patterns PatOpenRound) = D.Pattern
deed_of (Patterns PatAlphanumeric) = D.Pattern
deed_of (Patterns PatSymbolic) = D.Pattern
deed_of (Patterns PatStar) = D.Pattern
deed_of (Patterns BarePatAlphanumeric) = D.Pattern
deed_of (Patterns BarePatSymbolic) = D.Pattern
deed_of (Patterns BarePatStar) = D.Pattern
deed_of (Patterns PatOp) = D.Pattern
deed_of (Patterns BarePatOp) = D.Pattern
deed_of (Patterns PatOtherAtPat) = D.Pattern
deed_of (Patterns BarePatOtherAtPat) = D.Pattern
deed_of _ = D.Nothing

-- A directive doesn't leave `let .. end`, `local .. end`, `struct .. end` and `F ( .. )`. Other round brackets, and
-- `sig .. end`, have no directive that isn't within one of these.
abbrev pub opens : Kind → Bool
opens LetWord = true
opens LocalWord = true
opens StructWord = true
opens SigWord = true
opens OpenRound = true
opens _ = false

abbrev pub closes : Kind → Bool
closes EndWord = true
closes CloseRound = true
closes _ = false
