-- What a phrase binds by any rule.
use Rattle.std.specs.Prelude.{◌≡◌, ℕ, suc, ◌≤◌, ◌<◌, length, List, [], ◌∷◌, Bool, true, false, Option, Some, None}
use Rattle.std.proofs.Common.{◌⊎◌}
use Rattle.std.proofs.lemmas.Bool.{false≢true}
use Rattle.sml_lex.specs.declared.fault.Place.{Place}
use Rattle.sml_tree.specs.Trees.{Id}
use Rattle.sml_tree.specs.Names.{Name, LongName}
use Rattle.sml_tree.specs.Types.{Ty}
use Rattle.sml_fixity.specs.Shapes.{Shape}
use Rattle.sml_read.specs.Grammar.{right_side}
use Rattle.sml_read.specs.Parts.{part_of}
use Rattle.sml_read.specs.declared.grammar.Symbol.TheVariants.{Of}
use Rattle.sml_read.specs.declared.grammar.Rule.{Rule}
use Rattle.sml_read.specs.declared.grammar.Rule.TheVariants as G
use Rattle.sml_read.specs.declared.grammar.NameRule.{NameRule}
use Rattle.sml_read.specs.declared.grammar.NameRule.TheVariants as N
use Rattle.sml_read.specs.declared.grammar.UnitRule.{UnitRule}
use Rattle.sml_read.specs.declared.grammar.UnitRule.TheVariants as U
use Rattle.sml_read.specs.declared.grammar.StructureRule.{StructureRule}
use Rattle.sml_read.specs.declared.grammar.StructureRule.TheVariants as R
use Rattle.sml_read.specs.declared.grammar.SignatureRule.{SignatureRule}
use Rattle.sml_read.specs.declared.grammar.SignatureRule.TheVariants as H
use Rattle.sml_read.specs.declared.grammar.SpecificationRule.{SpecificationRule}
use Rattle.sml_read.specs.declared.grammar.SpecificationRule.TheVariants as C
use Rattle.sml_read.specs.declared.grammar.DeclarationRule.{DeclarationRule}
use Rattle.sml_read.specs.declared.grammar.DeclarationRule.TheVariants as D
use Rattle.sml_read.specs.declared.grammar.ExpressionRule.{ExpressionRule}
use Rattle.sml_read.specs.declared.grammar.ExpressionRule.TheVariants as E
use Rattle.sml_read.specs.declared.grammar.PatternRule.{PatternRule}
use Rattle.sml_read.specs.declared.grammar.PatternRule.TheVariants as Q
use Rattle.sml_read.specs.declared.grammar.TypeRule.{TypeRule}
use Rattle.sml_read.specs.declared.grammar.TypeRule.TheVariants as T
use Rattle.sml_phrases.specs.Phrases.{Phrase, of_typ_binds, of_typ_descs, of_datatypes, of_copy, at}
use Rattle.sml_bare_decs.specs.DeclarationRules.{exception_of, long_if_any}
use Rattle.sml_phrases.specs.Phrases.{name_in, ty_if_any}
use Rattle.sml_bare_mods.specs.SpecificationRules.{types, datatypes}
use Rattle.sml_bare.specs.RulePhrases.{rule_phrase}
use Rattle.sml_flaws.specs.declared.role.Space.{Space}
use Rattle.sml_flaws.specs.declared.role.Space.TheVariants as S
use Rattle.sml_flaws.specs.declared.role.Entry.{Entry}
use Rattle.sml_flaws.specs.declared.role.Entry.TheVariants as O
use Rattle.sml_flaws.specs.Roles.{entry_of}
use Rattle.sml_tree_laws.specs.WellBound.{MayBeValue, MayBeConstructor}
use Rattle.sml_tree_laws.proofs.PhrasesBound.{plain, exception, class_of, Fits, PhraseBound}
use Rattle.sml_tree_laws.proofs.PartsBound.{PartsBound}
use Rattle.sml_tree_laws.proofs.NamesBound.{name_bound, type_bound}
use Rattle.sml_tree_laws.proofs.PatternsBound.{pattern_bound}
use Rattle.sml_tree_laws.proofs.ExpressionsBound.{expression_bound}
use Rattle.sml_tree_laws.proofs.DeclarationsBound.{declaration_bound}
use Rattle.sml_tree_laws.proofs.SignaturesBound.{signature_bound, specification_bound}
use Rattle.sml_tree_laws.proofs.StructuresBound.{structure_bound, unit_bound}

module _ (B : Space → ℕ → ℕ → Id → Type 0) (apart : (sp : Space) (g t u : ℕ) (x : Id) → t < u → B sp g t x → B sp g u x → ⊥)
    (may_be : (sp : Space) (g t : ℕ) (x : Id) → (sp ≡ S.Constructors) ⊎ (sp ≡ S.Exceptions) → B sp g t x → MayBeConstructor x) (may_value : (g t : ℕ) (x : Id) → B S.Values g t x → MayBeValue x)
    (g : ℕ) (t : ℕ → ℕ) (mono : (k : ℕ) → t k ≤ t (suc k)) where
  pub made_bound : (rule : Rule) (p : Place) (s : Option Shape) (vs : List Phrase) → PartsBound B g t rule vs → PhraseBound B (class_of (Of (part_of rule))) g (t 0) (t (length (right_side rule))) (rule_phrase rule p s vs)
  made_bound (G.Names rule) p s vs h = name_bound B apart g t mono rule p vs h
  made_bound (G.Units rule) p s vs h = unit_bound B apart may_be may_value g t mono rule p vs h
  made_bound (G.Structures rule) p s vs h = structure_bound B apart may_be may_value g t mono rule p vs h
  made_bound (G.Signatures rule) p s vs h = signature_bound B apart may_be may_value g t mono rule p vs h
  made_bound (G.Specifications rule) p s vs h = specification_bound B apart may_be may_value g t mono rule p vs h
  made_bound (G.Declarations rule) p s vs h = declaration_bound B apart may_be g t mono rule p s vs h
  made_bound (G.Expressions rule) p s vs h = expression_bound B apart g t mono rule p s vs h
  made_bound (G.Patterns rule) p s vs h = pattern_bound B apart g t mono rule p s vs h
  made_bound (G.Types rule) p s vs h = type_bound B apart g t mono rule p vs h

-- what a phrase is made of

exception_fits : (x : Name Place) (c : Option (LongName Place)) (t : Option (Ty Place)) → Fits exception (exception_of x c t)
exception_fits x None t = tt
exception_fits x (Some c) t = tt

name_fits : (rule : NameRule) (p : Place) (s : Option Shape) (vs : List Phrase) → Fits (class_of (Of (part_of (G.Names rule)))) (rule_phrase (G.Names rule) p s vs)
name_fits N.LabVid p s vs = tt
name_fits _ p s vs = tt

unit_fits : (rule : UnitRule) (p : Place) (s : Option Shape) (vs : List Phrase) → Fits (class_of (Of (part_of (G.Units rule)))) (rule_phrase (G.Units rule) p s vs)
unit_fits U.StartTop p s vs = tt
unit_fits _ p s vs = tt

structure_fits : (rule : StructureRule) (p : Place) (s : Option Shape) (vs : List Phrase) → Fits (class_of (Of (part_of (G.Structures rule)))) (rule_phrase (G.Structures rule) p s vs)
structure_fits R.SealNone p s vs = tt
structure_fits _ p s vs = tt

signature_fits : (rule : SignatureRule) (p : Place) (s : Option Shape) (vs : List Phrase) → Fits (class_of (Of (part_of (G.Signatures rule)))) (rule_phrase (G.Signatures rule) p s vs)
signature_fits H.SigMoreNone p s vs = tt
signature_fits _ p s vs = tt

specification_fits : (rule : SpecificationRule) (p : Place) (s : Option Shape) (vs : List Phrase) → Fits (class_of (Of (part_of (G.Specifications rule)))) (rule_phrase (G.Specifications rule) p s vs)
specification_fits C.OfTyNone p s vs = tt
specification_fits _ p s vs = tt

declaration_fits : (rule : DeclarationRule) (p : Place) (s : Option Shape) (vs : List Phrase) → Fits (class_of (Of (part_of (G.Declarations rule)))) (rule_phrase (G.Declarations rule) p s vs)
declaration_fits D.ExnBindMaybeOp p s vs = exception_fits (name_in (at vs 1)) (long_if_any (at vs 2)) (ty_if_any (at vs 2))
declaration_fits _ p s vs = tt

expression_fits : (rule : ExpressionRule) (p : Place) (s : Option Shape) (vs : List Phrase) → Fits (class_of (Of (part_of (G.Expressions rule)))) (rule_phrase (G.Expressions rule) p s vs)
expression_fits E.OpenWhile p s vs = tt
expression_fits _ p s vs = tt

pattern_fits : (rule : PatternRule) (p : Place) (s : Option Shape) (vs : List Phrase) → Fits (class_of (Of (part_of (G.Patterns rule)))) (rule_phrase (G.Patterns rule) p s vs)
pattern_fits Q.PatOpenRound p s vs = tt
pattern_fits _ p s vs = tt

type_fits : (rule : TypeRule) (p : Place) (s : Option Shape) (vs : List Phrase) → Fits (class_of (Of (part_of (G.Types rule)))) (rule_phrase (G.Types rule) p s vs)
type_fits T.TyTup p s vs = tt
type_fits _ p s vs = tt

pub made_fits : (rule : Rule) (p : Place) (s : Option Shape) (vs : List Phrase) → Fits (class_of (Of (part_of rule))) (rule_phrase rule p s vs)
made_fits (G.Names rule) p s vs = name_fits rule p s vs
made_fits (G.Units rule) p s vs = unit_fits rule p s vs
made_fits (G.Structures rule) p s vs = structure_fits rule p s vs
made_fits (G.Signatures rule) p s vs = signature_fits rule p s vs
made_fits (G.Specifications rule) p s vs = specification_fits rule p s vs
made_fits (G.Declarations rule) p s vs = declaration_fits rule p s vs
made_fits (G.Expressions rule) p s vs = expression_fits rule p s vs
made_fits (G.Patterns rule) p s vs = pattern_fits rule p s vs
made_fits (G.Types rule) p s vs = type_fits rule p s vs

-- a phrase that opens a group binds nothing in it to those round it

abbrev pub is_group : Entry → Bool
is_group O.Group = true
is_group O.Types = true
is_group _ = false

module _ (B : Space → ℕ → ℕ → Id → Type 0) (g g' lo hi : ℕ) where
  abbrev Same : Rule → Place → Option Shape → List Phrase → Type 0
  Same rule p s vs =
      is_group (entry_of rule) ≡ true → PhraseBound B (class_of (Of (part_of rule))) g lo hi (rule_phrase rule p s vs) → PhraseBound B (class_of (Of (part_of rule))) g' lo hi (rule_phrase rule p s vs)

  types_same : (p : Place) (v : Phrase) → PhraseBound B plain g lo hi (types p v) → PhraseBound B plain g' lo hi (types p v)
  types_same p (of_typ_binds []) h = tt
  types_same p (of_typ_binds (b ∷ bs)) h = h
  types_same p (of_typ_descs ds) h = h
  types_same p _ h = tt

  datatypes_same : (p : Place) (v : Phrase) → PhraseBound B plain g lo hi (datatypes p v) → PhraseBound B plain g' lo hi (datatypes p v)
  datatypes_same p (of_datatypes ds ts) h = h
  datatypes_same p (of_copy x c) h = h
  datatypes_same p _ h = tt

  unit_same : (rule : UnitRule) (p : Place) (s : Option Shape) (vs : List Phrase) → Same (G.Units rule) p s vs
  unit_same U.TopSignature p s vs o h = h
  unit_same U.TopFunctor p s vs o h = h
  unit_same U.StrStructure p s vs o h = h
  unit_same _ p s vs o h = absurd (false≢true o)

  specification_same : (rule : SpecificationRule) (p : Place) (s : Option Shape) (vs : List Phrase) → Same (G.Specifications rule) p s vs
  specification_same C.SpecVal p s vs o h = h
  specification_same C.SpecType p s vs o h = types_same p (at vs 1) h
  specification_same C.SpecEqtype p s vs o h = h
  specification_same C.SpecDatatype p s vs o h = datatypes_same p (at vs 1) h
  specification_same C.SpecException p s vs o h = h
  specification_same C.SpecStructure p s vs o h = h
  specification_same _ p s vs o h = absurd (false≢true o)

  declaration_same : (rule : DeclarationRule) (p : Place) (s : Option Shape) (vs : List Phrase) → Same (G.Declarations rule) p s vs
  declaration_same D.CoreDecType p s vs o h = h
  declaration_same D.CoreDecDatatype p s vs o h = h
  declaration_same D.CoreDecException p s vs o h = h
  declaration_same D.DatBindMoreWithtype p s vs o h = h
  declaration_same D.ValDecTypeVariable p s vs o h = h
  declaration_same D.ValRoundTypeVariable p s vs o h = h
  declaration_same D.FunDecTypeVariable p s vs o h = h
  declaration_same D.FunRoundTypeVariable p s vs o h = h
  declaration_same _ p s vs o h = absurd (false≢true o)

  expression_same : (rule : ExpressionRule) (p : Place) (s : Option Shape) (vs : List Phrase) → Same (G.Expressions rule) p s vs
  expression_same E.AtOpenCurly p s vs o h = h
  expression_same _ p s vs o h = absurd (false≢true o)

  pattern_same : (rule : PatternRule) (p : Place) (s : Option Shape) (vs : List Phrase) → Same (G.Patterns rule) p s vs
  pattern_same Q.OtherAtPatOpenCurly p s vs o h = h
  pattern_same _ p s vs o h = absurd (false≢true o)

  type_same : (rule : TypeRule) (p : Place) (s : Option Shape) (vs : List Phrase) → Same (G.Types rule) p s vs
  type_same T.SomeTvsTypeVariable p s vs o h = h
  type_same T.SomeTvsOpenRound p s vs o h = h
  type_same T.ATyOpenCurly p s vs o h = h
  type_same _ p s vs o h = absurd (false≢true o)

  pub made_same : (rule : Rule) (p : Place) (s : Option Shape) (vs : List Phrase) → Same rule p s vs
  made_same (G.Names rule) p s vs o h = absurd (false≢true o)
  made_same (G.Units rule) p s vs o h = unit_same rule p s vs o h
  made_same (G.Structures rule) p s vs o h = absurd (false≢true o)
  made_same (G.Signatures rule) p s vs o h = absurd (false≢true o)
  made_same (G.Specifications rule) p s vs o h = specification_same rule p s vs o h
  made_same (G.Declarations rule) p s vs o h = declaration_same rule p s vs o h
  made_same (G.Expressions rule) p s vs o h = expression_same rule p s vs o h
  made_same (G.Patterns rule) p s vs o h = pattern_same rule p s vs o h
  made_same (G.Types rule) p s vs o h = type_same rule p s vs o h
