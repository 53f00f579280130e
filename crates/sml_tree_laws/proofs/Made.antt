-- What a phrase makes by any rule.
use Rattle.std.specs.Prelude.{◌≡◌, List, Bool, true, false, Option, ◌∷◌, []}
use Rattle.std.proofs.Common.{refl, sym, ◌∙◌}
use Rattle.std.proofs.lemmas.Bool.{false≢true}
use Rattle.sml_lex.specs.declared.fault.Place.{Place}
use Rattle.sml_tree.specs.Trees.{Id}
use Rattle.sml_tree.specs.Expressions.{DatBind, TypBind, no_bind}
use Rattle.sml_read.specs.declared.grammar.Rule.{Rule}
use Rattle.sml_read.specs.declared.grammar.Rule.TheVariants as G
use Rattle.sml_read.specs.declared.grammar.DeclarationRule.{DeclarationRule}
use Rattle.sml_read.specs.declared.grammar.DeclarationRule.TheVariants as D
use Rattle.sml_read.specs.declared.grammar.SpecificationRule.{SpecificationRule}
use Rattle.sml_read.specs.declared.grammar.SpecificationRule.TheVariants as C
use Rattle.sml_read.specs.declared.grammar.PatternRule.{PatternRule}
use Rattle.sml_read.specs.declared.grammar.PatternRule.TheVariants as Q
use Rattle.sml_read.specs.declared.grammar.TypeRule.{TypeRule}
use Rattle.sml_read.specs.declared.grammar.TypeRule.TheVariants as T
use Rattle.sml_read.specs.declared.grammar.ExpressionRule.{ExpressionRule}
use Rattle.sml_read.specs.declared.grammar.ExpressionRule.TheVariants as E
use Rattle.sml_read.specs.declared.grammar.UnitRule.{UnitRule}
use Rattle.sml_read.specs.declared.grammar.UnitRule.TheVariants as U
use Rattle.sml_fixity.specs.Shapes.{Shape}
use Rattle.sml_phrases.specs.Phrases.{Phrase, of_datatypes, of_copy, of_dec, exp_in, at}
use Rattle.sml_bare_decs.specs.DeclarationRules.{datatype_of, datatypes_dec, values_in, functions_in}
use Rattle.sml_bare.specs.RulePhrases.{rule_phrase}
use Rattle.sml_tree_laws.proofs.Phrases.{PhraseSits, exp_sits}
use Rattle.sml_tree_laws.proofs.Parts.{PartsSit, scopes, opens_value, opens_types}
use Rattle.sml_tree_laws.proofs.NameRules.{name_sits, type_sits}
use Rattle.sml_tree_laws.proofs.PatternRules.{pattern_sits}
use Rattle.sml_tree_laws.proofs.ExpressionRules.{expression_sits}
use Rattle.sml_tree_laws.proofs.DeclarationRules.{declaration_sits, values_sit, functions_sit}
use Rattle.sml_tree_laws.proofs.ModuleRules.{includes_names, signature_sits, specification_sits, structure_sits, unit_sits}
use Rattle.sml_tree_laws.proofs.Values.{value_dec_sits, while_sits}

abbrev pub lists_names : Rule → Bool
lists_names (G.Specifications rule) = includes_names rule
lists_names _ = false

module _ (L V R : Id → Type 0) where
  pub made_sits : (rule : Rule) (p : Place) (s : Option Shape) (vs : List Phrase) → scopes rule ≡ false → (lists_names rule ≡ true → (x : Id) → L x)
      → PartsSit L V R rule vs → PhraseSits L V R (rule_phrase rule p s vs)
  made_sits (G.Names rule) p s vs o l h = name_sits L V R rule p vs h
  made_sits (G.Units rule) p s vs o l h = unit_sits L V R rule p vs h
  made_sits (G.Structures rule) p s vs o l h = structure_sits L V R rule p vs h
  made_sits (G.Signatures rule) p s vs o l h = signature_sits L V R rule p vs h
  made_sits (G.Specifications rule) p s vs o l h = specification_sits L V R rule p vs l h
  made_sits (G.Declarations rule) p s vs o l h = declaration_sits L V R rule p s vs o h
  made_sits (G.Expressions rule) p s vs o l h = expression_sits L V R rule p s vs o h
  made_sits (G.Patterns rule) p s vs o l h = pattern_sits L V R rule p s vs h
  made_sits (G.Types rule) p s vs o l h = type_sits L V R rule p vs h

-- only rules of declarations are of types and datatypes

unit_none : (rule : UnitRule) → opens_types (G.Units rule) ≡ false
unit_none U.StartExp = refl
unit_none _ = refl

specification_none : (rule : SpecificationRule) → opens_types (G.Specifications rule) ≡ false
specification_none C.SpecVal = refl
specification_none _ = refl

expression_none : (rule : ExpressionRule) → opens_types (G.Expressions rule) ≡ false
expression_none E.OpenWhile = refl
expression_none _ = refl

pattern_none : (rule : PatternRule) → opens_types (G.Patterns rule) ≡ false
pattern_none Q.PatOpenRound = refl
pattern_none _ = refl

type_none : (rule : TypeRule) → opens_types (G.Types rule) ≡ false
type_none T.TyTup = refl
type_none _ = refl

-- types and datatypes: what occurs in them is of nobody's concern outside
module _ (L V R : Id → Type 0) where
  copies_sit : (p : Place) (ds : List (DatBind Place)) (ts : List (TypBind Place)) → PhraseSits L V R (of_dec (datatypes_dec p ds ts))
  copies_sit p ds [] = tt
  copies_sit p ds (t ∷ ts) = tt

  datatype_sits : (p : Place) (v : Phrase) → PhraseSits L V R (of_dec (datatype_of p v))
  datatype_sits p (of_datatypes ds ts) = copies_sit p ds ts
  datatype_sits p (of_copy x c) = tt
  datatype_sits p _ = tt

  declaration_types : (rule : DeclarationRule) (p : Place) (s : Option Shape) (vs : List Phrase) → opens_types (G.Declarations rule) ≡ true → PhraseSits L V R (rule_phrase (G.Declarations rule) p s vs)
  declaration_types D.CoreDecType p s vs o = tt
  declaration_types D.CoreDecDatatype p s vs o = datatype_sits p (at vs 1)
  declaration_types _ p s vs o = absurd (false≢true o)

  pub types_sit : (rule : Rule) (p : Place) (s : Option Shape) (vs : List Phrase) → opens_types rule ≡ true → PhraseSits L V R (rule_phrase rule p s vs)
  types_sit (G.Declarations rule) p s vs o = declaration_types rule p s vs o
  types_sit (G.Names rule) p s vs o = absurd (false≢true o)
  types_sit (G.Structures rule) p s vs o = absurd (false≢true o)
  types_sit (G.Signatures rule) p s vs o = absurd (false≢true o)
  types_sit (G.Units rule) p s vs o = absurd (false≢true (sym (unit_none rule) ∙ o))
  types_sit (G.Specifications rule) p s vs o = absurd (false≢true (sym (specification_none rule) ∙ o))
  types_sit (G.Expressions rule) p s vs o = absurd (false≢true (sym (expression_none rule) ∙ o))
  types_sit (G.Patterns rule) p s vs o = absurd (false≢true (sym (pattern_none rule) ∙ o))
  types_sit (G.Types rule) p s vs o = absurd (false≢true (sym (type_none rule) ∙ o))

-- A value declaration. Its parts are inside, where L, V and In are what holds; outside, whatever L and V.
module _ (L V In Out : Id → Type 0) (listed : (x : Id) → L x → Out x) (inner : (x : Id) → In x → Out x)
    (not_listed : (x : Id) → In x → L x → ⊥) (not_loose : (x : Id) → In x → V x → ⊥) (L' V' : Id → Type 0) where
  unit_scoped : (rule : UnitRule) (p : Place) (s : Option Shape) (vs : List Phrase) → opens_value (G.Units rule) ≡ true → PhraseSits L' V' Out (rule_phrase (G.Units rule) p s vs)
  unit_scoped U.StartExp p s vs o = tt
  unit_scoped _ p s vs o = absurd (false≢true o)

  specification_scoped : (rule : SpecificationRule) (p : Place) (s : Option Shape) (vs : List Phrase) → opens_value (G.Specifications rule) ≡ true
      → PhraseSits L' V' Out (rule_phrase (G.Specifications rule) p s vs)
  specification_scoped C.SpecVal p s vs o = absurd (false≢true o)
  specification_scoped _ p s vs o = absurd (false≢true o)

  pattern_scoped : (rule : PatternRule) (p : Place) (s : Option Shape) (vs : List Phrase) → opens_value (G.Patterns rule) ≡ true → PhraseSits L' V' Out (rule_phrase (G.Patterns rule) p s vs)
  pattern_scoped Q.PatOpenRound p s vs o = absurd (false≢true o)
  pattern_scoped _ p s vs o = absurd (false≢true o)

  type_scoped : (rule : TypeRule) (p : Place) (s : Option Shape) (vs : List Phrase) → opens_value (G.Types rule) ≡ true → PhraseSits L' V' Out (rule_phrase (G.Types rule) p s vs)
  type_scoped T.TyTup p s vs o = absurd (false≢true o)
  type_scoped _ p s vs o = absurd (false≢true o)

  expression_scoped : (rule : ExpressionRule) (p : Place) (s : Option Shape) (vs : List Phrase) → opens_value (G.Expressions rule) ≡ true → PartsSit L V In (G.Expressions rule) vs
      → PhraseSits L' V' Out (rule_phrase (G.Expressions rule) p s vs)
  expression_scoped E.OpenWhile p s vs o h =
      while_sits L V In Out listed inner not_listed not_loose V' p (exp_in (at vs 1)) (exp_in (at vs 3)) (exp_sits L V In (at vs 1) (h 1 refl).0) (exp_sits L V In (at vs 3) (h 3 refl).0)
  expression_scoped _ p s vs o h = absurd (false≢true o)

  declaration_scoped : (rule : DeclarationRule) (p : Place) (s : Option Shape) (vs : List Phrase) → opens_value (G.Declarations rule) ≡ true → PartsSit L V In (G.Declarations rule) vs
      → PhraseSits L' V' Out (rule_phrase (G.Declarations rule) p s vs)
  declaration_scoped D.CoreDecVal p s vs o h =
      let w = values_in (at vs 1) in
      let k = values_sit L V In (at vs 1) (h 1 refl).0 in
      value_dec_sits L V In Out listed inner not_listed not_loose V' p w.variables w.plain w.recursive k.0 k.1 k.2
  declaration_scoped D.CoreDecFun p s vs o h =
      let w = functions_in (at vs 1) in
      let k = functions_sit L V In (at vs 1) (h 1 refl).0 in
      value_dec_sits L V In Out listed inner not_listed not_loose V' p w.variables no_bind w.binds k.0 tt k.1
  declaration_scoped _ p s vs o h = absurd (false≢true o)

  pub scoped_sits : (rule : Rule) (p : Place) (s : Option Shape) (vs : List Phrase) → opens_value rule ≡ true → PartsSit L V In rule vs → PhraseSits L' V' Out (rule_phrase rule p s vs)
  scoped_sits (G.Names rule) p s vs o h = absurd (false≢true o)
  scoped_sits (G.Units rule) p s vs o h = unit_scoped rule p s vs o
  scoped_sits (G.Structures rule) p s vs o h = absurd (false≢true o)
  scoped_sits (G.Signatures rule) p s vs o h = absurd (false≢true o)
  scoped_sits (G.Specifications rule) p s vs o h = specification_scoped rule p s vs o
  scoped_sits (G.Declarations rule) p s vs o h = declaration_scoped rule p s vs o h
  scoped_sits (G.Expressions rule) p s vs o h = expression_scoped rule p s vs o h
  scoped_sits (G.Patterns rule) p s vs o h = pattern_scoped rule p s vs o
  scoped_sits (G.Types rule) p s vs o h = type_scoped rule p s vs o
