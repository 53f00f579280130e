-- What a phrase makes by its rule: the place of its first token, what the sequence that begins there stands for, and
-- all phrases from its first part on.
use Rattle.std.specs.Prelude.{List, Option}
use Rattle.sml_lex.specs.declared.fault.Place.{Place}
use Rattle.sml_tree.specs.Structures.{TopDec, core_dec, top_str}
use Rattle.sml_read.specs.declared.grammar.Rule.{Rule}
use Rattle.sml_read.specs.declared.grammar.Rule.TheVariants.{Names, Units, Structures, Signatures, Specifications, Declarations, Expressions, Patterns, Types}
use Rattle.sml_derived.specs.Derived.{it_dec}
use Rattle.sml_phrases.specs.Phrases.{Phrase, of_exp, top_in}
use Rattle.sml_fixity.specs.Shapes.{Shape}
use Rattle.sml_bare_decs.specs.DeclarationRules.{declaration_phrase}
use Rattle.sml_bare_pats.specs.NameRules.{name_phrase}
use Rattle.sml_bare_mods.specs.UnitRules.{unit_phrase}
use Rattle.sml_bare_mods.specs.StructureRules.{structure_phrase}
use Rattle.sml_bare_mods.specs.SpecificationRules.{specification_phrase}
use Rattle.sml_bare_mods.specs.SignatureRules.{signature_phrase}
use Rattle.sml_bare_exps.specs.ExpressionRules.{expression_phrase}
use Rattle.sml_bare_pats.specs.PatternRules.{pattern_phrase}
use Rattle.sml_bare_pats.specs.TypeRules.{type_phrase}

abbrev pub rule_phrase : Rule → Place → Option Shape → List Phrase → Phrase
rule_phrase (Names rule) p shape vs = name_phrase rule p vs
rule_phrase (Units rule) p shape vs = unit_phrase rule p vs
rule_phrase (Structures rule) p shape vs = structure_phrase rule p vs
rule_phrase (Signatures rule) p shape vs = signature_phrase rule p vs
rule_phrase (Specifications rule) p shape vs = specification_phrase rule p vs
rule_phrase (Declarations rule) p shape vs = declaration_phrase rule p shape vs
rule_phrase (Expressions rule) p shape vs = expression_phrase rule p shape vs
rule_phrase (Patterns rule) p shape vs = pattern_phrase rule p shape vs
rule_phrase (Types rule) p shape vs = type_phrase rule p vs

-- the declaration that a phrase at the top is; an expression declares `it`
abbrev pub declaration : Place → Phrase → TopDec Place
declaration p (of_exp e) = top_str (core_dec (it_dec p e))
declaration p v = top_in v
