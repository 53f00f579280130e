-- What the rules of identifiers and constants make of their part: one line a rule. Any other rule's phrase is its part.
use Rattle.std.specs.Prelude.{List}
use Rattle.sml_lex.specs.declared.fault.Place.{Place}
use Rattle.sml_read.specs.declared.grammar.NameRule.{NameRule}
use Rattle.sml_read.specs.declared.grammar.NameRule.TheVariants.{LongVidAlphanumeric, LongVidSymbolic, LongVidStar, ExpVidEquals, LongTyConAlphanumeric, LongTyConSymbolic, LongStrIdAlphanumeric, ConstantNumeral, ConstantZeroNumeral}
use Rattle.sml_derived.specs.Derived.{long}
use Rattle.sml_phrases.specs.Phrases.{Phrase, of_long, of_constant, name_in, numeral, at}

abbrev pub name_phrase : NameRule → Place → List Phrase → Phrase
name_phrase LongVidAlphanumeric p vs = of_long (long (name_in (at vs 0)))
name_phrase LongVidSymbolic p vs = of_long (long (name_in (at vs 0)))
name_phrase LongVidStar p vs = of_long (long (name_in (at vs 0)))
name_phrase ExpVidEquals p vs = of_long (long (name_in (at vs 0)))
name_phrase LongTyConAlphanumeric p vs = of_long (long (name_in (at vs 0)))
name_phrase LongTyConSymbolic p vs = of_long (long (name_in (at vs 0)))
name_phrase LongStrIdAlphanumeric p vs = of_long (long (name_in (at vs 0)))
name_phrase ConstantNumeral p vs = of_constant (numeral (name_in (at vs 0)))
name_phrase ConstantZeroNumeral p vs = of_constant (numeral (name_in (at vs 0)))
name_phrase _ p vs = at vs 0
