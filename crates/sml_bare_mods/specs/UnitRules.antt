-- What the rules of declarations, of structure-level and of top-level declarations, and of specifications, one after the
-- other, make of their parts (the Definition, sections 2.8 and 3.4): one line a rule, with the place of the phrase and
-- all phrases from its first part on. The rules of the program's beginning and of what stands after a top-level
-- declaration are no part of a declaration, and make nothing.
use Rattle.std.specs.Prelude.{List}
use Rattle.sml_lex.specs.declared.fault.Place.{Place}
use Rattle.sml_tree.specs.Expressions.{no_dec, and_dec}
use Rattle.sml_tree.specs.Signatures.{Specs, no_spec, and_spec}
use Rattle.sml_tree.specs.Structures.{core_dec, structure_dec, str_local, no_str_dec, and_str_dec, top_str, signature_dec, functor_dec}
use Rattle.sml_read.specs.declared.grammar.UnitRule.{UnitRule}
use Rattle.sml_read.specs.declared.grammar.UnitRule.TheVariants.{TopStr, TopSignature, TopFunctor, StrCoreDec, StrStructure, StrLocal, StrsNone, StrsSemicolon, StrsStr, DecsNone, DecsSemicolon, DecsDec, SpecsNone, SpecsSemicolon, SpecsSpec}
use Rattle.sml_bare_mods.specs.SignatureRules.{sig_binds}
use Rattle.sml_bare_mods.specs.StructureRules.{str_binds, fun_binds}
use Rattle.sml_phrases.specs.Phrases.{Phrase, nothing, of_str_dec, of_str_decs, of_decs, of_specs, of_top, dec_in, decs_in, str_dec_in, str_decs_in, specs_in, at}

-- specifications, and others after them
abbrev pub and_specs : Specs Place → Specs Place → Specs Place
and_specs no_spec rest = rest
and_specs (and_spec s ss) rest = and_spec s (and_specs ss rest)

abbrev pub unit_phrase : UnitRule → Place → List Phrase → Phrase
unit_phrase TopStr p vs = of_top (top_str (str_dec_in (at vs 0)))
unit_phrase TopSignature p vs = of_top (signature_dec p (sig_binds (at vs 1) (at vs 2)))
unit_phrase TopFunctor p vs = of_top (functor_dec p (fun_binds (at vs 1) (at vs 2)))
unit_phrase StrStructure p vs = of_str_dec (structure_dec p (str_binds (at vs 1) (at vs 2)))
unit_phrase StrCoreDec p vs = of_str_dec (core_dec (dec_in (at vs 0)))
unit_phrase StrLocal p vs = of_str_dec (str_local p (str_decs_in (at vs 1)) (str_decs_in (at vs 3)))
unit_phrase StrsNone p vs = of_str_decs no_str_dec
unit_phrase StrsSemicolon p vs = at vs 1
unit_phrase StrsStr p vs = of_str_decs (and_str_dec (str_dec_in (at vs 0)) (str_decs_in (at vs 1)))
unit_phrase DecsNone p vs = of_decs no_dec
unit_phrase DecsSemicolon p vs = at vs 1
unit_phrase DecsDec p vs = of_decs (and_dec (dec_in (at vs 0)) (decs_in (at vs 1)))
unit_phrase SpecsNone p vs = of_specs no_spec
unit_phrase SpecsSemicolon p vs = at vs 1
unit_phrase SpecsSpec p vs = of_specs (and_specs (specs_in (at vs 0)) (specs_in (at vs 1)))
unit_phrase _ p vs = nothing
