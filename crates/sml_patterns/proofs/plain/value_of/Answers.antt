use Rattle.std.proofs.Common.{rules}
use Rattle.sml_tree.specs.Views.{ident_of}
use Rattle.sml_patterns.proofs.Constants.{text_is, character_is}
use Rattle.sml_patterns.proofs.plain.value_of.Goals as goal

pub returns-in-Some-2 : goal.returns-in-Some-2
returns-in-Some-2 c =
    text_is c.args.constant.now.kind c.as_slice-text.result.now (ident_of c.args.constant.now.literal) _ c.in-Some-2.characters (search rules) (search rules) c.in_ok-characters-in-String.ensures c.in-Some-2.is

pub returns-in-Some-character : goal.returns-in-Some-character
returns-in-Some-character c =
    character_is c.args.constant.now.kind c.as_slice-text.result.now (ident_of c.args.constant.now.literal) c.in-Some-character.code (search rules) (search rules) c.in-Some-character.ensures
