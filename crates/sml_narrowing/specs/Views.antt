-- The program's patterns as those of the definitions.
use Rattle.std.specs.Prelude.{List, [], ◌∷◌, map}
use Rattle.sml_tree.specs.Trees.{Id}
use Rattle.sml_tree.specs.Views.{ident_of}
use Rattle.sml_narrowing.specs.declared.pattern.Pattern.{Pattern}
use Rattle.sml_narrowing.specs.declared.pattern.Pattern.TheOpen as O
use Rattle.sml_narrowing.specs.declared.pattern.Pattern.TheFolds.{fold-Pattern}
use Rattle.sml_narrowing.specs.declared.pattern.Value as V
use Rattle.sml_narrowing.specs.declared.pattern.Value.TheVariants as R
use Rattle.sml_narrowing.specs.Plain.{Value, Integer, Word, Character, Text, Exception, Plain, Wild, Made, Fields, Valued, Row, Empty, Labelled}

abbrev pub value_of : V.Value → Value
value_of (R.Integer n) = Integer n
value_of (R.Word n) = Word n
value_of (R.Character c) = Character c
value_of (R.Text s) = Text s.items
value_of (R.Exception x) = Exception x.items

-- the fields with these labels, and those of the row after them
abbrev pub row_on : List Id → List Plain → Row → Row
row_on [] ps r = r
row_on (l ∷ ls) [] r = r
row_on (l ∷ ls) (p ∷ ps) r = Labelled l p (row_on ls ps r)

-- one layer of a pattern, with its parts already seen
abbrev pub plain_layer : O.Pattern-F Plain → Plain
plain_layer O.Any = Wild
plain_layer (O.Built k n p) = Made k n p.value
plain_layer (O.Row ls ps) = Fields (row_on (map ident_of ls.items) ps.items Empty)
plain_layer (O.Valued v p) = Valued (value_of v) p.value

abbrev pub plain_of : Pattern → Plain
plain_of = fold-Pattern Plain plain_layer
