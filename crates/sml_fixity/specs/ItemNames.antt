-- What of an item matters to the operators.
use Rattle.sml_tree.specs.Trees.{Id}
use Rattle.sml_tree.specs.Views.{ident_of}
use Rattle.sml_fixity.specs.declared.sequences.Item.{Item}
use Rattle.sml_fixity.specs.declared.sequences.Item.TheVariants.{Short, Op, Long, Phrase}

-- an identifier without a path; one after `op`; one with a path; any other phrase
pub data Name : Type 0 where
  short : Id → Name
  after_op : Name
  long : Name
  phrase : Name

abbrev pub name_of : Item → Name
name_of (Short x) = short (ident_of x)
name_of Op = after_op
name_of Long = long
name_of Phrase = phrase
