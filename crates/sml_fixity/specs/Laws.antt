-- Laws of the definitions.
use Rattle.std.specs.Prelude.{◌≡◌, List, map}
use Rattle.sml_fixity.specs.declared.sequences.Item.{Item}
use Rattle.sml_fixity.specs.declared.heads.Head.{Head}
use Rattle.sml_fixity.specs.declared.sequences.Step.{Step}
use Rattle.sml_fixity.specs.Infix.{Tree, yield, Obeys, IsTheTree}
use Rattle.sml_fixity.specs.ItemNames.{name_of}
use Rattle.sml_fixity.specs.Sequences.{roles_of}
use Rattle.sml_fixity.specs.Scopes.{Map}
use Rattle.sml_fixity.specs.Heads.{IsHead}

-- two trees that obey levels and sides and are written alike are one
abbrev pub TreeIsUnique : Type 0
TreeIsUnique = (t u : Tree) → Obeys t → Obeys u → yield t ≡ yield u → t ≡ u

-- a sequence is a head in one way at most
abbrev pub HeadIsUnique : Type 0
HeadIsUnique = (fixities : Map) (items bracketed : List Item) (g h : Head) → IsHead fixities items bracketed g → IsHead fixities items bracketed h → g ≡ h

-- sequences whose items have the same names stand for one tree
abbrev pub NamesDecide : Type 0
NamesDecide =
    (fixities : Map) (items others : List Item) (s t : List Step) → map name_of items ≡ map name_of others
    → IsTheTree (roles_of fixities items) s → IsTheTree (roles_of fixities others) t → s ≡ t
