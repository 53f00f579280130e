-- Bytes spell one list of declarations.
use Rattle.std.specs.Prelude.{◌≡◌, ℕ, List, Option}
use Rattle.sml_lex.specs.declared.fault.Place.{Place}
use Rattle.sml_lex.specs.declared.token.Token.{Token}
use Rattle.sml_lex.specs.declared.token.End.{End}
use Rattle.sml_lex.specs.Faults.{Fault}
use Rattle.sml_lex.specs.Pieces.{Spells}
use Rattle.sml_tree.specs.Trees.{Dec}
use Rattle.sml_tree.specs.Structures.{TopDec}
use Rattle.sml_parse.specs.Trees.{AreTrees}

-- At most one list of bare declarations and one last fault are those of the bytes of a unit.
abbrev pub TreesAreUnique : Type 0
TreesAreUnique =
    (bytes : List ℕ) (tokens others : List Token) (end stop : End) (tops tops' : List (TopDec Place)) (decs decs' : List (Dec Place)) (last last' : Option (Fault Place))
    → Spells bytes tokens end → Spells bytes others stop → AreTrees bytes tokens end tops decs last → AreTrees bytes others stop tops' decs' last'
    → (tops ≡ tops') × (decs ≡ decs') × (last ≡ last')
