-- What a map knows of its unit, and that what it makes of a place names the byte of the same token.
use Rattle.std.specs.Prelude.{◌≡◌, ◌-◌, ◌≤◌, ℕ, List, length, map, Option, Some, slice_get}
use Rattle.sml_lex.specs.declared.fault.Place.{Place}
use Rattle.sml_lex.specs.declared.token.Token.{Token}
use Rattle.sml_lex.specs.declared.token.End.{End}
use Rattle.sml_lex.specs.declared.token.End.TheVariants as E
use Rattle.sml_lex.specs.Faults.{Fault}
use Rattle.sml_lex.specs.Pieces.{Spells}
use Rattle.sml_tree.specs.Trees.{Dec}
use Rattle.sml_tree.specs.Structures.{TopDec}
use Rattle.sml_read.specs.declared.grammar.Node.{Node}
use Rattle.sml_read.specs.declared.read.Cause.{Cause}
use Rattle.sml_read.specs.Spelling.{kinds_of}
use Rattle.sml_read.specs.Answer.{is_done, IsReading}
use Rattle.sml_reach.specs.Places.{place_from, start_of}
use Rattle.sml_parse.specs.Trees.{AreTrees}
use Rattle.sml_parse.specs.Within.{Extent, extents_of, IsOfToken, IsOfStop}
use Rattle.sml_shown.specs.declared.spots.Spot.{Spot}
use Rattle.sml_shown.specs.declared.unit_map.UnitMap.{UnitMap}
use Rattle.sml_shown.specs.Spots.{spot_from}

-- where the tokens of a unit end
abbrev pub end_of : List ℕ → End → ℕ
end_of unit E.Done = length unit
end_of unit (E.Fault stop) = stop.at

-- the places of the first tokens of these extents, counted from the unit's first byte
abbrev pub starts_in : List ℕ → List Token → List Extent → List Place
starts_in unit tokens extents = map (λ e. place_from unit 0 (start_of tokens e.first 0)) extents

-- The map has the unit's tokens, and where its whole declarations begin, and what is left after them.
pub record IsMap (unit : List ℕ) (m : UnitMap) : Type 0 where
  pub spells : Spells unit m.lexed.tokens.items m.lexed.«end»
  pub nodes : List Node
  pub begun : ℕ
  pub cause : Option Cause
  pub reading : IsReading (kinds_of m.lexed.tokens.items) (is_done m.lexed.«end») nodes begun cause
  pub starts : m.starts.items ≡ starts_in unit m.lexed.tokens.items (extents_of 0 nodes)
  pub left : m.left ≡ place_from unit 0 (start_of m.lexed.tokens.items begun (end_of unit m.lexed.«end»))

-- The spot names the byte of the token, or of the fault of bytes, that this place of the declaration of this number
-- names, in the one list of trees that the unit's bytes spell: in a whole declaration, or in what is left after them.
pub record NamesOneByte (unit : List ℕ) (number : ℕ) (place : Place) (spot : Spot) : Type 0 where
  pub in_declaration : (tokens : List Token) (end : End) (tops : List (TopDec Place)) (decs : List (Dec Place)) (fault : Option (Fault Place))
      → Spells unit tokens end → (trees : AreTrees unit tokens end tops decs fault) → (extent : Extent) → slice_get (extents_of 0 trees.nodes) (number - 1) ≡ Some extent
      → (token : IsOfToken unit tokens extent place) → spot ≡ spot_from unit token.token.span.start
  pub in_rest : (tokens : List Token) (end : End) (tops : List (TopDec Place)) (decs : List (Dec Place)) (fault : Option (Fault Place))
      → Spells unit tokens end → (trees : AreTrees unit tokens end tops decs fault) → length (extents_of 0 trees.nodes) ≤ number - 1
      → (token : IsOfToken unit tokens (record { first = trees.begun; after = length tokens }) place) → spot ≡ spot_from unit token.token.span.start
  pub at_end : (tokens : List Token) (end : End) (tops : List (TopDec Place)) (decs : List (Dec Place)) (fault : Option (Fault Place))
      → Spells unit tokens end → (trees : AreTrees unit tokens end tops decs fault) → length (extents_of 0 trees.nodes) ≤ number - 1
      → (stop : IsOfStop unit tokens end trees.begun place) → spot ≡ spot_from unit stop.stop.at
