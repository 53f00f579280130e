-- Where the places of a unit stand: at tokens of their declaration, counted from its first.
use Rattle.std.specs.Prelude.{◌≡◌, ◌+◌, ◌≤◌, ◌<◌, ℕ, suc, List, [], ◌∷◌, length, Bool, true, false, ◌&&◌, Option, Some, IfSome, slice_get, if◌then◌else◌}
use Rattle.std.specs.List.{All}
use Rattle.sml_lex.specs.declared.fault.Code.{Code}
use Rattle.sml_lex.specs.declared.fault.Code.TheVariants as C
use Rattle.sml_lex.specs.declared.fault.Place.{Place}
use Rattle.sml_lex.specs.declared.token.Token.{Token}
use Rattle.sml_lex.specs.declared.token.Stop.{Stop}
use Rattle.sml_lex.specs.declared.token.End.{End}
use Rattle.sml_lex.specs.declared.token.End.TheVariants as E
use Rattle.sml_lex.specs.Faults.{Fault, first_place}
use Rattle.sml_lex.specs.Pieces.{Spells}
use Rattle.sml_tree.specs.Trees.{Dec}
use Rattle.sml_tree.specs.Places.{dec_places}
use Rattle.sml_tree.specs.Structures.{TopDec}
use Rattle.sml_read.specs.declared.grammar.Symbol.{Symbol}
use Rattle.sml_read.specs.declared.grammar.Symbol.TheVariants.{Of}
use Rattle.sml_read.specs.declared.grammar.Rule.{Rule}
use Rattle.sml_read.specs.declared.grammar.Node.{Node}
use Rattle.sml_read.specs.declared.grammar.Node.TheVariants.{Leaf, Inner}
use Rattle.sml_read.specs.Grammar.{right_side}
use Rattle.sml_read.specs.Parts.{part_of}
use Rattle.sml_read.specs.Spelling.{is_outer}
use Rattle.sml_reach.specs.Places.{place_from}
use Rattle.sml_reach.specs.Places.{start_of}
use Rattle.sml_parse.specs.Trees.{AreTrees}
use Rattle.sml_parse.specs.EachPlace.{EachInTop}

-- the tokens of a declaration: the number of the first, and that of the one after the last
pub record Extent : Type 0 where
  pub first : ℕ
  pub after : ℕ

-- a rule for what is left of a unit stands where the declaration before it has ended
abbrev pub ends_before : Rule → Bool
ends_before rule = is_outer (part_of rule)

abbrev pub is_part_first : List Symbol → Bool
is_part_first (Of p ∷ symbols) = true
is_part_first symbols = false

-- and where its right side begins with a part, and not with a semicolon, the next one begins
abbrev pub begins_next : Rule → Bool
begins_next rule = ends_before rule && is_part_first (right_side rule)

-- how many tokens stand before the first node where a declaration has ended
abbrev pub tokens_before : List Node → ℕ
tokens_before [] = 0
tokens_before (Leaf ∷ nodes) = suc (tokens_before nodes)
tokens_before (Inner rule ∷ nodes) = if ends_before rule then 0 else tokens_before nodes

-- the extent of each declaration of a derivation, where so many tokens stand before these nodes
abbrev pub extents_of : ℕ → List Node → List Extent
extents_of n [] = []
extents_of n (Leaf ∷ nodes) = extents_of (suc n) nodes
extents_of n (Inner rule ∷ nodes) = if begins_next rule then record { first = n; after = n + tokens_before nodes } ∷ extents_of n nodes else extents_of n nodes

-- The place is that of a token of this extent, counted from where its first token begins. It isn't before that.
pub record IsOfToken (unit : List ℕ) (tokens : List Token) (extent : Extent) (place : Place) : Type 0 where
  pub index : ℕ
  pub token : Token
  pub stands : slice_get tokens index ≡ Some token
  pub after_first : extent.first ≤ index
  pub before_end : index < extent.after
  pub ahead : start_of tokens extent.first 0 ≤ token.span.start
  pub within : token.span.start < length unit
  pub counted : place ≡ place_from unit (start_of tokens extent.first 0) token.span.start

-- The place is that of the lexical fault, counted from where the token of this number begins, or from itself where
-- there is none.
pub record IsOfStop (unit : List ℕ) (tokens : List Token) (end : End) (first : ℕ) (place : Place) : Type 0 where
  pub stop : Stop
  pub ended : end ≡ E.Fault stop
  pub ahead : start_of tokens first stop.at ≤ stop.at
  pub within : stop.at ≤ length unit
  pub counted : place ≡ place_from unit (start_of tokens first stop.at) stop.at

-- 1.1 and the places of each whole tree are those of tokens of its declaration
abbrev pub TopsStandInTurn : List ℕ → List Token → List Extent → List (TopDec Place) → Type 0
TopsStandInTurn unit tokens extents [] = Unit {0}
TopsStandInTurn unit tokens [] (top ∷ tops) = ⊥
TopsStandInTurn unit tokens (extent ∷ extents) (top ∷ tops) =
    (IsOfToken unit tokens extent first_place × EachInTop (IsOfToken unit tokens extent) top) × TopsStandInTurn unit tokens extents tops

-- the same of trees of the first piece of the language
abbrev pub StandInTurn : List ℕ → List Token → List Extent → List (Dec Place) → Type 0
StandInTurn unit tokens extents [] = Unit {0}
StandInTurn unit tokens [] (dec ∷ decs) = ⊥
StandInTurn unit tokens (extent ∷ extents) (dec ∷ decs) =
    All (IsOfToken unit tokens extent) (first_place ∷ dec_places dec) × StandInTurn unit tokens extents decs

-- the place is that of a token of the declaration that has so many before it
abbrev pub IsOfDeclaration : List ℕ → List Token → List Extent → ℕ → Place → Type 0
IsOfDeclaration unit tokens extents before place = (extent : Extent) × (slice_get extents before ≡ Some extent) × IsOfToken unit tokens extent place

-- what the last fault of a unit is of
pub data Reason : Type 0 where
  of_bytes : Reason
  of_grammar : Reason
  of_phrases : Reason
  of_height : Reason

abbrev pub reason_of : Code → Reason
reason_of C.S1 = of_grammar
reason_of C.S2 = of_grammar
reason_of C.S3 = of_height
reason_of C.F1 = of_phrases
reason_of C.F2 = of_phrases
reason_of C.F3 = of_phrases
reason_of C.F4 = of_phrases
reason_of C.G1 = of_phrases
reason_of C.G2 = of_phrases
reason_of C.G3 = of_phrases
reason_of C.G4 = of_phrases
reason_of C.G5 = of_phrases
reason_of _ = of_bytes

-- A fault of bytes stands where the tokens end, and one of the grammar at a token of what is left from the token of
-- this number on. One of a declaration's sequences or of what it binds stands at a token of the declaration that has
-- so many before it, and that of a tree that is too high at 1.1.
abbrev pub StandsBy : Reason → List ℕ → List Token → End → List Node → ℕ → ℕ → Place → Type 0
StandsBy of_bytes unit tokens end nodes begun before place = IsOfStop unit tokens end begun place
StandsBy of_grammar unit tokens end nodes begun before place = IsOfToken unit tokens (record { first = begun; after = length tokens }) place
StandsBy of_phrases unit tokens end nodes begun before place = IsOfDeclaration unit tokens (extents_of 0 nodes) before place
StandsBy of_height unit tokens end nodes begun before place = place ≡ first_place

abbrev pub StandsLast : List ℕ → List Token → End → List Node → ℕ → ℕ → Fault Place → Type 0
StandsLast unit tokens end nodes begun before fault = StandsBy (reason_of fault.code) unit tokens end nodes begun before fault.place

-- The places of the trees that bytes spell stand in their declarations, and so does the last fault's.
abbrev pub PlacesAreWithin : Type 0
PlacesAreWithin =
    (unit : List ℕ) (tokens : List Token) (end : End) (tops : List (TopDec Place)) (decs : List (Dec Place)) (fault : Option (Fault Place))
    → Spells unit tokens end → (trees : AreTrees unit tokens end tops decs fault)
    → TopsStandInTurn unit tokens (extents_of 0 trees.nodes) tops × StandInTurn unit tokens (extents_of 0 trees.nodes) decs × IfSome fault (StandsLast unit tokens end trees.nodes trees.begun (length decs))
