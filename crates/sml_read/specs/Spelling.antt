-- Trees, and the tokens that they spell.
use Rattle.std.specs.Prelude.{◌≡◌, ℕ, ◌+◌, map, List, [], ◌∷◌, ◌++◌, take, drop, length, ◌<◌, ◌≤◌, ◌⊎◌, Bool, true, false, not, ◌&&◌, ◌||◌, ◌==◌, Option, Some, None}
use Rattle.std.specs.List.{list_any}
use Rattle.sml_lex.specs.declared.token.Kind.{Kind}
use Rattle.sml_lex.specs.declared.token.Kind.TheVariants.{Semicolon}
use Rattle.sml_lex.specs.declared.token.Token.{Token}
use Rattle.sml_read.specs.declared.grammar.Part.{Part}
use Rattle.sml_read.specs.declared.grammar.Part.TheVariants.{Start, AfterTop, AfterExp}
use Rattle.sml_read.specs.declared.grammar.Symbol.{Symbol}
use Rattle.sml_read.specs.declared.grammar.Symbol.TheVariants.{Word, Of}
use Rattle.sml_read.specs.declared.grammar.Rule.{Rule}
use Rattle.sml_read.specs.declared.grammar.Node.{Node}
use Rattle.sml_read.specs.declared.grammar.Node.TheVariants.{Leaf, Inner}
use Rattle.sml_read.specs.Grammar.{right_side}
use Rattle.sml_read.specs.Parts.{part_of, may_be_empty, beginnings}
use Rattle.sml_read.specs.Numbers.{kind_number, part_number}

-- what the grammar sees of tokens
abbrev pub kinds_of : List Token → List Kind
kinds_of tokens = map (λ token. token.kind) tokens

abbrev pub is_among : Kind → List Kind → Bool
is_among k kinds = list_any (λ x. kind_number k == kind_number x) kinds

-- whether a part may begin with this kind
abbrev pub begins_with : Part → Kind → Bool
begins_with p k = is_among k (beginnings p)

-- whether a right side may stand for no token
abbrev pub all_empty : List Symbol → Bool
all_empty [] = true
all_empty (Word k ∷ ss) = false
all_empty (Of p ∷ ss) = may_be_empty p && all_empty ss

-- whether a right side may begin with this kind
abbrev pub side_begins_with : List Symbol → Kind → Bool
side_begins_with [] k = false
side_begins_with (Word x ∷ ss) k = kind_number k == kind_number x
side_begins_with (Of p ∷ ss) k = begins_with p k || (may_be_empty p && side_begins_with ss k)

-- A part reaches as far right as it can: a rule that may stand for nothing isn't taken where the next token
-- may begin another alternative of the part.
abbrev pub is_open : Rule → Option Kind → Bool
is_open r None = true
is_open r (Some k) = not (all_empty (right_side r)) || (side_begins_with (right_side r) k || not (begins_with (part_of r) k))

abbrev pub first_of : List Kind → Option Kind
first_of [] = None
first_of (k ∷ ks) = Some k

abbrev pub head_or : List Kind → Option Kind → Option Kind
head_or [] next = next
head_or (k ∷ ks) next = Some k

-- These nodes are trees of the first of the symbols old, one after another, of the last perhaps a beginning.
-- They spell these tokens, after which next stands, and leave the symbols now.
abbrev pub Leads : List Node → List Symbol → List Kind → Option Kind → List Symbol → Type 0
Leads [] old [] next now = old ≡ now
Leads (Leaf ∷ nodes) (Word k ∷ old) (x ∷ tokens) next now = (k ≡ x) × Leads nodes old tokens next now
Leads (Inner r ∷ nodes) (Of p ∷ old) tokens next now =
    (part_of r ≡ p) × (is_open r (head_or tokens next) ≡ true) × Leads nodes (right_side r ++ old) tokens next now
Leads [] old (x ∷ tokens) next now = ⊥
Leads (Leaf ∷ nodes) [] tokens next now = ⊥
Leads (Leaf ∷ nodes) (Word k ∷ old) [] next now = ⊥
Leads (Leaf ∷ nodes) (Of p ∷ old) tokens next now = ⊥
Leads (Inner r ∷ nodes) [] tokens next now = ⊥
Leads (Inner r ∷ nodes) (Word k ∷ old) tokens next now = ⊥

-- the tokens are a unit
abbrev pub IsUnit : List Kind → Type 0
IsUnit tokens = (nodes : List Node) × Leads nodes (Of Start ∷ []) tokens None []

-- these tokens begin some unit
abbrev pub BeginsUnit : List Kind → Type 0
BeginsUnit tokens = (more : List Kind) × IsUnit (tokens ++ more)

-- the token at this place is the first that no unit has there
pub record IsUnexpectedAt (tokens : List Kind) (place : ℕ) : Type 0 where
  pub before : BeginsUnit (take place tokens)
  pub upto : BeginsUnit (take (place + 1) tokens) → ⊥

-- some unit begins with the tokens, and they are none
pub record EndsTooEarly (tokens : List Kind) : Type 0 where
  pub begins : BeginsUnit tokens
  pub whole : IsUnit tokens → ⊥

-- The parts for what is left of a unit: at its start and after a semicolon, after a declaration, and after an
-- expression.
abbrev pub is_outer : Part → Bool
is_outer Start = true
is_outer AfterTop = true
is_outer AfterExp = true
is_outer _ = false

-- Whether what stands before this rest of a unit has ended, with this token next or none. An expression ends only
-- at a semicolon or the unit's end.
abbrev pub is_closed : Part → Option Kind → Bool
is_closed _ None = true
is_closed part (Some k) = not (part_number part == part_number AfterExp) || (kind_number k == kind_number Semicolon)

-- Every declaration of the first tokens is whole, and these nodes are their trees, in the part for a unit:
-- the token after them was seen, or the unit's end, or none is open (at the start and after a semicolon).
-- Where done is false, a fault that is no token stands after the last token.
pub record IsWholeTo (tokens : List Kind) (done : Bool) (place : ℕ) (nodes : List Node) : Type 0 where
  pub within : place ≤ length tokens
  pub part : Part
  pub outer : is_outer part ≡ true
  pub closed : is_closed part (first_of (drop place tokens)) ≡ true
  pub leads : Leads nodes (Of Start ∷ []) (take place tokens) (first_of (drop place tokens)) (Of part ∷ [])
  pub seen : (place < length tokens) ⊎ (done ≡ true) ⊎ (part ≡ Start)
