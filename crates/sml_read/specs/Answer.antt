-- What the reader answers.
use Rattle.std.specs.Prelude.{◌≡◌, ℕ, ◌≤◌, ◌<◌, List, length, Bool, true, false, Option, Some, None}
use Rattle.sml_lex.specs.declared.token.End.{End}
use Rattle.sml_lex.specs.declared.token.End.TheVariants.{Done, Fault}
use Rattle.sml_lex.specs.declared.token.Kind.{Kind}
use Rattle.sml_read.specs.declared.grammar.Node.{Node}
use Rattle.sml_read.specs.declared.read.Cause.{Cause}
use Rattle.sml_read.specs.declared.read.Cause.TheVariants.{Unexpected, TooEarly, Lexical}
use Rattle.sml_read.specs.Spelling.{IsUnit, BeginsUnit, IsUnexpectedAt, EndsTooEarly, IsWholeTo}

-- whether a unit's tokens end at its last byte
abbrev pub is_done : End → Bool
is_done Done = true
is_done (Fault stop) = false

-- The fault that these tokens have, if any; begun is where the declaration being read begins.
abbrev pub IsCauseOf : List Kind → Bool → ℕ → Option Cause → Type 0
IsCauseOf tokens done begun None = (done ≡ true) × (begun ≡ length tokens) × IsUnit tokens
IsCauseOf tokens done begun (Some (Unexpected place)) = (begun ≤ place) × (place < length tokens) × IsUnexpectedAt tokens place
IsCauseOf tokens done begun (Some TooEarly) = (done ≡ true) × (begun < length tokens) × EndsTooEarly tokens
IsCauseOf tokens done begun (Some Lexical) = (done ≡ false) × (begun ≤ length tokens) × BeginsUnit tokens

-- The whole declarations are these, and no more; the one being read, or the fault's own, begins at this place.
pub record IsReading (tokens : List Kind) (done : Bool) (nodes : List Node) (begun : ℕ) (cause : Option Cause) : Type 0 where
  pub whole : IsWholeTo tokens done begun nodes
  pub last : (place : ℕ) (others : List Node) → IsWholeTo tokens done place others → place ≤ begun
  pub only : (others : List Node) → IsWholeTo tokens done begun others → others ≡ nodes
  pub fault : IsCauseOf tokens done begun cause
