-- Tokens are read in one way.
use Rattle.std.specs.Prelude.{◌≡◌, ℕ, List, Bool, Option}
use Rattle.sml_lex.specs.declared.token.Kind.{Kind}
use Rattle.sml_read.specs.declared.grammar.Node.{Node}
use Rattle.sml_read.specs.declared.read.Cause.{Cause}
use Rattle.sml_read.specs.Answer.{IsReading}

-- the whole declarations, where the one being read begins, and the cause for which reading ended
abbrev pub ReadingIsUnique : Type 0
ReadingIsUnique =
    (tokens : List Kind) (done : Bool) (nodes others : List Node) (begun place : ℕ) (cause other : Option Cause)
    → IsReading tokens done nodes begun cause → IsReading tokens done others place other
    → (nodes ≡ others) × (begun ≡ place) × (cause ≡ other)
