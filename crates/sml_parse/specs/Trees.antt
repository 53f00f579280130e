-- The bare declarations that a unit's tokens spell, and the fault that ends them.
use Rattle.std.specs.Prelude.{◌≡◌, ℕ, ◌-◌, List, length, Option, Some, None, Bool, if◌then◌else◌, map}
use Rattle.std.specs.List.{list_all}
use Rattle.std.specs.Option.{is_some}
use Rattle.sml_lex.specs.declared.fault.Code.{Code}
use Rattle.sml_lex.specs.declared.fault.Code.TheVariants as C
use Rattle.sml_lex.specs.declared.fault.Place.{Place}
use Rattle.sml_lex.specs.declared.token.Token.{Token}
use Rattle.sml_lex.specs.declared.token.End.{End}
use Rattle.sml_lex.specs.declared.token.End.TheVariants as E
use Rattle.sml_lex.specs.Faults.{Fault, first_place}
use Rattle.sml_tree.specs.Trees.{Dec}
use Rattle.sml_tree.specs.Structures.{TopDec}
use Rattle.sml_read.specs.declared.grammar.Node.{Node}
use Rattle.sml_read.specs.declared.read.Cause.{Cause}
use Rattle.sml_read.specs.declared.read.Cause.TheVariants.{Unexpected, TooEarly, Lexical}
use Rattle.sml_read.specs.Spelling.{kinds_of}
use Rattle.sml_read.specs.Extents.{starts_of}
use Rattle.sml_read.specs.Answer.{is_done, IsReading}
use Rattle.sml_reach.specs.declared.reach.Misfit.{Misfit}
use Rattle.sml_reach.specs.Events.{text_at, events_of}
use Rattle.sml_reach.specs.Fits.{Fitted}
use Rattle.sml_reach.specs.Reach.{before_misfit, up_to, AreFitted}
use Rattle.sml_flaws.specs.Flawed.{or_else, first_flawed}
use Rattle.sml_reach.specs.Places.{place_from}
use Rattle.sml_reach.specs.Places.{start_of}
use Rattle.sml_bare.specs.Derivations.{bare_decs, before_none}
use Rattle.sml_piece_trees.specs.Piece.{piece_of}

abbrev pub fault_from : List ℕ → Code → ℕ → ℕ → Option (Fault Place)
fault_from unit code start at = Some (record { code = code; place = place_from unit start at; detail = None })

-- The fault at which reading ended, counted from where the declaration being read begins. Where no declaration
-- is open a lexical fault is its own beginning.
abbrev pub fault_read : List ℕ → List Token → End → ℕ → Option Cause → Option (Fault Place)
fault_read unit tokens end begun None = None
fault_read unit tokens end begun (Some (Unexpected index)) = fault_from unit C.S1 (start_of tokens begun 0) (start_of tokens index 0)
fault_read unit tokens end begun (Some TooEarly) = fault_from unit C.S2 (start_of tokens begun 0) (start_of tokens (length tokens - 1) 0)
fault_read unit tokens E.Done begun (Some Lexical) = None
fault_read unit tokens (E.Fault stop) begun (Some Lexical) = fault_from unit stop.code (start_of tokens begun stop.at) stop.at

-- the fault after the last of the declarations: that of its sequences or of what it binds, or the one at which reading ended
abbrev pub fault_after : List ℕ → List Token → End → ℕ → Option Cause → Option Misfit → Option (Fault Place)
fault_after unit tokens end begun cause None = fault_read unit tokens end begun cause
fault_after unit tokens end begun cause (Some m) = fault_from unit m.code (start_of tokens m.begun 0) (start_of tokens m.token 0)

-- the last fault: that of a tree that is too high, unless all are low
abbrev pub last_fault : List ℕ → List Token → End → ℕ → Option Cause → Option Misfit → Bool → Option (Fault Place)
last_fault unit tokens end begun cause misfit are_low =
    if are_low then fault_after unit tokens end begun cause misfit else Some (record { code = C.S3; place = first_place; detail = None })

-- The tokens are read. These are the declarations that they spell, up to the first that has a fault of fixity or of
-- what it binds or is too high, as whole trees, and what these are as trees of the first piece of the language. The
-- fault is that one's, or the one at which reading ended. In one declaration a fault of fixity comes first: where it
-- has one its other faults aren't sought.
pub record AreTrees (unit : List ℕ) (tokens : List Token) (end : End) (tops : List (TopDec Place)) (decs : List (Dec Place)) (fault : Option (Fault Place)) : Type 0 where
  pub nodes : List Node
  pub begun : ℕ
  pub cause : Option Cause
  pub fitted : List Fitted
  pub unfit : Option Misfit
  pub misfit : Option Misfit
  pub reading : IsReading (kinds_of tokens) (is_done end) nodes begun cause
  pub fits : AreFitted (text_at unit tokens) (events_of unit tokens nodes (starts_of 0 nodes)) fitted unfit
  pub is_first : misfit ≡ or_else (first_flawed (text_at unit tokens) 0 0 nodes tokens fitted) unfit
  pub made : tops ≡ before_none (up_to (before_misfit misfit) (bare_decs unit tokens 0 nodes fitted))
  pub piece : decs ≡ map piece_of tops
  pub ended : fault ≡ last_fault unit tokens end begun cause misfit (list_all is_some (up_to (before_misfit misfit) (bare_decs unit tokens 0 nodes fitted)))
