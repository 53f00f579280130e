-- The first fault of what the declarations of a unit bind.
use Rattle.std.specs.Prelude.{ℕ, suc, ◌+◌, Bool, true, false, ◌&&◌, nat_lt, nat_le, List, [], ◌∷◌, Option, Some, None, drop, if◌then◌else◌}
use Rattle.std.specs.List.{before_first}
use Rattle.sml_lex.specs.declared.token.Token.{Token}
use Rattle.sml_tree.specs.Trees.{Id}
use Rattle.sml_read.specs.declared.grammar.Node.{Node}
use Rattle.sml_read.specs.declared.grammar.Node.TheVariants.{Leaf, Inner}
use Rattle.sml_read.specs.declared.grammar.Rule.{Rule}
use Rattle.sml_read.specs.declared.grammar.Rule.TheVariants.{Units}
use Rattle.sml_read.specs.declared.grammar.UnitRule.{UnitRule}
use Rattle.sml_read.specs.declared.grammar.UnitRule.TheVariants.{StartNone, StartSemicolon, StartTop, StartExp, AfterTopNone, AfterTopSemicolon, AfterTopTop, AfterExpNone, AfterExpSemicolon}
use Rattle.sml_read.specs.Extents.{tokens_in}
use Rattle.sml_flaws.specs.declared.flaw.Flaw.{Flaw}
use Rattle.sml_reach.specs.declared.reach.Misfit.{Misfit}
use Rattle.sml_reach.specs.Fits.{Fitted}
use Rattle.sml_flaws.specs.Flaws.{flaws, first_flaw}

-- whether a declaration begins after a rule
abbrev pub unit_begins : UnitRule → Bool
unit_begins StartTop = true
unit_begins StartExp = true
unit_begins AfterTopTop = true
unit_begins _ = false

abbrev pub begins_at : Rule → Bool
begins_at (Units rule) = unit_begins rule
begins_at _ = false

-- whether what a rule stands for is what is left of a unit, so that the declaration before it has ended
abbrev pub unit_ends : UnitRule → Bool
unit_ends StartNone = true
unit_ends StartSemicolon = true
unit_ends StartTop = true
unit_ends StartExp = true
unit_ends AfterTopNone = true
unit_ends AfterTopSemicolon = true
unit_ends AfterTopTop = true
unit_ends AfterExpNone = true
unit_ends AfterExpSemicolon = true
unit_ends _ = false

abbrev pub ends_at : Node → Bool
ends_at (Inner (Units rule)) = unit_ends rule
ends_at _ = false

-- the nodes of the declaration that begins after the first of these, and that one
abbrev pub own_nodes : List Node → List Node
own_nodes [] = []
own_nodes (node ∷ nodes) = node ∷ before_first ends_at nodes

-- a token of the declaration of these nodes, whose first token has this number, and no other
abbrev pub own_token : ℕ → List Node → ℕ → ℕ
own_token first nodes token = if nat_le first token && nat_lt token (first + tokens_in nodes) then token else first

-- the fault of a declaration, by its number in the unit, its first token and its nodes
abbrev pub flaw_in : ℕ → ℕ → List Node → Option Flaw → Option Misfit
flaw_in number first nodes None = None
flaw_in number first nodes (Some flaw) = Some (record { number = number; begun = first; token = own_token first nodes flaw.token; code = flaw.code })

abbrev pub flaw_here : (ℕ → Id) → ℕ → ℕ → List Node → List Fitted → Option Misfit
flaw_here text number first nodes [] = None
flaw_here text number first nodes (fitted ∷ others) = flaw_in number first nodes (first_flaw (flaws text fitted.fits first nodes))

abbrev pub or_else : Option Misfit → Option Misfit → Option Misfit
or_else None other = other
or_else (Some m) other = Some m

-- The fault of the first declaration that has one, after so many tokens and so many declarations. These nodes and
-- tokens are left, and these declarations, with what their sequences stand for.
abbrev pub first_flawed : (ℕ → Id) → ℕ → ℕ → List Node → List Token → List Fitted → Option Misfit
first_flawed text n count [] tokens fitted = None
first_flawed text n count (Leaf ∷ nodes) [] fitted = None
first_flawed text n count (Leaf ∷ nodes) (token ∷ tokens) fitted = first_flawed text (suc n) count nodes tokens fitted
first_flawed text n count (Inner rule ∷ nodes) tokens fitted =
    if begins_at rule then or_else (flaw_here text (suc count) n (own_nodes (Inner rule ∷ nodes)) fitted) (first_flawed text n (suc count) nodes tokens (drop 1 fitted))
    else first_flawed text n count nodes tokens fitted
