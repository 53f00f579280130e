-- Warnings, and what they are sorted by.
use Rattle.std.specs.Prelude.{◌≡◌, ◌⊎◌, List, All}
use Rattle.sml_lex.specs.declared.fault.Code.{Code}
use Rattle.sml_lex.specs.declared.fault.Code.TheVariants.{P1, P2, P3}
use Rattle.sml_lex.specs.declared.fault.Warning.{Warning}
use Rattle.sml_warnings.specs.declared.sorted.Flaw.{Flaw}
use Rattle.sml_warnings.specs.declared.sorted.Flaw.TheVariants.{Redundant, OpenMatch, OpenBinding}
use Rattle.sml_warnings.specs.declared.sorted.Key.{Key}

-- a code that a match or a binding has
abbrev pub IsOfMatch : Code → Type 0
IsOfMatch c = (c ≡ P1) ⊎ (c ≡ P2) ⊎ (c ≡ P3)

-- each warning has such a code
abbrev pub AreOfMatches : List Warning → Type 0
AreOfMatches ws = All (λ w. IsOfMatch w.code) ws

abbrev pub code_of : Flaw → Code
code_of Redundant = P1
code_of OpenMatch = P2
code_of OpenBinding = P3

abbrev pub warning_of : Key → Warning
warning_of k = record { code = code_of k.flaw; place = record { line = k.line; column = k.column } }
