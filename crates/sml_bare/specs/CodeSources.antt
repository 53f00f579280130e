-- The program's declarations before they are made, as those of the definitions, and what the program knows of them.
use Rattle.std.specs.Prelude.{◌≡◌, ℕ, suc, ◌+◌, ◌==◌, List, [], ◌∷◌, Option, Some, None, get_or, slice_get, if◌then◌else◌}
use Rattle.sml_lex.specs.declared.fault.Place.{Place}
use Rattle.sml_lex.specs.declared.token.Token.{Token}
use Rattle.sml_reach.specs.Fits.{Fit}
use Rattle.sml_bare.specs.Derivations.{place_at}

-- the first sequence that begins at a token, by its number, where so many stand before these
abbrev pub fit_from : ℕ → List Fit → ℕ → Option ℕ
fit_from i [] token = None
fit_from i (fit ∷ fits) token = if fit.token == token then Some i else fit_from (suc i) fits token

-- the sequences are known by their first tokens, counted from that of the declaration
abbrev pub KnowsFits : ℕ → ℕ → List Fit → List (Option ℕ) → Type 0
KnowsFits i begun fits table = (n : ℕ) → get_or table n None ≡ fit_from i fits (begun + n)

-- the places are those of a declaration's first tokens
abbrev pub ArePlaced : List ℕ → List Token → List Place → Type 0
ArePlaced unit tokens places = (n : ℕ) (p : Place) → slice_get places n ≡ Some p → p ≡ place_at unit tokens n
