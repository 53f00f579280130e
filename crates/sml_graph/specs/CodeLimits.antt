-- A table of limits, and places in it.
use Rattle.std.specs.Prelude.{ℕ, ◌≤◌, List, ◌∷◌, map}
use Rattle.std.specs.List.{AllByRecursion}
use Rattle.sml_graph.specs.declared.limits.Limit.{Limit}
use Rattle.sml_graph.specs.Limits.{no_limit, limit_at}

-- the limit at a place: none at 0, and from 1 on those of the table in turn
abbrev pub limit_in : List Limit → ℕ → Limit
limit_in ts p = limit_at (no_limit ∷ ts) p

abbrev pub limits_in : List Limit → List ℕ → List Limit
limits_in ts ps = map (limit_in ts) ps

-- the places stand in a table of so many limits
abbrev pub AreIn : ℕ → List ℕ → Type 0
AreIn n ps = AllByRecursion (λ p. p ≤ n) ps
