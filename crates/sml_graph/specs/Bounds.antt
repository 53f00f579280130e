-- Bounds on the names that types may mention: only names that were made before. Within a unit names are numbered in the
-- order in which they are made, and the names of other units were made before.
use Rattle.std.specs.Prelude.{◌≡◌, ℕ, ◌<◌}
use Rattle.sml_objects.specs.Initial.{Name, initial, made}
use Rattle.sml_objects.specs.Objects.{MlType, MlTypes, Head, bound, free, app, arrow, row, name, no_type, and_type}

-- a name of the unit has a lower number
abbrev pub IsNameWithin : ℕ → ℕ → Name → Type 0
IsNameWithin u n (initial k) = Unit {0}
IsNameWithin u n (made m k a q) = m ≡ u → k < n

abbrev pub IsHeadWithin : ℕ → ℕ → Head Name → Type 0
IsHeadWithin u n arrow = Unit {0}
IsHeadWithin u n (row ls) = Unit {0}
IsHeadWithin u n (name m) = IsNameWithin u n m

-- the names of the type that the unit made are among its first n
unfoldable mutual
  pub IsWithin : ℕ → ℕ → MlType Name → Type 0
  IsWithin u n (bound k) = Unit {0}
  IsWithin u n (free v) = Unit {0}
  IsWithin u n (app h ts) = IsHeadWithin u n h × AreWithin u n ts

  pub AreWithin : ℕ → ℕ → MlTypes Name → Type 0
  AreWithin u n no_type = Unit {0}
  AreWithin u n (and_type t ts) = IsWithin u n t × AreWithin u n ts
