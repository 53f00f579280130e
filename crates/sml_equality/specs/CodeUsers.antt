-- Which datatypes mention which, and who loses equality by that.
use Rattle.std.specs.Prelude.{◌≡◌, ◌<◌, ◌+◌, ◌⊎◌, ℕ, zero, suc, Bool, true, false, cond, List, [], ◌∷◌, length, slice_index_or, Vec}
use Rattle.std.specs.List.{All, Contains}
use Rattle.std.specs.Global.{Global}

-- those that use a datatype
abbrev pub users_of : List (Vec ℕ Global) → ℕ → List ℕ
users_of [] i = []
users_of (u ∷ us) zero = u.items
users_of (u ∷ us) (suc i) = users_of us i

abbrev pub AreInside : ℕ → List ℕ → Type 0
AreInside n = All (λ i. i < n)

-- each is used by others of the list
abbrev pub IsSound : ℕ → List (Vec ℕ Global) → Type 0
IsSound n us = (i : ℕ) → AreInside n (users_of us i)

abbrev pub AreLost : (ℕ → Bool) → List ℕ → Type 0
AreLost kept = All (λ i. kept i ≡ false)

abbrev pub AreKept : (ℕ → Bool) → List ℕ → Type 0
AreKept kept = All (λ i. kept i ≡ true)

-- the set has none of these, and none that uses one that it hasn't
pub record Spares (kept : ℕ → Bool) (us : List (Vec ℕ Global)) (from : List ℕ) : Type 0 where
  pub begun : AreLost kept from
  pub closed : (i : ℕ) → kept i ≡ false → AreLost kept (users_of us i)

abbrev pub IsMissed : List (Vec ℕ Global) → List ℕ → ℕ → Type 0
IsMissed us from i = (kept : ℕ → Bool) → Spares kept us from → kept i ≡ false

abbrev pub IsMarked : List Bool → ℕ → Type 0
IsMarked ms i = slice_index_or ms i false ≡ true

abbrev pub IsMarkedBut : List Bool → List ℕ → ℕ → Type 0
IsMarkedBut ms is i = IsMarked ms i ⊎ Contains is i

-- The way to all that lose equality: those with a mark were found, and others are left to do.
pub record IsSpread (us : List (Vec ℕ Global)) (from : List ℕ) (ms : List Bool) (is : List ℕ) : Type 0 where
  pub len : length ms ≡ length us
  pub inside : AreInside (length us) is
  pub begun : All (IsMarkedBut ms is) from
  pub closed : (i : ℕ) → IsMarked ms i → All (IsMarkedBut ms is) (users_of us i)
  pub missed : (i : ℕ) → IsMarked ms i → IsMissed us from i
  pub left : All (IsMissed us from) is

-- how much is left: those without a mark, with their users
abbrev pub unmarked : List (Vec ℕ Global) → List Bool → ℕ
unmarked [] ms = 0
unmarked (u ∷ us) [] = 0
unmarked (u ∷ us) (m ∷ ms) = cond m 0 (suc (length u.items)) + unmarked us ms
