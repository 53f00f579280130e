-- Sums over what stands in a map, whether something holds of some of it, and numbers that stop at the greatest of their type.
use Rattle.std.specs.Prelude.{ℕ, ◌+◌, ◌-◌, ◌^◌, min, Bool, false, ◌||◌, [], ◌∷◌}
use Rattle.sml_objects.specs.Maps.{Map}

-- the sum over the things in a map
abbrev pub total : {X : Type 0} → (X → ℕ) → Map X → ℕ
total f [] = 0
total f (e ∷ es) = f e.1 + total f es

-- some thing in a map
abbrev pub some_entry : {X : Type 0} → (X → Bool) → Map X → Bool
some_entry p [] = false
some_entry p (e ∷ es) = p e.1 || some_entry p es

-- numbers stop at the greatest of 64 bits
abbrev pub capped : ℕ → ℕ
capped n = min n (2 ^ 64 - 1)

-- or of 32
abbrev pub capped_32 : ℕ → ℕ
capped_32 n = min n (2 ^ 32 - 1)
