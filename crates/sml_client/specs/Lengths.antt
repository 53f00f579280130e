-- Bytes of a line, and the length that it tells.
use Rattle.std.specs.Prelude.{◌≡◌, ◌++◌, ◌∷◌, ◌<◌, ◌+◌, ◌-◌, ◌*◌, ◌^◌, ◌==◌, ◌||◌, ◌⊎◌, ℕ, List, [], Bool, false, true, min, codes, map, length}
use Rattle.std.specs.List.{AllByRecursion}
use Rattle.std.specs.Char.{is_ascii_digit, to_ascii_lowercase}

-- a space or a tab
abbrev pub is_blank : ℕ → Bool
is_blank b = b == 32 || b == 9

-- each byte passes a test
abbrev pub EachPasses : (ℕ → Bool) → List ℕ → Type 0
EachPasses p bytes = AllByRecursion (λ b. p b ≡ true) bytes

-- there is no byte, or the last one fails a test
abbrev pub EndsOff : (ℕ → Bool) → List ℕ → Type 0
EndsOff p bytes = (bytes ≡ []) ⊎ ((front : List ℕ) × (b : ℕ) × (bytes ≡ front ++ (b ∷ [])) × (p b ≡ false))

-- the number that digits spell
abbrev pub number_after : ℕ → List ℕ → ℕ
number_after n [] = n
number_after n (d ∷ ds) = number_after (n * 10 + (d - 48)) ds

-- the greatest length that is told; a greater number counts as this one
abbrev pub most_told : ℕ
most_told = 2 ^ 64 - 1

-- The bytes end with `content-length`, in any case of letters, with blanks or none after it, and a colon.
pub record IsNamed (bytes : List ℕ) : Type 0 where
  pub before : List ℕ
  pub name : List ℕ
  pub gap : List ℕ
  pub whole : bytes ≡ before ++ name ++ gap ++ (58 ∷ [])
  pub named : map to_ascii_lowercase name ≡ codes "content-length"
  pub blank_gap : EachPasses is_blank gap

-- A line tells a length: by the name, and a decimal number with blanks or none around it.
pub record TellsLength (line : List ℕ) (n : ℕ) : Type 0 where
  pub name : List ℕ
  pub front : List ℕ
  pub digits : List ℕ
  pub back : List ℕ
  pub whole : line ≡ name ++ front ++ digits ++ back
  pub named : IsNamed name
  pub blank_front : EachPasses is_blank front
  pub some_digit : 0 < length digits
  pub all_digits : EachPasses is_ascii_digit digits
  pub blank_back : EachPasses is_blank back
  pub value : n ≡ min (number_after 0 digits) most_told

-- a line tells no length
abbrev pub TellsNone : List ℕ → Type 0
TellsNone line = (n : ℕ) → TellsLength line n → ⊥

-- the rest of the bytes before those at their end that pass a test
pub record Leaves (p : ℕ → Bool) (bytes rest : List ℕ) : Type 0 where
  pub taken : List ℕ
  pub whole : bytes ≡ rest ++ taken
  pub passes : EachPasses p taken
  pub stops : EndsOff p rest

-- the bytes end with the name
abbrev pub EndsWithName : List ℕ → Type 0
EndsWithName bytes = (before : List ℕ) × (name : List ℕ) × (bytes ≡ before ++ name) × (map to_ascii_lowercase name ≡ codes "content-length")
