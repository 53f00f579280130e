-- What sinks take. The bytes that a sink took are known or not, as those that a writer holds are.
use Rattle.std.specs.Prelude.{◌≡◌, ℕ, ◌+◌, ◌-◌, ◌^◌, min, Bool, true, ◌&&◌, cond, nat_eq, nat_lt, List, [], ◌∷◌, ◌++◌, length, Option, Result, Ok, Err, MatchResult}
use Rattle.std.specs.Io.KnownBytes.{Appends}

-- an error, or no byte of some
abbrev pub is_failure : {E : Type 0} → Result ℕ E → List ℕ → Bool
is_failure (Ok n) bytes = nat_eq n 0 && nat_lt 0 (length bytes)
is_failure (Err e) bytes = true

-- one more, but no more than the greatest number
abbrev pub one_more : ℕ → ℕ
one_more k = min (k + 1) (2 ^ 64 - 1)

-- the count of failed calls after a call
abbrev pub failures_after : {E : Type 0} → ℕ → Result ℕ E → List ℕ → ℕ
failures_after k r bytes = cond (is_failure r bytes) (one_more k) k

-- the sink took a beginning of the text
pub record TakesBeginning (old new : Option (List ℕ)) (text : List ℕ) : Type 0 where
  pub beginning : List ℕ
  pub rest : List ℕ
  pub whole : text ≡ beginning ++ rest
  pub taken : Appends old new beginning

-- texts one after the other
abbrev pub in_turn : List (List ℕ) → List ℕ
in_turn [] = []
in_turn (t ∷ ts) = t ++ in_turn ts

-- The sink took the whole text and no call failed, or it took a beginning and then a call failed.
unfoldable pub Prints : {X E : Type 0} → Option (List ℕ) → Option (List ℕ) → ℕ → ℕ → Result X E → List ℕ → Type 0
Prints old new before after r text =
    MatchResult r (λ _. Appends old new text × (after ≡ before)) (λ _. TakesBeginning old new text × (after ≡ one_more before))
