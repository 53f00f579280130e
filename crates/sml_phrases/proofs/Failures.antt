-- A call that fails, in one that gives something that is at least as high.
use Rattle.std.proofs.Common.{◌≡◌, ℕ, ◌≤◌, false, arith, rules, Result, Ok, Err}
use Rattle.std.specs.Result.{IsErrAnd}
use Rattle.sml_phrases.specs.PhraseHeights.{low}
use Rattle.sml_phrases.specs.PhraseViews.{Gives}
use Rattle.sml_phrases.specs.declared.phrase.Failure.{Failure}
use Rattle.sml_phrases.specs.declared.phrase.Failure.TheVariants.{TooHigh, Memory}

still_too_high : (a b : ℕ) → a ≤ b → low a ≡ false → low b ≡ false
still_too_high a b below high = grind (arith, below, high)

pub fails : {A B C D : Type 0} (seen : A → B) (height : B → ℕ) (view : C → D) (total : D → ℕ) (small : B) (whole : D) (e : Failure) (r : Result C Failure)
    → Gives seen (λ b. low (height b)) small (Err e) → IsErrAnd r (λ f. f ≡ e) → height small ≤ total whole → Gives view (λ d. low (total d)) whole r
fails seen height view total small whole TooHigh (Err TooHigh) high same below = still_too_high (height small) (total whole) below high
fails seen height view total small whole Memory (Err TooHigh) high same below = search (rules, same)
fails seen height view total small whole e (Err Memory) high same below = tt
fails seen height view total small whole e (Ok q) high same below = absurd same
