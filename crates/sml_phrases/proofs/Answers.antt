-- Calls whose answer is that of another call.
use Rattle.std.proofs.Common.{◌≡◌, ℕ, List, ◌∷◌, ap, sym, ◌∙◌, drop, Result, Ok, Err, OnOk}
use Rattle.sml_phrases.specs.Phrases.{Phrase}
use Rattle.sml_phrases.specs.PhraseHeights.{is_low}
use Rattle.sml_phrases.specs.PhraseViews.{Makes, Puts}
use Rattle.sml_phrases.specs.declared.phrase.Phrase as P
use Rattle.sml_phrases.specs.declared.phrase.Failure.{Failure}
use Rattle.sml_phrases.specs.declared.phrase.Failure.TheVariants.{TooHigh, Memory}

pub makes_same : (v w : Phrase) (r : Result P.Phrase Failure) → v ≡ w → Makes v r → Makes w r
makes_same v w r e made = rw (sym e) made

pub on_ok : {A : Type 0} (r : Result A Failure) (P : Type 0) → P → OnOk r P
on_ok (Ok a) P p = p
on_ok (Err e) P p = tt

-- A rule that takes n phrases off and then puts one.
pub puts_same : (v w : Phrase) (n : ℕ) (old mid new : List Phrase) (r : Result Unit Failure)
    → v ≡ w → mid ≡ drop n old → Puts v 0 mid new r → Puts w n old new r
puts_same v w n old mid new (Ok u) e f made = made ∙ ap (λ l. v ∷ l) f ∙ ap (λ x. x ∷ drop n old) e
puts_same v w n old mid new (Err TooHigh) e f high = sym (ap is_low e) ∙ high
puts_same v w n old mid new (Err Memory) e f made = tt
