-- Phrases that are nothing, and are only counted.
use Rattle.std.proofs.Common.{◌≡◌, ℕ, zero, suc, ◌-◌, ◌<◌, Bool, true, false, ◌&&◌, List, [], ◌∷◌, ◌++◌, drop, length, replicate, take, append-nil, refl, sym, ap, ◌∙◌, ◌≤◌, arith}
use Rattle.std.proofs.lemmas.List.{take_all}
use Rattle.std.proofs.Math.ListN.{drop_of_length-le}
use Rattle.sml_phrases.specs.Phrases.{Phrase, nothing, first, at}
use Rattle.sml_phrases.specs.PhraseViews.{phrase_of, held_in, is_alone, is_exp, is_nothing}
use Rattle.sml_phrases.specs.declared.stack.Held.{Held}

and_true : (b : Bool) → (b && true) ≡ b
and_true true = refl
and_true false = refl

counted : (n : ℕ) (xs : List Phrase) → 0 < n → replicate n nothing ++ xs ≡ nothing ∷ (replicate (n - 1) nothing ++ xs)
counted zero xs some = absurd (let e : ⊥ = omega (arith, some) in e)
counted (suc n) xs some = ap (λ k. nothing ∷ (replicate k nothing ++ xs)) (let e : n ≡ suc n - 1 = omega arith in e)

-- some are counted below the last phrase
pub alone_counted : (h : Held) (hs : List Held) → 0 < h.below → is_alone (held_in (h ∷ hs)) ≡ is_exp (phrase_of h.phrase)
alone_counted h hs some = ap (λ xs. is_alone (phrase_of h.phrase ∷ xs)) (counted h.below (held_in hs) some) ∙ and_true (is_exp (phrase_of h.phrase))

pub below_counted : (h : Held) (hs : List Held) → 0 < h.below → at (held_in (h ∷ hs)) 1 ≡ nothing
below_counted h hs some = ap first (counted h.below (held_in hs) some)

pub less_counted : (h : Held) (hs : List Held) → 0 < h.below → replicate (h.below - 1) nothing ++ held_in hs ≡ drop 2 (held_in (h ∷ hs))
less_counted h hs some = sym (ap (drop 1) (counted h.below (held_in hs) some))

-- none are
pub alone_held : (h g : Held) (hs : List Held) → h.below ≡ 0 → is_alone (held_in (h ∷ g ∷ hs)) ≡ (is_exp (phrase_of h.phrase) && is_nothing (phrase_of g.phrase))
alone_held h g hs none = ap (λ n. is_alone (phrase_of h.phrase ∷ (replicate n nothing ++ held_in (g ∷ hs)))) none

pub below_held : (h g : Held) (hs : List Held) → h.below ≡ 0 → at (held_in (h ∷ g ∷ hs)) 1 ≡ phrase_of g.phrase
below_held h g hs none = ap (λ n. first (replicate n nothing ++ held_in (g ∷ hs))) none

pub alone_last : (h : Held) → h.below ≡ 0 → is_alone (held_in (h ∷ [])) ≡ false
alone_last h none = ap (λ n. is_alone (phrase_of h.phrase ∷ (replicate n nothing ++ []))) none

pub taken_held : (h g : Held) (hs : List Held) → h.below ≡ 0 → drop 2 (held_in (h ∷ g ∷ hs)) ≡ replicate g.below nothing ++ held_in hs
taken_held h g hs none = ap (λ n. drop 1 (replicate n nothing ++ held_in (g ∷ hs))) none

pub first_held : (n : ℕ) (hs : List Held) → n ≡ 0 → 0 < length hs → replicate n nothing ++ held_in hs ≡ first (replicate n nothing ++ held_in hs) ∷ drop 1 (replicate n nothing ++ held_in hs)
first_held n [] none some = absurd (let e : ⊥ = omega (arith, some) in e)
first_held n (h ∷ hs) none some = whole n none
  where
    whole : (n : ℕ) → n ≡ 0 → replicate n nothing ++ held_in (h ∷ hs) ≡ first (replicate n nothing ++ held_in (h ∷ hs)) ∷ drop 1 (replicate n nothing ++ held_in (h ∷ hs))
    whole zero e = refl
    whole (suc n) e = refl

-- what is written back as it was
pub written : {A : Type 0} (len : ℕ) (new items : List A) → new ≡ items → len ≡ length items → take len (new ++ drop (length new) items) ≡ items
written len new items same all =
    ap (λ xs. take len (xs ++ drop (length xs) items)) same
    ∙ ap (λ xs. take len (items ++ xs)) (drop_of_length-le items (let e : length items ≤ length items = omega arith in e))
    ∙ ap (take len) (append-nil items)
    ∙ take_all len items (omega (arith, all))
