-- Tokens are read in one way.
use Rattle.std.proofs.Common.{◌≡◌, ℕ, zero, suc, ◌+◌, ◌≤◌, ◌<◌, inl, inr, List, [], ◌∷◌, ◌++◌, take, drop, Bool, true, false, Option, Some, None, refl, sym, ap, subst, arith, append_assoc, append-nil}
use Rattle.std.proofs.lemmas.List.{take-append-drop}
use Rattle.std.proofs.lemmas.Bool.{cases_order}
use Rattle.sml_lex.specs.declared.token.Kind.{Kind}
use Rattle.sml_read.specs.declared.grammar.Node.{Node}
use Rattle.sml_read.specs.declared.read.Cause.{Cause}
use Rattle.sml_read.specs.declared.read.Cause.TheVariants.{Unexpected, TooEarly, Lexical}
use Rattle.sml_read.specs.Spelling.{IsUnit, BeginsUnit, IsUnexpectedAt, IsWholeTo}
use Rattle.sml_read.specs.Answer.{IsCauseOf, IsReading}

both_done : {b : Bool} → b ≡ true → b ≡ false → ⊥
both_done h k = cc

-- what begins a unit with further tokens begins one without them
begins_shorter : (xs ys : List Kind) → BeginsUnit (xs ++ ys) → BeginsUnit xs
begins_shorter xs ys h = (ys ++ h.0, subst IsUnit (append_assoc xs ys h.0) h.1)

unit_begins : (tokens : List Kind) → IsUnit tokens → BeginsUnit tokens
unit_begins tokens h = ([], subst IsUnit (sym (append-nil tokens)) h)

begins_to : (n : ℕ) (tokens : List Kind) → BeginsUnit tokens → BeginsUnit (take n tokens)
begins_to n tokens h = begins_shorter (take n tokens) (drop n tokens) (subst BeginsUnit (sym (take-append-drop n tokens)) h)

front : (j k : ℕ) (xs : List Kind) → j ≤ k → take k xs ≡ take j xs ++ drop j (take k xs)
front zero k xs h = refl
front (suc j) zero xs h = absurd (omega (arith, h))
front (suc j) (suc k) [] h = refl
front (suc j) (suc k) (x ∷ xs) h = ap (λ ys. x ∷ ys) (front j k xs (omega (arith, h)))

-- a token that no unit has there stands after all at which one may go on
not_before : (tokens : List Kind) (j k : ℕ) → IsUnexpectedAt tokens j → IsUnexpectedAt tokens k → j < k → ⊥
not_before tokens j k h g l =
    h.upto (begins_shorter (take (j + 1) tokens) (drop (j + 1) (take k tokens)) (subst BeginsUnit (front (j + 1) k tokens (omega (arith, l))) g.before))

unexpected_one : (tokens : List Kind) (j k : ℕ) → IsUnexpectedAt tokens j → IsUnexpectedAt tokens k → j ≡ k
unexpected_one tokens j k h g = elim (cases_order j k) [
  | inl e ↦ e
  | inr o ↦ elim o [ inl l ↦ absurd (not_before tokens j k h g l) | inr l ↦ absurd (not_before tokens k j g h l) ]
]

no_unexpected : (tokens : List Kind) (j : ℕ) → IsUnexpectedAt tokens j → BeginsUnit tokens → ⊥
no_unexpected tokens j h g = h.upto (begins_to (j + 1) tokens g)

cause_one : (tokens : List Kind) (done : Bool) (begun place : ℕ) (a b : Option Cause) → IsCauseOf tokens done begun a → IsCauseOf tokens done place b → a ≡ b
cause_one tokens done begun place None None h k = refl
cause_one tokens done begun place None (Some (Unexpected j)) h k = absurd (no_unexpected tokens j k.2 (unit_begins tokens h.2))
cause_one tokens done begun place None (Some TooEarly) h k = absurd (k.2.whole h.2)
cause_one tokens done begun place None (Some Lexical) h k = absurd (both_done h.0 k.0)
cause_one tokens done begun place (Some (Unexpected i)) None h k = absurd (no_unexpected tokens i h.2 (unit_begins tokens k.2))
cause_one tokens done begun place (Some (Unexpected i)) (Some (Unexpected j)) h k = ap (λ n. Some (Unexpected n)) (unexpected_one tokens i j h.2 k.2)
cause_one tokens done begun place (Some (Unexpected i)) (Some TooEarly) h k = absurd (no_unexpected tokens i h.2 k.2.begins)
cause_one tokens done begun place (Some (Unexpected i)) (Some Lexical) h k = absurd (no_unexpected tokens i h.2 k.2)
cause_one tokens done begun place (Some TooEarly) None h k = absurd (h.2.whole k.2)
cause_one tokens done begun place (Some TooEarly) (Some (Unexpected j)) h k = absurd (no_unexpected tokens j k.2 h.2.begins)
cause_one tokens done begun place (Some TooEarly) (Some TooEarly) h k = refl
cause_one tokens done begun place (Some TooEarly) (Some Lexical) h k = absurd (both_done h.0 k.0)
cause_one tokens done begun place (Some Lexical) None h k = absurd (both_done k.0 h.0)
cause_one tokens done begun place (Some Lexical) (Some (Unexpected j)) h k = absurd (no_unexpected tokens j k.2 h.2)
cause_one tokens done begun place (Some Lexical) (Some TooEarly) h k = absurd (both_done k.0 h.0)
cause_one tokens done begun place (Some Lexical) (Some Lexical) h k = refl

pub reading_one : (tokens : List Kind) (done : Bool) (nodes others : List Node) (begun place : ℕ) (cause other : Option Cause)
    → IsReading tokens done nodes begun cause → IsReading tokens done others place other → (nodes ≡ others) × (begun ≡ place) × (cause ≡ other)
reading_one tokens done nodes others begun place cause other h k =
    let down = h.last place others k.whole in
    let up = k.last begun nodes h.whole in
    let same : begun ≡ place = omega (arith, down, up) in
    (k.only nodes (subst (λ n. IsWholeTo tokens done n nodes) same h.whole), same, cause_one tokens done begun place cause other h.fault k.fault)
