-- The values of integers and words.
-- (The Definition of Standard ML (Revised), section 2.2.)
use Rattle.std.specs.Prelude.{ℤ, pos, ◌-ℤ◌, ℕ, ◌+◌, ◌-◌, ◌*◌, ◌^◌, List, [], ◌∷◌, length, drop, Bool, true, false, nat_lt, Option, Some, None, if◌then◌else◌}
use Rattle.sml_lex.specs.declared.token.Kind.{Kind}
use Rattle.sml_lex.specs.declared.token.Kind.TheVariants.{Numeral, ZeroNumeral, Integer, WordConstant}
use Rattle.sml_lex.specs.Bytes.{tilde, is_digit, is_within, starts_with, starts_with_both}

abbrev pub digit_value : ℕ → ℕ
digit_value c = if is_digit c then c - 48 else if is_within 65 70 c then c - 55 else c - 87

-- the number that these digits write in a base
abbrev pub number : ℕ → List ℕ → ℕ
number base [] = 0
number base (c ∷ digits) = digit_value c * base ^ length digits + number base digits

abbrev pub without_sign : List ℕ → List ℕ
without_sign text = if starts_with tilde text then drop 1 text else text

-- an integer without its sign
abbrev pub magnitude : List ℕ → ℕ
magnitude text = let digits = without_sign text in if starts_with_both 48 120 digits then number 16 (drop 2 digits) else number 10 digits

-- the value of an integer
abbrev pub integer_value : List ℕ → ℤ
integer_value text = if starts_with tilde text then pos 0 -ℤ pos (magnitude text) else pos (magnitude text)

-- the value of a word, whose digits stand after 0w or 0wx
abbrev pub word_value : List ℕ → ℕ
word_value text = let digits = drop 2 text in if starts_with 120 digits then number 16 (drop 1 digits) else number 10 digits

-- integers are of magnitude at most 2^63 - 1, words at most 2^64 - 1
abbrev pub fits : Kind → List ℕ → Bool
fits Numeral text = nat_lt (magnitude text) 9223372036854775808
fits ZeroNumeral text = nat_lt (magnitude text) 9223372036854775808
fits Integer text = nat_lt (magnitude text) 9223372036854775808
fits WordConstant text = nat_lt (word_value text) 18446744073709551616
fits _ text = true

abbrev pub is_some_below : Option ℕ → ℕ → Bool
is_some_below None limit = false
is_some_below (Some value) limit = nat_lt value limit
