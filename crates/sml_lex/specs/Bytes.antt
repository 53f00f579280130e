-- The bytes of tokens.
-- (The Definition of Standard ML (Revised), sections 2.1 to 2.5.)
use Rattle.std.specs.Prelude.{ℕ, List, [], ◌∷◌, Bool, true, false, not, ◌&&◌, ◌||◌, ◌==◌, nat_lt}

-- bytes by name
abbrev pub newline : ℕ
newline = 10

abbrev pub quote : ℕ
quote = 34

abbrev pub hash : ℕ
hash = 35

abbrev pub prime : ℕ
prime = 39

abbrev pub open_round : ℕ
open_round = 40

abbrev pub close_round : ℕ
close_round = 41

abbrev pub asterisk : ℕ
asterisk = 42

abbrev pub dot : ℕ
dot = 46

abbrev pub capital_e : ℕ
capital_e = 69

abbrev pub small_e : ℕ
small_e = 101

abbrev pub small_u : ℕ
small_u = 117

abbrev pub backslash : ℕ
backslash = 92

abbrev pub caret : ℕ
caret = 94

abbrev pub tilde : ℕ
tilde = 126

abbrev pub is_within : ℕ → ℕ → ℕ → Bool
is_within first last c = not (nat_lt c first) && not (nat_lt last c)

-- space, tab, newline, form feed, carriage return
abbrev pub is_white : ℕ → Bool
is_white c = (c == 32) || ((c == 9) || ((c == 10) || ((c == 12) || (c == 13))))

abbrev pub is_digit : ℕ → Bool
is_digit c = is_within 48 57 c

abbrev pub is_hex_digit : ℕ → Bool
is_hex_digit c = is_digit c || (is_within 65 70 c || is_within 97 102 c)

abbrev pub is_letter : ℕ → Bool
is_letter c = is_within 65 90 c || is_within 97 122 c

-- letters, digits, primes and underscores
abbrev pub is_name_byte : ℕ → Bool
is_name_byte c = is_letter c || (is_digit c || ((c == 39) || (c == 95)))

-- ! % & $ # + - / : < = > ? @ \ ~ ^ | * and the backquote
abbrev pub is_sign : ℕ → Bool
is_sign c = (c == 33) || (is_within 35 38 c || (is_within 42 43 c || ((c == 45) || ((c == 47) || ((c == 58) || (is_within 60 64 c || ((c == 92) || ((c == 94) || ((c == 96) || ((c == 124) || (c == 126)))))))))))

-- ( ) , ; [ ] _ { }
abbrev pub is_mark : ℕ → Bool
is_mark c = is_within 40 41 c || ((c == 44) || ((c == 59) || ((c == 91) || ((c == 93) || ((c == 95) || ((c == 123) || (c == 125)))))))

abbrev pub starts_white : List ℕ → Bool
starts_white [] = false
starts_white (c ∷ text) = is_white c

abbrev pub starts_with : ℕ → List ℕ → Bool
starts_with x [] = false
starts_with x (a ∷ text) = a == x

-- whether the text begins with these two bytes
abbrev pub starts_with_both : ℕ → ℕ → List ℕ → Bool
starts_with_both x y [] = false
starts_with_both x y (a ∷ text) = (a == x) && starts_with y text

abbrev pub all_are : (ℕ → Bool) → List ℕ → Bool
all_are f [] = true
all_are f (c ∷ cs) = f c && all_are f cs

-- one byte that passes the first test, and then bytes that pass the second
abbrev pub is_run : (ℕ → Bool) → (ℕ → Bool) → List ℕ → Bool
is_run f g [] = false
is_run f g (c ∷ cs) = f c && all_are g cs
