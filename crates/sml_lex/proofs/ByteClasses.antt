-- Which classes of bytes have none in common.
use Rattle.std.proofs.Common.{◌≡◌, ℕ, true, false, arith}
use Rattle.std.proofs.lemmas.Bool.Decides.{nat_tests}
use Rattle.sml_lex.specs.Bytes.{is_white, is_digit, is_letter, is_sign, is_mark}
use Rattle.sml_lex.specs.Strings.{is_escape_letter}

pub digit_no_letter : (c : ℕ) → is_digit c ≡ true → is_letter c ≡ false
digit_no_letter c h = grind (arith, nat_tests)

pub sign_no_letter : (c : ℕ) → is_sign c ≡ true → is_letter c ≡ false
sign_no_letter c h = grind (arith, nat_tests)

pub sign_no_digit : (c : ℕ) → is_sign c ≡ true → is_digit c ≡ false
sign_no_digit c h = grind (arith, nat_tests)

pub digit_no_escape : (c : ℕ) → is_digit c ≡ true → is_escape_letter c ≡ false
digit_no_escape c h = grind (arith, nat_tests)

pub white_no_escape : (c : ℕ) → is_white c ≡ true → is_escape_letter c ≡ false
white_no_escape c h = grind (arith, nat_tests)

pub white_no_digit : (c : ℕ) → is_white c ≡ true → is_digit c ≡ false
white_no_digit c h = grind (arith, nat_tests)

pub white_no_letter : (c : ℕ) → is_white c ≡ true → is_letter c ≡ false
white_no_letter c h = grind (arith, nat_tests)

pub white_no_sign : (c : ℕ) → is_white c ≡ true → is_sign c ≡ false
white_no_sign c h = grind (arith, nat_tests)

pub white_no_mark : (c : ℕ) → is_white c ≡ true → is_mark c ≡ false
white_no_mark c h = grind (arith, nat_tests)
