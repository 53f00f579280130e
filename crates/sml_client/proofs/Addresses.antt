-- The path and the bytes of a file's address.
use Rattle.std.proofs.Common.{◌≡◌, ◌∷◌, ◌<◌, ◌==◌, ◌&&◌, ◌||◌, inl, inr, ℕ, zero, suc, Bool, true, false, not, cond, codes, ltb, List, [], drop, length, refl, sym, ap, ◌∙◌, arith}
use Rattle.std.specs.Char.{is_ascii_alphanumeric}
use Rattle.std.specs.List.{flat_map, list_any, position_or_len}
use Rattle.std.proofs.lemmas.Bool.{cases_eq, cases_lt, le-ltb, lt-ltb}
use Rattle.percent_encoding.specs.AsciiSet.{contains, should_percent_encode}
use Rattle.percent_encoding.specs.Percent.{encode_byte, percent_encode, percent_encode_byte}
use Rattle.sml_client.specs.declared.paths.TheConstants.{ESCAPED}
use Rattle.sml_client.specs.Paths.{stands, without_host}

pub after_host : (rest : List ℕ) (at : ℕ) → position_or_len (λ b. b == 47) rest ≡ at → at < length rest → without_host rest ≡ drop at rest
after_host rest at e h = ap (λ n. cond (ltb n (length rest)) (drop n rest) rest) e ∙ ap (λ b. cond b (drop at rest) rest) (lt-ltb at (length rest) h)

pub no_host : (rest : List ℕ) → position_or_len (λ b. b == 47) rest ≡ length rest → without_host rest ≡ rest
no_host rest e =
    ap (λ n. cond (ltb n (length rest)) (drop n rest) rest) e ∙ ap (λ b. cond b (drop (length rest) rest) rest) (le-ltb (length rest) (length rest) (omega arith))

abbrev same : Bool → Bool → Bool
same true b = b
same false b = not b

same_is : (a b : Bool) → same a b ≡ true → a ≡ b
same_is true true e = refl
same_is true false e = sym e
same_is false true e = e
same_is false false e = refl

-- a test passes for each number below this one
abbrev all_below : (ℕ → Bool) → ℕ → Bool
all_below test zero = true
all_below test (suc n) = test n && all_below test n

first_true : (a b : Bool) → (a && b) ≡ true → a ≡ true
first_true true b e = refl
first_true false b e = e

last_true : (a b : Bool) → (a && b) ≡ true → b ≡ true
last_true true b e = e
last_true false true e = refl
last_true false false e = e

checked : (test : ℕ → Bool) (n : ℕ) → all_below test n ≡ true → (k : ℕ) → k < n → test k ≡ true
checked test zero all k h = absurd (omega arith)
checked test (suc n) all k h =
    elim (cases_eq k n) [
      | inl e ↦ ap test e ∙ first_true (test n) (all_below test n) all
      | inr other ↦ checked test n (last_true (test n) (all_below test n) all) k (omega (arith, other))
    ]

low : (b : ℕ) → b < 128 → contains ESCAPED b ≡ not (stands b)
low b h = same_is _ _ (checked (λ k. same (contains ESCAPED k) (not (stands k))) 128 refl b h)

turned : (a : Bool) (xs ys : List ℕ) → cond (not a) ys xs ≡ cond a xs ys
turned true xs ys = refl
turned false xs ys = refl

abbrev kept : ℕ → Bool
kept b = is_ascii_alphanumeric b || list_any (λ k. k == b) (codes "/-._~")

one_byte : (b : ℕ) → encode_byte ESCAPED b ≡ cond (stands b) (b ∷ []) (percent_encode_byte b)
unfolding should_percent_encode
one_byte b =
    elim (cases_lt b 128) [
      | inl h ↦
          ap (λ a. cond (not a || contains ESCAPED b) (percent_encode_byte b) (b ∷ [])) (lt-ltb b 128 h)
          ∙ ap (λ k. cond k (percent_encode_byte b) (b ∷ [])) (low b h) ∙ turned (stands b) (b ∷ []) (percent_encode_byte b)
      | inr h ↦
          ap (λ a. cond (not a || contains ESCAPED b) (percent_encode_byte b) (b ∷ [])) (le-ltb b 128 h)
          ∙ sym (ap (λ a. cond (a && kept b) (b ∷ []) (percent_encode_byte b)) (le-ltb b 128 h))
    ]

pub all_bytes : (path : List ℕ) → percent_encode ESCAPED path ≡ flat_map (λ b. cond (stands b) (b ∷ []) (percent_encode_byte b)) path
unfolding percent_encode
all_bytes path = ap (λ f. flat_map f path) (λ i b. one_byte b i)
