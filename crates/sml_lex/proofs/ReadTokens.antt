-- What the machine takes for a token is one.
use Rattle.std.proofs.Common.{◌≡◌, ℕ, List, [], ◌∷◌, ◌++◌, Bool, true, false, Option, Some, None, is_some, unwrap_or, refl, sym, ap, ◌∙◌, subst, ◌⊎◌, inl, inr, append_assoc, append-nil}
use Rattle.std.specs.Prelude.{◌==◌, ◌&&◌, not, if◌then◌else◌, codes}
use Rattle.std.proofs.lemmas.Bool.{cond-true, cond-false, eqb-true}
use Rattle.std.specs.Cmp.Lexicographic.{same_text}
use Rattle.sml_lex.specs.declared.token.Kind.{Kind}
use Rattle.sml_lex.specs.declared.token.Kind.TheVariants.{Alphanumeric, Symbolic, Star, LongAlphanumeric, LongSymbolic, LongStar, TypeVariable, Numeral, ZeroNumeral, Integer, WordConstant, RealConstant, StringConstant, CharacterConstant}
use Rattle.sml_lex.specs.declared.machine.State.{State}
use Rattle.sml_lex.specs.declared.machine.State.TheVariants.{Fresh, Mark, OneDot, TwoDots, ThreeDots, Variable, Name, Dot, LongName, LongSign, Sign, Tilde, Zero, ZeroDigits, Digits, NegativeZero, NegativeDigits, HexMark, Hex, WordMark, WordDigits, WordHexMark, WordHex, Dead}
use Rattle.sml_lex.specs.Bytes.{is_digit, is_hex_digit, is_letter, is_name_byte, is_sign, is_mark}
use Rattle.sml_lex.specs.Words.{is_text, kind_among, reserved_words, word_kind, is_reserved}
use Rattle.sml_lex.specs.Bytes.{all_are}
use Rattle.sml_lex.specs.Tokens.{is_digits, is_hex_digits, is_alphanumeric, is_symbolic, is_star, qualifiers, AreQualifiers, IsLong, IsToken}
use Rattle.sml_lex.specs.CodeMachine.{first_dot, first_mark, first_sign, first_tilde, first_prime, first_digit, first_zero, first_state, part_after, real_state, digit_or, name_byte_or, sign_or_dead, dot_or_dead, token_kind}
use Rattle.sml_lex.proofs.MachineRuns.{Reads, next, done, none_is_some, false_is_true, some_same, dead, on_if, both_true, first_true, second_true, apart, part_on_byte, only}
use Rattle.sml_lex.proofs.ReadNumbers.{of_kind, RealTail, real_tail, real_is, NumberRead, number_read, with_digit}

-- a reserved word's kind is that of no other token
abbrev is_word_kind : Kind → Bool
is_word_kind Alphanumeric = false
is_word_kind Symbolic = false
is_word_kind Star = false
is_word_kind LongAlphanumeric = false
is_word_kind LongSymbolic = false
is_word_kind LongStar = false
is_word_kind TypeVariable = false
is_word_kind Numeral = false
is_word_kind ZeroNumeral = false
is_word_kind Integer = false
is_word_kind WordConstant = false
is_word_kind RealConstant = false
is_word_kind StringConstant = false
is_word_kind CharacterConstant = false
is_word_kind _ = true

abbrev are_word_kinds : List (List ℕ × Kind) → Bool
are_word_kinds [] = true
are_word_kinds (word ∷ words) = is_word_kind word.1 && are_word_kinds words

kind_found : (text : List ℕ) (words : List (List ℕ × Kind)) (kind : Kind) → are_word_kinds words ≡ true → kind_among text words ≡ Some kind → is_word_kind kind ≡ true
kind_found text [] kind a e = absurd (none_is_some kind e)
kind_found text (word ∷ words) kind a e = go (is_text text word.0) refl (λ h. kind_found text words kind (second_true _ _ a) h)
  where
    go : (b : Bool) → is_text text word.0 ≡ b → (kind_among text words ≡ Some kind → is_word_kind kind ≡ true) → is_word_kind kind ≡ true
    go true t rest = subst (λ k. is_word_kind k ≡ true) (some_same word.1 kind (sym (cond-true _ _ _ t) ∙ e)) (first_true _ _ a)
    go false t rest = rest (sym (cond-false _ _ _ t) ∙ e)

word_found : (text : List ℕ) (kind : Kind) → word_kind text ≡ Some kind → is_word_kind kind ≡ true
unfolding word_kind
word_found text kind e = kind_found text reserved_words kind refl e

pub word_is : (kind : Kind) (text : List ℕ) → word_kind text ≡ Some kind → IsToken kind text
word_is Alphanumeric text e = absurd (false_is_true (word_found text Alphanumeric e))
word_is Symbolic text e = absurd (false_is_true (word_found text Symbolic e))
word_is Star text e = absurd (false_is_true (word_found text Star e))
word_is LongAlphanumeric text e = absurd (false_is_true (word_found text LongAlphanumeric e))
word_is LongSymbolic text e = absurd (false_is_true (word_found text LongSymbolic e))
word_is LongStar text e = absurd (false_is_true (word_found text LongStar e))
word_is TypeVariable text e = absurd (false_is_true (word_found text TypeVariable e))
word_is Numeral text e = absurd (false_is_true (word_found text Numeral e))
word_is ZeroNumeral text e = absurd (false_is_true (word_found text ZeroNumeral e))
word_is Integer text e = absurd (false_is_true (word_found text Integer e))
word_is WordConstant text e = absurd (false_is_true (word_found text WordConstant e))
word_is RealConstant text e = absurd (false_is_true (word_found text RealConstant e))
word_is StringConstant text e = absurd (false_is_true (word_found text StringConstant e))
word_is CharacterConstant text e = absurd (false_is_true (word_found text CharacterConstant e))
word_is kind text e = e

-- a reserved word, or else another token
word_or : (text : List ℕ) (other kind : Kind) → (is_reserved text ≡ false → IsToken other text) → Some (unwrap_or (word_kind text) other) ≡ Some kind → IsToken kind text
word_or text other kind t e = go (word_kind text) refl e
  where
    go : (w : Option Kind) → word_kind text ≡ w → Some (unwrap_or w other) ≡ Some kind → IsToken kind text
    go None n e = of_kind text other kind e (t (ap is_some n))
    go (Some k) n e = word_is kind text (n ∙ e)

-- identifiers
star_or : (text : List ℕ) (b : Bool) (first second kind : Kind) → is_star text ≡ b → Some (if b then first else second) ≡ Some kind → ((is_star text ≡ true) × (Some first ≡ Some kind)) ⊎ ((is_star text ≡ false) × (Some second ≡ Some kind))
star_or text true first second kind t e = inl (t, e)
star_or text false first second kind t e = inr (t, e)

signs_are : (text : List ℕ) (kind : Kind) → is_symbolic text ≡ true → Reads Sign text [] kind → IsToken kind text
signs_are text kind s h = word_or text (if is_star text then Star else Symbolic) kind (λ free. other (is_star text) refl free) (done h)
  where
    other : (b : Bool) → is_star text ≡ b → is_reserved text ≡ false → IsToken (if b then Star else Symbolic) text
    other true t free = same_text text (codes "*") (sym t)
    other false t free = (s, t, free)

signs_read : (c : ℕ) (text : List ℕ) (kind : Kind) → is_sign c ≡ true → Reads Sign (c ∷ []) text kind → IsToken kind (c ∷ text)
signs_read c text kind d h =
    let o = only is_sign Sign refl (λ b c. refl) (c ∷ []) text kind h in
    signs_are (c ∷ text) kind (both_true _ _ d o.0) o.1

variable_read : (c : ℕ) (part text : List ℕ) (kind : Kind) → (c == 39) ≡ true → Reads Variable part text kind → IsToken kind (c ∷ text)
variable_read c part text kind d h =
    let o = only is_name_byte Variable refl (λ b c. refl) part text kind h in
    of_kind (c ∷ text) TypeVariable kind (done o.1) (both_true _ _ d o.0)

-- parts of a long identifier, each with its dot, and the last part
record LongRead (text : List ℕ) (kind : Kind) : Type 0 where
  parts : List (List ℕ)
  last : List ℕ
  joined : text ≡ qualifiers parts ++ last
  all : AreQualifiers parts
  free : is_reserved last ≡ false
  is : ((is_alphanumeric last ≡ true) × (Some LongAlphanumeric ≡ Some kind)) ⊎ ((is_symbolic last ≡ true) × (Some (if is_star last then LongStar else LongSymbolic) ≡ Some kind))

free_or : (b : Bool) (k kind : Kind) → (if b then None else Some k) ≡ Some kind → (b ≡ false) × (Some k ≡ Some kind)
free_or true k kind e = absurd (none_is_some kind e)
free_or false k kind e = (refl, e)

long_signs : (c : ℕ) (text : List ℕ) (kind : Kind) → is_sign c ≡ true → Reads LongSign (c ∷ []) text kind → LongRead (c ∷ text) kind
long_signs c text kind d h =
    let o = only is_sign LongSign refl (λ b c. refl) (c ∷ []) text kind h in
    let w = free_or (is_reserved (c ∷ text)) (if is_star (c ∷ text) then LongStar else LongSymbolic) kind (done o.1) in record {
      parts = [];
      last = c ∷ text;
      joined = refl;
      all = tt;
      free = w.0;
      is = inr (both_true _ _ d o.0, w.1);
    }

-- after a dot
dot_read : (c : ℕ) (text : List ℕ) (kind : Kind) → (is_letter c ≡ true → Reads LongName (c ∷ []) text kind → LongRead (c ∷ text) kind) → Reads Dot [] (c ∷ text) kind → LongRead (c ∷ text) kind
dot_read c text kind name h =
    on_if (LongRead (c ∷ text) kind) (is_letter c) LongName (sign_or_dead LongSign c) (λ e h. name e (subst (λ p. Reads LongName p text kind) (part_on_byte [] c (apart is_letter 46 refl c e)) h)) (
    λ n h.
    on_if (LongRead (c ∷ text) kind) (is_sign c) LongSign Dead (
    λ e h. long_signs c text kind e (subst (λ p. Reads LongSign p text kind) (part_on_byte [] c (apart is_sign 46 refl c e)) h)
    ) (λ e h. absurd (dead _ text kind h)) h
    ) (next h)

joined_part : (part text : List ℕ) (c : ℕ) (parts : List (List ℕ)) (last : List ℕ) → (c == 46) ≡ true → text ≡ qualifiers parts ++ last → part ++ c ∷ text ≡ qualifiers (part ∷ parts) ++ last
joined_part part text c parts last dot e = ap (λ x. part ++ x ∷ text) (eqb-true _ _ dot) ∙ ap (λ t. part ++ 46 ∷ t) e ∙ sym (append_assoc part (46 ∷ []) (qualifiers parts ++ last)) ∙ sym (append_assoc (part ++ 46 ∷ []) (qualifiers parts) last)

with_part : (part text : List ℕ) (c : ℕ) (kind : Kind) → (c == 46) ≡ true → is_alphanumeric part ≡ true → is_reserved part ≡ false → LongRead text kind → LongRead (part ++ c ∷ text) kind
with_part part text c kind dot a free l = record {
  parts = part ∷ l.parts;
  last = l.last;
  joined = joined_part part text c l.parts l.last dot l.joined;
  all = (a, free, l.all);
  free = l.free;
  is = l.is;
}

-- after an alphanumeric part, by the byte that follows
name_next : (R : Type 0) (s : State) (part : List ℕ) (c : ℕ) (text : List ℕ) (kind : Kind) → (is_name_byte c ≡ true → Reads s (part ++ c ∷ []) text kind → R) → ((c == 46) ≡ true → is_reserved part ≡ false → Reads Dot [] text kind → R) → Reads (name_byte_or s (if is_reserved part then Dead else dot_or_dead Dot c) c) (part_after part c) text kind → R
name_next R s part c text kind named dotted h =
    on_if R (is_name_byte c) s (if is_reserved part then Dead else dot_or_dead Dot c) (λ e h. named e (subst (λ p. Reads s p text kind) (part_on_byte part c (apart is_name_byte 46 refl c e)) h)) (
    λ n h.
    on_if R (is_reserved part) Dead (dot_or_dead Dot c) (λ e h. absurd (dead _ text kind h)) (
    λ free h. on_if R (c == 46) Dot Dead (λ e h. dotted e free (subst (λ p. Reads Dot p text kind) (cond-true _ _ _ e) h)) (λ e h. absurd (dead _ text kind h)) h
    ) h
    ) h

all_more : (text : List ℕ) (c : ℕ) → all_are is_name_byte text ≡ true → is_name_byte c ≡ true → all_are is_name_byte (text ++ c ∷ []) ≡ true
all_more [] c a e = both_true _ _ e refl
all_more (d ∷ text) c a e = both_true _ _ (first_true _ _ a) (all_more text c (second_true _ _ a) e)

alphanumeric_more : (part : List ℕ) (c : ℕ) → is_alphanumeric part ≡ true → is_name_byte c ≡ true → is_alphanumeric (part ++ c ∷ []) ≡ true
alphanumeric_more [] c a e = absurd (false_is_true a)
alphanumeric_more (d ∷ part) c a e = both_true _ _ (first_true _ _ a) (all_more part c (second_true _ _ a) e)

joined_read : (part : List ℕ) (c : ℕ) (text : List ℕ) (kind : Kind) → LongRead ((part ++ c ∷ []) ++ text) kind → LongRead (part ++ c ∷ text) kind
joined_read part c text kind l = subst (λ t. LongRead t kind) (append_assoc part (c ∷ []) text) l

long_read : (part text : List ℕ) (kind : Kind) → is_alphanumeric part ≡ true → Reads LongName part text kind → LongRead (part ++ text) kind
long_read part [] kind a h =
    let w = free_or (is_reserved part) LongAlphanumeric kind (done h) in record {
      parts = [];
      last = part;
      joined = append-nil part;
      all = tt;
      free = w.0;
      is = inl (a, w.1);
    }
long_read part (c ∷ []) kind a h = name_next (LongRead (part ++ c ∷ []) kind) LongName part c [] kind (λ e h. joined_read part c [] kind (long_read (part ++ c ∷ []) [] kind (alphanumeric_more part c a e) h)) (λ e free h. absurd (none_is_some kind (done h))) (next h)
long_read part (c ∷ d ∷ text) kind a h = name_next (LongRead (part ++ c ∷ d ∷ text) kind) LongName part c (d ∷ text) kind (λ e h. joined_read part c (d ∷ text) kind (long_read (part ++ c ∷ []) (d ∷ text) kind (alphanumeric_more part c a e) h)) (
    λ e free h. with_part part (d ∷ text) c kind e a free (dot_read d text kind (λ e h. long_read (d ∷ []) text kind (both_true _ _ e refl) h) h)
    ) (next h)

-- after the first part's dot
long_with : (is_last : List ℕ → Bool) (first text : List ℕ) (c : ℕ) (kind : Kind) → (c == 46) ≡ true → is_alphanumeric first ≡ true → is_reserved first ≡ false → (l : LongRead text kind) → is_last l.last ≡ true → IsLong is_last (first ++ c ∷ text)
long_with is_last first text c kind dot a free l i = record {
  first = first;
  others = l.parts;
  last = l.last;
  spelled = joined_part first text c l.parts l.last dot l.joined;
  parts = (a, free, l.all);
  identifier = i;
  free = l.free;
}

long_is : (first text : List ℕ) (c : ℕ) (kind : Kind) → (c == 46) ≡ true → is_alphanumeric first ≡ true → is_reserved first ≡ false → LongRead text kind → IsToken kind (first ++ c ∷ text)
long_is first text c kind dot a free l =
    elim l.is [
      | inl i ↦ of_kind (first ++ c ∷ text) LongAlphanumeric kind i.1 (long_with is_alphanumeric first text c kind dot a free l i.0)
      | inr i ↦ signs i.0 (star_or l.last (is_star l.last) LongStar LongSymbolic kind refl i.1)
    ]
  where
    signs : is_symbolic l.last ≡ true → ((is_star l.last ≡ true) × (Some LongStar ≡ Some kind)) ⊎ ((is_star l.last ≡ false) × (Some LongSymbolic ≡ Some kind)) → IsToken kind (first ++ c ∷ text)
    signs s (inl i) = of_kind (first ++ c ∷ text) LongStar kind i.1 (long_with is_star first text c kind dot a free l i.0)
    signs s (inr i) = of_kind (first ++ c ∷ text) LongSymbolic kind i.1 (long_with (λ last. is_symbolic last && not (is_star last)) first text c kind dot a free l (both_true _ _ s (ap not i.0)))

name_read : (part text : List ℕ) (kind : Kind) → is_alphanumeric part ≡ true → Reads Name part text kind → IsToken kind (part ++ text)
name_read part [] kind a h = subst (IsToken kind) (sym (append-nil part)) (word_or part Alphanumeric kind (λ free. (a, free)) (done h))
name_read part (c ∷ []) kind a h = name_next (IsToken kind (part ++ c ∷ [])) Name part c [] kind (λ e h. subst (IsToken kind) (append_assoc part (c ∷ []) []) (name_read (part ++ c ∷ []) [] kind (alphanumeric_more part c a e) h)) (λ e free h. absurd (none_is_some kind (done h))) (next h)
name_read part (c ∷ d ∷ text) kind a h = name_next (IsToken kind (part ++ c ∷ d ∷ text)) Name part c (d ∷ text) kind (λ e h. subst (IsToken kind) (append_assoc part (c ∷ []) (d ∷ text)) (name_read (part ++ c ∷ []) (d ∷ text) kind (alphanumeric_more part c a e) h)) (
    λ e free h. long_is part (d ∷ text) c kind e a free (dot_read d text kind (λ e h. long_read (d ∷ []) text kind (both_true _ _ e refl) h) h)
    ) (next h)

-- numbers
hex_read : (part text : List ℕ) (kind : Kind) → Reads HexMark part text kind → (is_hex_digits text ≡ true) × (Some Integer ≡ Some kind)
hex_read part [] kind h = absurd (none_is_some kind (done h))
hex_read part (c ∷ text) kind h =
    on_if ((is_hex_digits (c ∷ text) ≡ true) × (Some Integer ≡ Some kind)) (is_hex_digit c) Hex Dead (
    λ e h. let o = only is_hex_digit Hex refl (λ b c. refl) _ text kind h in (both_true _ _ e o.0, done o.1)
    ) (λ e h. absurd (dead _ text kind h)) (next h)

word_hex_read : (part text : List ℕ) (kind : Kind) → Reads WordHexMark part text kind → (is_hex_digits text ≡ true) × (Some WordConstant ≡ Some kind)
word_hex_read part [] kind h = absurd (none_is_some kind (done h))
word_hex_read part (c ∷ text) kind h =
    on_if ((is_hex_digits (c ∷ text) ≡ true) × (Some WordConstant ≡ Some kind)) (is_hex_digit c) WordHex Dead (
    λ e h. let o = only is_hex_digit WordHex refl (λ b c. refl) _ text kind h in (both_true _ _ e o.0, done o.1)
    ) (λ e h. absurd (dead _ text kind h)) (next h)

word_read : (part text : List ℕ) (kind : Kind) → Reads WordMark part text kind → IsToken kind (48 ∷ 119 ∷ text)
word_read part [] kind h = absurd (none_is_some kind (done h))
word_read part (c ∷ text) kind h =
    on_if (IsToken kind (48 ∷ 119 ∷ c ∷ text)) (c == 120) WordHexMark (digit_or WordDigits Dead c) (
    λ e h. let w = word_hex_read _ text kind h in of_kind (48 ∷ 119 ∷ c ∷ text) WordConstant kind w.1 (inr (text, ap (λ x. 48 ∷ 119 ∷ x ∷ text) (eqb-true _ _ e), w.0))
    ) (
    λ e h.
    on_if (IsToken kind (48 ∷ 119 ∷ c ∷ text)) (is_digit c) WordDigits Dead (
    λ d h. let o = only is_digit WordDigits refl (λ b c. refl) _ text kind h in of_kind (48 ∷ 119 ∷ c ∷ text) WordConstant kind (done o.1) (inl (c ∷ text, refl, both_true _ _ d o.0))
    ) (λ d h. absurd (dead _ text kind h)) h
    ) (next h)

digits_joined : (c : ℕ) (text : List ℕ) (n : List ℕ) → is_digit c ≡ true → text ≡ n ++ [] → all_are is_digit n ≡ true → is_digits (c ∷ text) ≡ true
digits_joined c text n d e a = subst (λ t. is_digits (c ∷ t) ≡ true) (sym (e ∙ append-nil n)) (both_true _ _ d a)

unsigned_is : (k : Kind) (c : ℕ) (text : List ℕ) (kind : Kind) → is_digit c ≡ true → (is_digits (c ∷ text) ≡ true → IsToken k (c ∷ text)) → NumberRead k text kind → IsToken kind (c ∷ text)
unsigned_is k c text kind d is n = go n.tail n.joined n.ending
  where
    go : (tail : List ℕ) → text ≡ n.digits ++ tail → ((tail ≡ []) × (Some k ≡ Some kind)) ⊎ RealTail tail kind → IsToken kind (c ∷ text)
    go tail e (inl w) = of_kind (c ∷ text) k kind w.1 (is (digits_joined c text n.digits d (e ∙ ap (λ t. n.digits ++ t) w.0) n.all))
    go tail e (inr r) = real_is (c ∷ n.digits) tail (c ∷ text) kind (ap (λ t. c ∷ t) e) (c ∷ n.digits, both_true _ _ d n.all, inl refl) r

negative_is : (c : ℕ) (text : List ℕ) (kind : Kind) → is_digit c ≡ true → NumberRead Integer text kind → IsToken kind (126 ∷ c ∷ text)
negative_is c text kind d n = go n.tail n.joined n.ending
  where
    go : (tail : List ℕ) → text ≡ n.digits ++ tail → ((tail ≡ []) × (Some Integer ≡ Some kind)) ⊎ RealTail tail kind → IsToken kind (126 ∷ c ∷ text)
    go tail e (inl w) = of_kind (126 ∷ c ∷ text) Integer kind w.1 (inl (c ∷ text, refl, digits_joined c text n.digits d (e ∙ ap (λ t. n.digits ++ t) w.0) n.all))
    go tail e (inr r) = real_is (126 ∷ c ∷ n.digits) tail (126 ∷ c ∷ text) kind (ap (λ t. 126 ∷ c ∷ t) e) (c ∷ n.digits, both_true _ _ d n.all, inr refl) r

digits_read : (c : ℕ) (part text : List ℕ) (kind : Kind) → (c == 48) ≡ false → is_digit c ≡ true → Reads Digits part text kind → IsToken kind (c ∷ text)
digits_read c part text kind z d h = unsigned_is Numeral c text kind d (λ a. (a, z)) (number_read Digits Numeral (λ b c. refl) (λ part. record { read = refl }) part text kind h)

zero_read : (c : ℕ) (part text : List ℕ) (kind : Kind) → c ≡ 48 → Reads Zero part text kind → IsToken kind (c ∷ text)
zero_read c part text kind z h = subst (λ c. IsToken kind (c ∷ text)) (sym z) (go text h)
  where
    go : (text : List ℕ) → Reads Zero part text kind → IsToken kind (48 ∷ text)
    go [] h = of_kind (48 ∷ []) ZeroNumeral kind (done h) (refl, refl)
    go (x ∷ text) h =
        on_if (IsToken kind (48 ∷ x ∷ text)) (x == 120) HexMark (if x == 119 then WordMark else digit_or ZeroDigits (real_state x) x) (
        λ e h. let w = hex_read _ text kind h in of_kind (48 ∷ x ∷ text) Integer kind w.1 (inr (inl (text, ap (λ x. 48 ∷ x ∷ text) (eqb-true _ _ e), w.0)))
        ) (
        λ e h.
        on_if (IsToken kind (48 ∷ x ∷ text)) (x == 119) WordMark (digit_or ZeroDigits (real_state x) x) (
        λ e h. subst (λ x. IsToken kind (48 ∷ x ∷ text)) (sym (eqb-true _ _ e)) (word_read _ text kind h)
        ) (
        λ e h.
        on_if (IsToken kind (48 ∷ x ∷ text)) (is_digit x) ZeroDigits (real_state x) (
        λ d h. unsigned_is ZeroNumeral 48 (x ∷ text) kind refl (λ a. (a, refl)) (with_digit x text d (number_read ZeroDigits ZeroNumeral (λ b c. refl) (λ part. record { read = refl }) _ text kind h))
        ) (λ d h. real_is (48 ∷ []) (x ∷ text) (48 ∷ x ∷ text) kind refl (48 ∷ [], refl, inl refl) (real_tail _ x text kind h)) h
        ) h
        ) (next h)

pub tilde_read : (text : List ℕ) (kind : Kind) → Reads Tilde (126 ∷ []) text kind → IsToken kind (126 ∷ text)
unfolding word_kind
tilde_read [] kind h = of_kind (126 ∷ []) Symbolic kind (done h) (refl, refl, refl)
tilde_read (x ∷ text) kind h =
    on_if (IsToken kind (126 ∷ x ∷ text)) (x == 48) NegativeZero (digit_or NegativeDigits (sign_or_dead Sign x) x) (λ z h. subst (λ x. IsToken kind (126 ∷ x ∷ text)) (sym (eqb-true _ _ z)) (negative_zero text h)) (
    λ z h.
    on_if (IsToken kind (126 ∷ x ∷ text)) (is_digit x) NegativeDigits (sign_or_dead Sign x) (
    λ d h. negative_is x text kind d (number_read NegativeDigits Integer (λ b c. refl) (λ part. record { read = refl }) _ text kind h)
    ) (
    λ d h.
    on_if (IsToken kind (126 ∷ x ∷ text)) (is_sign x) Sign Dead (
    λ s h. signs_more x text s (subst (λ p. Reads Sign p text kind) (part_on_byte (126 ∷ []) x (apart is_sign 46 refl x s)) h)
    ) (λ s h. absurd (dead _ text kind h)) h
    ) h
    ) (next h)
  where
    signs_more : (x : ℕ) (text : List ℕ) → is_sign x ≡ true → Reads Sign (126 ∷ x ∷ []) text kind → IsToken kind (126 ∷ x ∷ text)
    signs_more x text s h =
        let o = only is_sign Sign refl (λ b c. refl) (126 ∷ x ∷ []) text kind h in
        signs_are (126 ∷ x ∷ text) kind (both_true _ _ refl (both_true _ _ s o.0)) o.1

    negative_zero : {part : List ℕ} (text : List ℕ) → Reads NegativeZero part text kind → IsToken kind (126 ∷ 48 ∷ text)
    negative_zero [] h = of_kind (126 ∷ 48 ∷ []) Integer kind (done h) (inl (48 ∷ [], refl, refl))
    negative_zero (y ∷ text) h =
        on_if (IsToken kind (126 ∷ 48 ∷ y ∷ text)) (y == 120) HexMark (digit_or NegativeDigits (real_state y) y) (
        λ e h. let w = hex_read _ text kind h in of_kind (126 ∷ 48 ∷ y ∷ text) Integer kind w.1 (inr (inr (text, ap (λ y. 126 ∷ 48 ∷ y ∷ text) (eqb-true _ _ e), w.0)))
        ) (
        λ e h.
        on_if (IsToken kind (126 ∷ 48 ∷ y ∷ text)) (is_digit y) NegativeDigits (real_state y) (
        λ d h. negative_is 48 (y ∷ text) kind refl (with_digit y text d (number_read NegativeDigits Integer (λ b c. refl) (λ part. record { read = refl }) _ text kind h))
        ) (λ d h. real_is (126 ∷ 48 ∷ []) (y ∷ text) (126 ∷ 48 ∷ y ∷ text) kind refl (48 ∷ [], refl, inr refl) (real_tail _ y text kind h)) h
        ) (next h)

-- marks
alone_read : (c : ℕ) (text : List ℕ) (kind : Kind) → Reads Mark (c ∷ []) text kind → IsToken kind (c ∷ text)
alone_read c [] kind h = word_is kind (c ∷ []) (done h)
alone_read c (d ∷ text) kind h = absurd (dead _ text kind (next h))

dots_read : (part text : List ℕ) (kind : Kind) → Reads OneDot part text kind → IsToken kind (46 ∷ text)
unfolding word_kind
dots_read part [] kind h = absurd (none_is_some kind (done h))
dots_read part (c ∷ text) kind h = on_if (IsToken kind (46 ∷ c ∷ text)) (c == 46) TwoDots Dead (λ e h. subst (λ c. IsToken kind (46 ∷ c ∷ text)) (sym (eqb-true _ _ e)) (two text h)) (λ e h. absurd (dead _ text kind h)) (next h)
  where
    three : {part : List ℕ} (text : List ℕ) → Reads ThreeDots part text kind → IsToken kind (46 ∷ 46 ∷ 46 ∷ text)
    three [] h = of_kind (46 ∷ 46 ∷ 46 ∷ []) Kind.Dots kind (done h) refl
    three (c ∷ text) h = absurd (dead _ text kind (next h))

    two : {part : List ℕ} (text : List ℕ) → Reads TwoDots part text kind → IsToken kind (46 ∷ 46 ∷ text)
    two [] h = absurd (none_is_some kind (done h))
    two (c ∷ text) h = on_if (IsToken kind (46 ∷ 46 ∷ c ∷ text)) (c == 46) ThreeDots Dead (λ e h. subst (λ c. IsToken kind (46 ∷ 46 ∷ c ∷ text)) (sym (eqb-true _ _ e)) (three text h)) (λ e h. absurd (dead _ text kind h)) (next h)

-- by the first byte
pub token_read : (text : List ℕ) (kind : Kind) → token_kind text ≡ Some kind → IsToken kind text
token_read [] kind e = absurd (none_is_some kind e)
token_read (c ∷ text) kind e = letter (next (first e))
  where
    first : token_kind (c ∷ text) ≡ Some kind → Reads Fresh [] (c ∷ text) kind
    first e = record { read = e }

    alone : {s : State} (f : ℕ → Bool) → f 46 ≡ false → f c ≡ true → Reads s (part_after [] c) text kind → Reads s (c ∷ []) text kind
    alone {s} f dot e h = subst (λ p. Reads s p text kind) (part_on_byte [] c (apart f 46 dot c e)) h

    dot : Reads (first_dot c) (part_after [] c) text kind → IsToken kind (c ∷ text)
    dot h = on_if (IsToken kind (c ∷ text)) (c == 46) OneDot Dead (λ e h. subst (λ c. IsToken kind (c ∷ text)) (sym (eqb-true _ _ e)) (dots_read _ text kind h)) (λ e h. absurd (dead _ text kind h)) h

    mark : Reads (first_mark c) (part_after [] c) text kind → IsToken kind (c ∷ text)
    mark h = on_if (IsToken kind (c ∷ text)) (is_mark c) Mark (first_dot c) (λ e h. alone_read c text kind (alone is_mark refl e h)) (λ e h. dot h) h

    sign : Reads (first_sign c) (part_after [] c) text kind → IsToken kind (c ∷ text)
    sign h = on_if (IsToken kind (c ∷ text)) (is_sign c) Sign (first_mark c) (λ e h. signs_read c text kind e (alone is_sign refl e h)) (λ e h. mark h) h

    tilde_only : (c : ℕ) → c ≡ 126 → Reads Tilde (part_after [] c) text kind → IsToken kind (c ∷ text)
    tilde_only c e h = subst (λ c. Reads Tilde (part_after [] c) text kind → IsToken kind (c ∷ text)) (sym e) (λ h. tilde_read text kind h) h

    tilde : Reads (first_tilde c) (part_after [] c) text kind → IsToken kind (c ∷ text)
    tilde h = on_if (IsToken kind (c ∷ text)) (c == 126) Tilde (first_sign c) (λ e h. tilde_only c (eqb-true _ _ e) h) (λ e h. sign h) h

    prime : Reads (first_prime c) (part_after [] c) text kind → IsToken kind (c ∷ text)
    prime h = on_if (IsToken kind (c ∷ text)) (c == 39) Variable (first_tilde c) (λ e h. variable_read c _ text kind e h) (λ e h. tilde h) h

    digit : (c == 48) ≡ false → Reads (first_digit c) (part_after [] c) text kind → IsToken kind (c ∷ text)
    digit z h = on_if (IsToken kind (c ∷ text)) (is_digit c) Digits (first_prime c) (λ e h. digits_read c _ text kind z e h) (λ e h. prime h) h

    zero : Reads (first_zero c) (part_after [] c) text kind → IsToken kind (c ∷ text)
    zero h = on_if (IsToken kind (c ∷ text)) (c == 48) Zero (first_digit c) (λ e h. zero_read c _ text kind (eqb-true _ _ e) h) (λ e h. digit e h) h

    letter : Reads (first_state c) (part_after [] c) text kind → IsToken kind (c ∷ text)
    letter h = on_if (IsToken kind (c ∷ text)) (is_letter c) Name (first_zero c) (λ e h. name_read (c ∷ []) text kind (both_true _ _ e refl) (alone is_letter refl e h)) (λ e h. zero h) h
