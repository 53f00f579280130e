-- What is a token is one for the machine.
use Rattle.std.proofs.Common.{◌≡◌, ℕ, List, [], ◌∷◌, ◌++◌, Bool, true, false, Option, Some, None, is_some, unwrap_or, refl, sym, ap, ◌∙◌, subst, ◌⊎◌, inl, inr, append_assoc, append-nil}
use Rattle.std.specs.Prelude.{◌==◌, not, if◌then◌else◌, codes}
use Rattle.std.proofs.lemmas.Bool.{cond-true, cond-false, eqb-true}
use Rattle.std.specs.Cmp.Lexicographic.{same_text}
use Rattle.sml_lex.specs.declared.token.Kind.{Kind}
use Rattle.sml_lex.specs.declared.token.Kind.TheVariants.{Alphanumeric, Symbolic, Star, LongAlphanumeric, LongSymbolic, LongStar, TypeVariable, Numeral, ZeroNumeral, Integer, WordConstant, RealConstant, StringConstant, CharacterConstant}
use Rattle.sml_lex.specs.declared.machine.State.{State}
use Rattle.sml_lex.specs.declared.machine.State.TheVariants.{Fresh, Variable, Name, Dot, LongName, LongSign, Sign, Tilde, Zero, ZeroDigits, Digits, NegativeZero, NegativeDigits, HexMark, Hex, WordMark, WordDigits, WordHexMark, WordHex, Point, Fraction, ExponentMark, ExponentTilde, Exponent, Dead}
use Rattle.sml_lex.specs.Bytes.{is_digit, is_hex_digit, is_letter, is_name_byte, is_sign, starts_with}
use Rattle.sml_lex.specs.Words.{is_text, kind_among, reserved_words, word_kind, is_reserved}
use Rattle.sml_lex.specs.Bytes.{all_are, is_run}
use Rattle.sml_lex.specs.Tokens.{is_digits, is_hex_digits, is_alphanumeric, is_symbolic, is_star, qualifiers, AreQualifiers, IsLong, IsDecimal, IsFraction, IsExponent, IsReal, IsToken}
use Rattle.sml_lex.specs.CodeMachine.{Progress, fresh, first_state, step_state, part_after, name_byte_or, dot_or_dead, step, run, kind_at, kind_read, token_kind}
use Rattle.sml_lex.proofs.Beginnings.{run-append}
use Rattle.sml_lex.proofs.ByteClasses.{digit_no_letter, sign_no_letter, sign_no_digit}
use Rattle.sml_lex.proofs.MachineRuns.{at, none_is_some, false_is_true, first_true, second_true, apart, part_on_byte}
use Rattle.sml_lex.proofs.ReadNumbers.{not_exponent}

-- reserved words
AllTokens : List (List ℕ × Kind) → Type 0
AllTokens [] = Unit {0}
AllTokens (word ∷ words) = (token_kind word.0 ≡ Some word.1) × AllTokens words

token_found : (text : List ℕ) (words : List (List ℕ × Kind)) (kind : Kind) → AllTokens words → kind_among text words ≡ Some kind → token_kind text ≡ Some kind
unfolding AllTokens
token_found text [] kind a e = absurd (none_is_some kind e)
token_found text (word ∷ words) kind a e = go (is_text text word.0) refl (λ h. token_found text words kind a.1 h)
  where
    go : (b : Bool) → is_text text word.0 ≡ b → (kind_among text words ≡ Some kind → token_kind text ≡ Some kind) → token_kind text ≡ Some kind
    go true t rest = ap token_kind (same_text text word.0 (sym t)) ∙ a.0 ∙ sym (cond-true _ _ _ t) ∙ e
    go false t rest = rest (sym (cond-false _ _ _ t) ∙ e)

all_tokens : AllTokens reserved_words
unfolding AllTokens word_kind
all_tokens = (refl, (refl, (refl, (refl, (refl, (refl, (refl, (refl, (refl, (refl, (refl, (refl, (refl, (refl, (refl, (refl, (refl, (refl, (refl, (refl, (refl, (refl, (refl, (refl, (refl, (refl, (refl, (refl, (refl, (refl, (refl, (refl, (refl, (refl, (refl, (refl, (refl, (refl, (refl, (refl, (refl, (refl, (refl, (refl, (refl, (refl, (refl, (refl, (refl, (refl, (refl, (refl, (refl, (refl, (refl, (refl, (refl, (refl, tt))))))))))))))))))))))))))))))))))))))))))))))))))))))))))

word_reads : (text : List ℕ) (kind : Kind) → word_kind text ≡ Some kind → token_kind text ≡ Some kind
unfolding word_kind
word_reads text kind e = token_found text reserved_words kind all_tokens e

-- steps and runs of which the part matters
step_to : (s t : State) (part : List ℕ) (c : ℕ) → (c == 46) ≡ false → step_state s (is_reserved part) c ≡ t → step (at s part) c ≡ at t (part ++ c ∷ [])
step_to s t part c dot e = ap (λ t. at t (part_after part c)) e ∙ ap (at t) (part_on_byte part c dot)

run_all : (f : ℕ → Bool) (s : State) → f 46 ≡ false → ((b : Bool) (c : ℕ) → f c ≡ true → step_state s b c ≡ s) → (part text : List ℕ) → all_are f text ≡ true → run (at s part) text ≡ at s (part ++ text)
run_all f s dot stays part [] a = ap (at s) (sym (append-nil part))
run_all f s dot stays part (c ∷ text) a =
    ap (λ r. run r text) (step_to s s part c (apart f 46 dot c (first_true _ _ a)) (stays (is_reserved part) c (first_true _ _ a)))
    ∙ run_all f s dot stays (part ++ c ∷ []) text (second_true _ _ a)
    ∙ ap (at s) (append_assoc part (c ∷ []) text)

-- the same from a first byte on
run_first : (f g : ℕ → Bool) (s t : State) → f 46 ≡ false → g 46 ≡ false → (c : ℕ) (text : List ℕ) → step_state s (is_reserved []) c ≡ t → ((b : Bool) (c : ℕ) → g c ≡ true → step_state t b c ≡ t) → f c ≡ true → all_are g text ≡ true → run (at s []) (c ∷ text) ≡ at t (c ∷ text)
run_first f g s t dot dots c text e stays h a = ap (λ r. run r text) (step_to s t [] c (apart f 46 dot c h) e) ∙ run_all g t dots stays (c ∷ []) text a

head_is : (f g : ℕ → Bool) (c : ℕ) (text : List ℕ) → is_run f g (c ∷ text) ≡ true → f c ≡ true
head_is f g c text a = first_true (f c) (all_are g text) a

tail_is : (f g : ℕ → Bool) (c : ℕ) (text : List ℕ) → is_run f g (c ∷ text) ≡ true → all_are g text ≡ true
tail_is f g c text a = second_true (f c) (all_are g text) a

not_some : (o : Option Kind) → is_some o ≡ false → o ≡ None
not_some None e = refl
not_some (Some k) e = absurd (false_is_true (sym e))

name_runs : (text : List ℕ) → is_alphanumeric text ≡ true → run fresh text ≡ at Name text
name_runs [] a = absurd (false_is_true a)
name_runs (c ∷ text) a = run_first is_letter is_name_byte Fresh Name refl refl c text (cond-true _ _ _ (head_is is_letter is_name_byte c text a)) (λ b c e. cond-true _ _ _ e) (head_is is_letter is_name_byte c text a) (tail_is is_letter is_name_byte c text a)

long_name_runs : (text : List ℕ) → is_alphanumeric text ≡ true → run (at Dot []) text ≡ at LongName text
long_name_runs [] a = absurd (false_is_true a)
long_name_runs (c ∷ text) a = run_first is_letter is_name_byte Dot LongName refl refl c text (cond-true _ _ _ (head_is is_letter is_name_byte c text a)) (λ b c e. cond-true _ _ _ e) (head_is is_letter is_name_byte c text a) (tail_is is_letter is_name_byte c text a)

long_signs_run : (text : List ℕ) → is_symbolic text ≡ true → run (at Dot []) text ≡ at LongSign text
long_signs_run [] a = absurd (false_is_true a)
long_signs_run (c ∷ text) a = run_first is_sign is_sign Dot LongSign refl refl c text (cond-false _ _ _ (sign_no_letter c (head_is is_sign is_sign c text a)) ∙ cond-true _ _ _ (head_is is_sign is_sign c text a)) (λ b c e. cond-true _ _ _ e) (head_is is_sign is_sign c text a) (tail_is is_sign is_sign c text a)

-- an alphanumeric part that isn't reserved, and its dot
dot_after : (s : State) (part : List ℕ) → ((b : Bool) (c : ℕ) → step_state s b c ≡ name_byte_or s (if b then Dead else dot_or_dead Dot c) c) → is_reserved part ≡ false → run (at s part) (46 ∷ []) ≡ at Dot []
dot_after s part steps free = ap (λ t. at t []) (steps (is_reserved part) 46 ∙ cond-false _ _ _ free)

qualifiers_run : (parts : List (List ℕ)) → AreQualifiers parts → run (at Dot []) (qualifiers parts) ≡ at Dot []
qualifiers_run [] q = refl
qualifiers_run (part ∷ parts) q =
    run-append (at Dot []) (part ++ 46 ∷ []) (qualifiers parts)
    ∙ ap (λ r. run r (qualifiers parts)) (run-append (at Dot []) part (46 ∷ []) ∙ ap (λ r. run r (46 ∷ [])) (long_name_runs part q.0) ∙ dot_after LongName part (λ b c. refl) q.1)
    ∙ qualifiers_run parts q.2

first_runs : (first : List ℕ) → is_alphanumeric first ≡ true → is_reserved first ≡ false → run fresh (first ++ 46 ∷ []) ≡ at Dot []
first_runs first a free = run-append fresh first (46 ∷ []) ∙ ap (λ r. run r (46 ∷ [])) (name_runs first a) ∙ dot_after Name first (λ b c. refl) free

long_runs : (s : State) (is_last : List ℕ → Bool) (text : List ℕ) → (l : IsLong is_last text) → run (at Dot []) l.last ≡ at s l.last → run fresh text ≡ at s l.last
long_runs s is_last text l e =
    ap (run fresh) l.spelled
    ∙ run-append fresh (qualifiers (l.first ∷ l.others)) l.last
    ∙ ap (λ r. run r l.last) (run-append fresh (l.first ++ 46 ∷ []) (qualifiers l.others) ∙ ap (λ r. run r (qualifiers l.others)) (first_runs l.first l.parts.0 l.parts.1) ∙ qualifiers_run l.others l.parts.2)
    ∙ e

-- signs
data SignsRun (text : List ℕ) : Type 0 where
  LoneTilde : text ≡ 126 ∷ [] → SignsRun text
  Signs : run fresh text ≡ at Sign text → SignsRun text

sign_first : (c : ℕ) → is_sign c ≡ true → (c == 126) ≡ false → first_state c ≡ Sign
sign_first c s t = cond-false _ _ _ (sign_no_letter c s) ∙ cond-false _ _ _ (apart is_sign 48 refl c s) ∙ cond-false _ _ _ (sign_no_digit c s) ∙ cond-false _ _ _ (apart is_sign 39 refl c s) ∙ cond-false _ _ _ t ∙ cond-true _ _ _ s

signs_run : (text : List ℕ) → is_symbolic text ≡ true → SignsRun text
signs_run [] a = absurd (false_is_true a)
signs_run (c ∷ text) a = go (c == 126) refl
  where
    tilde : (text : List ℕ) → all_are is_sign text ≡ true → SignsRun (126 ∷ text)
    tilde [] a = LoneTilde refl
    tilde (d ∷ text) a =
        let s = first_true _ _ a in
        let first : step (at Tilde (126 ∷ [])) d ≡ at Sign (126 ∷ d ∷ []) = step_to Tilde Sign (126 ∷ []) d (apart is_sign 46 refl d s) (cond-false _ _ _ (apart is_sign 48 refl d s) ∙ cond-false _ _ _ (sign_no_digit d s) ∙ cond-true _ _ _ s) in
        Signs (ap (λ r. run r text) first ∙ run_all is_sign Sign refl (λ b c e. cond-true _ _ _ e) (126 ∷ d ∷ []) text (second_true _ _ a))

    go : (b : Bool) → (c == 126) ≡ b → SignsRun (c ∷ text)
    go true e = subst (λ c. SignsRun (c ∷ text)) (sym (eqb-true _ _ e)) (tilde text (second_true _ _ a))
    go false e = Signs (run_first is_sign is_sign Fresh Sign refl refl c text (sign_first c (first_true _ _ a) e) (λ b c e. cond-true _ _ _ e) (first_true _ _ a) (second_true _ _ a))

-- states alone, where the part doesn't matter
state_step : (r : Progress) (s t : State) (c : ℕ) → r.state ≡ s → ((b : Bool) → step_state s b c ≡ t) → (step r c).state ≡ t
state_step r s t c e h = ap (λ s. step_state s (is_reserved r.part) c) e ∙ h (is_reserved r.part)

state_all : (f : ℕ → Bool) (s : State) → ((b : Bool) (c : ℕ) → f c ≡ true → step_state s b c ≡ s) → (r : Progress) (text : List ℕ) → r.state ≡ s → all_are f text ≡ true → (run r text).state ≡ s
state_all f s stays r [] e a = e
state_all f s stays r (c ∷ text) e a = state_all f s stays (step r c) text (state_step r s s c e (λ b. stays b c (first_true _ _ a))) (second_true _ _ a)

-- one byte of a class that leads there, and then bytes that stay
state_run : (f : ℕ → Bool) (s t : State) → ((b : Bool) (c : ℕ) → f c ≡ true → step_state s b c ≡ t) → ((b : Bool) (c : ℕ) → f c ≡ true → step_state t b c ≡ t) → (r : Progress) (c : ℕ) (text : List ℕ) → r.state ≡ s → f c ≡ true → all_are f text ≡ true → (run r (c ∷ text)).state ≡ t
state_run f s t leads stays r c text e h a = state_all f t stays (step r c) text (state_step r s t c e (λ b. leads b c h)) a

state_kind : (r : Progress) (s : State) (k : Option Kind) → ((w : Option Kind) (b : Bool) → kind_at s w b ≡ k) → r.state ≡ s → kind_read r ≡ k
state_kind r s k own e = ap (λ s. kind_at s (word_kind r.part) (is_text r.part (codes "*"))) e ∙ own (word_kind r.part) (is_text r.part (codes "*"))

-- what ends a decimal integer that a real may go on from
abbrev IsWhole : State → Type 0
IsWhole s = (b : Bool) → (step_state s b 46 ≡ Point) × (step_state s b 69 ≡ ExponentMark) × (step_state s b 101 ≡ ExponentMark)

-- the state after digits: first0 is the one after a first 0, digits0 that after more, other that after others
zero_digits : (r : Progress) (text : List ℕ) → r.state ≡ Zero → all_are is_digit text ≡ true → ((run r text).state ≡ Zero) ⊎ ((run r text).state ≡ ZeroDigits)
zero_digits r [] e a = inl e
zero_digits r (c ∷ text) e a = inr (state_run is_digit Zero ZeroDigits (λ b c d. cond-false _ _ _ (apart is_digit 120 refl c d) ∙ cond-false _ _ _ (apart is_digit 119 refl c d) ∙ cond-true _ _ _ d) (λ b c d. cond-true _ _ _ d) r c text e (first_true _ _ a) (second_true _ _ a))

negative_zero_digits : (r : Progress) (text : List ℕ) → r.state ≡ NegativeZero → all_are is_digit text ≡ true → ((run r text).state ≡ NegativeZero) ⊎ ((run r text).state ≡ NegativeDigits)
negative_zero_digits r [] e a = inl e
negative_zero_digits r (c ∷ text) e a = inr (state_run is_digit NegativeZero NegativeDigits (λ b c d. cond-false _ _ _ (apart is_digit 120 refl c d) ∙ cond-true _ _ _ d) (λ b c d. cond-true _ _ _ d) r c text e (first_true _ _ a) (second_true _ _ a))

digit_first : (c : ℕ) → is_digit c ≡ true → (c == 48) ≡ false → first_state c ≡ Digits
digit_first c d z = cond-false _ _ _ (digit_no_letter c d) ∙ cond-false _ _ _ z ∙ cond-true _ _ _ d

zero_first : (c : ℕ) → (c == 48) ≡ true → first_state c ≡ Zero
zero_first c z = ap first_state (eqb-true _ _ z)

data NumberRun (text : List ℕ) : Type 0 where
  OfZero : starts_with 48 text ≡ true → (run fresh text).state ≡ Zero → NumberRun text
  OfZeroDigits : starts_with 48 text ≡ true → (run fresh text).state ≡ ZeroDigits → NumberRun text
  OfDigits : starts_with 48 text ≡ false → (run fresh text).state ≡ Digits → NumberRun text

number_runs : (text : List ℕ) → is_digits text ≡ true → NumberRun text
number_runs [] a = absurd (false_is_true a)
number_runs (c ∷ text) a = go (c == 48) refl
  where
    go : (b : Bool) → (c == 48) ≡ b → NumberRun (c ∷ text)
    go true e = elim (zero_digits (step fresh c) text (zero_first c e) (second_true _ _ a)) [ inl z ↦ OfZero e z | inr z ↦ OfZeroDigits e z ]
    go false e = OfDigits e (state_all is_digit Digits (λ b c d. cond-true _ _ _ d) (step fresh c) text (digit_first c (first_true _ _ a) e) (second_true _ _ a))

negative_runs : (digits : List ℕ) → is_digits digits ≡ true → ((run fresh (126 ∷ digits)).state ≡ NegativeZero) ⊎ ((run fresh (126 ∷ digits)).state ≡ NegativeDigits)
negative_runs [] a = absurd (false_is_true a)
negative_runs (c ∷ text) a = go (c == 48) refl
  where
    go : (b : Bool) → (c == 48) ≡ b → ((run fresh (126 ∷ c ∷ text)).state ≡ NegativeZero) ⊎ ((run fresh (126 ∷ c ∷ text)).state ≡ NegativeDigits)
    go true e = negative_zero_digits (step (at Tilde (126 ∷ [])) c) text (cond-true _ _ _ e) (tail_is is_digit is_digit c text a)
    go false e = inr (state_all is_digit NegativeDigits (λ b c d. cond-true _ _ _ d) (step (at Tilde (126 ∷ [])) c) text (cond-false _ _ _ e ∙ cond-true _ _ _ (head_is is_digit is_digit c text a)) (tail_is is_digit is_digit c text a))

whole_runs : (whole : List ℕ) → IsDecimal whole → (s : State) × ((run fresh whole).state ≡ s) × IsWhole s
whole_runs whole (digits, a, inl e) = subst (λ w. (s : State) × ((run fresh w).state ≡ s) × IsWhole s) (sym e) (go (number_runs digits a))
  where
    go : NumberRun digits → (s : State) × ((run fresh digits).state ≡ s) × IsWhole s
    go (OfZero z h) = (Zero, h, λ b. (refl, refl, refl))
    go (OfZeroDigits z h) = (ZeroDigits, h, λ b. (refl, refl, refl))
    go (OfDigits z h) = (Digits, h, λ b. (refl, refl, refl))
whole_runs whole (digits, a, inr e) = subst (λ w. (s : State) × ((run fresh w).state ≡ s) × IsWhole s) (sym e) (go (negative_runs digits a))
  where
    go : ((run fresh (126 ∷ digits)).state ≡ NegativeZero) ⊎ ((run fresh (126 ∷ digits)).state ≡ NegativeDigits) → (s : State) × ((run fresh (126 ∷ digits)).state ≡ s) × IsWhole s
    go (inl h) = (NegativeZero, h, λ b. (refl, refl, refl))
    go (inr h) = (NegativeDigits, h, λ b. (refl, refl, refl))

fraction_runs : (r : Progress) (s : State) (fraction : List ℕ) → r.state ≡ s → IsWhole s → IsFraction fraction → (run r fraction).state ≡ Fraction
fraction_runs r s fraction e w (digits, f, a) = ap (λ t. (run r t).state) f ∙ go digits a
  where
    go : (digits : List ℕ) → is_digits digits ≡ true → (run r (46 ∷ digits)).state ≡ Fraction
    go [] a = absurd (false_is_true a)
    go (c ∷ text) a = state_run is_digit Point Fraction (λ b c d. cond-true _ _ _ d) (λ b c d. cond-false _ _ _ (not_exponent c d) ∙ cond-true _ _ _ d) (step r 46) c text (state_step r s Point 46 e (λ b. (w b).0)) (first_true _ _ a) (second_true _ _ a)

exponent_digits : (r : Progress) (digits : List ℕ) → is_digits digits ≡ true → r.state ≡ ExponentMark → (run r digits).state ≡ Exponent
exponent_digits r [] a e = absurd (false_is_true a)
exponent_digits r (c ∷ text) a e = state_run is_digit ExponentMark Exponent (λ b c d. cond-false _ _ _ (apart is_digit 126 refl c d) ∙ cond-true _ _ _ d) (λ b c d. cond-true _ _ _ d) r c text e (first_true _ _ a) (second_true _ _ a)

exponent_runs : (r : Progress) (s : State) (exponent : List ℕ) → r.state ≡ s → ((b : Bool) → (step_state s b 69 ≡ ExponentMark) × (step_state s b 101 ≡ ExponentMark)) → IsExponent exponent → (run r exponent).state ≡ Exponent
exponent_runs r s exponent e marks (whole, d, x) = elim x [
  | inl x ↦ ap (λ t. (run r t).state) x ∙ whole_of (step r 69) whole d (state_step r s ExponentMark 69 e (λ b. (marks b).0))
  | inr x ↦ ap (λ t. (run r t).state) x ∙ whole_of (step r 101) whole d (state_step r s ExponentMark 101 e (λ b. (marks b).1))
]
  where
    tilde_digits : (r : Progress) (digits : List ℕ) → is_digits digits ≡ true → r.state ≡ ExponentMark → (run r (126 ∷ digits)).state ≡ Exponent
    tilde_digits r [] a e = absurd (false_is_true a)
    tilde_digits r (c ∷ text) a e = state_run is_digit ExponentTilde Exponent (λ b c d. cond-true _ _ _ d) (λ b c d. cond-true _ _ _ d) (step r 126) c text (state_step r ExponentMark ExponentTilde 126 e (λ b. refl)) (first_true _ _ a) (second_true _ _ a)

    whole_of : (r : Progress) (whole : List ℕ) → IsDecimal whole → r.state ≡ ExponentMark → (run r whole).state ≡ Exponent
    whole_of r whole (digits, a, inl e) h = ap (λ t. (run r t).state) e ∙ exponent_digits r digits a h
    whole_of r whole (digits, a, inr e) h = ap (λ t. (run r t).state) e ∙ tilde_digits r digits a h

real_runs : (text : List ℕ) → IsReal text → ((run fresh text).state ≡ Fraction) ⊎ ((run fresh text).state ≡ Exponent)
real_runs text x = subst (λ r. (r.state ≡ Fraction) ⊎ (r.state ≡ Exponent)) (sym path) (by_parts x.parts)
  where
    whole : Progress
    whole = run fresh x.whole

    path : run fresh text ≡ run (run (run fresh x.whole) x.fraction) x.exponent
    path = ap (run fresh) x.spelled ∙ run-append fresh x.whole (x.fraction ++ x.exponent) ∙ run-append (run fresh x.whole) x.fraction x.exponent

    w : (s : State) × ((run fresh x.whole).state ≡ s) × IsWhole s
    w = whole_runs x.whole x.integer

    by_parts : (IsFraction x.fraction × (x.exponent ≡ [])) ⊎ ((x.fraction ≡ []) × IsExponent x.exponent) ⊎ (IsFraction x.fraction × IsExponent x.exponent) → ((run (run (run fresh x.whole) x.fraction) x.exponent).state ≡ Fraction) ⊎ ((run (run (run fresh x.whole) x.fraction) x.exponent).state ≡ Exponent)
    by_parts (inl (f, e)) = inl (ap (λ t. (run (run (run fresh x.whole) x.fraction) t).state) e ∙ fraction_runs (run fresh x.whole) w.0 x.fraction w.1 w.2 f)
    by_parts (inr (inl (f, e))) = inr (ap (λ t. (run (run (run fresh x.whole) t) x.exponent).state) f ∙ exponent_runs (run fresh x.whole) w.0 x.exponent w.1 (λ b. ((w.2 b).1, (w.2 b).2)) e)
    by_parts (inr (inr (f, e))) = inr (exponent_runs (run (run fresh x.whole) x.fraction) Fraction x.exponent (fraction_runs (run fresh x.whole) w.0 x.fraction w.1 w.2 f) (λ b. (refl, refl)) e)

hex_runs : (r : Progress) (digits : List ℕ) → r.state ≡ HexMark → is_hex_digits digits ≡ true → (run r digits).state ≡ Hex
hex_runs r [] e a = absurd (false_is_true a)
hex_runs r (c ∷ text) e a = state_run is_hex_digit HexMark Hex (λ b c d. cond-true _ _ _ d) (λ b c d. cond-true _ _ _ d) r c text e (first_true _ _ a) (second_true _ _ a)

word_hex_runs : (r : Progress) (digits : List ℕ) → r.state ≡ WordHexMark → is_hex_digits digits ≡ true → (run r digits).state ≡ WordHex
word_hex_runs r [] e a = absurd (false_is_true a)
word_hex_runs r (c ∷ text) e a = state_run is_hex_digit WordHexMark WordHex (λ b c d. cond-true _ _ _ d) (λ b c d. cond-true _ _ _ d) r c text e (first_true _ _ a) (second_true _ _ a)

word_digits_run : (r : Progress) (digits : List ℕ) → r.state ≡ WordMark → is_digits digits ≡ true → (run r digits).state ≡ WordDigits
word_digits_run r [] e a = absurd (false_is_true a)
word_digits_run r (c ∷ text) e a = state_run is_digit WordMark WordDigits (λ b c d. cond-false _ _ _ (apart is_digit 120 refl c d) ∙ cond-true _ _ _ d) (λ b c d. cond-true _ _ _ d) r c text e (first_true _ _ a) (second_true _ _ a)

variable_runs : (text : List ℕ) → IsToken TypeVariable text → (run fresh text).state ≡ Variable
variable_runs [] a = absurd (false_is_true a)
variable_runs (c ∷ text) a = state_all is_name_byte Variable (λ b c d. cond-true _ _ _ d) (step fresh c) text (ap first_state (eqb-true _ _ (head_is (λ c. c == 39) is_name_byte c text a))) (tail_is (λ c. c == 39) is_name_byte c text a)

star_reads : token_kind (codes "*") ≡ Some Star
unfolding word_kind
star_reads = refl

-- strings and characters, which the machine doesn't read
abbrev pub is_quoted : Kind → Bool
is_quoted StringConstant = true
is_quoted CharacterConstant = true
is_quoted _ = false

-- what is a token is one for the machine
pub token_reads : (kind : Kind) (text : List ℕ) → is_quoted kind ≡ false → IsToken kind text → token_kind text ≡ Some kind
token_reads Alphanumeric text q t = ap kind_read (name_runs text t.0) ∙ ap (λ w. Some (unwrap_or w Alphanumeric)) (not_some (word_kind text) t.1)
token_reads Symbolic text q t = go (signs_run text t.0)
  where
    go : SignsRun text → token_kind text ≡ Some Symbolic
    go (LoneTilde e) = ap token_kind e
    go (Signs e) = ap kind_read e ∙ ap (λ w. Some (unwrap_or w (if is_star text then Star else Symbolic))) (not_some (word_kind text) t.2) ∙ ap Some (cond-false _ _ _ t.1)
token_reads Star text q t = ap token_kind t ∙ star_reads
token_reads LongAlphanumeric text q t = ap kind_read (long_runs LongName is_alphanumeric text t (long_name_runs t.last t.identifier)) ∙ cond-false _ _ _ t.free
token_reads LongSymbolic text q t = ap kind_read (long_runs LongSign _ text t (long_signs_run t.last (first_true _ _ t.identifier))) ∙ cond-false _ _ _ t.free ∙ ap Some (cond-false _ _ _ (other (is_star t.last) (second_true _ _ t.identifier)))
  where
    other : (b : Bool) → not b ≡ true → b ≡ false
    other true e = absurd (false_is_true e)
    other false e = refl
token_reads LongStar text q t = ap kind_read (long_runs LongSign is_star text t (long_signs_run t.last (ap is_symbolic (same_text t.last (codes "*") (sym t.identifier))))) ∙ cond-false _ _ _ t.free ∙ ap Some (cond-true _ _ _ t.identifier)
token_reads TypeVariable text q t = state_kind (run fresh text) Variable (Some TypeVariable) (λ w b. refl) (variable_runs text t)
token_reads Numeral text q t = go (number_runs text t.0)
  where
    go : NumberRun text → token_kind text ≡ Some Numeral
    go (OfZero z h) = absurd (false_is_true (sym t.1 ∙ z))
    go (OfZeroDigits z h) = absurd (false_is_true (sym t.1 ∙ z))
    go (OfDigits z h) = state_kind (run fresh text) Digits (Some Numeral) (λ w b. refl) h
token_reads ZeroNumeral text q t = go (number_runs text t.0)
  where
    go : NumberRun text → token_kind text ≡ Some ZeroNumeral
    go (OfZero z h) = state_kind (run fresh text) Zero (Some ZeroNumeral) (λ w b. refl) h
    go (OfZeroDigits z h) = state_kind (run fresh text) ZeroDigits (Some ZeroNumeral) (λ w b. refl) h
    go (OfDigits z h) = absurd (false_is_true (sym z ∙ t.1))
token_reads Integer text q (inl (digits, e, a)) = ap token_kind e ∙ go (negative_runs digits a)
  where
    go : ((run fresh (126 ∷ digits)).state ≡ NegativeZero) ⊎ ((run fresh (126 ∷ digits)).state ≡ NegativeDigits) → token_kind (126 ∷ digits) ≡ Some Integer
    go (inl h) = state_kind (run fresh (126 ∷ digits)) NegativeZero (Some Integer) (λ w b. refl) h
    go (inr h) = state_kind (run fresh (126 ∷ digits)) NegativeDigits (Some Integer) (λ w b. refl) h
token_reads Integer text q (inr (inl (digits, e, a))) = ap token_kind e ∙ state_kind (run fresh (48 ∷ 120 ∷ digits)) Hex (Some Integer) (λ w b. refl) (hex_runs (run fresh (48 ∷ 120 ∷ [])) digits refl a)
token_reads Integer text q (inr (inr (digits, e, a))) = ap token_kind e ∙ state_kind (run fresh (126 ∷ 48 ∷ 120 ∷ digits)) Hex (Some Integer) (λ w b. refl) (hex_runs (run fresh (126 ∷ 48 ∷ 120 ∷ [])) digits refl a)
token_reads WordConstant text q (inl (digits, e, a)) = ap token_kind e ∙ state_kind (run fresh (48 ∷ 119 ∷ digits)) WordDigits (Some WordConstant) (λ w b. refl) (word_digits_run (run fresh (48 ∷ 119 ∷ [])) digits refl a)
token_reads WordConstant text q (inr (digits, e, a)) = ap token_kind e ∙ state_kind (run fresh (48 ∷ 119 ∷ 120 ∷ digits)) WordHex (Some WordConstant) (λ w b. refl) (word_hex_runs (run fresh (48 ∷ 119 ∷ 120 ∷ [])) digits refl a)
token_reads RealConstant text q t = elim (real_runs text t) [
  | inl h ↦ state_kind (run fresh text) Fraction (Some RealConstant) (λ w b. refl) h
  | inr h ↦ state_kind (run fresh text) Exponent (Some RealConstant) (λ w b. refl) h
]
token_reads StringConstant text q t = absurd (false_is_true (sym q))
token_reads CharacterConstant text q t = absurd (false_is_true (sym q))
token_reads kind text q t = word_reads text kind t
