-- What the machine takes for a number is one.
use Rattle.std.proofs.Common.{◌≡◌, ℕ, List, [], ◌∷◌, ◌++◌, Bool, true, false, Some, refl, sym, ap, ◌∙◌, subst, ◌⊎◌, inl, inr, append-nil}
use Rattle.std.specs.Prelude.{◌==◌, ◌||◌, if◌then◌else◌}
use Rattle.std.proofs.lemmas.Bool.{cond-true, cond-false, eqb-true}
use Rattle.sml_lex.specs.declared.token.Kind.{Kind}
use Rattle.sml_lex.specs.declared.token.Kind.TheVariants.{RealConstant}
use Rattle.sml_lex.specs.declared.machine.State.{State}
use Rattle.sml_lex.specs.declared.machine.State.TheVariants.{Point, Fraction, ExponentMark, ExponentTilde, Exponent, Dead}
use Rattle.sml_lex.specs.Bytes.{is_digit}
use Rattle.sml_lex.specs.Words.{is_reserved}
use Rattle.sml_lex.specs.Bytes.{all_are}
use Rattle.sml_lex.specs.Tokens.{is_digits, IsDecimal, IsFraction, IsExponent, IsToken}
use Rattle.sml_lex.specs.CodeMachine.{step_state, part_after, real_state, fraction_state, digit_or}
use Rattle.sml_lex.proofs.MachineRuns.{Reads, next, done, none_is_some, false_is_true, some_same, dead, on_if, both_true, apart, Loops, loops, only}

pub of_kind : (text : List ℕ) (k kind : Kind) → Some k ≡ Some kind → IsToken k text → IsToken kind text
of_kind text k kind e t = subst (λ k. IsToken k text) (some_same k kind e) t

-- reals
exponent_digits : (part : List ℕ) (c : ℕ) (text : List ℕ) (kind : Kind) → is_digit c ≡ true → Reads Exponent part text kind → (is_digits (c ∷ text) ≡ true) × (Some RealConstant ≡ Some kind)
exponent_digits part c text kind d h =
    let o = only is_digit Exponent refl (λ b c. refl) part text kind h in
    (both_true _ _ d o.0, done o.1)

exponent_read : (part text : List ℕ) (kind : Kind) → Reads ExponentMark part text kind → IsDecimal text × (Some RealConstant ≡ Some kind)
exponent_read part [] kind h = absurd (none_is_some kind (done h))
exponent_read part (c ∷ text) kind h =
    on_if (IsDecimal (c ∷ text) × (Some RealConstant ≡ Some kind)) (c == 126) ExponentTilde (digit_or Exponent Dead c) (λ e h. after_tilde text e h) (
    λ e h.
    on_if (IsDecimal (c ∷ text) × (Some RealConstant ≡ Some kind)) (is_digit c) Exponent Dead (
    λ d h. let w = exponent_digits _ c text kind d h in ((c ∷ text, w.0, inl refl), w.1)
    ) (λ d h. absurd (dead _ text kind h)) h
    ) (next h)
  where
    after_tilde : (text : List ℕ) → (c == 126) ≡ true → Reads ExponentTilde (part_after part c) text kind → IsDecimal (c ∷ text) × (Some RealConstant ≡ Some kind)
    after_tilde [] e h = absurd (none_is_some kind (done h))
    after_tilde (d ∷ text) e h =
        on_if (IsDecimal (c ∷ d ∷ text) × (Some RealConstant ≡ Some kind)) (is_digit d) Exponent Dead (
        λ n h. let w = exponent_digits _ d text kind n h in ((d ∷ text, w.0, inr (ap (λ x. x ∷ d ∷ text) (eqb-true _ _ e))), w.1)
        ) (λ n h. absurd (dead _ text kind h)) (next h)

exponent_is : (c : ℕ) (text : List ℕ) → ((c == 69) || (c == 101)) ≡ true → IsDecimal text → IsExponent (c ∷ text)
exponent_is c text e d = (text, d, go (c == 69) refl e)
  where
    go : (b : Bool) → (c == 69) ≡ b → (b || (c == 101)) ≡ true → (c ∷ text ≡ 69 ∷ text) ⊎ (c ∷ text ≡ 101 ∷ text)
    go true t e = inl (ap (λ x. x ∷ text) (eqb-true _ _ t))
    go false t e = inr (ap (λ x. x ∷ text) (eqb-true _ _ e))

pub not_exponent : (c : ℕ) → is_digit c ≡ true → ((c == 69) || (c == 101)) ≡ false
not_exponent c d = go (c == 69) (apart is_digit 69 refl c d) (apart is_digit 101 refl c d)
  where
    go : (b : Bool) → b ≡ false → (c == 101) ≡ false → (b || (c == 101)) ≡ false
    go true e f = absurd (false_is_true (sym e))
    go false e f = f

record FractionRead (text : List ℕ) (kind : Kind) : Type 0 where
  digits : List ℕ
  exponent : List ℕ
  joined : text ≡ digits ++ exponent
  all : is_digits digits ≡ true
  tail : (exponent ≡ []) ⊎ IsExponent exponent
  real : Some RealConstant ≡ Some kind

fraction_read : (part text : List ℕ) (kind : Kind) → Reads Point part text kind → FractionRead text kind
fraction_read part [] kind h = absurd (none_is_some kind (done h))
fraction_read part (c ∷ text) kind h = on_if (FractionRead (c ∷ text) kind) (is_digit c) Fraction Dead (λ d h. looped d (loops is_digit Fraction refl (λ b c d. cond-false _ _ _ (not_exponent c d) ∙ cond-true _ _ _ d) _ text kind h)) (λ d h. absurd (dead _ text kind h)) (next h)
  where
    after : {part : List ℕ} (l : List ℕ) (x : ℕ) (rest : List ℕ) → is_digits (c ∷ l) ≡ true → text ≡ l ++ x ∷ rest → is_digit x ≡ false → Reads (fraction_state x) part rest kind → FractionRead (c ∷ text) kind
    after {part} l x rest all e n h =
        on_if (FractionRead (c ∷ text) kind) ((x == 69) || (x == 101)) ExponentMark (digit_or Fraction Dead x) (
        λ m h. let w = exponent_read part rest kind h in record {
          digits = c ∷ l;
          exponent = x ∷ rest;
          joined = ap (λ t. c ∷ t) e;
          all = all;
          tail = inr (exponent_is x rest m w.0);
          real = w.1;
        }
        ) (λ m h. absurd (dead _ rest kind (subst (λ s. Reads s part rest kind) (cond-false _ _ _ n) h))) h

    looped : {part : List ℕ} → is_digit c ≡ true → Loops is_digit Fraction part text kind → FractionRead (c ∷ text) kind
    looped d l = elim l.ending [
      | inl w ↦ record {
        digits = c ∷ l.front;
        exponent = [];
        joined = ap (λ t. c ∷ t) (w.0 ∙ sym (append-nil l.front));
        all = both_true _ _ d l.all;
        tail = inl refl;
        real = done w.1;
      }
      | inr w ↦ after l.front w.0 w.1 (both_true _ _ d l.all) w.2 w.3 w.4
    ]

-- what may follow the whole part of a real
pub record RealTail (text : List ℕ) (kind : Kind) : Type 0 where
  pub fraction : List ℕ
  pub exponent : List ℕ
  pub joined : text ≡ fraction ++ exponent
  pub parts : (IsFraction fraction × (exponent ≡ [])) ⊎ ((fraction ≡ []) × IsExponent exponent) ⊎ (IsFraction fraction × IsExponent exponent)
  pub real : Some RealConstant ≡ Some kind

pub real_tail : (part : List ℕ) (c : ℕ) (text : List ℕ) (kind : Kind) → Reads (real_state c) part text kind → RealTail (c ∷ text) kind
real_tail part c text kind h =
    on_if (RealTail (c ∷ text) kind) (c == 46) Point (if (c == 69) || (c == 101) then ExponentMark else Dead) (λ e h. pointed e (fraction_read part text kind h)) (
    λ e h.
    on_if (RealTail (c ∷ text) kind) ((c == 69) || (c == 101)) ExponentMark Dead (
    λ m h. let w = exponent_read part text kind h in record {
      fraction = [];
      exponent = c ∷ text;
      joined = refl;
      parts = inr (inl (refl, exponent_is c text m w.0));
      real = w.1;
    }
    ) (λ m h. absurd (dead part text kind h)) h
    ) h
  where
    pointed : (c == 46) ≡ true → FractionRead text kind → RealTail (c ∷ text) kind
    pointed e f =
        let is : IsFraction (46 ∷ f.digits) = (f.digits, refl, f.all) in record {
          fraction = 46 ∷ f.digits;
          exponent = f.exponent;
          joined = ap (λ x. x ∷ text) (eqb-true _ _ e) ∙ ap (λ t. 46 ∷ t) f.joined;
          parts = elim f.tail [ inl n ↦ inl (is, n) | inr x ↦ inr (inr (is, x)) ];
          real = f.real;
        }

-- digits, and then nothing or the rest of a real
pub record NumberRead (k : Kind) (text : List ℕ) (kind : Kind) : Type 0 where
  pub digits : List ℕ
  pub tail : List ℕ
  pub joined : text ≡ digits ++ tail
  pub all : all_are is_digit digits ≡ true
  pub ending : ((tail ≡ []) × (Some k ≡ Some kind)) ⊎ RealTail tail kind

pub number_read : (s : State) (k : Kind) → ((b : Bool) (c : ℕ) → step_state s b c ≡ digit_or s (real_state c) c) → ((part : List ℕ) → Reads s part [] k) → (part text : List ℕ) (kind : Kind) → Reads s part text kind → NumberRead k text kind
number_read s k steps own part text kind h = looped (loops is_digit s refl (λ b c d. steps b c ∙ cond-true _ _ _ d) part text kind h)
  where
    looped : Loops is_digit s part text kind → NumberRead k text kind
    looped l = elim l.ending [
      | inl w ↦ record {
        digits = l.front;
        tail = [];
        joined = w.0 ∙ sym (append-nil l.front);
        all = l.all;
        ending = inl (refl, sym (done (own (part ++ l.front))) ∙ done w.1);
      }
      | inr w ↦ record {
        digits = l.front;
        tail = w.0 ∷ w.1;
        joined = w.2;
        all = l.all;
        ending = inr (real_tail _ w.0 w.1 kind (subst (λ s. Reads s (part_after (part ++ l.front) w.0) w.1 kind) (steps (is_reserved (part ++ l.front)) w.0 ∙ cond-false _ _ _ w.3) w.4));
      }
    ]

pub with_digit : {k kind : Kind} (c : ℕ) (text : List ℕ) → is_digit c ≡ true → NumberRead k text kind → NumberRead k (c ∷ text) kind
with_digit c text d n = record {
  digits = c ∷ n.digits;
  tail = n.tail;
  joined = ap (λ t. c ∷ t) n.joined;
  all = both_true _ _ d n.all;
  ending = n.ending;
}

-- a real, of which the whole part is known
pub real_is : (whole tail text : List ℕ) (kind : Kind) → text ≡ whole ++ tail → IsDecimal whole → RealTail tail kind → IsToken kind text
real_is whole tail text kind e d r = of_kind text RealConstant kind r.real (
    record {
      whole = whole;
      fraction = r.fraction;
      exponent = r.exponent;
      spelled = e ∙ ap (λ t. whole ++ t) r.joined;
      integer = d;
      parts = r.parts;
    }
    )
