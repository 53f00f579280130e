-- What the machine makes of a text, from a state on.
use Rattle.std.proofs.Common.{◌≡◌, ℕ, List, [], ◌∷◌, ◌++◌, Bool, true, false, Some, None, unwrap_or, refl, sym, ap, ◌∙◌, subst, ◌⊎◌, inl, inr, append_assoc, append-nil}
use Rattle.std.specs.Prelude.{◌==◌, ◌&&◌, if◌then◌else◌, codes}
use Rattle.std.proofs.lemmas.Bool.{cond-true, cond-false, eqb-true}
use Rattle.sml_lex.specs.declared.token.Kind.{Kind}
use Rattle.sml_lex.specs.declared.machine.State.{State}
use Rattle.sml_lex.specs.declared.machine.State.TheVariants.{Dead}
use Rattle.sml_lex.specs.Words.{is_text, word_kind, is_reserved}
use Rattle.sml_lex.specs.Bytes.{all_are}
use Rattle.sml_lex.specs.CodeMachine.{Progress, step_state, part_after, run, kind_at, kind_read}

abbrev pub at : State → List ℕ → Progress
at s part = record {
  state = s;
  part = part;
}

-- from this state on, with this part so far, the text completes a token of that kind
pub record Reads (s : State) (part text : List ℕ) (kind : Kind) : Type 0 where
  pub read : kind_read (run (at s part) text) ≡ Some kind

pub next : {s : State} {part : List ℕ} {c : ℕ} {text : List ℕ} {kind : Kind} → Reads s part (c ∷ text) kind → Reads (step_state s (is_reserved part) c) (part_after part c) text kind
next h = record { read = h.read }

pub done : {s : State} {part : List ℕ} {kind : Kind} → Reads s part [] kind → kind_at s (word_kind part) (is_text part (codes "*")) ≡ Some kind
done h = h.read

pub none_is_some : (kind : Kind) → None ≡ Some kind → ⊥
none_is_some kind h = cc

pub false_is_true : false ≡ true → ⊥
false_is_true h = cc

pub some_same : (k l : Kind) → Some k ≡ Some l → k ≡ l
some_same k l e = ap (λ o. unwrap_or o k) e

pub dead : (part text : List ℕ) (kind : Kind) → Reads Dead part text kind → ⊥
dead part [] kind h = none_is_some kind (done h)
dead part (c ∷ text) kind h = dead (part_after part c) text kind (next h)

-- by the test on which the state depends
pub on_if : {part text : List ℕ} {kind : Kind} (R : Type 0) (t : Bool) (s u : State) → (t ≡ true → Reads s part text kind → R) → (t ≡ false → Reads u part text kind → R) → Reads (if t then s else u) part text kind → R
on_if {part} {text} {kind} R t s u on_true on_false h = go t refl h
  where
    go : (b : Bool) → t ≡ b → Reads (if b then s else u) part text kind → R
    go true e h = on_true e h
    go false e h = on_false e h

-- tests
pub both_true : (a b : Bool) → a ≡ true → b ≡ true → (a && b) ≡ true
both_true true b e f = f
both_true false b e f = absurd (false_is_true e)

pub first_true : (a b : Bool) → (a && b) ≡ true → a ≡ true
first_true true b e = refl
first_true false b e = e

pub second_true : (a b : Bool) → (a && b) ≡ true → b ≡ true
second_true true b e = e
second_true false b e = absurd (false_is_true e)

pub and_false : (a b : Bool) → b ≡ false → (a && b) ≡ false
and_false true b e = e
and_false false b e = refl

-- a byte that passes a test is none that doesn't
pub apart : (f : ℕ → Bool) (x : ℕ) → f x ≡ false → (c : ℕ) → f c ≡ true → (c == x) ≡ false
apart f x n c h = go (c == x) refl
  where
    go : (b : Bool) → (c == x) ≡ b → (c == x) ≡ false
    go true e = absurd (false_is_true (sym n ∙ ap f (sym (eqb-true _ _ e)) ∙ h))
    go false e = e

pub part_on_byte : (part : List ℕ) (c : ℕ) → (c == 46) ≡ false → part_after part c ≡ part ++ c ∷ []
part_on_byte part c e = cond-false _ _ _ e

-- the bytes read in one state, and what follows them
pub record Loops (f : ℕ → Bool) (s : State) (part text : List ℕ) (kind : Kind) : Type 0 where
  pub front : List ℕ
  pub all : all_are f front ≡ true
  pub ending : ((text ≡ front) × Reads s (part ++ front) [] kind) ⊎ ((c : ℕ) × (rest : List ℕ) × (text ≡ front ++ c ∷ rest) × (f c ≡ false) × Reads (step_state s (is_reserved (part ++ front)) c) (part_after (part ++ front) c) rest kind)

pub loops : (f : ℕ → Bool) (s : State) → f 46 ≡ false → ((b : Bool) (c : ℕ) → f c ≡ true → step_state s b c ≡ s) → (part text : List ℕ) (kind : Kind) → Reads s part text kind → Loops f s part text kind
loops f s dot stays part [] kind h = record {
  front = [];
  all = refl;
  ending = inl (refl, subst (λ p. Reads s p [] kind) (sym (append-nil part)) h);
}
loops f s dot stays part (c ∷ text) kind h = go (f c) refl (λ h. loops f s dot stays (part ++ c ∷ []) text kind h)
  where
    go : (b : Bool) → f c ≡ b → (Reads s (part ++ c ∷ []) text kind → Loops f s (part ++ c ∷ []) text kind) → Loops f s part (c ∷ text) kind
    go true e rest =
        let h1 : Reads s (part_after part c) text kind = subst (λ t. Reads t (part_after part c) text kind) (stays (is_reserved part) c e) (next h) in
        let l = rest (subst (λ p. Reads s p text kind) (part_on_byte part c (apart f 46 dot c e)) h1) in
        let joined : (part ++ c ∷ []) ++ l.front ≡ part ++ (c ∷ l.front) = append_assoc part (c ∷ []) l.front in record {
          front = c ∷ l.front;
          all = both_true _ _ e l.all;
          ending = elim l.ending [ inl w ↦ inl (ap (λ t. c ∷ t) w.0, subst (λ p. Reads s p [] kind) joined w.1) | inr w ↦ inr (w.0, w.1, ap (λ t. c ∷ t) w.2, w.3, subst (λ p. Reads (step_state s (is_reserved p) w.0) (part_after p w.0) w.1 kind) joined w.4) ];
        }
    go false e rest = record {
      front = [];
      all = refl;
      ending = inr (c, text, refl, e, subst (λ p. Reads (step_state s (is_reserved p) c) (part_after p c) text kind) (sym (append-nil part)) (next h));
    }

-- a state that nothing else leaves
pub only : (f : ℕ → Bool) (s : State) → f 46 ≡ false → ((b : Bool) (c : ℕ) → step_state s b c ≡ (if f c then s else Dead)) → (part text : List ℕ) (kind : Kind) → Reads s part text kind → (all_are f text ≡ true) × Reads s (part ++ text) [] kind
only f s dot steps part text kind h = go (loops f s dot (λ b c e. steps b c ∙ cond-true _ _ _ e) part text kind h)
  where
    go : Loops f s part text kind → (all_are f text ≡ true) × Reads s (part ++ text) [] kind
    go l = elim l.ending [
      | inl w ↦ (subst (λ t. all_are f t ≡ true) (sym w.0) l.all, subst (λ t. Reads s (part ++ t) [] kind) (sym w.0) w.1)
      | inr w ↦ absurd (dead _ w.1 kind (subst (λ t. Reads t (part_after (part ++ l.front) w.0) w.1 kind) (steps (is_reserved (part ++ l.front)) w.0 ∙ cond-false _ _ _ w.3) w.4))
    ]
