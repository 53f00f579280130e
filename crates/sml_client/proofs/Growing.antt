-- How texts grow, step by step.
use Rattle.std.proofs.Common.{◌≡◌, ◌++◌, inl, inr, ℕ, true, false, List, [], Result, Ok, Err, IfOk, MatchResult, Vec, refl, sym, ap, ◌∙◌, append_assoc, append-nil}
use mathlib.Core.Bool.{true≢false}
use Rattle.std.specs.declared.alloc.Global.{Global}
use Rattle.sml_client.specs.declared.written.Text.{Text}
use Rattle.sml_client.specs.Texts.{Adds}

pub adds_nothing : (t : Text) → Adds t t []
adds_nothing t = inl (sym (append-nil t.bytes.items), refl)

pub adds_more : (a b c : Text) (xs ys zs : List ℕ) → Adds a b xs → Adds b c ys → zs ≡ xs ++ ys → Adds a c zs
adds_more a b c xs ys zs h k e =
    elim k [
      | inl k ↦ elim h [
        | inl h ↦ inl (k.0 ∙ ap (λ l. l ++ ys) h.0 ∙ append_assoc a.bytes.items xs ys ∙ ap (λ l. a.bytes.items ++ l) (sym e), k.1 ∙ h.1)
        | inr lost ↦ inr (k.1 ∙ lost)
      ]
      | inr lost ↦ inr lost
    ]

-- what a text that was empty has in the end
pub finished : {E : Type 0} (a b : Text) (xs : List ℕ) (r : Result (Vec ℕ Global) E) → a.bytes.items ≡ [] → Adds a b xs
    → MatchResult r (λ v. (v ≡ b.bytes) × (b.is_lost ≡ false)) (λ _. b.is_lost ≡ true) → IfOk r (λ v. v.items ≡ xs)
finished a b xs (Ok v) e h k =
    elim h [
      | inl h ↦ ap (λ w. w.items) k.0 ∙ h.0 ∙ ap (λ l. l ++ xs) e
      | inr lost ↦ absurd (let f : true ≡ false = sym lost ∙ k.1 in true≢false f)
    ]
finished a b xs (Err x) e h k = tt
