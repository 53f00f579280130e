-- What is known grows by one.
use Rattle.std.proofs.Common.{◌≡◌, ℕ, zero, suc, ◌+◌, ◌-◌, ◌<◌, ◌≤◌, Bool, true, false, List, [], ◌∷◌, Option, get_or, drop, length, refl, sym, ap, ◌∙◌, arith}
use Rattle.std.specs.Bool.{if◌then◌else◌}
use Rattle.std.specs.Prelude.{slice_get}
use Rattle.std.proofs.lemmas.Option.{slice_get_past}
use Rattle.sml_fixity.specs.declared.sequences.Step.{Step}
use Rattle.sml_flaws.specs.declared.known.Position.{Position}
use Rattle.sml_flaws.specs.Known.{use_of, is_at, is_used_in}
use Rattle.sml_reach.proofs.Parting.{one_before}

slice_get_after : {A : Type 0} (i : ℕ) (xs : List A) (k : ℕ) → slice_get (drop i xs) k ≡ slice_get xs (i + k)
slice_get_after zero xs k =
    let e : 0 + k ≡ k = omega arith in
    ap (slice_get xs) (sym e)
slice_get_after (suc i) [] k = slice_get_past [] k (omega arith) ∙ sym (slice_get_past [] (suc i + k) (omega arith))
slice_get_after (suc i) (x ∷ xs) k =
    let e : suc i + k ≡ suc (i + k) = omega arith in
    slice_get_after i xs k ∙ ap (slice_get (x ∷ xs)) (sym e)

either_or : (a u o : Bool) → (if a then true else if u then true else o) ≡ (if (if a then true else u) then true else o)
either_or true u o = refl
either_or false u o = refl

pub uses_on : (sequence : ℕ) (steps : List Step) (i : ℕ) (q : Position) (new mid old : Bool) (d step : Step) (later : Option Step) (took : Option ℕ) → 0 < i → i ≤ length steps → get_or steps (i - 1) d ≡ step → later ≡ slice_get steps (i - 1 + 2) → took ≡ use_of step later → new ≡ (if is_at took sequence q then true else mid) → mid ≡ (if is_used_in sequence (drop i steps) q then true else old) → new ≡ (if is_used_in sequence (drop (i - 1) steps) q then true else old)
uses_on sequence steps i q new mid old d step later took some within s l u n m =
    let e : i - 1 + 2 ≡ i + 1 = omega (arith, some) in
    let g : later ≡ slice_get (drop i steps) 1 = l ∙ ap (slice_get steps) e ∙ sym (slice_get_after i steps 1) in
    n ∙ ap (λ b. if is_at took sequence q then true else b) m
    ∙ ap (λ x. if is_at x sequence q then true else if is_used_in sequence (drop i steps) q then true else old) (u ∙ ap (use_of step) g)
    ∙ either_or (is_at (use_of step (slice_get (drop i steps) 1)) sequence q) (is_used_in sequence (drop i steps) q) old
    ∙ ap (λ ss. if is_used_in sequence ss q then true else old) (sym (one_before steps i d step some within s))
