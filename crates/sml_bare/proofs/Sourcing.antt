-- What is known of a declaration's places and sequences.
use Rattle.std.proofs.Common.{◌≡◌, ℕ, zero, suc, ◌+◌, List, [], ◌∷◌, ◌++◌, Bool, true, false, Option, Some, None, map, length, refl, sym, ap, ◌∙◌, arith, inl, inr}
use Rattle.std.specs.Prelude.{slice_get, ◌⊎◌, ◌==◌}
use Rattle.std.specs.Bool.{if◌then◌else◌}
use Rattle.std.specs.Option.{option_map}
use Rattle.std.proofs.lemmas.Option.{slice_get-map}
use Rattle.sml_lex.specs.declared.fault.Place.{Place}
use Rattle.sml_lex.specs.declared.token.Token.{Token}
use Rattle.sml_fixity.specs.Shapes.{shape_of}
use Rattle.sml_derived.proofs.Hiding.{at_end}
use Rattle.sml_reach.specs.declared.fitted.Fit as P
use Rattle.sml_reach.specs.Fits.{Fit, fit_of}
use Rattle.sml_bare.specs.Derivations.{place_at, shape_from}
use Rattle.sml_bare.specs.CodeSources.{ArePlaced, fit_from}
use Rattle.sml_reach.proofs.Somes.{none_some}
use Rattle.sml_reach.proofs.Somes.{some_same}

pub placed_on : (unit : List ℕ) (tokens : List Token) (places : List Place) (p : Place) (n : ℕ) → length places ≡ n → p ≡ place_at unit tokens n → ArePlaced unit tokens places → ArePlaced unit tokens (places ++ p ∷ [])
placed_on unit tokens places p n l e h k q g = by_end (at_end places p k q g)
  where
    by_end : (slice_get places k ≡ Some q) ⊎ ((k ≡ length places) × (p ≡ q)) → q ≡ place_at unit tokens k
    by_end (inl f) = h k q f
    by_end (inr f) = sym f.1 ∙ e ∙ ap (place_at unit tokens) (sym (f.0 ∙ l))

pub none_placed : (unit : List ℕ) (tokens : List Token) → ArePlaced unit tokens []
none_placed unit tokens zero q e = absurd (none_some e)
none_placed unit tokens (suc n) q e = absurd (none_some e)

-- the first sequence that begins at a token, and what it stands for
pub none_from : (i : ℕ) (fits : List Fit) (token : ℕ) → fit_from i fits token ≡ None → shape_from fits token ≡ None
none_from i [] token e = refl
none_from i (fit ∷ fits) token e = by_test (none_from (suc i) fits token) (fit.token == token) e
  where
    by_test : (fit_from (suc i) fits token ≡ None → shape_from fits token ≡ None) → (b : Bool) → (if b then Some i else fit_from (suc i) fits token) ≡ None → (if b then Some fit.shape else shape_from fits token) ≡ None
    by_test more true f = absurd (none_some (sym f))
    by_test more false f = more f

pub some_from : (i : ℕ) (fits : List Fit) (token k : ℕ) → fit_from i fits token ≡ Some k → (j : ℕ) × (k ≡ i + j) × (shape_from fits token ≡ option_map (λ (f : Fit). f.shape) (slice_get fits j))
some_from i [] token k e = absurd (none_some e)
some_from i (fit ∷ fits) token k e = by_test (some_from (suc i) fits token k) (fit.token == token) e
  where
    by_test : (fit_from (suc i) fits token ≡ Some k → (j : ℕ) × (k ≡ suc i + j) × (shape_from fits token ≡ option_map (λ (f : Fit). f.shape) (slice_get fits j))) → (b : Bool) → (if b then Some i else fit_from (suc i) fits token) ≡ Some k → (j : ℕ) × (k ≡ i + j) × ((if b then Some fit.shape else shape_from fits token) ≡ option_map (λ (f : Fit). f.shape) (slice_get (fit ∷ fits) j))
    by_test more true f =
        let z : i + 0 ≡ i = omega arith in
        (0, sym (some_same f) ∙ sym z, refl)
    by_test more false f =
        let r = more f in
        let z : suc i + r.0 ≡ i + suc r.0 = omega arith in
        (suc r.0, r.1 ∙ z, r.2)

pub shape_of_index : (fits : List P.Fit) (token k : ℕ) → fit_from 0 (map fit_of fits) token ≡ Some k → shape_from (map fit_of fits) token ≡ option_map (λ (f : P.Fit). shape_of f.shape) (slice_get fits k)
shape_of_index fits token k e =
    let r = some_from 0 (map fit_of fits) token k e in
    let z : 0 + r.0 ≡ r.0 = omega arith in
    r.2 ∙ ap (option_map (λ (f : Fit). f.shape)) (ap (slice_get (map fit_of fits)) (sym (r.1 ∙ z)) ∙ slice_get-map fit_of fits k) ∙ mapped (slice_get fits k)
  where
    mapped : (o : Option P.Fit) → option_map (λ (f : Fit). f.shape) (option_map fit_of o) ≡ option_map (λ (f : P.Fit). shape_of f.shape) o
    mapped None = refl
    mapped (Some f) = refl
