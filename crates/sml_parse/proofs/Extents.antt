-- The tokens of an extent, counted from its first.
use Rattle.std.proofs.Common.{◌≡◌, ℕ, zero, suc, ◌<◌, ◌≤◌, List, [], ◌∷◌, Bool, true, false, Some, length, not, refl, ap, arith}
use Rattle.std.specs.Prelude.{slice_get}
use Rattle.std.proofs.lemmas.Bool.{false≢true}
use Rattle.sml_lex.specs.declared.fault.Place.{Place}
use Rattle.sml_lex.specs.declared.token.Token.{Token}
use Rattle.sml_lex.specs.Pieces.{AreInOrder}
use Rattle.sml_reach.specs.Places.{place_from, start_of}
use Rattle.sml_parse.specs.Within.{Extent, IsOfToken}
use Rattle.sml_reach.proofs.Somes.{some_same, none_some}

-- tokens in order

reaches : (unit : List ℕ) (place : ℕ) (tokens : List Token) → AreInOrder unit place tokens → place ≤ length unit
reaches unit place [] o = o
reaches unit place (t ∷ ts) o =
    let r = reaches unit t.span.«end» ts o.4 in
    let a = o.0 in
    let b = o.1 in
    omega (arith, r, a, b)

-- a token of the unit stands after its front, and within it
within : (unit : List ℕ) (place : ℕ) (tokens : List Token) (i : ℕ) (token : Token) → AreInOrder unit place tokens → slice_get tokens i ≡ Some token
    → (place ≤ token.span.start) × (token.span.start < length unit)
within unit place [] i token o e = absurd (none_some e)
within unit place (t ∷ ts) zero token o e =
    let s = ap (λ (t : Token). t.span.start) (some_same e) in
    let r = reaches unit t.span.«end» ts o.4 in
    let a = o.0 in
    let b = o.1 in
    (omega (arith, s, a), omega (arith, s, r, b))
within unit place (t ∷ ts) (suc i) token o e =
    let w = within unit t.span.«end» ts i token o.4 e in
    let a = o.0 in
    let b = o.1 in
    let c = w.0 in
    (omega (arith, a, b, c), w.1)

-- and not before an earlier one
not_before : (unit : List ℕ) (place : ℕ) (tokens : List Token) (i j : ℕ) (token : Token) → AreInOrder unit place tokens → i ≤ j → slice_get tokens j ≡ Some token
    → start_of tokens i 0 ≤ token.span.start
not_before unit place [] i j token o l e = absurd (none_some e)
not_before unit place (t ∷ ts) zero zero token o l e = let s = ap (λ (t : Token). t.span.start) (some_same e) in omega (arith, s)
not_before unit place (t ∷ ts) zero (suc j) token o l e =
    let w = within unit t.span.«end» ts j token o.4 e in
    let b = o.1 in
    let c = w.0 in
    omega (arith, b, c)
not_before unit place (t ∷ ts) (suc i) zero token o l e = absurd (omega (arith, l))
not_before unit place (t ∷ ts) (suc i) (suc j) token o l e = not_before unit t.span.«end» ts i j token o.4 (omega (arith, l)) e

-- a token of an extent, counted from its first
pub of_token : (unit : List ℕ) (tokens : List Token) (extent : Extent) (index : ℕ) (token : Token) (place : Place) → AreInOrder unit 0 tokens
    → slice_get tokens index ≡ Some token → extent.first ≤ index → index < extent.after → place ≡ place_from unit (start_of tokens extent.first 0) token.span.start → IsOfToken unit tokens extent place
of_token unit tokens extent index token place o e f b p = record {
  index = index;
  token = token;
  stands = e;
  after_first = f;
  before_end = b;
  ahead = not_before unit 0 tokens extent.first index token o f e;
  within = (within unit 0 tokens index token o e).1;
  counted = p;
}

-- truth values that agree

abbrev pub agree : Bool → Bool → Bool
agree true b = b
agree false b = not b

pub agreed : (a b : Bool) → agree a b ≡ true → a ≡ b
agreed true true h = refl
agreed true false h = absurd (false≢true h)
agreed false true h = absurd (false≢true h)
agreed false false h = refl
