-- What is made grows by what one more node makes.
use Rattle.std.proofs.Common.{◌≡◌, ℕ, zero, suc, ◌+◌, ◌<◌, ◌≤◌, List, [], ◌∷◌, Bool, true, false, ◌&&◌, drop, get_or, length, refl, sym, ap, ◌∙◌, arith}
use Rattle.std.proofs.Math.ListN.{drop_of_length-le}
use Rattle.std.proofs.lemmas.List.{drop-map}
use Rattle.std.specs.Prelude.{Some, map, slice_get}
use Rattle.sml_read.specs.declared.grammar.Node.{Node}
use Rattle.sml_read.specs.declared.grammar.Node.TheVariants.{Leaf, Inner}
use Rattle.sml_read.specs.Extents.{starts_of}
use Rattle.sml_phrases.specs.Phrases.{Phrase}
use Rattle.sml_reach.specs.declared.fitted.Fitted as P
use Rattle.sml_reach.specs.Fits.{fit_of, fitted_of}
use Rattle.sml_bare.specs.Derivations.{Source, phrases_from, phrases_of, is_low_at, are_low, first_fits}
use Rattle.sml_flaws.proofs.FirstFlaws.{at_some}

pub made_on : (s : Source) (all nodes : List Node) (ns starts : List ℕ) (node : Node) (n : ℕ) (new old : List Phrase) → all ≡ node ∷ nodes → ns ≡ n ∷ starts → new ≡ phrases_from s node n old → old ≡ phrases_of s nodes starts → new ≡ phrases_of s all ns
made_on s all nodes ns starts node n new old a b e h = e ∙ ap (phrases_from s node n) h ∙ sym (ap (λ xs. phrases_of s xs ns) a ∙ ap (phrases_of s (node ∷ nodes)) b)

both : (a b : Bool) → a ≡ true → b ≡ true → (a && b) ≡ true
both true true e f = refl
both true false e f = f
both false b e f = e

pub low_on : (s : Source) (all nodes : List Node) (ns starts : List ℕ) (node : Node) (n : ℕ) (old : List Phrase) → all ≡ node ∷ nodes → ns ≡ n ∷ starts → is_low_at s node n old ≡ true → old ≡ phrases_of s nodes starts → are_low s nodes starts ≡ true → are_low s all ns ≡ true
low_on s all nodes ns starts node n old a b e h l = ap (λ xs. are_low s xs ns) a ∙ ap (are_low s (node ∷ nodes)) b ∙ both _ _ (ap (is_low_at s node n) (sym h) ∙ e) l

first_false : (a b : Bool) → a ≡ false → (a && b) ≡ false
first_false false b e = refl
first_false true true e = e
first_false true false e = refl

last_false : (a b : Bool) → b ≡ false → (a && b) ≡ false
last_false true b e = e
last_false false b e = refl

none_left : (s : Source) (nodes : List Node) → are_low s nodes [] ≡ true
none_left s [] = refl
none_left s (node ∷ nodes) = refl

high_before : (s : Source) (i : ℕ) (nodes : List Node) (starts : List ℕ) → are_low s (drop i nodes) (drop i starts) ≡ false → are_low s nodes starts ≡ false
high_before s zero nodes starts e = e
high_before s (suc i) [] starts e = e
high_before s (suc i) (node ∷ nodes) [] e = sym (none_left s (drop i nodes)) ∙ e
high_before s (suc i) (node ∷ nodes) (n ∷ starts) e = last_false _ _ (high_before s i nodes starts e)

pub high_on : (s : Source) (whole : List Node) (starts : List ℕ) (i : ℕ) (nodes : List Node) (rest : List ℕ) (node : Node) (n : ℕ) (old : List Phrase) → drop i whole ≡ node ∷ nodes → drop i starts ≡ n ∷ rest → is_low_at s node n old ≡ false → old ≡ phrases_of s nodes rest → are_low s whole starts ≡ false
high_on s whole starts i nodes rest node n old a b e h =
    high_before s i whole starts (ap (λ xs. are_low s xs (drop i starts)) a ∙ ap (are_low s (node ∷ nodes)) b ∙ first_false _ _ (ap (is_low_at s node n) (sym h) ∙ e))

-- no phrase begins later than at the token with its own number
pub start_within : (n : ℕ) (nodes : List Node) (i d : ℕ) → i < length nodes → get_or (starts_of n nodes) i d ≤ n + i
start_within n [] i d h = omega (arith, h)
start_within n (Leaf ∷ nodes) zero d h = omega arith
start_within n (Inner rule ∷ nodes) zero d h = omega arith
start_within n (Leaf ∷ nodes) (suc i) d h =
    let f = start_within (suc n) nodes i d (omega (arith, h)) in
    omega (arith, f)
start_within n (Inner rule ∷ nodes) (suc i) d h =
    let f = start_within n nodes i d (omega (arith, h)) in
    omega (arith, f)

-- what the sequences of the declaration with this number stand for
pub fits_of_some : (fitted : List P.Fitted) (count : ℕ) (f : P.Fitted) → slice_get fitted count ≡ Some f → map fit_of f.fits.items ≡ first_fits (drop count (map fitted_of fitted))
fits_of_some fitted count f e = sym (ap first_fits (drop-map fitted_of count fitted ∙ ap (map fitted_of) (at_some fitted count f e)))

pub fits_of_none : (fitted : List P.Fitted) (count : ℕ) → length fitted ≤ count → [] ≡ first_fits (drop count (map fitted_of fitted))
fits_of_none fitted count l = sym (ap first_fits (drop-map fitted_of count fitted ∙ ap (map fitted_of) (drop_of_length-le fitted l)))
