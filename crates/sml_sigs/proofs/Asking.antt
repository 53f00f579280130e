-- What lists of specifications ask, one after the other.
use Rattle.std.proofs.Common.{◌≡◌, ℕ, ◌+◌, ◌<◌, ◌≤◌, List, [], ◌∷◌, ◌++◌, map, take, length, get_or, max, refl, sym, ap, ◌∙◌, arith}
use Rattle.std.proofs.lemmas.List.{take_more}
use Rattle.sml_lex.specs.declared.fault.Place.{Place}
use Rattle.sml_tree.specs.declared.signatures.StrDesc.{StrDesc, out-StrDesc, fold_out-StrDesc}
use Rattle.sml_tree.specs.Signatures as S
use Rattle.sml_tree.specs.SignatureViews.{sig_of, sig_layer, spec_layer, spec_of, specs_of, str_desc_layer, str_desc_of, str_descs_of}
use Rattle.sml_tree.proofs.Lists.{map_more}
use Rattle.sml_sigs.specs.Asked.{how_much, sig_asks, spec_asks, specs_ask, str_desc_asks, str_descs_ask}
use Rattle.sml_sigs.specs.declared.asked.Asked.{Asked}
use Rattle.sml_sigs.specs.declared.asked.Asked.TheVariants.{Nothing, Equality, Names}

-- What a loop over a list keeps: `most` is what is asked the most so far, and `n` is what is asked at `i`.
abbrev pub Asks_on : {A B : Type 0} → (A → B) → (B → ℕ) → (List B → ℕ) → Type 0
Asks_on {A = A} f asks ask = (xs : List A) (i : ℕ) (x : A) (n most new : ℕ) → i < length xs → x ≡ get_or xs i x → n ≡ asks (f x) → most ≡ ask (map f (take i xs)) → new ≡ max most n → new ≡ ask (map f (take (i + 1) xs))

most-on : {A B : Type 0} (f : A → B) (asks : B → ℕ) (ask : List B → ℕ) → ((ys : List B) (y : B) → ask (ys ++ y ∷ []) ≡ max (asks y) (ask ys)) → Asks_on f asks ask
most-on f asks ask push xs i x n most new within e g m h =
    let step : ask (map f (take (i + 1) xs)) ≡ max (asks (f x)) (ask (map f (take i xs))) =
    ap (λ ys. ask (map f ys)) (take_more xs i x within ∙ ap (λ y. take i xs ++ y ∷ []) (sym e))
    ∙ ap ask (map_more f (take i xs) x) ∙ push (map f (take i xs)) (f x) in
    omega (arith, step, g, m, h)

specs-push : (ys : List (S.Spec Place)) (y : S.Spec Place) → specs_ask (specs_of (ys ++ y ∷ [])) ≡ max (spec_asks y) (specs_ask (specs_of ys))
specs-push [] y = refl
specs-push (z ∷ ys) y = let h = specs-push ys y in omega (arith, h)

pub specs-on : Asks_on spec_of spec_asks (λ ys. specs_ask (specs_of ys))
specs-on = most-on spec_of spec_asks (λ ys. specs_ask (specs_of ys)) (λ ys y. specs-push ys y)

str_descs-push : (ys : List (S.StrDesc Place)) (y : S.StrDesc Place) → str_descs_ask (str_descs_of (ys ++ y ∷ [])) ≡ max (str_desc_asks y) (str_descs_ask (str_descs_of ys))
str_descs-push [] y = refl
str_descs-push (z ∷ ys) y = let h = str_descs-push ys y in omega (arith, h)

pub str_descs-on : Asks_on str_desc_of str_desc_asks (λ ys. str_descs_ask (str_descs_of ys))
str_descs-on = most-on str_desc_of str_desc_asks (λ ys. str_descs_ask (str_descs_of ys)) (λ ys y. str_descs-push ys y)

pub desc-asks : (x : StrDesc) → str_desc_asks (str_desc_of x) ≡ sig_asks (sig_of (out-StrDesc x).signature)
desc-asks x = ap str_desc_asks (fold_out-StrDesc (S.SigExp Place) (S.Spec Place) (S.StrDesc Place) sig_layer spec_layer str_desc_layer x)

-- nothing asks for more than names
pub at_most_names : (a : Asked) → how_much a ≤ 2
at_most_names Nothing = omega arith
at_most_names Equality = omega arith
at_most_names Names = omega arith
