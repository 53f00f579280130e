-- Lists of expressions from which one is put together, from the last to the first.
use Rattle.std.proofs.Common.{◌≡◌, ◌≤◌, List, [], ◌∷◌, ◌++◌, map, reverse, ap, sym, ◌∙◌, refl, Err, arith}
use Rattle.std.proofs.lemmas.List.{reverse-append}
use Rattle.sml_lex.specs.declared.fault.Place.{Place}
use Rattle.sml_tree.specs.Expressions.{Exp}
use Rattle.sml_tree.specs.ExpressionViews.{exps_of}
use Rattle.sml_tree.specs.Heights.{exp_height}
use Rattle.sml_derived.specs.Derived.{nil_of, cons_of, sequence_of, unit}
use Rattle.sml_bare_exps.specs.ExpressionRules.{list_of, series_of}
use Rattle.sml_bare_exps.specs.ExpressionViews.{GivesExp}
use Rattle.sml_phrases.specs.declared.phrase.Failure.{Failure}
use Rattle.sml_bare_exps.proofs.ExpressionHeights.{fails}

-- an expression, with others put before it one after the other
abbrev pub onto : (Exp Place → Exp Place → Exp Place) → Exp Place → List (Exp Place) → Exp Place
onto g e [] = e
onto g e (x ∷ xs) = onto g (g x e) xs

abbrev pub Grows : (Exp Place → Exp Place → Exp Place) → Type 0
Grows g = (x e : Exp Place) → exp_height e ≤ exp_height (g x e)

pub cons_grows : (p : Place) → Grows (cons_of p)
cons_grows p x e = omega arith

pub sequence_grows : (p : Place) → Grows (sequence_of p)
sequence_grows p x e = omega arith

onto_grows : (g : Exp Place → Exp Place → Exp Place) → Grows g → (e : Exp Place) (xs : List (Exp Place)) → exp_height e ≤ exp_height (onto g e xs)
onto_grows g grows e [] = omega arith
onto_grows g grows e (x ∷ xs) = let h = onto_grows g grows (g x e) xs in let k = grows x e in omega (arith, h, k)

pub onto_fails : (g : Exp Place → Exp Place → Exp Place) → Grows g → (whole e : Exp Place) (xs : List (Exp Place)) (failure : Failure) → whole ≡ onto g e xs → GivesExp e (Err failure) → GivesExp whole (Err failure)
onto_fails g grows whole e xs failure made =
    fails e whole failure (let h = onto_grows g grows e xs in let k : exp_height whole ≡ exp_height (onto g e xs) = ap exp_height made in omega (arith, h, k))

onto-push : (g : Exp Place → Exp Place → Exp Place) (e x : Exp Place) (xs : List (Exp Place)) → onto g e (xs ++ x ∷ []) ≡ g x (onto g e xs)
onto-push g e x [] = refl
onto-push g e x (y ∷ xs) = onto-push g (g y e) x xs

map-push : {A B : Type 0} (f : A → B) (xs : List A) (x : A) → map f (xs ++ x ∷ []) ≡ map f xs ++ f x ∷ []
map-push f [] x = refl
map-push f (y ∷ ys) x = ap (λ z. f y ∷ z) (map-push f ys x)

reverse-cons : {A : Type 0} (x : A) (xs : List A) → reverse (x ∷ xs) ≡ reverse xs ++ x ∷ []
reverse-cons x xs = reverse-append (x ∷ []) xs

reverse-map : {A B : Type 0} (f : A → B) (xs : List A) → map f (reverse xs) ≡ reverse (map f xs)
reverse-map f [] = refl
reverse-map f (x ∷ xs) = ap (map f) (reverse-cons x xs) ∙ map-push f (reverse xs) x ∙ ap (λ ys. ys ++ f x ∷ []) (reverse-map f xs) ∙ sym (reverse-cons (f x) (map f xs))

list_is : (p : Place) (es : List (Exp Place)) → list_of p (exps_of es) ≡ onto (cons_of p) (nil_of p) (reverse es)
list_is p [] = refl
list_is p (e ∷ es) = ap (cons_of p e) (list_is p es) ∙ sym (onto-push (cons_of p) (nil_of p) e (reverse es)) ∙ ap (onto (cons_of p) (nil_of p)) (sym (reverse-cons e es))

pub list_begins : {A : Type 0} (f : A → Exp Place) (p : Place) (ys : List A) (e : Exp Place) → e ≡ nil_of p → list_of p (exps_of (map f ys)) ≡ onto (cons_of p) e (map f (reverse ys))
list_begins f p ys e made =
    list_is p (map f ys) ∙ ap (onto (cons_of p) (nil_of p)) (sym (reverse-map f ys)) ∙ ap (λ d. onto (cons_of p) d (map f (reverse ys))) (sym made)

-- a series from the last expression on
abbrev from_last : Place → List (Exp Place) → Exp Place
from_last p [] = unit p
from_last p (e ∷ es) = onto (sequence_of p) e es

from_last-push : (p : Place) (x y : Exp Place) (zs : List (Exp Place)) → from_last p ((zs ++ y ∷ []) ++ x ∷ []) ≡ sequence_of p x (from_last p (zs ++ y ∷ []))
from_last-push p x y [] = refl
from_last-push p x y (z ∷ zs) = onto-push (sequence_of p) z x (zs ++ y ∷ [])

series_is : (p : Place) (es : List (Exp Place)) → series_of p (exps_of es) ≡ from_last p (reverse es)
series_is p [] = refl
series_is p (e ∷ []) = refl
series_is p (x ∷ y ∷ ys) =
    ap (sequence_of p x) (series_is p (y ∷ ys) ∙ ap (from_last p) (reverse-cons y ys))
    ∙ sym (from_last-push p x y (reverse ys))
    ∙ ap (from_last p) (sym (reverse-cons x (y ∷ ys) ∙ ap (λ zs. zs ++ x ∷ []) (reverse-cons y ys)))

pub series_begins : {A : Type 0} (f : A → Exp Place) (p : Place) (ys zs : List A) (y : A) → reverse ys ≡ y ∷ zs → series_of p (exps_of (map f ys)) ≡ onto (sequence_of p) (f y) (map f zs)
series_begins f p ys zs y turned = series_is p (map f ys) ∙ ap (from_last p) (sym (reverse-map f ys) ∙ ap (map f) turned)
