-- Lists, and heights of lists, one element after another.
use Rattle.std.proofs.Common.{◌≡◌, ℕ, zero, suc, ◌+◌, ◌<◌, List, [], ◌∷◌, ◌++◌, map, take, drop, length, get_or, max, refl, sym, ap, ◌∙◌, arith}
use Rattle.std.proofs.Math.Seq.{drop-cons}
use Rattle.std.proofs.lemmas.List.{take_more}
use Rattle.sml_lex.specs.declared.fault.Place.{Place}
use Rattle.sml_tree.specs.declared.bare.Exp.{Exp}
use Rattle.sml_tree.specs.declared.bare.Ty.{Ty}
use Rattle.sml_tree.specs.declared.bare.Spec.{Spec}
use Rattle.sml_tree.specs.declared.bare.CoreDec.{CoreDec}
use Rattle.sml_tree.specs.Trees as T
use Rattle.sml_tree.specs.Views.{brackets, exp_of, exps_of, ty_of, tys_of, spec_of, core_dec_of}
use Rattle.sml_tree.specs.Height.{exp_height, exps_height, ty_height, tys_height, spec_height, specs_height, core_height, decs_height, counted}

pub opened : {A : Type 0} (xs : List A) (i : ℕ) (x : A) → i < length xs → x ≡ get_or xs i x → drop i xs ≡ x ∷ drop (i + 1) xs
opened xs i x within e =
    drop-cons xs i x within ∙ ap (λ y. y ∷ drop (suc i) xs) (sym e) ∙ ap (λ j. x ∷ drop j xs) (let a : suc i ≡ i + 1 = omega arith in a)

pub map_more : {A B : Type 0} (f : A → B) (xs : List A) (x : A) → map f (xs ++ x ∷ []) ≡ map f xs ++ f x ∷ []
map_more f [] x = refl
map_more f (y ∷ ys) x = ap (λ z. f y ∷ z) (map_more f ys x)

-- each pair of brackets is one higher
pub brackets_height : (n : ℕ) (e : T.Exp Place) → exp_height (brackets n e) ≡ exp_height e + n
brackets_height zero e = omega arith
brackets_height (suc n) e = let h = brackets_height n e in omega (arith, h)

exps_height-push : (es : List (T.Exp Place)) (e : T.Exp Place) → exps_height (exps_of (es ++ e ∷ [])) ≡ max (exp_height e) (exps_height (exps_of es))
exps_height-push [] e = refl
exps_height-push (d ∷ es) e = let h = exps_height-push es e in omega (arith, h)

tys_height-push : (ts : List (T.Ty Place)) (t : T.Ty Place) → tys_height (tys_of (ts ++ t ∷ [])) ≡ max (ty_height t) (tys_height (tys_of ts))
tys_height-push [] t = refl
tys_height-push (u ∷ ts) t = let h = tys_height-push ts t in omega (arith, h)

specs_height-push : (ss : List (T.Spec Place)) (s : T.Spec Place) → specs_height (ss ++ s ∷ []) ≡ max (spec_height s) (specs_height ss)
specs_height-push [] s = refl
specs_height-push (r ∷ ss) s = let h = specs_height-push ss s in omega (arith, h)

decs_height-push : (ds : List (T.CoreDec Place)) (d : T.CoreDec Place) → decs_height (ds ++ d ∷ []) ≡ max (core_height d) (decs_height ds)
decs_height-push [] d = refl
decs_height-push (c ∷ ds) d = let h = decs_height-push ds d in omega (arith, h)

-- a running maximum, one element on
pub higher : {A B : Type 0} (f : A → B) (height : B → ℕ) (heights : List B → ℕ) → ((ys : List B) (y : B) → heights (ys ++ y ∷ []) ≡ max (height y) (heights ys)) → (xs : List A) (i : ℕ) (x : A) (h most new : ℕ) → i < length xs → x ≡ get_or xs i x → h ≡ counted (height (f x)) → most ≡ counted (heights (map f (take i xs))) → new ≡ max h most → new ≡ counted (heights (map f (take (i + 1) xs)))
higher f height heights push xs i x h most new within e g m n =
    let step : heights (map f (take (i + 1) xs)) ≡ max (height (f x)) (heights (map f (take i xs))) =
    ap (λ ys. heights (map f ys)) (take_more xs i x within ∙ ap (λ y. take i xs ++ y ∷ []) (sym e))
    ∙ ap heights (map_more f (take i xs) x) ∙ push (map f (take i xs)) (f x) in
    omega (arith, step, g, m, n)

pub exps_on : (xs : List Exp) (i : ℕ) (x : Exp) (h most new : ℕ) → i < length xs → x ≡ get_or xs i x → h ≡ counted (exp_height (exp_of x)) → most ≡ counted (exps_height (exps_of (map exp_of (take i xs)))) → new ≡ max h most → new ≡ counted (exps_height (exps_of (map exp_of (take (i + 1) xs))))
exps_on = higher exp_of exp_height (λ ys. exps_height (exps_of ys)) (λ ys y. exps_height-push ys y)

pub tys_on : (xs : List Ty) (i : ℕ) (x : Ty) (h most new : ℕ) → i < length xs → x ≡ get_or xs i x → h ≡ counted (ty_height (ty_of x)) → most ≡ counted (tys_height (tys_of (map ty_of (take i xs)))) → new ≡ max h most → new ≡ counted (tys_height (tys_of (map ty_of (take (i + 1) xs))))
tys_on = higher ty_of ty_height (λ ys. tys_height (tys_of ys)) (λ ys y. tys_height-push ys y)

pub specs_on : (xs : List Spec) (i : ℕ) (x : Spec) (h most new : ℕ) → i < length xs → x ≡ get_or xs i x → h ≡ counted (spec_height (spec_of x)) → most ≡ counted (specs_height (map spec_of (take i xs))) → new ≡ max h most → new ≡ counted (specs_height (map spec_of (take (i + 1) xs)))
specs_on = higher spec_of spec_height (λ ys. specs_height ys) specs_height-push

pub cores_on : (xs : List CoreDec) (i : ℕ) (x : CoreDec) (h most new : ℕ) → i < length xs → x ≡ get_or xs i x → h ≡ counted (core_height (core_dec_of x)) → most ≡ counted (decs_height (map core_dec_of (take i xs))) → new ≡ max h most → new ≡ counted (decs_height (map core_dec_of (take (i + 1) xs)))
cores_on = higher core_dec_of core_height (λ ys. decs_height ys) decs_height-push
