-- A declaration has one list of warnings: two strictly sorted lists of the same warnings are one.
use Rattle.std.specs.Prelude.{◌≡◌, ◌↔◌, List, [], ◌∷◌}
use Rattle.std.specs.List.{AllByRecursion}
use Rattle.std.specs.List.Sorted.{IsStrictlySortedBy}
use Rattle.std.specs.Cmp.{IsTotalOrder}
use Rattle.std.specs.Ordering.{ordering_reverse}
use Rattle.std.specs.declared.cmp.Ordering.{Ordering}
use Rattle.std.specs.declared.cmp.Ordering.TheVariants.{Less, Equal, Greater}
use Rattle.std.proofs.lemmas.Cmp.{nat_cmp_total, on_total, then_total}
use mathlib.Core.Path.{refl, sym, subst, ◌∙◌}
use mathlib.Core.Logic.{inl, inr}
use Rattle.sml_lex.specs.declared.fault.Warning.{Warning}
use Rattle.sml_patterns.specs.Warnings.{code_rank, warning_cmp}
use Rattle.sml_objects.specs.Appearance.{Stands}
use Rattle.sml_run_rules.specs.Warnings.{WarningsAreOne}

total : IsTotalOrder warning_cmp
total = then_total (on_total (λ x. x.place.line) nat_cmp_total) (then_total (on_total (λ x. x.place.column) nat_cmp_total) (on_total (λ x. code_rank x.code) nat_cmp_total))

not-below : (o : Ordering) → o ≡ Less → ordering_reverse o ≡ Less → ⊥
not-below Less e f = let g : Greater ≡ Less = f in absurd cc
not-below Equal e f = let g : Equal ≡ Less = e in absurd cc
not-below Greater e f = let g : Greater ≡ Less = e in absurd cc

-- none is before another one that is before it
never : (x y : Warning) → warning_cmp x y ≡ Less → warning_cmp y x ≡ Less → ⊥
never x y h k = not-below (warning_cmp y x) k (sym (total.antisymm x y) ∙ h)

later : (x y : Warning) (ys : List Warning) → AllByRecursion (λ z. warning_cmp y z ≡ Less) ys → Stands x ys → warning_cmp y x ≡ Less
unfolding Stands
later x y [] h s = absurd s
later x y (z ∷ ys) h (inl e) = subst (λ z. warning_cmp y z ≡ Less) (sym e) h.0
later x y (z ∷ ys) h (inr s) = later x y ys h.1 s

-- the first of both is the same
firsts : (x y : Warning) (xs ys : List Warning) → AllByRecursion (λ z. warning_cmp x z ≡ Less) xs → AllByRecursion (λ z. warning_cmp y z ≡ Less) ys → Stands x (y ∷ ys) → Stands y (x ∷ xs)
    → x ≡ y
unfolding Stands
firsts x y xs ys h k (inl e) t = e
firsts x y xs ys h k (inr s) (inl e) = sym e
firsts x y xs ys h k (inr s) (inr t) = absurd (never x y (later y x xs h t) (later x y ys k s))

-- what stands in one of two lists with the same first stands in the rest of the other
in-rest : (x y z : Warning) (xs ys : List Warning) → x ≡ y → AllByRecursion (λ z. warning_cmp x z ≡ Less) xs → Stands z xs → Stands z (y ∷ ys) → Stands z ys
unfolding Stands
in-rest x y z xs ys e h s (inl f) =
    let below : warning_cmp x z ≡ Less = later z x xs h s in
    let same : z ≡ x = f ∙ sym e in absurd (never x z below (subst (λ w. warning_cmp w x ≡ Less) (sym same) (subst (λ w. warning_cmp x w ≡ Less) same below)))
in-rest x y z xs ys e h s (inr t) = t

one-list : (xs ys : List Warning) → IsStrictlySortedBy warning_cmp xs → IsStrictlySortedBy warning_cmp ys → ((z : Warning) → Stands z xs ↔ Stands z ys) → xs ≡ ys
unfolding Stands IsStrictlySortedBy
one-list [] [] h k same = refl
one-list [] (y ∷ ys) h k same = absurd ((same y).1 (inl refl))
one-list (x ∷ xs) [] h k same = absurd ((same x).0 (inl refl))
one-list (x ∷ xs) (y ∷ ys) h k same =
    let e = firsts x y xs ys h.0 k.0 ((same x).0 (inl refl)) ((same y).1 (inl refl)) in
    let rest = one-list xs ys h.1 k.1 (λ z. ((λ s. in-rest x y z xs ys e h.0 s ((same z).0 (inr s))), (λ s. in-rest y x z ys xs (sym e) k.0 s ((same z).1 (inr s))))) in
    λ i. e i ∷ rest i

pub warnings-are-one : WarningsAreOne
warnings-are-one js ws vs h k = one-list ws vs h.sorted k.sorted (λ x. ((λ s. (k.all x).1 ((h.all x).0 s)), (λ s. (h.all x).1 ((k.all x).0 s))))
