-- What is found in a map with one more entry.
use Rattle.std.proofs.Common.{◌≡◌, [], ◌∷◌, Option, Some, refl, ap, sym, ◌∙◌, subst}
use Rattle.std.specs.FinMap.{slice_cmp-IsAntisymmetric, nat_cmp-IsAntisymmetric}
use Rattle.std.specs.declared.cmp.Ordering.{Ordering}
use Rattle.std.specs.declared.cmp.Ordering.TheVariants.{Less, Equal, Greater}
use Rattle.sml_tree.specs.Trees.{Id}
use Rattle.sml_objects.specs.Maps.{Map, lookup, put, order_of, by_order}

pub same_ident : (x y : Id) → order_of x y ≡ Equal → x ≡ y
same_ident x y h = slice_cmp-IsAntisymmetric nat_cmp-IsAntisymmetric x y h

abbrev is_equal : Ordering → Type 0
is_equal Less = ⊥
is_equal Equal = Unit {0}
is_equal Greater = ⊥

abbrev pub at : {X : Type 0} → Ordering → X → X → X
at o v a = by_order o a v a

pub over : {X : Type 0} (o : Ordering) (a b v : X) → at o v a ≡ at o v (at o b a)
over Less a b v = refl
over Equal a b v = refl
over Greater a b v = refl

apart_from : {X : Type 0} (r : Ordering) (a v : X) → (r ≡ Equal → ⊥) → a ≡ at r v a
apart_from Less a v h = refl
apart_from Equal a v h = absurd (h refl)
apart_from Greater a v h = refl

after : {X : Type 0} (y x z : Id) (b v a A : Option X) (q : Ordering) → order_of x z ≡ Greater → order_of y z ≡ q → A ≡ at (order_of y x) v a
    → at q b A ≡ at (order_of y x) v (at q b a)
after y x z b v a A Less h k e = e
after y x z b v a A Greater h k e = e
after y x z b v a A Equal h k e =
    apart_from (order_of y x) b v (λ s. subst is_equal (sym k ∙ ap (λ u. order_of u z) (same_ident y x s) ∙ h) tt)

lookup-put-by : {X : Type 0} (y x : Id) (v : X) (e : Id × X) (m : Map X) (o : Ordering) → order_of x e.0 ≡ o
    → lookup y (put x v m) ≡ at (order_of y x) (Some v) (lookup y m)
    → lookup y (by_order o ((x, v) ∷ e ∷ m) ((e.0, v) ∷ m) (e ∷ put x v m)) ≡ at (order_of y x) (Some v) (lookup y (e ∷ m))
lookup-put-by y x v e m Less h k = refl
lookup-put-by y x v e m Equal h k =
    over (order_of y e.0) (lookup y m) (Some e.1) (Some v) ∙ ap (λ z. at (order_of y z) (Some v) (lookup y (e ∷ m))) (sym (same_ident x e.0 h))
lookup-put-by y x v e m Greater h k = after y x e.0 (Some e.1) (Some v) (lookup y m) (lookup y (put x v m)) (order_of y e.0) h refl k

pub lookup-put : {X : Type 0} (y x : Id) (v : X) (m : Map X) → lookup y (put x v m) ≡ at (order_of y x) (Some v) (lookup y m)
lookup-put y x v [] = refl
lookup-put y x v (e ∷ m) = lookup-put-by y x v e m (order_of x e.0) refl (lookup-put y x v m)

-- the same through a function of what is found
pub at-through : {X Y : Type 0} (f : X → Y) (o : Ordering) (v a : X) → f (at o v a) ≡ at o (f v) (f a)
at-through f Less v a = refl
at-through f Equal v a = refl
at-through f Greater v a = refl

-- what is set at x to what stands there changes nothing
pub same_at : {X : Type 0} (g : Id → X) (y x : Id) (o : Ordering) → order_of y x ≡ o → at o (g x) (g y) ≡ g y
same_at g y x Less h = refl
same_at g y x Equal h = ap g (sym (same_ident y x h))
same_at g y x Greater h = refl
