-- Fields that are put in at their places, and rows with the images of their parts.
use Rattle.std.proofs.Common.{◌≡◌, Option, Some, List, [], ◌∷◌, map, refl, ap, ◌∙◌, inl, inr}
use Rattle.std.specs.declared.cmp.Ordering.{Ordering}
use Rattle.std.specs.declared.cmp.Ordering.TheVariants.{Less, Equal, Greater}
use Rattle.sml_tree.specs.Trees.{Id}
use Rattle.sml_objects.specs.Maps.{Map, lookup, by_order, order_of}
use Rattle.sml_objects.specs.Labels.{with_labels}
use Rattle.sml_solve.specs.Clashes.{IsOneOf}
use Rattle.sml_solve.proofs.Discerning.{same_id}
use Rattle.sml_graph.proofs.Rowing.{set_fields, set-here, set-there}

-- a label that was put in stands with one of the things that it was put in with
pub puts-found : {X : Type 0} (f : Id × X) (fs : List (Id × X)) (m : Map X) → IsOneOf f fs → (x : X) × (lookup f.0 (set_fields fs m) ≡ Some x) × IsOneOf (f.0, x) fs
puts-found f [] m i = absurd i
puts-found {X = X} f (g ∷ fs) m i =
    elim (same_id f.0 g.0) [
      | yes e ↦ (g.1, ap (λ k. lookup k (set_fields (g ∷ fs) m)) e ∙ set-here g.0 g.1 (set_fields fs m), inl (ap (λ k. (k, g.1)) e))
      | no d ↦
          let r = puts-found f fs m (elim i [ inl e ↦ absurd (d (ap (λ (y : Id × X). y.0) e)) | inr k ↦ k ]) in
          (r.0, set-there g.0 g.1 f.0 (set_fields fs m) d ∙ r.1, inr r.2)
    ]

found-way : {X Y : Type 0} (f : X → Y) (o : Ordering) (a : Option X) (b : Option Y) (x t : X) → (a ≡ Some x → b ≡ Some (f x)) → by_order o a (Some t) a ≡ Some x → by_order o b (Some (f t)) b ≡ Some (f x)
found-way f Less a b x t h e = h e
found-way f Equal a b x t h e = let g : t ≡ x = cc in ap (λ y. Some (f y)) g
found-way f Greater a b x t h e = h e

-- the same labels with the images of what stands at them
pub lookup-mapped : {X Y : Type 0} (f : X → Y) (l : Id) (ls : List Id) (ts : List X) (x : X) → lookup l (with_labels ls ts) ≡ Some x → lookup l (with_labels ls (map f ts)) ≡ Some (f x)
lookup-mapped f l [] ts x e = cc
lookup-mapped f l (m ∷ ls) [] x e = cc
lookup-mapped f l (m ∷ ls) (t ∷ ts) x e =
    found-way f (order_of l m) (lookup l (with_labels ls ts)) (lookup l (with_labels ls (map f ts))) x t (lookup-mapped f l ls ts x) e

unfound-way : {X Y : Type 0} (f : X → Y) (o : Ordering) (a : Option X) (b : Option Y) (t : X) (y : Y) → (b ≡ Some y → (x : X) × (a ≡ Some x)) → by_order o b (Some (f t)) b ≡ Some y → (x : X) × (by_order o a (Some t) a ≡ Some x)
unfound-way f Less a b t y h e = h e
unfound-way f Equal a b t y h e = (t, refl)
unfound-way f Greater a b t y h e = h e

pub lookup-unmapped : {X Y : Type 0} (f : X → Y) (l : Id) (ls : List Id) (ts : List X) (y : Y) → lookup l (with_labels ls (map f ts)) ≡ Some y → (x : X) × (lookup l (with_labels ls ts) ≡ Some x)
lookup-unmapped f l [] ts y e = cc
lookup-unmapped f l (m ∷ ls) [] y e = cc
lookup-unmapped f l (m ∷ ls) (t ∷ ts) y e =
    unfound-way f (order_of l m) (lookup l (with_labels ls ts)) (lookup l (with_labels ls (map f ts))) t y (lookup-unmapped f l ls ts y) e
