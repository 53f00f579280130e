-- Demands that can be met in all layers can be met in those up to each, and their first unmet layer is one.
use Rattle.std.proofs.Common.{◌≡◌, ◌≤◌, ℕ, zero, suc, inl, inr, List, [], ◌∷◌, map, Some, None, refl, sym, ◌∙◌, ap, arith}
use Rattle.std.specs.List.{AllByRecursion}
use Rattle.std.proofs.lemmas.Bool.{cases_order}
use Rattle.std.proofs.lemmas.List.{length-map}
use Rattle.std.specs.declared.cmp.Ordering.{Ordering}
use Rattle.std.specs.declared.cmp.Ordering.TheVariants.{Less, Equal, Greater}
use Rattle.sml_tree.specs.Trees.{Id}
use Rattle.sml_objects.specs.Labels.{with_labels}
use Rattle.sml_objects.specs.Maps.{lookup, by_order, order_of}
use Rattle.sml_objects.specs.Objects.{MlType, MlTypes, bound, free, app, row, no_type, and_type, types_of}
use Rattle.sml_objects.specs.Types.{assign, replace_type, replace_types}
use Rattle.sml_layers.specs.declared.layer.Layer.{Layer}
use Rattle.sml_layers.specs.declared.layer.Layer.TheVariants.{Equations, Finiteness, Newness, Locality, Equality, Classes, Rigidity}
use Rattle.sml_layers.specs.Layers.{index_of}
use Rattle.sml_layers.specs.Rows.{HasFields, fields_at}
use Rattle.sml_layers.specs.Worlds.{Assignment, InfiniteType, finite, infinite, tree, spread, spread_all}
use Rattle.sml_layers.specs.Demands.{Demand, Words, equal, has_fields, asks, AllHold, CanBeMet, IsFirstUnmet}
use Rattle.sml_core_rules.proofs.Assigned.{there}

-- finite types as trees

bare : {N : Type 0} → ℕ → InfiniteType N
bare v = λ _. None

trees : {N : Type 0} → Assignment N finite → Assignment N infinite
trees σ v = spread bare (σ v)

mutual
  unfolding spread spread_all replace_type replace_types trees bare

  spread-assign : {N : Type 0} (σ : Assignment N finite) (t : MlType N) → spread (trees σ) t ≡ spread bare (assign σ t)
  spread-assign σ (bound k) = refl
  spread-assign σ (free v) = refl
  spread-assign σ (app h ts) = ap (tree h) (spread-all-assign σ ts)

  spread-all-assign : {N : Type 0} (σ : Assignment N finite) (ts : MlTypes N) → spread_all (trees σ) ts ≡ spread_all bare (replace_types bound σ ts)
  spread-all-assign σ no_type = refl
  spread-all-assign σ (and_type t ts) = λ i. spread-assign σ t i ∷ spread-all-assign σ ts i

spread-list : {N : Type 0} (ts : List (MlType N)) → spread_all bare (types_of ts) ≡ map (spread bare) ts
unfolding spread
spread-list [] = refl
spread-list (t ∷ ts) = λ i. spread bare t ∷ spread-list ts i

lookup-mapped : {X Y : Type 0} (f : X → Y) (l : Id) (ls : List Id) (xs : List X) → lookup l (with_labels ls (map f xs)) ≡ there f (lookup l (with_labels ls xs))
lookup-mapped f l [] xs = refl
lookup-mapped f l (m ∷ ls) [] = refl
lookup-mapped f l (m ∷ ls) (x ∷ xs) = go (order_of l m) (lookup-mapped f l ls xs)
  where
    go : (o : Ordering) → lookup l (with_labels ls (map f xs)) ≡ there f (lookup l (with_labels ls xs)) → by_order o (lookup l (with_labels ls (map f xs))) (Some (f x)) (lookup l (with_labels ls (map f xs))) ≡ there f (by_order o (lookup l (with_labels ls xs)) (Some x) (lookup l (with_labels ls xs)))
    go Less h = h
    go Equal h = refl
    go Greater h = h

module _ {N : Type 0} (σ : Assignment N finite) where
  fields-there : (ls : List Id) (ts : List (MlType N)) (fs : List (Id × MlType N)) → AllByRecursion (λ f. lookup f.0 (with_labels ls ts) ≡ Some f.1) (fields_at (assign σ) fs)
      → AllByRecursion (λ f. lookup f.0 (with_labels ls (map (spread bare) ts)) ≡ Some f.1) (fields_at (spread (trees σ)) fs)
  fields-there ls ts [] h = tt
  fields-there ls ts (f ∷ fs) h =
      (lookup-mapped (spread bare) f.0 ls ts ∙ (ap (there (spread bare)) h.0 ∙ ap Some (sym (spread-assign σ f.1))), fields-there ls ts fs h.1)

  row-there : (t : MlType N) (fs : List (Id × MlType N)) → HasFields N finite (assign σ t) (fields_at (assign σ) fs) → HasFields N infinite (spread (trees σ) t) (fields_at (spread (trees σ)) fs)
  unfolding spread
  row-there t fs h = record {
    labels = h.labels;
    types = map (spread bare) h.types;
    rising = h.rising;
    count = length-map h.types (spread bare) ∙ h.count;
    is_row = spread-assign σ t ∙ (ap (spread bare) h.is_row ∙ ap (tree (row h.labels)) (spread-list h.types));
    fields = fields-there h.labels h.types fs h.fields;
  }

module _ {N B : Type 0} (words : Words N B) where
  infinitely : (l : Layer) (σ : Assignment N finite) (ds : List (Demand N B)) → AllHold words finite l σ ds → AllHold words infinite Equations (trees σ) ds
  infinitely l σ [] h = tt
  infinitely l σ (equal t u ∷ ds) h = (spread-assign σ t ∙ (ap (spread bare) h.0 ∙ sym (spread-assign σ u)), infinitely l σ ds h.1)
  infinitely l σ (has_fields t fs ∷ ds) h = (row-there σ t fs h.0, infinitely l σ ds h.1)
  infinitely l σ (asks a t ∷ ds) h = (tt, infinitely l σ ds h.1)

  pub lower : (k l : Layer) → index_of k ≤ index_of l → (σ : Assignment N finite) (ds : List (Demand N B)) → AllHold words finite l σ ds → AllHold words finite k σ ds
  lower k l p σ [] h = tt
  lower k l p σ (equal t u ∷ ds) h = (h.0, lower k l p σ ds h.1)
  lower k l p σ (has_fields t fs ∷ ds) h = (h.0, lower k l p σ ds h.1)
  lower k l p σ (asks a t ∷ ds) h = ((λ q. h.0 (omega (arith, p, q))), lower k l p σ ds h.1)

  pub can-lower : (l : Layer) (ds : List (Demand N B)) → CanBeMet words Rigidity ds → CanBeMet words l ds
  can-lower Equations ds (σ, h) = (trees σ, infinitely Rigidity σ ds h)
  can-lower Finiteness ds (σ, h) = (σ, lower Finiteness Rigidity (omega arith) σ ds h)
  can-lower Newness ds (σ, h) = (σ, lower Newness Rigidity (omega arith) σ ds h)
  can-lower Locality ds (σ, h) = (σ, lower Locality Rigidity (omega arith) σ ds h)
  can-lower Equality ds (σ, h) = (σ, lower Equality Rigidity (omega arith) σ ds h)
  can-lower Classes ds (σ, h) = (σ, lower Classes Rigidity (omega arith) σ ds h)
  can-lower Rigidity ds h = h

layer_at : ℕ → Layer
layer_at zero = Equations
layer_at (suc zero) = Finiteness
layer_at (suc (suc zero)) = Newness
layer_at (suc (suc (suc zero))) = Locality
layer_at (suc (suc (suc (suc zero)))) = Equality
layer_at (suc (suc (suc (suc (suc zero))))) = Classes
layer_at (suc (suc (suc (suc (suc (suc n)))))) = Rigidity

layer-back : (l : Layer) → layer_at (index_of l) ≡ l
unfolding layer_at
layer-back Equations = refl
layer-back Finiteness = refl
layer-back Newness = refl
layer-back Locality = refl
layer-back Equality = refl
layer-back Classes = refl
layer-back Rigidity = refl

pub one-layer : {N B : Type 0} (words : Words N B) (k l : Layer) (ds : List (Demand N B)) → IsFirstUnmet words k ds → IsFirstUnmet words l ds → k ≡ l
one-layer words k l ds f g = elim (cases_order (index_of k) (index_of l)) [
  | inl e ↦ sym (layer-back k) ∙ (ap layer_at e ∙ layer-back l)
  | inr o ↦ elim o [ inl p ↦ absurd (f.0 (g.1 k p)) | inr p ↦ absurd (g.0 (f.1 l p)) ]
]
