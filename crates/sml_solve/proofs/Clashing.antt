-- What demands make equal, trees that meet them make equal; and where they don't clash, trees meet them.
use Rattle.std.proofs.Common.{◌≡◌, ℕ, zero, suc, ◌<◌, inl, inr, Option, Some, None, List, [], ◌∷◌, length, map, get_or, sym, ◌∙◌, ap, refl, subst, arith}
use Rattle.std.proofs.lemmas.List.{length-map}
use Rattle.std.specs.List.{AllByRecursion}
use Rattle.sml_tree.specs.Trees.{Id}
use Rattle.sml_objects.specs.Initial.{Name}
use Rattle.sml_objects.specs.Maps.{lookup}
use Rattle.sml_objects.specs.Objects.{MlType, Head, row, app, types_of}
use Rattle.sml_layers.specs.declared.layer.Layer.{Layer}
use Rattle.sml_layers.specs.declared.layer.Layer.TheVariants.{Equations}
use Rattle.sml_objects.specs.Labels.{with_labels}
use Rattle.sml_layers.specs.Rows.{fields_at}
use Rattle.sml_graph.specs.Rows.{HasFields}
use Rattle.sml_layers.specs.Worlds.{infinite, make, spread, spread_all}
use Rattle.sml_graph.specs.Worlds.{In, Assignment}
use Rattle.sml_layers.specs.Layers.{index_of}
use Rattle.sml_graph.specs.Asked.{Asked, Demand, equal, has_fields, asks, Holds, CanMeet, IsFirstUnmet, count}
use Rattle.sml_solve.specs.Clashes.{IsOneOf, part_at, MakesEqual, given, same, turned, joined, component, field, fields, HasLabels, Clash, heads, no_row, IsDemandOf, MeetsAll, IsUnmetWhereItClashes}
use Rattle.sml_graph.proofs.Worlding.{app_head, app_parts}
use Rattle.sml_solve.proofs.Members.{all-in, in-all}
use Rattle.sml_solve.proofs.LabelMaps.{lookup-mapped, lookup-unmapped}
use Rattle.sml_graph.proofs.Rowing.{row-labels}
use Rattle.sml_solve.proofs.Trees.{IsDemandOver, clash-or-trees}

spread-parts : (σ : Assignment infinite) (h : Head Name) (ts : List (MlType Name)) → spread σ (app h (types_of ts)) ≡ make infinite h (spread_all σ (types_of ts))
unfolding spread
spread-parts σ h ts = refl

spread-listed : (σ : Assignment infinite) (ts : List (MlType Name)) → spread_all σ (types_of ts) ≡ map (spread σ) ts
unfolding spread_all
spread-listed σ [] = refl
spread-listed σ (t ∷ ts) = ap (λ us. spread σ t ∷ us) (spread-listed σ ts)

spread-app : (σ : Assignment infinite) (h : Head Name) (ts : List (MlType Name)) → spread σ (app h (types_of ts)) ≡ make infinite h (map (spread σ) ts)
spread-app σ h ts = spread-parts σ h ts ∙ ap (make infinite h) (spread-listed σ ts)

spread-part : (σ : Assignment infinite) (ts : List (MlType Name)) (i : ℕ) → get_or (map (spread σ) ts) i (λ _. None) ≡ spread σ (part_at ts i)
unfolding spread
spread-part σ [] i = refl
spread-part σ (t ∷ ts) zero = refl
spread-part σ (t ∷ ts) (suc i) = spread-part σ ts i

one-type : {X : Type 0} (o : Option X) (x y : X) → o ≡ Some x → o ≡ Some y → x ≡ y
one-type o x y e f = let g : Some x ≡ Some y = sym e ∙ f in cc

field-of : {X Y : Type 0} (g : X → Y) (l : Id) (t : X) (fs : List (Id × X)) → IsOneOf (l, t) fs → IsOneOf (l, g t) (fields_at g fs)
field-of g l t [] i = absurd i
field-of g l t (f ∷ fs) (inl e) = inl (ap (λ (x : Id × _). (x.0, g x.1)) e)
field-of g l t (f ∷ fs) (inr i) = inr (field-of g l t fs i)

-- a row that has fields, with the row that it is
module _ (t : In infinite) (fs : List (Id × In infinite)) (h : HasFields infinite t fs) (k : Head Name) (us : List (In infinite)) (e : t ≡ make infinite k us) where
  has-head : k ≡ row h.labels
  has-head = app_head infinite t k (row h.labels) us h.types e h.is_row

  has-parts : us ≡ h.types
  has-parts = app_parts infinite t k (row h.labels) us h.types e h.is_row

  has-field : (l : Id) (u : In infinite) → IsOneOf (l, u) fs → lookup l (with_labels h.labels us) ≡ Some u
  has-field l u i =
      subst (λ (xs : List (In infinite)). lookup l (with_labels h.labels xs) ≡ Some u) (sym has-parts) (all-in (λ f. lookup f.0 (with_labels h.labels h.types) ≡ Some f.1) fs h.fields (l, u) i)

module _ (u : ℕ) (σ : Assignment infinite) (ds : List Demand) (a : MeetsAll u σ ds) where
  row-met : (r : MlType Name) (fs : List (Id × MlType Name)) → IsOneOf (has_fields r fs) ds → HasFields infinite (spread σ r) (fields_at (spread σ) fs)
  row-met r fs i = all-in (Holds Equations u σ) ds a (has_fields r fs) i

  made-equal : (t v : MlType Name) → MakesEqual ds t v → spread σ t ≡ spread σ v
  made-equal x y (given t v m) = all-in (Holds Equations u σ) ds a (equal t v) m
  made-equal x y (same t v e) = ap (spread σ) e
  made-equal x y (turned t v m) = sym (made-equal t v m)
  made-equal x y (joined t v w m n) = made-equal t v m ∙ made-equal v w n
  made-equal x y (component t v h ts us i l k m e f) =
      let b = made-equal (app h (types_of ts)) (app h (types_of us)) m in
      let p = app_parts infinite (spread σ (app h (types_of ts))) h h (map (spread σ) ts) (map (spread σ) us) (spread-app σ h ts) (b ∙ spread-app σ h us) in
      ap (spread σ) e ∙ (sym (spread-part σ ts i) ∙ (ap (λ xs. get_or xs i (λ _. None)) p ∙ (spread-part σ us i ∙ sym (ap (spread σ) f))))
  made-equal x y (field t v r fs l ls ts i j m e) =
      let h = row-met r fs i in
      let b : spread σ r ≡ make infinite (row ls) (map (spread σ) ts) = made-equal r (app (row ls) (types_of ts)) m ∙ spread-app σ (row ls) ts in
      let q = row-labels ls h.labels (has-head (spread σ r) (fields_at (spread σ) fs) h (row ls) (map (spread σ) ts) b) in
      let k = has-field (spread σ r) (fields_at (spread σ) fs) h (row ls) (map (spread σ) ts) b l (spread σ t) (field-of (spread σ) l t fs j) in
      one-type (lookup l (with_labels h.labels (map (spread σ) ts))) (spread σ t) (spread σ v) k
      (subst (λ ms. lookup l (with_labels ms (map (spread σ) ts)) ≡ Some (spread σ v)) q (lookup-mapped (spread σ) l ls ts v e))
  made-equal x y (fields t v r q fs gs l i j m n e) =
      let h = row-met r fs i in
      let k = row-met q gs j in
      let b : spread σ r ≡ make infinite (row k.labels) k.types = made-equal r q e ∙ k.is_row in
      let f = has-field (spread σ r) (fields_at (spread σ) fs) h (row k.labels) k.types b l (spread σ t) (field-of (spread σ) l t fs m) in
      let g = row-labels k.labels h.labels (has-head (spread σ r) (fields_at (spread σ) fs) h (row k.labels) k.types b) in
      one-type (lookup l (with_labels h.labels k.types)) (spread σ t) (spread σ v) f
      (subst (λ ms. lookup l (with_labels ms k.types) ≡ Some (spread σ v)) g (all-in (λ x. lookup x.0 (with_labels k.labels k.types) ≡ Some x.1) (fields_at (spread σ) gs) k.fields (l, spread σ v) (field-of (spread σ) l v gs n)))

  -- a row that has some fields is one with these labels
  labels-met : (fs : List (Id × MlType Name)) (r : MlType Name) (h : Head Name) (ts : List (MlType Name)) → HasFields infinite (spread σ r) (fields_at (spread σ) fs) → spread σ r ≡ make infinite h (map (spread σ) ts) → HasLabels fs h ts
  labels-met fs r h ts x e =
      let p = has-parts (spread σ r) (fields_at (spread σ) fs) x h (map (spread σ) ts) e in
      record {
        labels = x.labels;
        is_row = has-head (spread σ r) (fields_at (spread σ) fs) x h (map (spread σ) ts) e;
        rising = x.rising;
        count = sym (length-map ts (spread σ)) ∙ (ap length p ∙ x.count);
        all = in-all (λ f. (t : MlType Name) × (lookup f.0 (with_labels x.labels ts) ≡ Some t)) fs (λ f i.
            lookup-unmapped (spread σ) f.0 x.labels ts (spread σ f.1) (has-field (spread σ r) (fields_at (spread σ) fs) x h (map (spread σ) ts) e f.0 (spread σ f.1) (field-of (spread σ) f.0 f.1 fs i)));
      }

  no-clash : Clash ds → ⊥
  no-clash (heads h k ts us m d) =
      let e = made-equal (app h (types_of ts)) (app k (types_of us)) m in
      let t = spread σ (app h (types_of ts)) in
      let f = spread-app σ h ts in
      let g : t ≡ make infinite k (map (spread σ) us) = e ∙ spread-app σ k us in
      elim d [
        | inl n ↦ n (app_head infinite t h k (map (spread σ) ts) (map (spread σ) us) f g)
        | inr n ↦ n (sym (length-map ts (spread σ)) ∙ (ap length (app_parts infinite t h k (map (spread σ) ts) (map (spread σ) us) f g) ∙ length-map us (spread σ)))
      ]
  no-clash (no_row r fs h ts i m d) = d (labels-met fs r h ts (row-met r fs i) (made-equal r (app h (types_of ts)) m ∙ spread-app σ h ts))

none-before : (k : Layer) → index_of k < index_of Equations → ⊥
none-before k h = omega (arith, h)

demand-over : (s : Asked) (d : Demand) → IsDemandOf s d → IsDemandOver (count s) d
demand-over s (equal t v) o = o
demand-over s (has_fields r fs) o = o
demand-over s (asks a t) o = o

demands-over : (s : Asked) (ds : List Demand) → AllByRecursion (IsDemandOf s) ds → AllByRecursion (IsDemandOver (count s)) ds
demands-over s [] a = tt
demands-over s (d ∷ ds) a = (demand-over s d a.0, demands-over s ds a.1)

pub unmet-where-it-clashes : (s : Asked) → IsUnmetWhereItClashes s
unfolding IsFirstUnmet CanMeet
unmet-where-it-clashes s ds d says o = (
  λ f. elim (clash-or-trees (d ∷ ds) s.unit (count s) (demand-over s d o, demands-over s ds says.over)) [
    | inl x ↦ x
    | inr m ↦ absurd (f.0 (m.0, (says.same m.0).1 m.1.1, m.1.0))
  ],
  λ x. (
    λ m. no-clash s.unit m.0 (d ∷ ds) (m.2, (says.same m.0).0 m.1) x,
    λ k l. absurd (none-before k l),
  ),
)
