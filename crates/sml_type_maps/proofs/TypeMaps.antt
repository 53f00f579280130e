-- Types with other types for their variables and their names, variant by variant.
use Rattle.std.proofs.Common.{◌≡◌, ℕ, List, [], ◌∷◌, ◌++◌, map, refl, ap, sym, ◌∙◌, Option, Some, None, Result, Ok, Err, IfOk, Vec, Global}
use Rattle.std.specs.declared.rc.Rc.{Rc}
use Rattle.sml_objects.specs.Objects as O
use Rattle.sml_objects.specs.Initial.{Name}
use Rattle.sml_objects.specs.Objects.{types_of}
use Rattle.sml_objects.specs.Fates.{type_or, seen_type}
use Rattle.sml_objects.specs.Views.{type_of, label_list, name_of, row_of}
use Rattle.sml_objects.specs.declared.labels.Labels.{Labels}
use Rattle.sml_objects.specs.declared.objects.TyName.{TyName}
use Rattle.sml_objects.specs.declared.objects.MlType.{MlType, Bound, Free}
use Rattle.sml_objects.specs.declared.objects.MlType.TheViews as V
use Rattle.sml_objects.proofs.TypeViews.{type_of-bound, type_of-free, type_of-row, type_of-arrow, type_of-name}
use Rattle.sml_objects.proofs.EnvViews.{map-map}
use Rattle.sml_type_maps.specs.Mapped.{mapped, all_mapped, seen, types_or, IsChanged}

module _ (b f : ℕ → O.MlType Name) (n : Name → O.MlTypes Name → O.MlType Name) where
  abbrev pub by : O.MlType Name → O.MlType Name
  by t = mapped b f n t

  types-by : (ts : List (O.MlType Name)) → all_mapped b f n (types_of ts) ≡ types_of (map by ts)
  unfolding mapped all_mapped
  types-by [] = refl
  types-by (t ∷ ts) = ap (O.and_type (by t)) (types-by ts)

  pub by-bound : (k : ℕ) → by (type_of (Bound k)) ≡ b k
  unfolding mapped
  by-bound k = ap by (type_of-bound k)

  pub by-free : (v : ℕ) → by (type_of (Free v)) ≡ f v
  unfolding mapped
  by-free v = ap by (type_of-free v)

  seen-by : (ts : List (Rc MlType Global)) → map by (seen ts) ≡ map (λ t. by (type_of t.value)) ts
  seen-by ts = map-map by (λ (t : Rc MlType Global). type_of t.value) ts

  pub by-row : (ls : Rc Labels Global) (ts : Vec (Rc MlType Global) Global)
      → by (type_of (V.Row ls ts)) ≡ row_of (label_list ls.value) (map (λ t. by (type_of t.value)) ts.items)
  unfolding mapped
  by-row ls ts =
      ap by (type_of-row ls ts)
      ∙ ap (O.app (O.row (label_list ls.value))) (types-by (seen ts.items) ∙ ap types_of (seen-by ts.items))

  pub by-arrow : (t u : Rc MlType Global) → by (type_of (V.Arrow t u)) ≡ O.arrow_of (by (type_of t.value)) (by (type_of u.value))
  unfolding mapped all_mapped
  by-arrow t u = ap by (type_of-arrow t u)

  pub by-name : (k : TyName) (ts : Vec (Rc MlType Global) Global)
      → by (type_of (V.Name k ts)) ≡ n (name_of k) (types_of (map (λ t. by (type_of t.value)) ts.items))
  unfolding mapped
  by-name k ts =
      ap by (type_of-name k ts)
      ∙ ap (n (name_of k)) (types-by (seen ts.items) ∙ ap types_of (seen-by ts.items))

  -- rows, whose parts stay or change
  pub row-stays : (ls : Rc Labels Global) (ts : Vec (Rc MlType Global) Global) (ps : List (Rc MlType Global)) (o : Option (Vec (Rc MlType Global) Global)) → ps ≡ ts.items → o ≡ None
      → types_or (seen ps) o ≡ map (λ t. by (type_of t.value)) ps → type_of (V.Row ls ts) ≡ by (type_of (V.Row ls ts))
  row-stays ls ts ps o p e h =
      let same : seen ts.items ≡ map (λ t. by (type_of t.value)) ts.items =
      (λ i. types_or (seen (sym p i)) (sym e i)) ∙ h ∙ ap (map (λ t. by (type_of t.value))) p in
      type_of-row ls ts ∙ ap (row_of (label_list ls.value)) same ∙ sym (by-row ls ts)

  pub row-changes : (ls ms : Rc Labels Global) (ts us : Vec (Rc MlType Global) Global) (ps : List (Rc MlType Global)) (o : Option (Vec (Rc MlType Global) Global))
      → ms.value ≡ ls.value → ps ≡ ts.items → o ≡ Some us
      → types_or (seen ps) o ≡ map (λ t. by (type_of t.value)) ps → type_of (V.Row ms us) ≡ by (type_of (V.Row ls ts))
  row-changes ls ms ts us ps o k p e h =
      let same : seen us.items ≡ map (λ t. by (type_of t.value)) ts.items =
      ap (types_or (seen ps)) (sym e) ∙ h ∙ ap (map (λ t. by (type_of t.value))) p in
      type_of-row ms us ∙ (λ i. row_of (label_list (k i)) (same i)) ∙ sym (by-row ls ts)

  pub parts-change : (ps qs ts : List (Rc MlType Global)) (o : Option (Vec (Rc MlType Global) Global)) → ps ≡ ts → qs ≡ ts
      → types_or (seen ps) o ≡ map (λ t. by (type_of t.value)) ps → types_or (seen qs) o ≡ map (λ t. by (type_of t.value)) ts
  parts-change ps qs ts o p q h = ap (λ l. types_or (seen l) o) (q ∙ sym p) ∙ h ∙ ap (map (λ t. by (type_of t.value))) p

-- what is there in the place of another
pub changed-to : (o : Option (Rc MlType Global)) (t u : O.MlType Name) → seen_type o ≡ Some u → IsChanged o t u
changed-to o t u h = ap (type_or t) h

pub changed-at : {E : Type 0} (r : Result (Option (Rc MlType Global)) E) (t u v w : O.MlType Name) → t ≡ v → u ≡ w
    → IfOk r (λ o. IsChanged o t u) → IfOk r (λ o. IsChanged o v w)
changed-at (Ok o) t u v w p q h = ap (λ x. type_or x (seen_type o)) (sym p) ∙ h ∙ q
changed-at (Err e) t u v w p q h = h

pub boxed-at : {E : Type 0} (r : Result (Option (Rc MlType Global)) E) (t u w : O.MlType Name) → w ≡ u
    → IfOk r (λ o. seen_type o ≡ Some w) → IfOk r (λ o. IsChanged o t u)
boxed-at (Ok o) t u w p h = ap (type_or t) h ∙ p
boxed-at (Err e) t u w p h = h
