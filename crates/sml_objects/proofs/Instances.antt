-- Types that an instance leaves alone.
use Rattle.std.proofs.Common.{◌≡◌, ℕ, ◌+◌, List, [], ◌∷◌, map, refl, ap, ◌∙◌, sym, Vec, Global}
use Rattle.std.specs.declared.rc.Rc.{Rc}
use Rattle.sml_objects.specs.Objects as O
use Rattle.sml_objects.specs.Initial.{Name}
use Rattle.sml_objects.specs.Types.{replace_type, replace_types, instance_from}
use Rattle.sml_objects.specs.Objects.{types_of}
use Rattle.sml_objects.specs.Views.{type_of, label_list, name_of}
use Rattle.sml_objects.specs.declared.labels.Labels.{Labels}
use Rattle.sml_objects.specs.declared.objects.TyName.{TyName}
use Rattle.sml_objects.specs.declared.objects.MlType.{MlType, Free}
use Rattle.sml_objects.specs.declared.objects.MlType.TheViews as V
use Rattle.sml_objects.proofs.TypeViews.{parts_of, type_of-free, type_of-row, type_of-arrow, type_of-name}
use Rattle.sml_objects.proofs.EnvViews.{map-map}

module _ (k : ℕ) where
  abbrev same : O.MlTypes Name → O.MlTypes Name
  same ts = replace_types (λ j. O.free (k + j)) O.free ts

  types-replaced : (ts : List (O.MlType Name)) → same (types_of ts) ≡ types_of (map (instance_from k) ts)
  unfolding replace_type replace_types
  types-replaced [] = refl
  types-replaced (t ∷ ts) = ap (O.and_type (instance_from k t)) (types-replaced ts)

  types-kept : (ts : List (Rc MlType Global)) → map (λ t. instance_from k (type_of t.value)) ts ≡ parts_of ts
      → same (types_of (parts_of ts)) ≡ types_of (parts_of ts)
  types-kept ts h =
      types-replaced (parts_of ts)
      ∙ ap types_of (map-map (instance_from k) (λ (t : Rc MlType Global). type_of t.value) ts ∙ h)

  pub kept-free : (v : ℕ) → instance_from k (type_of (Free v)) ≡ type_of (Free v)
  unfolding replace_type
  kept-free v = ap (instance_from k) (type_of-free v) ∙ sym (type_of-free v)

  pub kept-row : (ls : Rc Labels Global) (ts : Vec (Rc MlType Global) Global) → map (λ t. instance_from k (type_of t.value)) ts.items ≡ parts_of ts.items
      → instance_from k (type_of (V.Row ls ts)) ≡ type_of (V.Row ls ts)
  unfolding replace_type
  kept-row ls ts h =
      ap (instance_from k) (type_of-row ls ts)
      ∙ ap (O.app (O.row (label_list ls.value))) (types-kept ts.items h)
      ∙ sym (type_of-row ls ts)

  pub kept-arrow : (t u : Rc MlType Global) → instance_from k (type_of t.value) ≡ type_of t.value → instance_from k (type_of u.value) ≡ type_of u.value
      → instance_from k (type_of (V.Arrow t u)) ≡ type_of (V.Arrow t u)
  unfolding replace_type replace_types
  kept-arrow t u h g = ap (instance_from k) (type_of-arrow t u) ∙ (λ i. O.arrow_of (h i) (g i)) ∙ sym (type_of-arrow t u)

  pub kept-name : (n : TyName) (ts : Vec (Rc MlType Global) Global) → map (λ t. instance_from k (type_of t.value)) ts.items ≡ parts_of ts.items
      → instance_from k (type_of (V.Name n ts)) ≡ type_of (V.Name n ts)
  unfolding replace_type
  kept-name n ts h =
      ap (instance_from k) (type_of-name n ts)
      ∙ ap (O.app (O.name (name_of n))) (types-kept ts.items h)
      ∙ sym (type_of-name n ts)
