-- The views of types, variant by variant.
use Rattle.std.proofs.Common.{◌≡◌, ℕ, List, map, ap, ◌∙◌, sym, Vec, Global}
use Rattle.std.specs.declared.rc.Rc.{Rc}
use Rattle.sml_objects.specs.Objects as O
use Rattle.sml_objects.specs.Initial.{Name}
use Rattle.sml_objects.specs.Objects.{types_of}
use Rattle.sml_objects.specs.Views.{type_of, type_layer, label_list, row_of, name_of}
use Rattle.sml_objects.specs.declared.labels.Labels.{Labels}
use Rattle.sml_objects.specs.declared.objects.TyName.{TyName}
use Rattle.sml_objects.specs.declared.objects.MlType.{MlType, Bound, Free}
use Rattle.sml_objects.specs.declared.objects.MlType.TheViews as V
use Rattle.sml_objects.specs.declared.objects.MlType.TheOpen as F
use Rattle.sml_objects.specs.declared.objects.MlType.TheFolds.{fold-roll-MlType}
use Rattle.sml_objects.specs.declared.objects.MlType.TheVariants.{rolls-Bound, rolls-Free, rolls-Row, rolls-Arrow, rolls-Name}
use Rattle.sml_objects.proofs.EnvViews.{map-map}

-- the types after these pointers
abbrev pub parts_of : List (Rc MlType Global) → List (O.MlType Name)
parts_of ts = map (λ t. type_of t.value) ts

pub type_of-bound : (k : ℕ) → type_of (Bound k) ≡ O.bound k
type_of-bound k = ap type_of (sym (rolls-Bound k)) ∙ fold-roll-MlType (O.MlType Name) type_layer (F.Bound k)

pub type_of-free : (k : ℕ) → type_of (Free k) ≡ O.free k
type_of-free k = ap type_of (sym (rolls-Free k)) ∙ fold-roll-MlType (O.MlType Name) type_layer (F.Free k)

pub type_of-row : (ls : Rc Labels Global) (ts : Vec (Rc MlType Global) Global) → type_of (V.Row ls ts) ≡ row_of (label_list ls.value) (parts_of ts.items)
type_of-row ls ts =
    ap type_of (sym (rolls-Row ls ts))
    ∙ fold-roll-MlType (O.MlType Name) type_layer (F.Row ls ts)
    ∙ ap (row_of (label_list ls.value)) (map-map _ _ ts.items)

pub type_of-arrow : (t u : Rc MlType Global) → type_of (V.Arrow t u) ≡ O.arrow_of (type_of t.value) (type_of u.value)
type_of-arrow t u = ap type_of (sym (rolls-Arrow t u)) ∙ fold-roll-MlType (O.MlType Name) type_layer (F.Arrow t u)

pub type_of-name : (n : TyName) (ts : Vec (Rc MlType Global) Global)
    → type_of (V.Name n ts) ≡ O.app (O.name (name_of n)) (types_of (parts_of ts.items))
type_of-name n ts =
    ap type_of (sym (rolls-Name n ts))
    ∙ fold-roll-MlType (O.MlType Name) type_layer (F.Name n ts)
    ∙ ap (λ us. O.app (O.name (name_of n)) (types_of us)) (map-map _ _ ts.items)
