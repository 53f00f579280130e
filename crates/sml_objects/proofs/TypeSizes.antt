-- Sizes of types, part by part.
use Rattle.std.proofs.Common.{◌≡◌, ◌≤◌, ℕ, zero, suc, ◌+◌, List, [], ◌∷◌, ◌++◌, take, ap, arith, Vec, Global}
use Rattle.std.proofs.lemmas.List.{map-append}
use Rattle.std.specs.declared.rc.Rc.{Rc}
use Rattle.sml_objects.specs.Objects as O
use Rattle.sml_objects.specs.Initial.{Name}
use Rattle.sml_objects.specs.Objects.{types_of}
use Rattle.sml_objects.specs.Views.{type_of}
use Rattle.sml_objects.specs.Sizes.{type_size, types_size}
use Rattle.sml_objects.specs.declared.labels.Labels.{Labels}
use Rattle.sml_objects.specs.declared.objects.TyName.{TyName}
use Rattle.sml_objects.specs.declared.objects.MlType.{MlType, Bound, Free}
use Rattle.sml_objects.specs.declared.objects.MlType.TheViews as V
use Rattle.sml_objects.proofs.TypeViews.{parts_of, type_of-bound, type_of-free, type_of-row, type_of-arrow, type_of-name}

abbrev pub sizes : List (O.MlType Name) → ℕ
sizes ts = types_size (types_of ts)

pub sizes-append : (ts us : List (O.MlType Name)) → sizes (ts ++ us) ≡ sizes ts + sizes us
unfolding types_size
sizes-append [] us = omega arith
sizes-append (t ∷ ts) us = omega (arith, sizes-append ts us)

pub sizes-push : (ts : List (Rc MlType Global)) (t : Rc MlType Global)
    → sizes (parts_of (ts ++ (t ∷ []))) ≡ sizes (parts_of ts) + type_size (type_of t.value)
unfolding types_size
sizes-push ts t =
    let e : sizes (parts_of (ts ++ (t ∷ []))) ≡ sizes (parts_of ts ++ (type_of t.value ∷ [])) = ap sizes (map-append (λ t. type_of t.value) ts (t ∷ [])) in
    omega (arith, e, sizes-append (parts_of ts) (type_of t.value ∷ []))

pub sizes-take : (i : ℕ) (ts : List (Rc MlType Global)) → sizes (parts_of (take i ts)) ≤ sizes (parts_of ts)
unfolding types_size
sizes-take zero ts = omega arith
sizes-take (suc i) [] = omega arith
sizes-take (suc i) (t ∷ ts) = omega (arith, sizes-take i ts)

pub size-bound : (k : ℕ) → type_size (type_of (Bound k)) ≡ 1
unfolding type_size
size-bound k = ap type_size (type_of-bound k)

pub size-free : (k : ℕ) → type_size (type_of (Free k)) ≡ 1
unfolding type_size
size-free k = ap type_size (type_of-free k)

pub size-row : (ls : Rc Labels Global) (ts : Vec (Rc MlType Global) Global) → type_size (type_of (V.Row ls ts)) ≡ suc (sizes (parts_of ts.items))
unfolding type_size
size-row ls ts = ap type_size (type_of-row ls ts)

pub size-arrow : (t u : Rc MlType Global)
    → type_size (type_of (V.Arrow t u)) ≡ suc (type_size (type_of t.value) + type_size (type_of u.value))
unfolding type_size types_size
size-arrow t u = omega (arith, ap type_size (type_of-arrow t u))

pub size-name : (n : TyName) (ts : Vec (Rc MlType Global) Global) → type_size (type_of (V.Name n ts)) ≡ suc (sizes (parts_of ts.items))
unfolding type_size
size-name n ts = ap type_size (type_of-name n ts)
