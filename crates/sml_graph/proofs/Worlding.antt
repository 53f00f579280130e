-- What a head over types determines, in each world.
use Rattle.std.proofs.Common.{◌≡◌, ℕ, List, [], ◌∷◌, length, Some, None, sym, ◌∙◌, ap, refl}
use Rattle.std.proofs.lemmas.List.{ext_get_or}
use Rattle.sml_objects.specs.Initial.{Name}
use Rattle.sml_objects.specs.Objects.{MlType, Head, app, types_of}
use Rattle.sml_layers.specs.Worlds.{World, finite, infinite, make}
use Rattle.sml_graph.specs.Worlds.{In, InfiniteType}

pub types_of-injective : (ts us : List (MlType Name)) → types_of ts ≡ types_of us → ts ≡ us
types_of-injective [] [] e = refl
types_of-injective [] (u ∷ us) e = cc
types_of-injective (t ∷ ts) [] e = cc
types_of-injective (t ∷ ts) (u ∷ us) e =
    let a : t ≡ u = cc in
    let b : types_of ts ≡ types_of us = cc in
    let r : ts ≡ us = types_of-injective ts us b in
    cc

-- one type has one head and one list of parts
make_head : (w : World) (h k : Head Name) (ts us : List (In w)) → make w h ts ≡ make w k us → h ≡ k
make_head finite h k ts us e = let f : app h (types_of ts) ≡ app k (types_of us) = e in cc
make_head infinite h k ts us e =
    let f : Some (h, length ts) ≡ Some (k, length us) = ap (λ (t : InfiniteType). t []) e in
    let g : (h, length ts) ≡ (k, length us) = cc in
    ap (λ (p : Head Name × ℕ). p.0) g

make_parts : (w : World) (h k : Head Name) (ts us : List (In w)) → make w h ts ≡ make w k us → ts ≡ us
make_parts finite h k ts us e =
    let f : app h (types_of ts) ≡ app k (types_of us) = e in
    let g : types_of ts ≡ types_of us = cc in
    types_of-injective ts us g
make_parts infinite h k ts us e =
    let f : Some (h, length ts) ≡ Some (k, length us) = ap (λ (t : InfiniteType). t []) e in
    let g : (h, length ts) ≡ (k, length us) = cc in
    let n : length ts ≡ length us = ap (λ (p : Head Name × ℕ). p.1) g in
    let below : ℕ → InfiniteType → InfiniteType = λ i t path. t (i ∷ path) in
    ext_get_or (λ _. None) ts us n (λ i l. ap (below i) e)

pub app_head : (w : World) (t : In w) (h k : Head Name) (ts us : List (In w)) → t ≡ make w h ts → t ≡ make w k us → h ≡ k
app_head w t h k ts us a b = make_head w h k ts us (sym a ∙ b)

pub app_parts : (w : World) (t : In w) (h k : Head Name) (ts us : List (In w)) → t ≡ make w h ts → t ≡ make w k us → ts ≡ us
app_parts w t h k ts us a b = make_parts w h k ts us (sym a ∙ b)
