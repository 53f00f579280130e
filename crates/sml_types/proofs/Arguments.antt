-- Arguments of type functions that are made, and those that aren't since no body uses them.
use Rattle.std.proofs.Common.{◌⊎◌, ◌≡◌, ◌<◌, ◌≤◌, ℕ, ◌+◌, min, nat_lt, false, List, [], ◌∷◌, ◌++◌, length, take, get_or, ap, ◌∙◌, sym, subst, arith}
use Rattle.std.proofs.lemmas.Bool.{ltb-false}
use Rattle.std.proofs.lemmas.Grind.{take_at_read}
use Rattle.std.proofs.lemmas.List.{length-map, length-take, map-append, take_all}
use Rattle.std.specs.declared.rc.Rc.{Rc}
use Rattle.std.specs.Global.{Global}
use Rattle.sml_objects.specs.Objects as O
use Rattle.sml_objects.specs.Initial.{Name}
use Rattle.sml_objects.specs.Objects.{types_of}
use Rattle.sml_objects.specs.Types.{argument, replace_type}
use Rattle.sml_objects.specs.Views.{type_of}
use Rattle.sml_objects.specs.declared.objects.MlType.{MlType}
use Rattle.sml_objects.proofs.TypeViews.{parts_of}
use Rattle.sml_type_maps.specs.Counted.{IsCountOf, uses_in}
use Rattle.sml_type_maps.specs.declared.sizes.Count.{Count}
use Rattle.sml_types.specs.Meant.{all_meant, meant}
use Rattle.sml_types.specs.declared.written.Written.{Written}
use Rattle.sml_types.proofs.Meanings.{AreAlike, alike-push, applied-alike, meanings}

long-before : (args : List (Rc Written Global)) (n : ℕ) → n < length args → length (meanings (take n args)) ≡ n
long-before args n l = omega (arith, length-map (take n args) (λ (w : Rc Written Global). meant w.value), length-take n args)

-- the next argument
pub alike-next : (f : ℕ → ℕ) (old new : List (Rc MlType Global)) (r : Rc MlType Global) (args : List (Rc Written Global)) (x : Rc Written Global) (n m : ℕ)
    → new ≡ old ++ (r ∷ []) → n < length args → x ≡ get_or args n x → m ≡ n + 1 → (f n ≡ 0) ⊎ (type_of r.value ≡ meant x.value)
    → AreAlike f (parts_of old) (meanings (take n args)) → AreAlike f (parts_of new) (meanings (take m args))
alike-next f old new r args x n m more l at next one alike =
    let typed : parts_of new ≡ parts_of old ++ (type_of r.value ∷ []) = ap parts_of more ∙ map-append (λ (t : Rc MlType Global). type_of t.value) old (r ∷ []) in
    let taken : take m args ≡ take n args ++ (x ∷ []) = ap (λ k. take k args) next ∙ (take_at_read args n x l).1 ∙ ap (λ y. take n args ++ (y ∷ [])) (sym at) in
    let said : meanings (take m args) ≡ meanings (take n args) ++ (meant x.value ∷ []) = ap meanings taken ∙ map-append (λ (w : Rc Written Global). meant w.value) (take n args) (x ∷ []) in
    let here : (f (length (meanings (take n args))) ≡ 0) ⊎ (type_of r.value ≡ meant x.value) =
    subst (λ k. (f k ≡ 0) ⊎ (type_of r.value ≡ meant x.value)) (sym (long-before args n l)) one in
    subst (λ l. AreAlike f l (meanings (take m args))) (sym typed)
    (subst (λ l. AreAlike f (parts_of old ++ (type_of r.value ∷ [])) l) (sym said)
    (alike-push f (parts_of old) (meanings (take n args)) (type_of r.value) (meant x.value) alike here))

-- a variable that a count which isn't large says is unused
pub unused : (t : O.MlType Name) (n k u : ℕ) (c : Count) → IsCountOf n t c → nat_lt 10000 c.nodes ≡ false → k < n → u ≡ get_or c.uses.items k 0 → u ≡ 0 → uses_in t k ≡ 0
unused t n k u c is small l at none =
    let same : min u 4294967295 ≡ min (uses_in t k) 4294967295 =
    ap (λ z. min z 4294967295) at ∙ is.each (ltb-false 10000 c.nodes small) k l in
    omega arith

-- all arguments
pub alike-all : (t : O.MlType Name) (ts : List (Rc MlType Global)) (args : List (Rc Written Global)) (n : ℕ) → length args ≤ n
    → AreAlike (uses_in t) (parts_of ts) (meanings (take n args))
    → replace_type (argument (types_of (parts_of ts))) O.free t ≡ replace_type (argument (all_meant args)) O.free t
alike-all t ts args n l alike =
    applied-alike (parts_of ts) (meanings args) t (subst (λ l. AreAlike (uses_in t) (parts_of ts) (meanings l)) (take_all n args l) alike)
