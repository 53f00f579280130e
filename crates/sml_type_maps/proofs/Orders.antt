-- The order of bound variables, variant by variant, and variables that stand at their own places.
use Rattle.std.proofs.Common.{◌≡◌, ℕ, Bool, true, false, cond, nat_eq, Option, Some, None, List, [], ◌∷◌, ◌++◌, map, position, slice_get, slice_index_or, length, ◌<◌, refl, ap, sym, ◌∙◌, Vec, Global}
use Rattle.std.proofs.lemmas.Bool.{eqb-true}
use Rattle.std.proofs.lemmas.List.{map-append}
use Rattle.std.proofs.lemmas.List.Quantifiers.{position-Some}
use Rattle.std.proofs.lemmas.Option.{get_or_from_slice_get}
use Rattle.std.specs.List.{list_any}
use Rattle.std.specs.Option.{option_map}
use Rattle.std.specs.declared.rc.Rc.{Rc}
use Rattle.sml_objects.specs.Objects as O
use Rattle.sml_objects.specs.Initial.{Name}
use Rattle.sml_objects.specs.Objects.{types_of}
use Rattle.sml_objects.specs.Types.{replace_type, replace_types}
use Rattle.sml_objects.specs.Fates.{type_or}
use Rattle.sml_objects.specs.Views.{type_of}
use Rattle.sml_objects.specs.declared.labels.Labels.{Labels}
use Rattle.sml_objects.specs.declared.objects.TyName.{TyName}
use Rattle.sml_objects.specs.declared.objects.MlType.{MlType, Bound, Free}
use Rattle.sml_objects.specs.declared.objects.MlType.TheViews as V
use Rattle.sml_objects.proofs.TypeViews.{type_of-bound, type_of-free, type_of-row, type_of-arrow, type_of-name}
use Rattle.sml_type_maps.specs.Mapped.{all_mapped, bound_at, mapped, seen}
use Rattle.sml_type_maps.specs.Orders.{all_bound_after, bound_after, ordered}

pub after-bound : (vs : List ℕ) (k : ℕ) → bound_after vs (type_of (Bound k)) ≡ cond (list_any (nat_eq k) vs) vs (vs ++ k ∷ [])
unfolding bound_after
after-bound vs k = ap (bound_after vs) (type_of-bound k)

pub after-free : (vs : List ℕ) (v : ℕ) → bound_after vs (type_of (Free v)) ≡ vs
unfolding bound_after
after-free vs v = ap (bound_after vs) (type_of-free v)

pub after-row : (vs : List ℕ) (ls : Rc Labels Global) (ts : Vec (Rc MlType Global) Global)
    → bound_after vs (type_of (V.Row ls ts)) ≡ all_bound_after vs (types_of (seen ts.items))
unfolding bound_after
after-row vs ls ts = ap (bound_after vs) (type_of-row ls ts)

pub after-arrow : (vs : List ℕ) (t u : Rc MlType Global)
    → bound_after vs (type_of (V.Arrow t u)) ≡ bound_after (bound_after vs (type_of t.value)) (type_of u.value)
unfolding bound_after all_bound_after
after-arrow vs t u = ap (bound_after vs) (type_of-arrow t u)

pub after-name : (vs : List ℕ) (n : TyName) (ts : Vec (Rc MlType Global) Global)
    → bound_after vs (type_of (V.Name n ts)) ≡ all_bound_after vs (types_of (seen ts.items))
unfolding bound_after
after-name vs n ts = ap (bound_after vs) (type_of-name n ts)

pub after-none : (vs : List ℕ) → all_bound_after {N = Name} vs O.no_type ≡ vs
unfolding all_bound_after
after-none vs = refl

all-push : (vs : List ℕ) (ts : List (O.MlType Name)) (t : O.MlType Name)
    → all_bound_after vs (types_of (ts ++ (t ∷ []))) ≡ bound_after (all_bound_after vs (types_of ts)) t
unfolding all_bound_after
all-push vs [] t = refl
all-push vs (u ∷ ts) t = all-push (bound_after vs u) ts t

pub after-push : (vs : List ℕ) (ts : List (Rc MlType Global)) (t : Rc MlType Global)
    → all_bound_after vs (types_of (seen (ts ++ (t ∷ [])))) ≡ bound_after (all_bound_after vs (types_of (seen ts))) (type_of t.value)
after-push vs ts t =
    ap (λ l. all_bound_after vs (types_of l)) (map-append (λ (t : Rc MlType Global). type_of t.value) ts (t ∷ []))
    ∙ all-push vs (seen ts) (type_of t.value)

-- names stay

mutual
  unfolding mapped all_mapped replace_type replace_types

  pub names-stay : (b f : ℕ → O.MlType Name) (t : O.MlType Name) → mapped b f (λ n ts. O.app (O.name n) ts) t ≡ replace_type b f t
  names-stay b f (O.bound k) = refl
  names-stay b f (O.free v) = refl
  names-stay b f (O.app O.arrow ts) = ap (O.app O.arrow) (all-names-stay b f ts)
  names-stay b f (O.app (O.row ls) ts) = ap (O.app (O.row ls)) (all-names-stay b f ts)
  names-stay b f (O.app (O.name n) ts) = ap (O.app (O.name n)) (all-names-stay b f ts)

  all-names-stay : (b f : ℕ → O.MlType Name) (ts : O.MlTypes Name) → all_mapped b f (λ n ts. O.app (O.name n) ts) ts ≡ replace_types b f ts
  all-names-stay b f O.no_type = refl
  all-names-stay b f (O.and_type t ts) = λ i. O.and_type (names-stay b f t i) (all-names-stay b f ts i)

-- each variable stays

mutual
  unfolding replace_type replace_types

  pub variables-stay : (b : ℕ → O.MlType Name) → ((k : ℕ) → b k ≡ O.bound k) → (t : O.MlType Name) → replace_type b O.free t ≡ t
  variables-stay b h (O.bound k) = h k
  variables-stay b h (O.free v) = refl
  variables-stay b h (O.app g ts) = ap (O.app g) (all-variables-stay b h ts)

  all-variables-stay : (b : ℕ → O.MlType Name) → ((k : ℕ) → b k ≡ O.bound k) → (ts : O.MlTypes Name) → replace_types b O.free ts ≡ ts
  all-variables-stay b h O.no_type = refl
  all-variables-stay b h (O.and_type t ts) = λ i. O.and_type (variables-stay b h t i) (all-variables-stay b h ts i)

pub at-own : (ks : List ℕ) → ((k i : ℕ) → position (nat_eq k) ks ≡ Some i → i ≡ k) → (k : ℕ) → bound_at {N = Name} ks k ≡ O.bound k
at-own ks h k = go (position (nat_eq k) ks) (h k)
  where
    go : (o : Option ℕ) → ((i : ℕ) → o ≡ Some i → i ≡ k) → ◌≡◌ {A = O.MlType Name} (type_or (O.bound k) (option_map (λ i. O.bound i) o)) (O.bound k)
    go None g = refl
    go (Some i) g = ap O.bound (g i refl)

-- the scheme of these attributes and this body, if they are those that stand there
pub ordered-as : (qs : List Bool) (t : O.MlType Name) (flags : List Bool) (body : O.MlType Name) (ks : List ℕ) → ks ≡ bound_after [] t
    → flags ≡ map (λ k. slice_index_or qs k false) ks → body ≡ replace_type (bound_at ks) O.free t
    → ◌≡◌ {A = O.Scheme Name} (record { variables = flags; body = body }) (ordered qs t)
ordered-as qs t flags body ks k a b = λ i. record {
  variables = (a ∙ ap (map (λ k. slice_index_or qs k false)) k) i;
  body = (b ∙ ap (λ l. replace_type (bound_at l) O.free t) k) i;
}

-- the k-th of variables at their own places
pub own-places : (ks : List ℕ) → ((j : ℕ) → j < length ks → slice_get ks j ≡ Some j) → (k i : ℕ) → position (nat_eq k) ks ≡ Some i → i ≡ k
own-places ks h k i p =
    let q = position-Some (nat_eq k) ks i 0 p in
    sym (eqb-true k i (ap (nat_eq k) (sym (get_or_from_slice_get ks i i 0 (h i q.0))) ∙ q.1))
