-- The names that type functions are, and where types admit equality, variant by variant.
use Rattle.std.proofs.Common.{◌≡◌, ℕ, suc, ◌+◌, ◌<◌, Bool, true, false, ◌&&◌, ◌||◌, nat_eq, cond, None, Some, List, [], ◌∷◌, length, get_or, drop, refl, ap, sym, ◌∙◌, Vec, Global, arith}
use Rattle.std.proofs.Math.Seq.{drop-cons}
use Rattle.std.proofs.lemmas.List.{length-map}
use Rattle.std.specs.declared.rc.Rc.{Rc}
use Rattle.sml_objects.specs.Objects as O
use Rattle.sml_objects.specs.Objects.{types_of}
use Rattle.sml_objects.specs.Initial.{Name, naming, attributes_of}
use Rattle.sml_objects.specs.Equality.{is_ref, is_reference_name, has_equality, admits_by, all_admit_by}
use Rattle.sml_objects.specs.Types.{replace_type, replace_types, instance_from}
use Rattle.sml_objects.specs.Views.{type_of, name_of}
use Rattle.sml_objects.specs.declared.labels.Labels.{Labels}
use Rattle.sml_objects.specs.declared.objects.TyName.{TyName}
use Rattle.sml_objects.specs.declared.objects.MlType.{MlType, Bound, Free}
use Rattle.sml_objects.specs.declared.objects.MlType.TheViews as V
use Rattle.sml_objects.proofs.EqualityViews.{is_ref-name}
use Rattle.sml_objects.proofs.SameTypes.{cases}
use Rattle.sml_objects.proofs.TypeViews.{type_of-bound, type_of-free, type_of-row, type_of-arrow, type_of-name}
use Rattle.sml_core_rules.specs.Types.{count_types}
use Rattle.sml_core_rules.specs.Values.{has_unknown, have_unknown}
use Rattle.sml_core_rules.specs.Functions.{are_parameters, named_type}
use Rattle.sml_type_maps.specs.Functions.{admits_where, all_admit_where}
use Rattle.sml_type_maps.specs.Mapped.{seen}

abbrev pub Parts : Type 0
Parts = List (Rc MlType Global)

-- the parts from one on
pub from-part : (xs : Parts) (i : ℕ) (x : Rc MlType Global) → i < length xs → x ≡ get_or xs i x → drop i xs ≡ x ∷ drop (suc i) xs
from-part xs i x h e = drop-cons xs i x h ∙ ap (λ y. y ∷ drop (suc i) xs) (sym e)

-- variables in order

abbrev pub in_order : ℕ → Parts → Bool
in_order k ts = are_parameters k (types_of (seen ts))

pub order-bound : (k v : ℕ) (ty : MlType) (ts : O.MlTypes Name) → ty ≡ Bound v → are_parameters k (O.and_type (type_of ty) ts) ≡ (nat_eq v k && are_parameters (suc k) ts)
unfolding are_parameters
order-bound k v ty ts e = ap (λ t. are_parameters k (O.and_type t ts)) (ap type_of e ∙ type_of-bound v)

pub order-other : (k : ℕ) (ty : MlType) (ts : O.MlTypes Name) → ((v : ℕ) → ty ≡ Bound v → ⊥) → are_parameters k (O.and_type (type_of ty) ts) ≡ false
unfolding are_parameters
order-other k ty ts h =
    let at : O.MlType Name → Bool = λ t. are_parameters k (O.and_type t ts) in
    cases {P = at (type_of ty) ≡ false} ty (λ v e. absurd (h v e)) (λ v e. ap at (ap type_of e ∙ type_of-free v)) (λ ls us e. ap at (ap type_of e ∙ type_of-row ls us))
    (λ t u e. ap at (ap type_of e ∙ type_of-arrow t u)) (λ n us e. ap at (ap type_of e ∙ type_of-name n us))

-- the part at an index, and those after it
pub order-at : (xs : Parts) (i : ℕ) (x : Rc MlType Global) (ty : MlType) → i < length xs → x ≡ get_or xs i x → ty ≡ x.value
    → in_order i (drop i xs) ≡ are_parameters i (O.and_type (type_of ty) (types_of (seen (drop (suc i) xs))))
order-at xs i x ty h e d =
    ap (in_order i) (from-part xs i x h e) ∙ ap (λ t. are_parameters i (O.and_type (type_of t) (types_of (seen (drop (suc i) xs))))) (sym d)

pub count-parts : (ts : List (O.MlType Name)) → count_types (types_of ts) ≡ length ts
count-parts [] = refl
count-parts (t ∷ ts) = ap suc (count-parts ts)

pub named-by : (k : ℕ) (n : TyName) (ts : Vec (Rc MlType Global) Global)
    → named_type k (type_of (V.Name n ts)) ≡ cond (nat_eq (length ts.items) k && in_order 0 ts.items) (Some (name_of n)) None
named-by k n ts =
    ap (named_type k) (type_of-name n ts)
    ∙ ap (λ c. cond (nat_eq c k && in_order 0 ts.items) (Some (name_of n)) None) (count-parts (seen ts.items) ∙ length-map ts.items (λ t. type_of t.value))

-- equality

module _ (w : ℕ → Bool) where
  pub where-bound : (k : ℕ) → admits_where w (type_of (Bound k)) ≡ w k
  unfolding admits_where
  where-bound k = ap (admits_where w) (type_of-bound k)

  pub where-free : (v : ℕ) → admits_where w (type_of (Free v)) ≡ false
  unfolding admits_where
  where-free v = ap (admits_where w) (type_of-free v)

  pub where-row : (ls : Rc Labels Global) (ts : Vec (Rc MlType Global) Global) → admits_where w (type_of (V.Row ls ts)) ≡ all_admit_where w (types_of (seen ts.items))
  unfolding admits_where
  where-row ls ts = ap (admits_where w) (type_of-row ls ts)

  pub where-arrow : (t u : Rc MlType Global) → admits_where w (type_of (V.Arrow t u)) ≡ false
  unfolding admits_where
  where-arrow t u = ap (admits_where w) (type_of-arrow t u)

  pub where-name : (n : TyName) (ts : Vec (Rc MlType Global) Global)
      → admits_where w (type_of (V.Name n ts)) ≡ is_reference_name (name_of n) || ((attributes_of (name_of n)).equality && all_admit_where w (types_of (seen ts.items)))
  unfolding admits_where
  where-name n ts = ap (admits_where w) (type_of-name n ts)

  pub where-next : (t : Rc MlType Global) (ts : Parts) → all_admit_where w (types_of (seen (t ∷ ts))) ≡ admits_where w (type_of t.value) && all_admit_where w (types_of (seen ts))
  unfolding all_admit_where
  where-next t ts = refl

  pub where-none : all_admit_where w O.no_type ≡ true
  unfolding all_admit_where
  where-none = refl

  -- where nothing is unknown, the bound variables may be taken for free ones

  neither : (a b : Bool) → (a || b) ≡ false → (a ≡ false) × (b ≡ false)
  neither true b h = cc
  neither false b h = (refl, h)

  mutual
    unfolding admits_where all_admit_where admits_by all_admit_by has_unknown have_unknown replace_type replace_types naming

    pub admits-known : (t : O.MlType Name) → has_unknown t ≡ false → admits_where w t ≡ admits_by (is_ref naming) w (has_equality naming) (instance_from 0 t)
    admits-known (O.bound k) h = let e : k ≡ 0 + k = omega arith in ap w e
    admits-known (O.free v) h = cc
    admits-known (O.app O.arrow ts) h = refl
    admits-known (O.app (O.row ls) ts) h = all-known ts h
    admits-known (O.app (O.name n) ts) h = λ i. sym (is_ref-name n) i || ((attributes_of n).equality && all-known ts h i)

    all-known : (ts : O.MlTypes Name) → have_unknown ts ≡ false
        → all_admit_where w ts ≡ all_admit_by (is_ref naming) w (has_equality naming) (replace_types (λ j. O.free (0 + j)) O.free ts)
    all-known O.no_type h = refl
    all-known (O.and_type t ts) h =
        let p = neither (has_unknown t) (have_unknown ts) h in
        λ i. admits-known t p.0 i && all-known ts p.1 i
