-- Copies of types with other types for their variables and other names, variant by variant.
use Rattle.std.proofs.Common.{◌≡◌, ◌<◌, ◌≤◌, ℕ, zero, suc, length, get_or, arith, Result, Ok, Err, IfOk, List, [], ◌∷◌, map, refl, ap, ◌∙◌, sym, Vec, Global}
use Rattle.std.specs.declared.rc.Rc.{Rc}
use Rattle.sml_objects.specs.Objects as O
use Rattle.sml_objects.specs.Initial.{Name}
use Rattle.sml_objects.specs.Types.{replace_type, replace_types, argument, argument_or}
use Rattle.sml_objects.specs.Objects.{types_of}
use Rattle.sml_objects.specs.Views.{type_of, label_list, name_of}
use Rattle.sml_objects.specs.declared.labels.Labels.{Labels}
use Rattle.sml_objects.specs.declared.objects.TyName.{TyName}
use Rattle.sml_objects.specs.declared.objects.MlType.{MlType, Bound, Free}
use Rattle.sml_objects.specs.declared.objects.MlType.TheViews as V
use Rattle.sml_objects.proofs.TypeViews.{parts_of, type_of-bound, type_of-free, type_of-row, type_of-arrow, type_of-name}
use Rattle.sml_objects.proofs.EnvViews.{map-map}

module _ (b f : ℕ → O.MlType Name) (r : Name → Name) where
  abbrev pub copy : O.MlType Name → O.MlType Name
  copy t = replace_type b f (O.rename_type r t)

  types-copy : (ts : List (O.MlType Name)) → types_of (map copy ts) ≡ replace_types b f (O.rename_types r (types_of ts))
  unfolding replace_type replace_types O.rename_type O.rename_types
  types-copy [] = refl
  types-copy (t ∷ ts) = ap (O.and_type (copy t)) (types-copy ts)

  pub copy-bound : (k : ℕ) → copy (type_of (Bound k)) ≡ b k
  unfolding replace_type O.rename_type
  copy-bound k = ap copy (type_of-bound k)

  pub copy-free : (v : ℕ) → copy (type_of (Free v)) ≡ f v
  unfolding replace_type O.rename_type
  copy-free v = ap copy (type_of-free v)

  pub copy-row : (ls ms : Rc Labels Global) (ts us : Vec (Rc MlType Global) Global) → label_list ms.value ≡ label_list ls.value
      → parts_of us.items ≡ map (λ t. copy (type_of t.value)) ts.items → type_of (V.Row ms us) ≡ copy (type_of (V.Row ls ts))
  unfolding replace_type O.rename_type
  copy-row ls ms ts us k h =
      let e = h ∙ sym (map-map copy (λ (t : Rc MlType Global). type_of t.value) ts.items) in
      type_of-row ms us
      ∙ (λ i. O.app (O.row (k i)) ((ap types_of e ∙ types-copy (parts_of ts.items)) i))
      ∙ ap copy (sym (type_of-row ls ts))

  pub copy-arrow : (t u v w : Rc MlType Global) → type_of v.value ≡ copy (type_of t.value) → type_of w.value ≡ copy (type_of u.value)
      → type_of (V.Arrow v w) ≡ copy (type_of (V.Arrow t u))
  unfolding replace_type replace_types O.rename_type O.rename_types
  copy-arrow t u v w h k = type_of-arrow v w ∙ (λ i. O.arrow_of (h i) (k i)) ∙ ap copy (sym (type_of-arrow t u))

  pub copy-name : (n m : TyName) (ts us : Vec (Rc MlType Global) Global) → name_of m ≡ r (name_of n)
      → parts_of us.items ≡ map (λ t. copy (type_of t.value)) ts.items → type_of (V.Name m us) ≡ copy (type_of (V.Name n ts))
  unfolding replace_type O.rename_type
  copy-name n m ts us k h =
      let e = h ∙ sym (map-map copy (λ (t : Rc MlType Global). type_of t.value) ts.items) in
      type_of-name m us
      ∙ (λ i. O.app (O.name (k i)) ((ap types_of e ∙ types-copy (parts_of ts.items)) i))
      ∙ ap copy (sym (type_of-name n ts))

pub shared-type : {E : Type 0} (r : Result (Rc MlType Global) E) (ty : MlType) (u : O.MlType Name) → type_of ty ≡ u
    → IfOk r (λ t. t.value ≡ ty) → IfOk r (λ t. type_of t.value ≡ u)
shared-type (Ok t) ty u e h = ap type_of h ∙ e
shared-type (Err x) ty u e h = h

mutual
  unfolding replace_type replace_types

  -- a type with its own variables in place of them
  pub unchanged : {N : Type 0} (t : O.MlType N) → replace_type O.bound O.free t ≡ t
  unchanged (O.bound k) = refl
  unchanged (O.free v) = refl
  unchanged (O.app h ts) = ap (O.app h) (all-unchanged ts)

  all-unchanged : {N : Type 0} (ts : O.MlTypes N) → replace_types O.bound O.free ts ≡ ts
  all-unchanged O.no_type = refl
  all-unchanged (O.and_type t ts) = λ i. O.and_type (unchanged t i) (all-unchanged ts i)

-- a type function that is applied to nothing
pub unapplied : (t : O.MlType Name) → replace_type (argument O.no_type) O.free t ≡ t
unapplied t = unchanged t

-- an argument of a type function
pub argument-at : (d : O.MlType Name) (k : ℕ) (ts : List (Rc MlType Global)) (t : Rc MlType Global) → k < length ts → t ≡ get_or ts k t → argument_or d (types_of (parts_of ts)) k ≡ type_of t.value
argument-at d k [] t h e = absurd (omega (arith, h))
argument-at d zero (u ∷ ts) t h e = ap (λ (t : Rc MlType Global). type_of t.value) (sym e)
argument-at d (suc k) (u ∷ ts) t h e = argument-at d k ts t (omega (arith, h)) e

-- what is past their end
pub no-argument : (d : O.MlType Name) (k : ℕ) (ts : List (Rc MlType Global)) → length ts ≤ k → argument_or d (types_of (parts_of ts)) k ≡ d
no-argument d k [] h = refl
no-argument d zero (u ∷ ts) h = absurd (omega (arith, h))
no-argument d (suc k) (u ∷ ts) h = no-argument d k ts (omega (arith, h))
