-- How many variables type functions need, by their bodies.
use Rattle.std.proofs.Common.{inl, inr, ◌⊎◌, ◌≡◌, ◌≤◌, ◌<◌, ℕ, suc, ◌+◌, max, cond, nat_eq, List, [], ◌∷◌, ◌++◌, length, take, get_or, refl, ap, sym, ◌∙◌, arith, Vec, Global}
use Rattle.std.proofs.lemmas.Bool.Decides.{nat_tests}
use Rattle.std.proofs.lemmas.Grind.{take_at_read}
use Rattle.std.proofs.lemmas.List.{map-append}
use Rattle.std.specs.declared.rc.Rc.{Rc}
use Rattle.sml_objects.specs.Objects as O
use Rattle.sml_objects.specs.Initial.{Name}
use Rattle.sml_objects.specs.Objects.{types_of}
use Rattle.sml_objects.specs.Views.{type_of}
use Rattle.sml_objects.specs.declared.labels.Labels.{Labels}
use Rattle.sml_objects.specs.declared.objects.TyName.{TyName}
use Rattle.sml_objects.specs.declared.objects.MlType.{MlType, Bound, Free}
use Rattle.sml_objects.specs.declared.objects.MlType.TheViews as V
use Rattle.sml_objects.proofs.TypeViews.{type_of-bound, type_of-free, type_of-row, type_of-arrow, type_of-name}
use Rattle.sml_type_maps.specs.Counted.{uses_in, uses_in_all}
use Rattle.sml_type_maps.specs.Functions.{arity_needed, arity_needed_all}
use Rattle.sml_type_maps.specs.Mapped.{seen}

pub arity-bound : (ty : MlType) (k : ℕ) → ty ≡ Bound k → arity_needed (type_of ty) ≡ k + 1
unfolding arity_needed
arity-bound ty k e = ap arity_needed (ap type_of e ∙ type_of-bound k) ∙ omega arith

pub arity-free : (ty : MlType) (v : ℕ) → ty ≡ Free v → arity_needed (type_of ty) ≡ 0
unfolding arity_needed
arity-free ty v e = ap arity_needed (ap type_of e ∙ type_of-free v)

-- a row, and a type name with its arguments
pub arity-parts : (ty : MlType) (ts : Vec (Rc MlType Global) Global) → ((ls : Rc Labels Global) × (ty ≡ V.Row ls ts)) ⊎ ((n : TyName) × (ty ≡ V.Name n ts))
    → arity_needed (type_of ty) ≡ arity_needed_all (types_of (seen ts.items))
unfolding arity_needed
arity-parts ty ts (inl e) = ap arity_needed (ap type_of e.1 ∙ type_of-row e.0 ts)
arity-parts ty ts (inr e) = ap arity_needed (ap type_of e.1 ∙ type_of-name e.0 ts)

pub arity-arrow : (ty : MlType) (t u : Rc MlType Global) → ty ≡ V.Arrow t u → arity_needed (type_of ty) ≡ max (arity_needed (type_of t.value)) (arity_needed (type_of u.value))
unfolding arity_needed arity_needed_all
arity-arrow ty t u e = ap arity_needed (ap type_of e ∙ type_of-arrow t u) ∙ omega arith

pub arity-none : arity_needed_all {N = Name} O.no_type ≡ 0
unfolding arity_needed_all
arity-none = refl

arity-push : (ts : List (O.MlType Name)) (t : O.MlType Name) → arity_needed_all (types_of (ts ++ (t ∷ []))) ≡ max (arity_needed_all (types_of ts)) (arity_needed t)
unfolding arity_needed_all
arity-push [] t = omega arith
arity-push (u ∷ ts) t = omega (arith, arity-push ts t)

-- the part at an index, after those before it
pub arity-next : (xs : List (Rc MlType Global)) (i : ℕ) (x : Rc MlType Global) → i < length xs → x ≡ get_or xs i x
    → arity_needed_all (types_of (seen (take (i + 1) xs))) ≡ max (arity_needed_all (types_of (seen (take i xs)))) (arity_needed (type_of x.value))
arity-next xs i x l at =
    let taken : take (i + 1) xs ≡ take i xs ++ (x ∷ []) = (take_at_read xs i x l).1 ∙ ap (λ y. take i xs ++ (y ∷ [])) (sym at) in
    ap (λ l. arity_needed_all (types_of (seen l))) taken
    ∙ ap (λ l. arity_needed_all (types_of l)) (map-append (λ (t : Rc MlType Global). type_of t.value) (take i xs) (x ∷ []))
    ∙ arity-push (seen (take i xs)) (type_of x.value)

other-unused : (k j : ℕ) → suc k ≤ j → ◌≡◌ {A = ℕ} (cond (nat_eq j k) 1 0) 0
other-unused k j l = grind (arith, nat_tests)

mutual
  unfolding arity_needed arity_needed_all uses_in uses_in_all

  -- a variable past those that are needed
  pub unneeded : (t : O.MlType Name) (j : ℕ) → arity_needed t ≤ j → uses_in t j ≡ 0
  unneeded (O.bound k) j l = other-unused k j l
  unneeded (O.free v) j l = refl
  unneeded (O.app h ts) j l = all-unneeded ts j l

  all-unneeded : (ts : O.MlTypes Name) (j : ℕ) → arity_needed_all ts ≤ j → uses_in_all ts j ≡ 0
  all-unneeded O.no_type j l = refl
  all-unneeded (O.and_type t ts) j l = omega (arith, unneeded t j (omega (arith, l)), all-unneeded ts j (omega (arith, l)))
