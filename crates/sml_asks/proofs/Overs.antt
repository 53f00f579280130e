-- Types that speak of the first unknowns alone.
use Rattle.std.proofs.Common.{◌≡◌, ◌↔◌, ℕ, zero, suc, ◌<◌, ◌≤◌, true, List, [], ◌∷◌, ◌++◌, length, get_or, subst, sym, ap, ◌∙◌, arith, Vec, Global}
use Rattle.std.proofs.Math.Dec.{ltb}
use Rattle.std.proofs.lemmas.Bool.{ltb-true, lt-ltb}
use Rattle.std.specs.declared.rc.Rc.{Rc}
use Rattle.std.specs.List.{AllByRecursion}
use Rattle.sml_objects.specs.Objects as O
use Rattle.sml_objects.specs.Initial.{Name}
use Rattle.sml_objects.specs.Objects.{types_of}
use Rattle.sml_objects.specs.Views.{type_of}
use Rattle.sml_objects.specs.declared.labels.Labels.{Labels}
use Rattle.sml_objects.specs.declared.objects.TyName.{TyName}
use Rattle.sml_objects.specs.declared.objects.MlType.{MlType, Bound, Free}
use Rattle.sml_objects.specs.declared.objects.MlType.TheViews as V
use Rattle.sml_objects.proofs.TypeViews.{parts_of, type_of-bound, type_of-free, type_of-row, type_of-arrow, type_of-name}
use Rattle.sml_graph.specs.Interned.{IsOver, AreOver, IsBodyOver, AreBodiesOver, demanded}

-- a body without variables of its own is a type
mutual
  unfolding IsOver AreOver IsBodyOver AreBodiesOver

  pub over-body : (n : ℕ) (t : O.MlType Name) → IsBodyOver 0 n t → IsOver n t
  over-body n (O.bound k) h = absurd (omega (arith, h))
  over-body n (O.free v) h = h
  over-body n (O.app x ts) h = over-bodies n ts h

  over-bodies : (n : ℕ) (ts : O.MlTypes Name) → AreBodiesOver 0 n ts → AreOver n ts
  over-bodies n O.no_type h = tt
  over-bodies n (O.and_type t ts) h = (over-body n t h.0, over-bodies n ts h.1)

mutual
  unfolding IsOver AreOver IsBodyOver AreBodiesOver

  pub body-over : (b n : ℕ) (t : O.MlType Name) → IsOver n t → IsBodyOver b n t
  body-over b n (O.bound k) h = absurd h
  body-over b n (O.free v) h = h
  body-over b n (O.app x ts) h = bodies-over b n ts h

  bodies-over : (b n : ℕ) (ts : O.MlTypes Name) → AreOver n ts → AreBodiesOver b n ts
  bodies-over b n O.no_type h = tt
  bodies-over b n (O.and_type t ts) h = (body-over b n t h.0, bodies-over b n ts h.1)

-- more unknowns
mutual
  unfolding IsOver AreOver

  pub over-more : (n m : ℕ) → n ≤ m → (t : O.MlType Name) → IsOver n t → IsOver m t
  over-more n m le (O.bound k) h = h
  over-more n m le (O.free v) h = omega (arith, h, le)
  over-more n m le (O.app x ts) h = all-over-more n m le ts h

  all-over-more : (n m : ℕ) → n ≤ m → (ts : O.MlTypes Name) → AreOver n ts → AreOver m ts
  all-over-more n m le O.no_type h = tt
  all-over-more n m le (O.and_type t ts) h = (over-more n m le t h.0, all-over-more n m le ts h.1)

module _ (b n : ℕ) where
  pub no-body : AreBodiesOver b n (types_of [])
  unfolding AreBodiesOver
  no-body = tt

  -- one type more
  pub bodies-more : (xs : List (Rc MlType Global)) (x : Rc MlType Global) → AreBodiesOver b n (types_of (parts_of xs)) → IsBodyOver b n (type_of x.value)
      → AreBodiesOver b n (types_of (parts_of (xs ++ x ∷ [])))
  unfolding AreBodiesOver
  bodies-more [] x a h = (h, tt)
  bodies-more (y ∷ ys) x a h = (a.0, bodies-more ys x a.1 h)

  -- one of the types
  pub body-at : (xs : List (Rc MlType Global)) (i : ℕ) (d : Rc MlType Global) → i < length xs → AreBodiesOver b n (types_of (parts_of xs))
      → IsBodyOver b n (type_of (get_or xs i d).value)
  unfolding AreBodiesOver
  body-at [] i d k h = absurd (omega (arith, k))
  body-at (x ∷ xs) zero d k h = h.0
  body-at (x ∷ xs) (suc i) d k h = body-at xs i d (omega (arith, k)) h.1

  pub body-bound : (x : MlType) (k : ℕ) → x ≡ Bound k → (ltb k b ≡ true) ↔ IsBodyOver b n (type_of x)
  unfolding IsBodyOver
  body-bound x k e = (λ h. subst (IsBodyOver b n) (sym (is x k e)) (ltb-true k b h), λ h. lt-ltb k b (subst (IsBodyOver b n) (is x k e) h))
    where
      is : (x : MlType) (k : ℕ) → x ≡ Bound k → type_of x ≡ O.bound k
      is x k e = ap type_of e ∙ type_of-bound k

  pub body-free : (x : MlType) (v : ℕ) → x ≡ Free v → (ltb v n ≡ true) ↔ IsBodyOver b n (type_of x)
  unfolding IsBodyOver
  body-free x v e = (λ h. subst (IsBodyOver b n) (sym (is x v e)) (ltb-true v n h), λ h. lt-ltb v n (subst (IsBodyOver b n) (is x v e) h))
    where
      is : (x : MlType) (v : ℕ) → x ≡ Free v → type_of x ≡ O.free v
      is x v e = ap type_of e ∙ type_of-free v

  pub body-row : (x : MlType) (ls : Rc Labels Global) (ts : Vec (Rc MlType Global) Global) → x ≡ V.Row ls ts
      → AreBodiesOver b n (types_of (parts_of ts.items)) ↔ IsBodyOver b n (type_of x)
  unfolding IsBodyOver
  body-row x ls ts e = let is = ap type_of e ∙ type_of-row ls ts in (subst (IsBodyOver b n) (sym is), subst (IsBodyOver b n) is)

  pub body-arrow : (x : MlType) (t u : Rc MlType Global) → x ≡ V.Arrow t u
      → (IsBodyOver b n (type_of t.value) × IsBodyOver b n (type_of u.value)) ↔ IsBodyOver b n (type_of x)
  unfolding IsBodyOver AreBodiesOver
  body-arrow x t u e =
      let is = ap type_of e ∙ type_of-arrow t u in
      (λ h. subst (IsBodyOver b n) (sym is) (h.0, (h.1, tt)), λ h. let k = subst (IsBodyOver b n) is h in (k.0, k.1.0))

  pub body-name : (x : MlType) (m : TyName) (ts : Vec (Rc MlType Global) Global) → x ≡ V.Name m ts
      → AreBodiesOver b n (types_of (parts_of ts.items)) ↔ IsBodyOver b n (type_of x)
  unfolding IsBodyOver
  body-name x m ts e = let is = ap type_of e ∙ type_of-name m ts in (subst (IsBodyOver b n) (sym is), subst (IsBodyOver b n) is)

abbrev pub Field : Type 0
Field = Rc (Vec ℕ Global) Global × Rc MlType Global

-- one field more
pub fields-more : (n : ℕ) (fs : List Field) (f : Field) → AllByRecursion (λ g. IsOver n g.1) (demanded fs) → IsOver n (type_of f.1.value)
    → AllByRecursion (λ g. IsOver n g.1) (demanded (fs ++ f ∷ []))
fields-more n [] f a h = (h, tt)
fields-more n (g ∷ fs) f a h = (a.0, fields-more n fs f a.1 h)

-- one of the fields
pub field-at : (n : ℕ) (fs : List Field) (i : ℕ) (d : Field) → i < length fs → AllByRecursion (λ g. IsOver n g.1) (demanded fs) → IsOver n (type_of (get_or fs i d).1.value)
field-at n [] i d k h = absurd (omega (arith, k))
field-at n (f ∷ fs) zero d k h = h.0
field-at n (f ∷ fs) (suc i) d k h = field-at n fs i d (omega (arith, k)) h.1
