-- The program's test for equal names.
use Rattle.std.proofs.Common.{◌≡◌, ℕ, suc, Bool, true, false, cond, ◌-◌, ◌&&◌, ◌||◌, List, [], ◌∷◌, ◌++◌, map, refl, ap, sym, ◌∙◌, arith}
use Rattle.std.proofs.lemmas.List.{map-append}
use Rattle.std.proofs.lemmas.Bool.{eqb-true, eq-eqb}
use Rattle.std.specs.List.{list_any}
use Rattle.std.specs.Cmp.{booleans_Decides}
use Rattle.std.specs.Bool.{if◌then◌else◌}
use Rattle.sml_objects.specs.Initial.{Name, initial, made, naming}
use Rattle.sml_objects.specs.Appearance.{stands}
use Rattle.sml_objects.specs.Views.{name_of, initial_of}
use Rattle.sml_objects.specs.declared.objects.Initial.{Initial}
use Rattle.sml_objects.specs.declared.objects.Initial.TheVariants as I
use Rattle.sml_objects.specs.declared.objects.TyName.{TyName}
use Rattle.sml_objects.specs.declared.objects.TyName.TheVariants as T
use Rattle.sml_objects.specs.contracts.objects.TyNamePartialEq.TheImpl.{ghosts}

abbrev pub eq : TyName → TyName → Bool
eq = ghosts.eq

pub both : (a b : Bool) → (a && b) ≡ true → (a ≡ true) × (b ≡ true)
both true b h = (refl, h)
both false b h = cc

initial-same : (k l : Initial) → eq (T.Initial k) (T.Initial l) ≡ true → initial_of k ≡ initial_of l
initial-same I.Int I.Int e = refl
initial-same I.Word I.Word e = refl
initial-same I.Char I.Char e = refl
initial-same I.String I.String e = refl
initial-same I.Bool I.Bool e = refl
initial-same I.Exn I.Exn e = refl
initial-same I.Real I.Real e = refl
initial-same I.List I.List e = refl
initial-same I.Ref I.Ref e = refl
initial-same k l e = cc

same-initial : (k l : Initial) → initial_of k ≡ initial_of l → eq (T.Initial k) (T.Initial l) ≡ true
same-initial I.Int I.Int e = refl
same-initial I.Word I.Word e = refl
same-initial I.Char I.Char e = refl
same-initial I.String I.String e = refl
same-initial I.Bool I.Bool e = refl
same-initial I.Exn I.Exn e = refl
same-initial I.Real I.Real e = refl
same-initial I.List I.List e = refl
same-initial I.Ref I.Ref e = refl
same-initial k l e = cc

and-true : (a b : Bool) → a ≡ true → b ≡ true → (a && b) ≡ true
and-true a b h k = λ i. h i && k i

pub eq-same : (x y : TyName) → eq x y ≡ true → name_of x ≡ name_of y
eq-same (T.Initial k) (T.Initial l) e = ap initial (initial-same k l e)
eq-same (T.Initial k) (T.Made m) e = cc
eq-same (T.Made m) (T.Initial l) e = cc
eq-same (T.Made m) (T.Made n) e =
    let u = both _ _ e in
    let v = both _ _ u.1 in
    let w = both _ _ v.1 in
    λ i. made (suc (eqb-true m.unit.index n.unit.index u.0 i)) (eqb-true m.number n.number v.0 i) (eqb-true m.arity n.arity w.0 i)
    ((booleans_Decides m.equality n.equality).0 w.1 i)

maker : Name → ℕ
maker (initial k) = 0
maker (made u n a q) = u - 1

pub same-eq : (x y : TyName) → name_of x ≡ name_of y → eq x y ≡ true
unfolding maker
same-eq (T.Initial k) (T.Initial l) e = same-initial k l (cc)
same-eq (T.Initial k) (T.Made m) e = cc
same-eq (T.Made m) (T.Initial l) e = cc
same-eq (T.Made m) (T.Made n) e =
    let u : m.unit.index ≡ n.unit.index = omega (arith, ap maker e) in
    let k : m.number ≡ n.number = cc in
    let a : m.arity ≡ n.arity = cc in
    let q : m.equality ≡ n.equality = cc in
    and-true _ _ (eq-eqb _ _ u) (and-true _ _ (eq-eqb _ _ k) (and-true _ _ (eq-eqb _ _ a) ((booleans_Decides m.equality n.equality).1 q)))

abbrev pub same : Name → Name → Bool
same n m = elim (naming.same n m) [ yes _ ↦ true | no _ ↦ false ]

not-true : (b : Bool) → ¬ (b ≡ true) → b ≡ false
not-true true h = absurd (h refl)
not-true false h = refl

pub eq-is : (x y : TyName) → eq x y ≡ same (name_of x) (name_of y)
unfolding naming
eq-is x y =
    elim (naming.same (name_of x) (name_of y)) as (λ d. eq x y ≡ elim d [ yes _ ↦ true | no _ ↦ false ]) [
      | yes e ↦ same-eq x y e
      | no h ↦ not-true (eq x y) (λ t. h (eq-same x y t))
    ]

pub stands-any : (n : TyName) (ms : List TyName) → stands naming (name_of n) (map name_of ms) ≡ list_any (eq n) ms
unfolding stands naming
stands-any n [] = refl
stands-any n (m ∷ ms) =
    elim (naming.same (name_of n) (name_of m)) as
    (λ d. (elim d [ yes _ ↦ true | no _ ↦ stands naming (name_of n) (map name_of ms) ])
    ≡ (elim d [ yes _ ↦ true | no _ ↦ false ]) || stands naming (name_of n) (map name_of ms)) [ yes _ ↦ refl | no _ ↦ refl ]
    ∙ (λ i. sym (eq-is n m) i || stands-any n ms i)

-- a name inserted into a set
pub inserted : (n : TyName) (old new : List TyName) → new ≡ (if list_any (eq n) old then old else old ++ (n ∷ []))
    → map name_of new ≡ cond (stands naming (name_of n) (map name_of old)) (map name_of old) (map name_of old ++ (name_of n ∷ []))
inserted n old new h =
    ap (map name_of) h
    ∙ (elim (list_any (eq n) old) as
    (λ b. map name_of (if b then old else old ++ (n ∷ [])) ≡ cond b (map name_of old) (map name_of old ++ (name_of n ∷ []))) [
      | true ↦ refl
      | false ↦ map-append name_of old (n ∷ [])
    ])
    ∙ ap (λ b. cond b (map name_of old) (map name_of old ++ (name_of n ∷ []))) (sym (stands-any n old))
