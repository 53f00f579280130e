-- What limits ask of types and of their parts.
use Rattle.std.proofs.Common.{◌≡◌, ℕ, ◌^◌, ◌<◌, ◌≤◌, ◌⊎◌, inl, inr, Bool, true, false, ◌&&◌, ◌||◌, not, cond, nat_lt, Option, Some, None, List, [], ◌∷◌, length, map, sym, ◌∙◌, ap, subst, refl, arith, nat_eq, eq-eqb}
use Rattle.std.proofs.lemmas.Bool.{ltb-false, ltb-true, eqb-true}
use Rattle.std.proofs.lemmas.List.{length-map}
use Rattle.std.specs.List.{AllByRecursion}
use Rattle.sml_objects.specs.Names as N
use Rattle.sml_objects.specs.Initial.{Name, initial, made, naming, attributes_of}
use Rattle.sml_objects.specs.Equality.{admits, all_admit, is_reference_name, admits_by, all_admit_by}
use Rattle.sml_objects.specs.Objects.{MlType, MlTypes, Head, bound, free, app, arrow, row, name, no_type, and_type, named, types_of}
use Rattle.sml_objects.proofs.EqualityViews.{is_ref-name}
use Rattle.sml_layers.specs.declared.class.Names.{Names}
use Rattle.sml_layers.specs.declared.layer.Layer.{Layer}
use Rattle.sml_layers.specs.declared.layer.Layer.TheVariants.{Equations, Finiteness, Newness, Locality, Equality, Classes, Rigidity}
use Rattle.sml_graph.specs.declared.limits.Limit.{Limit}
use Rattle.sml_graph.specs.declared.node.Node.{Node}
use Rattle.sml_graph.specs.declared.node.Node.TheVariants.{Unknown, Link, App, Open}
use Rattle.sml_layers.specs.Worlds.{finite, make}
use Rattle.sml_graph.specs.Worlds.{Assignment}
use Rattle.sml_graph.specs.Graphs.{parts, head_over, fields_of, Agrees, IsKnown}
use Rattle.sml_tree.specs.Trees.{Id}
use Rattle.sml_objects.specs.Maps.{lookup}
use Rattle.sml_objects.specs.Labels.{with_labels}
use Rattle.sml_layers.specs.Rows.{fields_at}
use Rattle.sml_graph.specs.Rows.{kids_of}
use Rattle.sml_graph.proofs.Rowing.{set_fields, labels_in, values_in, components, list_of, types-list_of, open_row, open-all, all-components, all-at-fields, row-found}
use Rattle.sml_graph.specs.Bounds.{IsNameWithin, IsHeadWithin, IsWithin, AreWithin}
use Rattle.sml_layers.specs.Classes.{allows, both_names}
use Rattle.sml_graph.specs.Limits.{no_limit, MeetsBound, MeetsEquality, MeetsClass, MeetsAt, KeepsThrough, IsUnder, IsOfBoth, both_bounds, both_classes, both, FitsBound, FitsEquality, FitsClass, FitsAt, IsFitUnknown, IsFitNode, asks_parts, for_parts, handed, bound_height, class_height, height}
use Rattle.sml_layers.specs.Layers.{index_of}
use Rattle.sml_layers.specs.declared.variable.Variable.{Variable}
use Rattle.sml_graph.specs.declared.variables.Variables.{Variables}
use Rattle.sml_graph.specs.declared.variables.Variables.TheVariants as V
use Rattle.sml_graph.specs.Variables.{variable_type, is_same, both_variables, MeetsVariables, FitsVariables, IsPossible, stand_in, variables_height}

-- types within a bound

pub head-within : (u n : ℕ) (h : Head Name) (ts : List (MlType Name)) → IsWithin u n (app h (types_of ts)) → IsHeadWithin u n h
unfolding IsWithin
head-within u n h ts w = w.0

pub parts-within : (u n : ℕ) (h : Head Name) (ts : List (MlType Name)) → IsWithin u n (app h (types_of ts)) → AllByRecursion (IsWithin u n) ts
unfolding IsWithin AreWithin
parts-within u n h [] w = tt
parts-within u n h (t ∷ ts) w = (w.1.0, parts-within u n h ts (w.0, w.1.1))

pub within-app : (u n : ℕ) (h : Head Name) (ts : List (MlType Name)) → IsHeadWithin u n h → AllByRecursion (IsWithin u n) ts → IsWithin u n (app h (types_of ts))
unfolding IsWithin AreWithin
within-app u n h [] a b = (a, tt)
within-app u n h (t ∷ ts) a b = (a, (b.0, (within-app u n h ts a b.1).1))

name-more : (u m n : ℕ) (x : Name) → m ≤ n → IsNameWithin u m x → IsNameWithin u n x
name-more u m n (initial k) h w = tt
name-more u m n (made v k a q) h w = λ e. let x = w e in omega (arith, x, h)

head-more : (u m n : ℕ) (x : Head Name) → m ≤ n → IsHeadWithin u m x → IsHeadWithin u n x
head-more u m n arrow h w = tt
head-more u m n (row ls) h w = tt
head-more u m n (name x) h w = name-more u m n x h w

mutual
  unfolding IsWithin AreWithin

  within-more : (u m n : ℕ) (t : MlType Name) → m ≤ n → IsWithin u m t → IsWithin u n t
  within-more u m n (bound k) h w = tt
  within-more u m n (free v) h w = tt
  within-more u m n (app x ts) h w = (head-more u m n x h w.0, are-within-more u m n ts h w.1)

  are-within-more : (u m n : ℕ) (ts : MlTypes Name) → m ≤ n → AreWithin u m ts → AreWithin u n ts
  are-within-more u m n no_type h w = tt
  are-within-more u m n (and_type t ts) h w = (within-more u m n t h w.0, are-within-more u m n ts h w.1)

-- what two limits ask together

lower-cases : (m n : ℕ) (P : ℕ → Type 0) → (n < m → P n) → (m ≤ n → P m) → P (cond (nat_lt n m) n m)
lower-cases m n P f g = go (nat_lt n m) refl where
  go : (b : Bool) → nat_lt n m ≡ b → P (cond b n m)
  go true e = f (ltb-true n m e)
  go false e = g (ltb-false n m e)

bounds-left : (u : ℕ) (a b : Option ℕ) (t : MlType Name) → MeetsBound u (both_bounds a b) t → MeetsBound u a t
bounds-left u None b t w = tt
bounds-left u (Some m) None t w = w
bounds-left u (Some m) (Some n) t w = lower-cases m n (λ k. IsWithin u k t → IsWithin u m t) (λ l. within-more u n m t (omega (arith, l))) (λ l w. w) w

bounds-right : (u : ℕ) (a b : Option ℕ) (t : MlType Name) → MeetsBound u (both_bounds a b) t → MeetsBound u b t
bounds-right u None b t w = w
bounds-right u (Some m) None t w = tt
bounds-right u (Some m) (Some n) t w = lower-cases m n (λ k. IsWithin u k t → IsWithin u n t) (λ l w. w) (λ l. within-more u m n t l) w

bounds-both : (u : ℕ) (a b : Option ℕ) (t : MlType Name) → MeetsBound u a t → MeetsBound u b t → MeetsBound u (both_bounds a b) t
bounds-both u None b t v w = w
bounds-both u (Some m) None t v w = v
bounds-both u (Some m) (Some n) t v w = lower-cases m n (λ k. IsWithin u k t) (λ l. w) (λ l. v)

equality-left : (a b : Bool) (t : MlType Name) → MeetsEquality (a || b) t → MeetsEquality a t
equality-left true b t w = w
equality-left false b t w = tt

equality-right : (a b : Bool) (t : MlType Name) → MeetsEquality (a || b) t → MeetsEquality b t
equality-right true true t w = w
equality-right true false t w = tt
equality-right false b t w = w

equality-both : (a b : Bool) (t : MlType Name) → MeetsEquality a t → MeetsEquality b t → MeetsEquality (a || b) t
equality-both true b t v w = v
equality-both false b t v w = w

pub and-left : (a b : Bool) → (a && b) ≡ true → a ≡ true
and-left true b e = refl
and-left false b e = e

pub and-right : (a b : Bool) → (a && b) ≡ true → b ≡ true
and-right true b e = e
and-right false b e = absurd (elim b as (λ _. ⊥) [ true ↦ cc | false ↦ cc ])

and-both : (a b : Bool) → a ≡ true → b ≡ true → (a && b) ≡ true
and-both true b e f = f
and-both false b e f = e

allows-both : (c d : Names) (k : N.Initial) → allows (both_names c d) k ≡ (allows c k && allows d k)
allows-both c d N.int = refl
allows-both c d N.word = refl
allows-both c d N.char = refl
allows-both c d N.string = refl
allows-both c d N.bool = refl
allows-both c d N.exn = refl
allows-both c d N.real = refl
allows-both c d N.list = refl
allows-both c d N.ref = refl

classes-left : (a b : Option Names) (t : MlType Name) → MeetsClass (both_classes a b) t → MeetsClass a t
classes-left None b t w = tt
classes-left (Some c) None t w = w
classes-left (Some c) (Some d) t w = (w.0, and-left (allows c w.0) (allows d w.0) (sym (allows-both c d w.0) ∙ w.1), w.2)

classes-right : (a b : Option Names) (t : MlType Name) → MeetsClass (both_classes a b) t → MeetsClass b t
classes-right None b t w = w
classes-right (Some c) None t w = tt
classes-right (Some c) (Some d) t w = (w.0, and-right (allows c w.0) (allows d w.0) (sym (allows-both c d w.0) ∙ w.1), w.2)

classes-both : (a b : Option Names) (t : MlType Name) → MeetsClass a t → MeetsClass b t → MeetsClass (both_classes a b) t
classes-both None b t v w = w
classes-both (Some c) None t v w = v
classes-both (Some c) (Some d) t v w =
    let e : named (initial w.0) ≡ named (initial v.0) = sym w.2 ∙ v.2 in
    let k : w.0 ≡ v.0 = cc in
    (v.0, allows-both c d v.0 ∙ and-both (allows c v.0) (allows d v.0) v.1 (ap (allows d) (sym k) ∙ w.1), v.2)

equal-flags : (a b : Bool) → cond a b (not b) ≡ true → a ≡ b
equal-flags true true e = refl
equal-flags true false e = cc
equal-flags false true e = cc
equal-flags false false e = refl

same-flag : (a : Bool) → cond a a (not a) ≡ true
same-flag true = refl
same-flag false = refl

same-parts : (x y : Variable) → is_same x y ≡ true → (x.number ≡ y.number) × (x.equality ≡ y.equality)
same-parts x y e = (eqb-true x.number y.number (and-left (nat_eq x.number y.number) (cond x.equality y.equality (not y.equality)) e), equal-flags x.equality y.equality (and-right (nat_eq x.number y.number) (cond x.equality y.equality (not y.equality)) e))

parts-same : (x y : Variable) → x.number ≡ y.number → x.equality ≡ y.equality → is_same x y ≡ true
parts-same x y e f = and-both (nat_eq x.number y.number) (cond x.equality y.equality (not y.equality)) (eq-eqb x.number y.number e) (subst (λ b. cond x.equality b (not b) ≡ true) f (same-flag x.equality))

same-cases : (x y : Variable) (P : Variables → Type 0) → (x.number ≡ y.number → x.equality ≡ y.equality → P (V.One x)) → ((variable_type x ≡ variable_type y → ⊥) → P V.Several) → P (both_variables (V.One x) (V.One y))
same-cases x y P f g = go (is_same x y) refl where
  go : (b : Bool) → is_same x y ≡ b → P (cond b (V.One x) V.Several)
  go true e = let p = same-parts x y e in f p.0 p.1
  go false e = g (λ q. let n : x.number ≡ y.number = cc in let m : x.equality ≡ y.equality = cc in let z : false ≡ true = sym e ∙ parts-same x y n m in cc)

variables-left : (a b : Variables) (t : MlType Name) → MeetsVariables (both_variables a b) t → MeetsVariables a t
variables-left V.Any b t w = tt
variables-left (V.One x) V.Any t w = w
variables-left (V.One x) (V.One y) t w = same-cases x y (λ v. MeetsVariables v t → t ≡ variable_type x) (λ n m w. w) (λ d w. absurd w) w
variables-left (V.One x) V.Several t w = absurd w
variables-left V.Several b t w = w

variables-right : (a b : Variables) (t : MlType Name) → MeetsVariables (both_variables a b) t → MeetsVariables b t
variables-right V.Any b t w = w
variables-right (V.One x) V.Any t w = tt
variables-right (V.One x) (V.One y) t w = same-cases x y (λ v. MeetsVariables v t → t ≡ variable_type y) (λ n m w. w ∙ (λ i. named (made 0 (n i) 0 (m i)))) (λ d w. absurd w) w
variables-right (V.One x) V.Several t w = w
variables-right V.Several b t w = absurd w

variables-both : (a b : Variables) (t : MlType Name) → MeetsVariables a t → MeetsVariables b t → MeetsVariables (both_variables a b) t
variables-both V.Any b t v w = w
variables-both (V.One x) V.Any t v w = v
variables-both (V.One x) (V.One y) t v w = same-cases x y (λ z. MeetsVariables z t) (λ n m. v) (λ d. d (sym v ∙ w))
variables-both (V.One x) V.Several t v w = w
variables-both V.Several b t v w = v

pub both-left : (a b : Limit) → IsUnder (both a b) a
both-left a b Equations u t w = tt
both-left a b Finiteness u t w = tt
both-left a b Newness u t w = bounds-left u a.newness b.newness t w
both-left a b Locality u t w = bounds-left u a.locality b.locality t w
both-left a b Equality u t w = equality-left a.equality b.equality t w
both-left a b Classes u t w = classes-left a.class b.class t w
both-left a b Rigidity u t w = variables-left a.variables b.variables t w

pub both-right : (a b : Limit) → IsUnder (both a b) b
both-right a b Equations u t w = tt
both-right a b Finiteness u t w = tt
both-right a b Newness u t w = bounds-right u a.newness b.newness t w
both-right a b Locality u t w = bounds-right u a.locality b.locality t w
both-right a b Equality u t w = equality-right a.equality b.equality t w
both-right a b Classes u t w = classes-right a.class b.class t w
both-right a b Rigidity u t w = variables-right a.variables b.variables t w

pub both-meets : (a b : Limit) → IsOfBoth a b (both a b)
both-meets a b Equations u t v w = tt
both-meets a b Finiteness u t v w = tt
both-meets a b Newness u t v w = bounds-both u a.newness b.newness t v w
both-meets a b Locality u t v w = bounds-both u a.locality b.locality t v w
both-meets a b Equality u t v w = equality-both a.equality b.equality t v w
both-meets a b Classes u t v w = classes-both a.class b.class t v w
both-meets a b Rigidity u t v w = variables-both a.variables b.variables t v w

pub none-meets : (l : Layer) (u : ℕ) (t : MlType Name) → MeetsAt l u no_limit t
none-meets Equations u t = tt
none-meets Finiteness u t = tt
none-meets Newness u t = tt
none-meets Locality u t = tt
none-meets Equality u t = tt
none-meets Classes u t = tt
none-meets Rigidity u t = tt

-- how much a limit is lowered

bound-lower : (a b : Option ℕ) → ((n : ℕ) → b ≡ Some n → n < 2 ^ 32) → (both_bounds a b ≡ a) ⊎ (bound_height (both_bounds a b) < bound_height a)
bound-lower None None f = inl refl
bound-lower None (Some n) f = inr (f n refl)
bound-lower (Some m) None f = inl refl
bound-lower (Some m) (Some n) f = lower-cases m n (λ k. (Some k ≡ Some m) ⊎ (k < m)) (λ l. inr l) (λ l. inl refl)

at-most : {A : Type 0} (h : A → ℕ) (x a : A) → (x ≡ a) ⊎ (h x < h a) → h x ≤ h a
at-most h x a (inl e) = let f = ap h e in omega (arith, f)
at-most h x a (inr l) = omega (arith, l)

equality-lower : (a b : Bool) → ((a || b) ≡ a) ⊎ (cond (a || b) 0 1 < cond a 0 1)
equality-lower true b = inl refl
equality-lower false true = inr (omega arith)
equality-lower false false = inl refl

flag-lower : (a b : Bool) → ((a && b) ≡ a) ⊎ (cond (a && b) 1 0 < cond a 1 0)
flag-lower true true = inl refl
flag-lower true false = inr (omega arith)
flag-lower false b = inl refl

flag-few : (a : Bool) → cond a 1 0 ≤ 1
flag-few true = omega arith
flag-few false = omega arith

class-lower : (a b : Option Names) → (both_classes a b ≡ a) ⊎ (class_height (both_classes a b) < class_height a)
class-lower None None = inl refl
class-lower None (Some d) = let x = flag-few d.word in let y = flag-few d.real in let z = flag-few d.text in inr (omega (arith, x, y, z))
class-lower (Some c) None = inl refl
class-lower (Some c) (Some d) =
    let p = flag-lower c.word d.word in
    let q = flag-lower c.real d.real in
    let r = flag-lower c.text d.text in
    let p' = at-most (λ b. cond b 1 0) (c.word && d.word) c.word p in
    let q' = at-most (λ b. cond b 1 0) (c.real && d.real) c.real q in
    let r' = at-most (λ b. cond b 1 0) (c.text && d.text) c.text r in
    elim p [
      | inr x ↦ inr (omega (arith, x, q', r'))
      | inl x ↦
          elim q [
            | inr y ↦ inr (omega (arith, p', y, r'))
            | inl y ↦
                elim r [
                  | inr z ↦ inr (omega (arith, p', q', z))
                  | inl z ↦ inl (λ i. Some (record { word = x i; real = y i; text = z i }))
                ]
          ]
    ]

variables-lower : (a b : Variables) → (both_variables a b ≡ a) ⊎ (variables_height (both_variables a b) < variables_height a)
variables-lower V.Any V.Any = inl refl
variables-lower V.Any (V.One y) = inr (omega arith)
variables-lower V.Any V.Several = inr (omega arith)
variables-lower (V.One x) V.Any = inl refl
variables-lower (V.One x) (V.One y) = same-cases x y (λ v. (v ≡ V.One x) ⊎ (variables_height v < 1)) (λ n m. inl refl) (λ d. inr (omega arith))
variables-lower (V.One x) V.Several = inr (omega arith)
variables-lower V.Several b = inl refl

pub height-lower : (a b : Limit) → ((n : ℕ) → b.newness ≡ Some n → n < 2 ^ 32) → ((n : ℕ) → b.locality ≡ Some n → n < 2 ^ 32) → (both a b ≡ a → ⊥) → height (both a b) < height a
height-lower a b f g d =
    let p = bound-lower a.newness b.newness f in
    let q = bound-lower a.locality b.locality g in
    let r = equality-lower a.equality b.equality in
    let s = class-lower a.class b.class in
    let p' = at-most bound_height (both_bounds a.newness b.newness) a.newness p in
    let q' = at-most bound_height (both_bounds a.locality b.locality) a.locality q in
    let r' = at-most (λ e. cond e 0 1) (a.equality || b.equality) a.equality r in
    let s' = at-most class_height (both_classes a.class b.class) a.class s in
    let v = variables-lower a.variables b.variables in
    let v' = at-most variables_height (both_variables a.variables b.variables) a.variables v in
    elim p [
      | inr x ↦ omega (arith, x, q', r', s', v')
      | inl x ↦
          elim q [
            | inr y ↦ omega (arith, p', y, r', s', v')
            | inl y ↦
                elim r [
                  | inr z ↦ omega (arith, p', q', z, s', v')
                  | inl z ↦
                      elim s [
                        | inr w ↦ omega (arith, p', q', r', w, v')
                        | inl w ↦
                            elim v [
                              | inr k ↦ omega (arith, p', q', r', s', k)
                              | inl k ↦ absurd (d (λ i. record { newness = x i; locality = y i; equality = z i; class = w i; variables = k i }))
                            ]
                      ]
                ]
          ]
    ]

-- what is asked of a head and of parts

all-unit : (ts : List (MlType Name)) → AllByRecursion (λ t. Unit {0}) ts
all-unit [] = tt
all-unit (t ∷ ts) = (tt, all-unit ts)

bound-fits : (u : ℕ) (a : Option ℕ) (h : Head Name) (ts : List (MlType Name)) → MeetsBound u a (app h (types_of ts)) → FitsBound u a h
bound-fits u None h ts w = tt
bound-fits u (Some n) h ts w = head-within u n h ts w

bound-parts : (u : ℕ) (a : Option ℕ) (h : Head Name) (ts : List (MlType Name)) → MeetsBound u a (app h (types_of ts)) → AllByRecursion (MeetsBound u a) ts
bound-parts u None h ts w = all-unit ts
bound-parts u (Some n) h ts w = parts-within u n h ts w

bound-meets : (u : ℕ) (a : Option ℕ) (h : Head Name) (ts : List (MlType Name)) → FitsBound u a h → AllByRecursion (MeetsBound u a) ts → MeetsBound u a (app h (types_of ts))
bound-meets u None h ts f w = tt
bound-meets u (Some n) h ts f w = within-app u n h ts f w

off-parts : (b : Bool) (ts : List (MlType Name)) → AllByRecursion (MeetsEquality (b && false)) ts
off-parts true ts = all-unit ts
off-parts false ts = all-unit ts

all-admitting : (ts : List (MlType Name)) → all_admit naming (types_of ts) ≡ true → AllByRecursion (MeetsEquality true) ts
unfolding all_admit_by
all-admitting [] e = tt
all-admitting (t ∷ ts) e = (and-left (admits naming t) (all_admit naming (types_of ts)) e, all-admitting ts (and-right (admits naming t) (all_admit naming (types_of ts)) e))

admitting-all : (ts : List (MlType Name)) → AllByRecursion (MeetsEquality true) ts → all_admit naming (types_of ts) ≡ true
unfolding all_admit_by
admitting-all [] a = refl
admitting-all (t ∷ ts) a = and-both (admits naming t) (all_admit naming (types_of ts)) a.0 (admitting-all ts a.1)

pub admits-named : (m : Name) (ts : List (MlType Name)) → admits naming (app (name m) (types_of ts)) ≡ (is_reference_name m || ((attributes_of m).equality && all_admit naming (types_of ts)))
unfolding admits_by naming
admits-named m ts = ap (λ b. b || ((attributes_of m).equality && all_admit naming (types_of ts))) (is_ref-name m)

ref-fits : (b e a : Bool) → (b || (e && a)) ≡ true → (b || e) ≡ true
ref-fits true e a q = refl
ref-fits false e a q = and-left e a q

ref-parts : (b e : Bool) (ts : List (MlType Name)) → (b || (e && all_admit naming (types_of ts))) ≡ true → AllByRecursion (MeetsEquality (not b && true)) ts
ref-parts true e ts q = all-unit ts
ref-parts false e ts q = all-admitting ts (and-right e (all_admit naming (types_of ts)) q)

ref-meets : (b e : Bool) (ts : List (MlType Name)) → (b || e) ≡ true → AllByRecursion (MeetsEquality (not b && true)) ts → (b || (e && all_admit naming (types_of ts))) ≡ true
ref-meets true e ts q a = refl
ref-meets false e ts q a = and-both e (all_admit naming (types_of ts)) q (admitting-all ts a)

pub arrow-admits-not : (ts : List (MlType Name)) → admits naming (app arrow (types_of ts)) ≡ true → ⊥
unfolding admits_by
arrow-admits-not ts e = let f : false ≡ true = e in cc

pub row-admits : (ls : List (List ℕ)) (ts : List (MlType Name)) → admits naming (app (row ls) (types_of ts)) ≡ all_admit naming (types_of ts)
unfolding admits_by
row-admits ls ts = refl

equality-fits : (e : Bool) (h : Head Name) (ts : List (MlType Name)) → MeetsEquality e (app h (types_of ts)) → FitsEquality e h
equality-fits false h ts w = tt
equality-fits true arrow ts w = arrow-admits-not ts w
equality-fits true (row ls) ts w = tt
equality-fits true (name m) ts w = ref-fits (is_reference_name m) (attributes_of m).equality (all_admit naming (types_of ts)) (sym (admits-named m ts) ∙ w)

equality-parts : (e : Bool) (h : Head Name) (ts : List (MlType Name)) → MeetsEquality e (app h (types_of ts)) → AllByRecursion (MeetsEquality (asks_parts h && e)) ts
equality-parts false h ts w = off-parts (asks_parts h) ts
equality-parts true arrow ts w = absurd (arrow-admits-not ts w)
equality-parts true (row ls) ts w = all-admitting ts (sym (row-admits ls ts) ∙ w)
equality-parts true (name m) ts w = ref-parts (is_reference_name m) (attributes_of m).equality ts (sym (admits-named m ts) ∙ w)

equality-meets : (e : Bool) (h : Head Name) (ts : List (MlType Name)) → FitsEquality e h → AllByRecursion (MeetsEquality (asks_parts h && e)) ts → MeetsEquality e (app h (types_of ts))
equality-meets false h ts f a = tt
equality-meets true arrow ts f a = absurd f
equality-meets true (row ls) ts f a = row-admits ls ts ∙ admitting-all ts a
equality-meets true (name m) ts f a = admits-named m ts ∙ ref-meets (is_reference_name m) (attributes_of m).equality ts f a

row-named : (ls : List Id) (n : Name) → ◌≡◌ {A = Head Name} (row ls) (name n) → ⊥
row-named ls n e = cc

no-types : (ts : List (MlType Name)) → types_of ts ≡ no_type → length ts ≡ 0
no-types [] e = refl
no-types (t ∷ ts) e = cc

none-of : (ts : List (MlType Name)) → length ts ≡ 0 → types_of ts ≡ no_type
none-of [] e = refl
none-of (t ∷ ts) e = absurd (omega (arith, e))

class-fits : (a : Option Names) (h : Head Name) (ts : List (MlType Name)) → MeetsClass a (app h (types_of ts)) → FitsClass a h (length ts)
class-fits None h ts w = tt
class-fits (Some c) h ts w =
    let e : app h (types_of ts) ≡ app (name (initial w.0)) no_type = w.2 in
    let f : h ≡ name (initial w.0) = cc in
    let g : types_of ts ≡ no_type = cc in
    (w.0, w.1, f, no-types ts g)

class-meets : (a : Option Names) (h : Head Name) (ts : List (MlType Name)) → FitsClass a h (length ts) → MeetsClass a (app h (types_of ts))
class-meets None h ts f = tt
class-meets (Some c) h ts f = (f.0, f.1, (λ i. app (f.2 i) (none-of ts f.3 i)))

variables-fits : (a : Variables) (h : Head Name) (ts : List (MlType Name)) → MeetsVariables a (app h (types_of ts)) → FitsVariables a h (length ts)
variables-fits V.Any h ts w = tt
variables-fits (V.One x) h ts w =
    let e : app h (types_of ts) ≡ app (name (made 0 x.number 0 x.equality)) no_type = w in
    let f : h ≡ name (made 0 x.number 0 x.equality) = cc in
    let g : types_of ts ≡ no_type = cc in
    (f, no-types ts g)
variables-fits V.Several h ts w = w

variables-meets : (a : Variables) (h : Head Name) (ts : List (MlType Name)) → FitsVariables a h (length ts) → MeetsVariables a (app h (types_of ts))
variables-meets V.Any h ts f = tt
variables-meets (V.One x) h ts f = λ i. app (f.0 i) (none-of ts f.1 i)
variables-meets V.Several h ts f = f

app-fits : (l : Layer) (u : ℕ) (a : Limit) (h : Head Name) (ts : List (MlType Name)) → MeetsAt l u a (app h (types_of ts)) → FitsAt l u a h (length ts)
app-fits Equations u a h ts w = tt
app-fits Finiteness u a h ts w = tt
app-fits Newness u a h ts w = bound-fits u a.newness h ts w
app-fits Locality u a h ts w = bound-fits u a.locality h ts w
app-fits Equality u a h ts w = equality-fits a.equality h ts w
app-fits Classes u a h ts w = class-fits a.class h ts w
app-fits Rigidity u a h ts w = variables-fits a.variables h ts w

app-parts : (l : Layer) (u : ℕ) (a : Limit) (h : Head Name) (ts : List (MlType Name)) → MeetsAt l u a (app h (types_of ts)) → AllByRecursion (MeetsAt l u (for_parts h a)) ts
app-parts Equations u a h ts w = all-unit ts
app-parts Finiteness u a h ts w = all-unit ts
app-parts Newness u a h ts w = bound-parts u a.newness h ts w
app-parts Locality u a h ts w = bound-parts u a.locality h ts w
app-parts Equality u a h ts w = equality-parts a.equality h ts w
app-parts Classes u a h ts w = all-unit ts
app-parts Rigidity u a h ts w = all-unit ts

pub app-meets : (l : Layer) (u : ℕ) (a : Limit) (h : Head Name) (ts : List (MlType Name)) → FitsAt l u a h (length ts) → AllByRecursion (MeetsAt l u (for_parts h a)) ts → MeetsAt l u a (app h (types_of ts))
app-meets Equations u a h ts f w = tt
app-meets Finiteness u a h ts f w = tt
app-meets Newness u a h ts f w = bound-meets u a.newness h ts f w
app-meets Locality u a h ts f w = bound-meets u a.locality h ts f w
app-meets Equality u a h ts f w = equality-meets a.equality h ts f w
app-meets Classes u a h ts f w = class-meets a.class h ts f
app-meets Rigidity u a h ts f w = variables-meets a.variables h ts f

-- what is asked of the heads of rows doesn't depend on the labels

row-class : (a : Option Names) (ls ks : List Id) (n m : ℕ) → FitsClass a (row ls) n → FitsClass a (row ks) m
row-class None ls ks n m f = tt
row-class (Some c) ls ks n m f = absurd (row-named ls (initial f.0) f.2)

row-bound : (u : ℕ) (a : Option ℕ) (ls : List Id) → FitsBound u a (row ls)
row-bound u None ls = tt
row-bound u (Some n) ls = tt

row-equality : (a : Bool) (ls : List Id) → FitsEquality a (row ls)
row-equality true ls = tt
row-equality false ls = tt

row-variables : (a : Variables) (ls ks : List Id) (n m : ℕ) → FitsVariables a (row ls) n → FitsVariables a (row ks) m
row-variables V.Any ls ks n m f = tt
row-variables (V.One x) ls ks n m f = absurd (row-named ls (made 0 x.number 0 x.equality) f.0)
row-variables V.Several ls ks n m f = f

row-fits : (l : Layer) (u : ℕ) (a : Limit) (ls ks : List Id) (n m : ℕ) → FitsAt l u a (row ls) n → FitsAt l u a (row ks) m
row-fits Equations u a ls ks n m f = tt
row-fits Finiteness u a ls ks n m f = tt
row-fits Newness u a ls ks n m f = row-bound u a.newness ks
row-fits Locality u a ls ks n m f = row-bound u a.locality ks
row-fits Equality u a ls ks n m f = row-equality a.equality ks
row-fits Classes u a ls ks n m f = row-class a.class ls ks n m f
row-fits Rigidity u a ls ks n m f = row-variables a.variables ls ks n m f

pub fits-row : (l : Layer) (u : ℕ) (a : Limit) (ls : List Id) (n : ℕ) → FitsAt l u a (row []) 0 → FitsAt l u a (row ls) n
fits-row l u a ls n f = row-fits l u a [] ls 0 n f

fits-any : (l : Layer) (u : ℕ) (a : Limit) (ls : List Id) (n : ℕ) → FitsAt l u a (row ls) n → FitsAt l u a (row []) 0
fits-any l u a ls n f = row-fits l u a ls [] n 0 f

-- what holds of a row's types holds of its fields
pub all-fields : (P : MlType Name → Type 0) (σ : Assignment finite) (ls : List Id) (ts : List (MlType Name)) (fs : List (Id × ℕ)) → AllByRecursion (λ f. lookup f.0 (with_labels ls ts) ≡ Some f.1) (fields_at σ fs) → AllByRecursion P ts → AllByRecursion (λ k. P (σ k)) (kids_of fs)
all-fields P σ ls ts [] a b = tt
all-fields P σ ls ts (f ∷ fs) a b = (row-found P ls ts f.0 (σ f.1) b a.0, all-fields P σ ls ts fs a.1 b)

-- a type's own components, where it is a row
own-parts : (l : Layer) (u : ℕ) (a : Limit) (t : MlType Name) → MeetsAt l u a t → AllByRecursion (MeetsAt l u (for_parts (row []) a)) (values_in (components t))
own-parts l u a (bound k) w = tt
own-parts l u a (free v) w = tt
own-parts l u a (app arrow ts) w = tt
own-parts l u a (app (row ls) ts) w =
    let e : app (row ls) (types_of (list_of ts)) ≡ app (row ls) ts = ap (app (row ls)) (types-list_of ts) in
    subst (λ t. AllByRecursion (MeetsAt l u (for_parts (row []) a)) (values_in (components t))) e (all-components (MeetsAt l u (for_parts (row []) a)) ls (list_of ts) (app-parts l u a (row ls) (list_of ts) (subst (MeetsAt l u a) (sym e) w)))
own-parts l u a (app (name n) ts) w = tt

-- the same of nodes

all-mapped : (P : MlType Name → Type 0) (σ : Assignment finite) (ks : List ℕ) → AllByRecursion P (map σ ks) → AllByRecursion (λ k. P (σ k)) ks
all-mapped P σ [] a = tt
all-mapped P σ (k ∷ ks) a = (a.0, all-mapped P σ ks a.1)

mapped-all : (P : MlType Name → Type 0) (σ : Assignment finite) (ks : List ℕ) → AllByRecursion (λ k. P (σ k)) ks → AllByRecursion P (map σ ks)
mapped-all P σ [] a = tt
mapped-all P σ (k ∷ ks) a = (a.0, mapped-all P σ ks a.1)

variable-admits : (x : Variable) → admits naming (variable_type x) ≡ true → x.equality ≡ true
unfolding all_admit_by
variable-admits x e = and-left x.equality true (sym (admits-named (made 0 x.number 0 x.equality) []) ∙ e)

possible : (v : Variables) (e : Bool) (c : Option Names) (t : MlType Name) → MeetsVariables v t → MeetsEquality e t → MeetsClass c t → IsPossible v e c
possible V.Any e c t w q k = tt
possible (V.One x) e (Some c) t w q k = let z : named (made 0 x.number 0 x.equality) ≡ named (initial k.0) = sym w ∙ k.2 in cc
possible (V.One x) true None t w q k = variable-admits x (subst (λ t. admits naming t ≡ true) w q)
possible (V.One x) false None t w q k = tt
possible V.Several e c t w q k = w

fits-unknown : (l : Layer) (u : ℕ) (a : Limit) (t : MlType Name) → ((k : Layer) → index_of k ≤ index_of l → MeetsAt k u a t) → IsFitUnknown l a
fits-unknown Equations u a t w = tt
fits-unknown Finiteness u a t w = tt
fits-unknown Newness u a t w = tt
fits-unknown Locality u a t w = tt
fits-unknown Equality u a t w = tt
fits-unknown Classes u a t w = tt
fits-unknown Rigidity u a t w = possible a.variables a.equality a.class t (w Rigidity (omega arith)) (w Equality (omega arith)) (w Classes (omega arith))

pub node-fits : (l : Layer) (u : ℕ) (a : Limit) (σ : Assignment finite) (i : ℕ) (x : Node) → Agrees finite σ i x → ((k : Layer) → index_of k ≤ index_of l → MeetsAt k u a (σ i)) → IsFitNode l u a x
node-fits l u a σ i Unknown e w = fits-unknown l u a (σ i) w
node-fits l u a σ i (Link j) e w = tt
node-fits l u a σ i (App h kids) e w =
    let n = length kids.items in
    rw length-map at (app-fits l u a (head_over h n) (map σ kids.items) (subst (MeetsAt l u a) e (w l (omega arith))))
node-fits l u a σ i (Open fs) e w = fits-any l u a e.labels (length e.types) (app-fits l u a (row e.labels) e.types (subst (MeetsAt l u a) e.is_row (w l (omega arith))))

pub node-parts : (l : Layer) (u : ℕ) (a : Limit) (σ : Assignment finite) (i : ℕ) (x : Node) → Agrees finite σ i x → MeetsAt l u a (σ i) → AllByRecursion (λ k. MeetsAt l u (handed x a) (σ k)) (parts x)
node-parts l u a σ i Unknown e w = tt
node-parts l u a σ i (Link j) e w = (subst (MeetsAt l u a) e w, tt)
node-parts l u a σ i (App h kids) e w =
    let g = head_over h (length kids.items) in
    all-mapped (MeetsAt l u (for_parts g a)) σ kids.items (app-parts l u a g (map σ kids.items) (subst (MeetsAt l u a) e w))
node-parts l u a σ i (Open fs) e w =
    all-fields (MeetsAt l u (for_parts (row []) a)) σ e.labels e.types (fields_of fs.value) e.fields (app-parts l u a (row e.labels) e.types (subst (MeetsAt l u a) e.is_row w))

-- the type of a node from those of its parts, or else this one
abbrev pub value : Assignment finite → MlType Name → Node → MlType Name
value σ t Unknown = t
value σ t (Link j) = σ j
value σ t (App h kids) = make finite (head_over h (length kids.items)) (map σ kids.items)
value σ t (Open fs) = open_row t (fields_at σ (fields_of fs.value))

pub node-meets : (l : Layer) (u : ℕ) (a : Limit) (σ : Assignment finite) (t : MlType Name) (x : Node) → IsFitNode l u a x → AllByRecursion (λ k. MeetsAt l u (handed x a) (σ k)) (parts x) → ((IsKnown x → ⊥) → MeetsAt l u a t) → MeetsAt l u a (value σ t x)
node-meets l u a σ t Unknown f w g = g (λ e. e)
node-meets l u a σ t (Link j) f w g = w.0
node-meets l u a σ t (App h kids) f w g =
    let k = head_over h (length kids.items) in
    app-meets l u a k (map σ kids.items) (rw length-map f) (mapped-all (MeetsAt l u (for_parts k a)) σ kids.items w)
node-meets l u a σ t (Open fs) f w g =
    let gs = fields_at σ (fields_of fs.value) in
    let m = set_fields gs (set_fields (components t) []) in
    let b = for_parts (row []) a in
    app-meets l u a (row (labels_in m)) (values_in m) (fits-row l u a (labels_in m) (length (values_in m)) f)
    (open-all (MeetsAt l u b) t gs (own-parts l u a t (g (λ e. e))) (all-at-fields σ (MeetsAt l u b) (fields_of fs.value) w))

-- the type int is as anything asks

pub bound-initial : (u : ℕ) (a : Option ℕ) (k : N.Initial) → MeetsBound u a (named (initial k))
unfolding IsWithin AreWithin
bound-initial u None k = tt
bound-initial u (Some n) k = (tt, tt)

equality-int : (e : Bool) → MeetsEquality e (named (initial N.int))
unfolding all_admit_by
equality-int false = tt
equality-int true = admits-named (initial N.int) [] ∙ refl

class-int : (a : Option Names) → MeetsClass a (named (initial N.int))
class-int None = tt
class-int (Some c) = (N.int, refl, refl)

pub int-meets : (l : Layer) (u : ℕ) (a : Limit) → index_of l < index_of Rigidity → MeetsAt l u a (named (initial N.int))
int-meets Equations u a h = tt
int-meets Finiteness u a h = tt
int-meets Newness u a h = bound-initial u a.newness N.int
int-meets Locality u a h = bound-initial u a.locality N.int
int-meets Equality u a h = equality-int a.equality
int-meets Classes u a h = class-int a.class
int-meets Rigidity u a h = absurd (omega (arith, h))

-- a type that is as a limit asks, where that is possible

bound-stand : (u : ℕ) (a : Option ℕ) (v : Variables) → (0 ≡ u → ⊥) → MeetsBound u a (stand_in v)
unfolding IsWithin AreWithin
bound-stand u None v d = tt
bound-stand u (Some n) V.Any d = (tt, tt)
bound-stand u (Some n) (V.One x) d = ((λ e. absurd (d e)), tt)
bound-stand u (Some n) V.Several d = (tt, tt)

equality-stand : (e : Bool) (c : Option Names) (v : Variables) → IsPossible v e c → MeetsEquality e (stand_in v)
unfolding all_admit_by
equality-stand e c V.Any p = equality-int e
equality-stand false c (V.One x) p = tt
equality-stand true None (V.One x) p = admits-named (made 0 x.number 0 x.equality) [] ∙ and-both x.equality true p refl
equality-stand true (Some d) (V.One x) p = absurd p
equality-stand e c V.Several p = absurd p

class-stand : (e : Bool) (c : Option Names) (v : Variables) → IsPossible v e c → MeetsClass c (stand_in v)
class-stand e c V.Any p = class-int c
class-stand e None (V.One x) p = tt
class-stand e (Some d) (V.One x) p = absurd p
class-stand e c V.Several p = absurd p

variables-stand : (e : Bool) (c : Option Names) (v : Variables) → IsPossible v e c → MeetsVariables v (stand_in v)
variables-stand e c V.Any p = tt
variables-stand e c (V.One x) p = refl
variables-stand e c V.Several p = absurd p

pub stands-meets : (l : Layer) (u : ℕ) (a : Limit) → (0 ≡ u → ⊥) → IsPossible a.variables a.equality a.class → MeetsAt l u a (stand_in a.variables)
stands-meets Equations u a d p = tt
stands-meets Finiteness u a d p = tt
stands-meets Newness u a d p = bound-stand u a.newness a.variables d
stands-meets Locality u a d p = bound-stand u a.locality a.variables d
stands-meets Equality u a d p = equality-stand a.equality a.class a.variables p
stands-meets Classes u a d p = class-stand a.equality a.class a.variables p
stands-meets Rigidity u a d p = variables-stand a.equality a.class a.variables p

-- up to finiteness, nothing is asked of single nodes
pub nothing-asked : (u : ℕ) (ls : List Limit) (τ : Assignment finite) → KeepsThrough Finiteness u ls τ
nothing-asked u ls τ Equations h = λ i. tt
nothing-asked u ls τ Finiteness h = λ i. tt
nothing-asked u ls τ Newness h = absurd (omega (arith, h))
nothing-asked u ls τ Locality h = absurd (omega (arith, h))
nothing-asked u ls τ Equality h = absurd (omega (arith, h))
nothing-asked u ls τ Classes h = absurd (omega (arith, h))
nothing-asked u ls τ Rigidity h = absurd (omega (arith, h))
