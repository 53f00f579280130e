-- What becomes of the unknowns that are left, by what is asked of them.
use Rattle.std.proofs.Common.{◌≡◌, ℕ, ◌<◌, ◌≤◌, ◌⊎◌, inl, inr, Bool, true, false, ◌||◌, not, cond, Option, Some, None, List, [], ◌∷◌, length, get_or, sym, ◌∙◌, ap, subst, refl, arith, Box, Global}
use Rattle.sml_objects.specs.Names as N
use Rattle.sml_objects.specs.Initial.{Name, initial, naming}
use Rattle.sml_objects.specs.Equality.{admits}
use Rattle.sml_objects.specs.Objects as O
use Rattle.sml_objects.specs.declared.fates.Fate.TheVariants.{Bind, Keep, Default}
use Rattle.sml_layers.specs.declared.class.Names.{Names}
use Rattle.sml_graph.specs.declared.graph.Graph.{Graph}
use Rattle.sml_layers.specs.declared.layer.Layer.{Layer}
use Rattle.sml_layers.specs.declared.layer.Layer.TheVariants.{Equations, Finiteness, Newness, Locality, Equality, Classes, Rigidity}
use Rattle.sml_graph.specs.declared.limits.Limit.{Limit}
use Rattle.sml_graph.specs.declared.node.Node.{Node}
use Rattle.sml_graph.specs.declared.node.Node.TheVariants.{Unknown, Link, App, Open}
use Rattle.sml_layers.specs.Worlds.{finite}
use Rattle.sml_graph.specs.Worlds.{Assignment}
use Rattle.sml_graph.specs.declared.fields.Fields.{Fields}
use Rattle.sml_tree.specs.Trees.{Id}
use Rattle.sml_objects.specs.Objects.{types_of}
use Rattle.sml_layers.specs.Rows.{fields_at}
use Rattle.sml_graph.specs.Rows.{HasFields}
use Rattle.sml_graph.specs.Graphs.{node_at, fields_of, Agrees, Meets, IsKnown}
use Rattle.sml_graph.specs.Interned.{through}
use Rattle.sml_graph.specs.Bounds.{IsWithin, AreWithin}
use Rattle.sml_layers.specs.Layers.{index_of}
use Rattle.sml_graph.specs.Limits.{limit_at, MeetsBound, MeetsEquality, MeetsClass, MeetsAt, KeepsAt, FitsClass, IsFitNode}
use Rattle.sml_graph.specs.Asked.{asked_of, Permits}
use Rattle.sml_schemes.specs.Fixed.{IsMarked}
use Rattle.sml_schemes.specs.Left.{IsFlexible, IsLeft}
use Rattle.sml_layers.specs.Classes.{has_several, has_one}
use Rattle.sml_schemes.specs.Schemes.{IsInt, AsksEquality, IsFateOf, is_open, fate_of, fate_at}
use Rattle.sml_graph.specs.CodeWhole.{IsKept}
use Rattle.sml_graph.proofs.Merging.{same_or_not}
use Rattle.sml_graph.proofs.Asking.{int-meets, arrow-admits-not}
use Rattle.sml_graph.proofs.Ranking.{solution, ints, ints-keep, solution-meets, solution-unknown, solution-keeps}
use Rattle.sml_demands.proofs.Owning.{only, only-here, only-there, unknown-free, open-flexible, free-not-flexible, left-loose}
use Rattle.sml_demands.proofs.Overloading.{unit, bound-unit, equality-unit, only-int, or-cases, or-neither, types-with, with-keeps, with-type, two-names}

-- a type that doesn't admit equality

abbrev arrow : O.MlType Name
arrow = O.arrow_of (O.named (initial N.int)) (O.named (initial N.int))

bound-arrow : (u : ℕ) (a : Option ℕ) → MeetsBound u a arrow
unfolding IsWithin AreWithin
bound-arrow u None = tt
bound-arrow u (Some n) = (tt, ((tt, tt), ((tt, tt), tt)))

arrow-meets : (l : Layer) (u : ℕ) (a : Limit) → a.equality ≡ false → index_of l ≤ index_of Equality → MeetsAt l u a arrow
arrow-meets Equations u a e h = tt
arrow-meets Finiteness u a e h = tt
arrow-meets Newness u a e h = bound-arrow u a.newness
arrow-meets Locality u a e h = bound-arrow u a.locality
arrow-meets Equality u a e h = rw e tt
arrow-meets Classes u a e h = absurd (omega (arith, h))
arrow-meets Rigidity u a e h = absurd (omega (arith, h))

unit-meets-classes : (l : Layer) (u : ℕ) (a : Limit) → a.class ≡ None → index_of l ≤ index_of Classes → MeetsAt l u a unit
unit-meets-classes Equations u a e h = tt
unit-meets-classes Finiteness u a e h = tt
unit-meets-classes Newness u a e h = bound-unit u a.newness
unit-meets-classes Locality u a e h = bound-unit u a.locality
unit-meets-classes Equality u a e h = equality-unit a.equality
unit-meets-classes Classes u a e h = rw e tt
unit-meets-classes Rigidity u a e h = absurd (omega (arith, h))

not-off : (b : Bool) → not b ≡ true → b ≡ false
not-off true e = cc
not-off false e = refl

not-on : (b : Bool) → not b ≡ false → b ≡ true
not-on true e = refl
not-on false e = cc

module _ (u : ℕ) (us : List ℕ) (g : Graph) (b : Bool) (k : IsKept u g us) (d : 0 ≡ u → ⊥) (v : ℕ) (h : v < length us) (e : node_at g.nodes.items (get_or us v 0) ≡ Unknown) where
  abbrev ns : List Node
  ns = g.nodes.items

  abbrev r : ℕ
  r = get_or us v 0

  abbrev a : Limit
  a = limit_at g.limits r

  -- the unknown with a type, and all others with int

  abbrev picked : O.MlType Name → Assignment finite
  picked t = solution ns (only r t) k.whole.rank.rank

  picked-type : (t : O.MlType Name) → through finite us (picked t) v ≡ t
  picked-type t = solution-unknown ns (only r t) k.whole.rank.rank r e ∙ only-here r t

  picked-meets : (t : O.MlType Name) → Meets finite ns (picked t)
  picked-meets t = solution-meets ns (only r t) k.whole.rank.rank k.whole.rank.ranked

  picked-keeps : (t : O.MlType Name) (l : Layer) → index_of l < index_of Rigidity → MeetsAt l u a t → KeepsAt l u g.limits (picked t)
  picked-keeps t l q m =
      let w = k.whole in
      solution-keeps l u ns g.limits (only r t) w.rank.rank w.rank.ranked w.closed (w.fit l) (λ i x.
      elim (same_or_not i r) [
        | inl y ↦ subst (λ i. MeetsAt l u (limit_at g.limits i) (only r t i)) (sym y) (rw (only-here r t) m)
        | inr n ↦ rw (only-there r t i n) (int-meets l u (limit_at g.limits i) q)
      ])

  -- int alone

  one-name : (c : Option Names) → a.class ≡ c → has_one c a.equality ≡ true → IsInt (asked_of u us g b) v
  unfolding IsInt Permits
  one-name None q o σ p = cc
  one-name (Some c) q o σ p =
      let w : MeetsClass (Some c) (p.0 r) = rw q at (p.2 Classes (omega arith) r) in
      let m : MeetsEquality a.equality (p.0 r) = p.2 Equality (omega arith) r in
      let f = only-int c a.equality w.0 (not-off (has_several (Some c) a.equality) o) w.1 (subst (MeetsEquality a.equality) w.2 m) in
      sym (p.3 v h) ∙ (w.2 ∙ ap (λ k. O.named (initial k)) f)

  more-types : (c : Option Names) → a.class ≡ c → has_one c a.equality ≡ false → IsInt (asked_of u us g b) v → ⊥
  unfolding IsInt Permits
  more-types None q o f =
      let z = f (through finite us (picked unit)) (picked unit, picked-meets unit, λ l x. picked-keeps unit l (omega (arith, x)) (unit-meets-classes l u a q x), λ v l. refl) in
      let y : unit ≡ O.named (initial N.int) = sym (picked-type unit) ∙ z in
      cc
  more-types (Some c) q o f =
      let j = two-names u us g b k d v h r (λ w σ m. refl) (Some c) q e (not-on (has_several (Some c) a.equality) o) in
      let t : O.MlType Name = O.named (initial j.0) in
      let τ = types-with u us g b k d v h r (λ w σ m. refl) t in
      let z = f (through finite us τ) (τ, solution-meets ns _ k.whole.rank.rank k.whole.rank.ranked, λ l x. with-keeps u us g b k d v h r (λ w σ m. refl) t j.3 l, λ v l. refl) in
      let y : O.named (initial j.0) ≡ O.named (initial N.int) = sym (with-type u us g b k d v h r (λ w σ m. refl) t e) ∙ z in
      let x : N.int ≡ j.0 = cc in
      j.1 x

  -- the equality attribute

  flag-asks : a.equality ≡ true → AsksEquality (asked_of u us g b) v
  unfolding AsksEquality Permits
  flag-asks q σ p =
      let m : MeetsEquality true (p.0 r) = rw q at (p.2 Equality (omega arith) r) in
      ap (admits naming) (sym (p.3 v h)) ∙ m

  asks-flag : (f : Bool) → a.equality ≡ f → AsksEquality (asked_of u us g b) v → a.equality ≡ true
  unfolding AsksEquality Permits
  asks-flag true q w = q
  asks-flag false q w =
      let z = w (through finite us (picked arrow)) (picked arrow, picked-meets arrow, λ l x. picked-keeps arrow l (omega (arith, x)) (arrow-meets l u a q x), λ v l. refl) in
      let y : admits naming arrow ≡ true = ap (admits naming) (sym (picked-type arrow)) ∙ z in
      absurd (arrow-admits-not (O.named (initial N.int) ∷ O.named (initial N.int) ∷ []) y)

  stays-cases : (bs : List Bool) (x : Bool) → (x || (get_or bs v false || is_open (node_at ns r))) ≡ true → (x ≡ true) ⊎ IsMarked bs v ⊎ IsFlexible (asked_of u us g b) v
  stays-cases bs x q =
      elim (or-cases x (get_or bs v false || is_open (node_at ns r)) q) [
        | inl y ↦ inl y
        | inr y ↦
            elim (or-cases (get_or bs v false) (is_open (node_at ns r)) y) [
              | inl m ↦ inr (inl m)
              | inr o ↦ let z : false ≡ true = sym (ap is_open e) ∙ o in absurd cc
            ]
      ]

  fate-cases : (bs : List Bool) (x o y : Bool) → has_one a.class a.equality ≡ o → (x || (get_or bs v false || is_open (node_at ns r))) ≡ y → IsFateOf (asked_of u us g b) bs x v (cond o Default (cond y Keep (Bind a.equality)))
  fate-cases bs x true y p q = one-name a.class refl p
  fate-cases bs x false true p q = (more-types a.class refl p, stays-cases bs x q)
  fate-cases bs x false false p q =
      let n = or-neither x (get_or bs v false || is_open (node_at ns r)) q in
      let m = or-neither (get_or bs v false) (is_open (node_at ns r)) n.1 in
      (more-types a.class refl p, n.0, (λ z. let y : false ≡ true = sym m.0 ∙ z in cc), (λ f. free-not-flexible (asked_of u us g b) v (unknown-free u us g b v k.whole.rank e) f), (flag-asks, asks-flag a.equality refl))

-- a flexible row stays

no-class : (c : Option Names) (e : Bool) → FitsClass c (O.row []) 0 → has_one c e ≡ false
no-class None e f = refl
no-class (Some c) e f = absurd (let q : ◌≡◌ {A = O.Head Name} (O.row []) (O.name (initial f.0)) = f.2 in cc)

keeps-open : (a : Limit) (o x : Bool) → has_one a.class a.equality ≡ false → o ≡ true → fate_of a o x ≡ Keep
keeps-open a o true p q = ap (λ b. cond b Default Keep) p
keeps-open a o false p q = ap (λ b. cond b Default (cond o Keep (Bind a.equality))) p ∙ ap (λ b. cond b Keep (Bind a.equality)) q

or-right : (a b : Bool) → b ≡ true → (a || b) ≡ true
or-right true b e = refl
or-right false b e = e

row-not-named : (t : O.MlType Name) (fs : List (Id × O.MlType Name)) (n : Name) → HasFields finite t fs → t ≡ O.named n → ⊥
row-not-named t fs n h e = let q : O.app (O.row h.labels) (types_of h.types) ≡ O.app (O.name n) O.no_type = sym h.is_row ∙ e in cc

open-not-int : (u : ℕ) (us : List ℕ) (g : Graph) (b : Bool) (v : ℕ) (fs : Box Fields Global) → IsKept u g us → v < length us → node_at g.nodes.items (get_or us v 0) ≡ Open fs → IsInt (asked_of u us g b) v → ⊥
unfolding IsInt Permits
open-not-int u us g b v fs k h e f =
    let w = k.whole in
    let σ = solution g.nodes.items ints w.rank.rank in
    let m = solution-meets g.nodes.items ints w.rank.rank w.rank.ranked in
    let a : Agrees finite σ (get_or us v 0) (Open fs) = rw e at (m (get_or us v 0)) in
    row-not-named (σ (get_or us v 0)) (fields_at σ (fields_of fs.value)) (initial N.int) a (f (through finite us σ) (σ, m, λ l x. ints-keep l u g.nodes.items g.limits w.rank.rank (omega (arith, x)) w.rank.ranked w.closed (w.fit l), λ v l. refl))

fate-open : (u : ℕ) (us : List ℕ) (g : Graph) (b : Bool) (bs : List Bool) (x : Bool) (v : ℕ) (fs : Box Fields Global) → IsKept u g us → v < length us → node_at g.nodes.items (get_or us v 0) ≡ Open fs → IsFateOf (asked_of u us g b) bs x v (fate_at g.nodes.items g.limits us bs x v)
fate-open u us g b bs x v fs k h e =
    let r = get_or us v 0 in
    let a = limit_at g.limits r in
    let fits : FitsClass a.class (O.row []) 0 = subst (IsFitNode Classes u a) e (k.whole.fit Classes r) in
    let q : fate_at g.nodes.items g.limits us bs x v ≡ Keep = keeps-open a (get_or bs v false || is_open (node_at g.nodes.items r)) x (no-class a.class a.equality fits) (or-right (get_or bs v false) (is_open (node_at g.nodes.items r)) (ap is_open e)) in
    subst (IsFateOf (asked_of u us g b) bs x v) (sym q) (open-not-int u us g b v fs k h e, inr (inr (open-flexible u us g b v fs k.whole.rank h e)))

fate-node : (u : ℕ) (us : List ℕ) (g : Graph) (b : Bool) (k : IsKept u g us) → (0 ≡ u → ⊥) → (bs : List Bool) (x : Bool) (v : ℕ) (n : Node) → v < length us → node_at g.nodes.items (get_or us v 0) ≡ n → (IsKnown n → ⊥) → IsFateOf (asked_of u us g b) bs x v (fate_at g.nodes.items g.limits us bs x v)
fate-node u us g b k d bs x v Unknown h e n = fate-cases u us g b k d v h e bs x _ _ refl refl
fate-node u us g b k d bs x v (Link j) h e n = absurd (n tt)
fate-node u us g b k d bs x v (App f kids) h e n = absurd (n tt)
fate-node u us g b k d bs x v (Open fs) h e n = fate-open u us g b bs x v fs k h e

pub fate-is : (u : ℕ) (us : List ℕ) (g : Graph) (b : Bool) (k : IsKept u g us) → (0 ≡ u → ⊥) → (bs : List Bool) (x : Bool) (v : ℕ) → IsLeft (asked_of u us g b) v → IsFateOf (asked_of u us g b) bs x v (fate_at g.nodes.items g.limits us bs x v)
fate-is u us g b k d bs x v l =
    let loose = left-loose u us g b v k.whole.sound k.whole.rank k.owners l in
    fate-node u us g b k d bs x v (node_at g.nodes.items (get_or us v 0)) loose.0 refl loose.1
