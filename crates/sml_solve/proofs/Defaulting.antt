-- Overloaded unknowns that become `int`.
use Rattle.std.proofs.Common.{◌≡◌, ◌≢◌, ℕ, zero, suc, ◌+◌, ◌<◌, ◌≤◌, ◌⊎◌, inl, inr, Bool, true, false, Option, Some, None, List, [], ◌∷◌, ◌++◌, length, map, take, get_or, sym, ◌∙◌, ap, subst, refl, arith}
use Rattle.sml_objects.specs.Appearance.{Stands}
use Rattle.sml_objects.proofs.Standing.{left, right, either}
use Rattle.sml_objects.specs.Names as N
use Rattle.sml_objects.specs.Initial.{Name, initial}
use Rattle.sml_objects.specs.Objects as O
use Rattle.sml_objects.specs.Types.{replace_type, replace_types}
use Rattle.sml_objects.specs.Objects.{types_of}
use Rattle.sml_layers.specs.declared.class.Names.{Names}
use Rattle.sml_graph.specs.declared.graph.Graph.{Graph}
use Rattle.sml_layers.specs.declared.layer.Layer.{Layer}
use Rattle.sml_layers.specs.declared.layer.Layer.TheVariants.{Equations, Finiteness, Newness, Locality, Equality, Classes, Rigidity}
use Rattle.sml_graph.specs.declared.limits.Limit.{Limit}
use Rattle.sml_graph.specs.declared.node.Node.{Node}
use Rattle.sml_graph.specs.declared.node.Node.TheVariants.{Unknown, Link, App, Open}
use Rattle.sml_graph.specs.declared.variables.Variables.{Variables}
use Rattle.sml_graph.specs.declared.variables.Variables.TheVariants as V
use Rattle.sml_layers.specs.Worlds.{World, finite, infinite, make, tree, typed, spread, spread_all, world}
use Rattle.sml_graph.specs.Worlds.{Assignment, InfiniteType}
use Rattle.sml_graph.specs.Graphs.{node_at, head_over, fields_of, Agrees, Meets, IsRootNode}
use Rattle.sml_tree.specs.Trees.{Id}
use Rattle.sml_objects.specs.Maps.{lookup}
use Rattle.std.specs.List.{AllByRecursion}
use Rattle.std.proofs.lemmas.List.{length-map}
use Rattle.sml_objects.specs.Labels.{with_labels}
use Rattle.sml_layers.specs.Rows.{fields_at}
use Rattle.sml_graph.proofs.Rowing.{lookup-here, lookup-there, same_or_other}
use Rattle.sml_graph.specs.Interned.{IsOver, AreOver, through}
use Rattle.sml_graph.specs.Limits.{limit_at, KeepsAt, IsFitNode}
use Rattle.sml_graph.specs.Variables.{IsPossible, stand_in}
use Rattle.sml_graph.specs.Asked.{Asked, asked_of, Permits, Demand, equal, Holds, CanMeet, IsFirstUnmet, Adds}
use Rattle.sml_demands.specs.Overloaded.{IsOverloaded, Settles, is_several}
use Rattle.sml_layers.specs.Classes.{has_several}
use Rattle.sml_graph.specs.CodeWhole.{IsKept}
use Rattle.sml_graph.proofs.Merging.{same_or_not}
use Rattle.sml_graph.proofs.Ranking.{solution-meets, solution-unknown}
use Rattle.sml_demands.proofs.Owning.{LeadsTo, leads-below, root-node}
use Rattle.sml_demands.proofs.Overloading.{unit, choice-with, types-with, with-there, with-keeps, with-permits, with-type, two-names, with-apart, node-apart, overloaded-yes, overloaded-no}

-- the demand that an unknown is int

typed-free : (w : World) (σ : Assignment w) (v : ℕ) → typed w σ (O.free v) ≡ σ v
unfolding replace_type spread
typed-free finite σ v = refl
typed-free infinite σ v = refl

typed-int : (w : World) (σ : Assignment w) → typed w σ (O.named (initial N.int)) ≡ make w (O.name (initial N.int)) []
unfolding replace_type replace_types spread spread_all
typed-int finite σ = refl
typed-int infinite σ = refl

abbrev pub to_int : ℕ → Demand
to_int v = equal (O.free v) (O.named (initial N.int))

is-int : (l : Layer) (u : ℕ) (σ : Assignment (world l)) (v : ℕ) → Holds l u σ (to_int v) → σ v ≡ make (world l) (O.name (initial N.int)) []
is-int l u σ v h = sym (typed-free (world l) σ v) ∙ (h ∙ typed-int (world l) σ)

int-is : (l : Layer) (u : ℕ) (σ : Assignment (world l)) (v : ℕ) → σ v ≡ make (world l) (O.name (initial N.int)) [] → Holds l u σ (to_int v)
int-is l u σ v e = typed-free (world l) σ v ∙ (e ∙ sym (typed-int (world l) σ))

-- what stands in a list of one
same-one : (w v : ℕ) → Stands w (v ∷ []) → w ≡ v
unfolding Stands
same-one w v (inl e) = e
same-one w v (inr h) = absurd h

is-one : (v : ℕ) → Stands v (v ∷ [])
unfolding Stands
is-one v = inl refl

-- what stands in no list
stands-nowhere : (w : ℕ) → Stands w [] → ⊥
unfolding Stands
stands-nowhere w h = h

pub settled-one : (old new : Asked) (v : ℕ) → IsOverloaded old v → Adds old (to_int v) new → Settles old (v ∷ []) new
unfolding Settles Adds
settled-one old new v o a l σ = (
  λ p. let q = (a l σ).0 p in (q.0, λ w h _. subst (λ w. σ w ≡ make (world l) (O.name (initial N.int)) []) (sym (same-one w v h)) (is-int l old.unit σ v q.1)),
  λ p. (a l σ).1 (p.0, int-is l old.unit σ v (p.1 v (is-one v) o)),
)

pub settled-none : (s : Asked) (v : ℕ) → (IsOverloaded s v → ⊥) → Settles s (v ∷ []) s
unfolding Settles
settled-none s v n l σ = (
  λ p. (p, λ w h o. absurd (n (subst (IsOverloaded s) (same-one w v h) o))),
  λ p. p.0,
)

pub settled-first : (s : Asked) → Settles s [] s
unfolding Settles
settled-first s l σ = (λ p. (p, λ w a _. absurd (stands-nowhere w a)), λ p. p.0)

-- what stands among the first ones stands in the list
pub in-taken : (i : ℕ) (xs : List ℕ) (v : ℕ) → Stands v (take i xs) → Stands v xs
unfolding Stands
in-taken zero xs v h = absurd h
in-taken (suc i) [] v h = absurd h
in-taken (suc i) (x ∷ xs) v (inl e) = inl e
in-taken (suc i) (x ∷ xs) v (inr h) = inr (in-taken i xs v h)

pub below-at : (n : ℕ) (xs : List ℕ) (i : ℕ) → AllByRecursion (λ v. v < n) xs → i < length xs → get_or xs i 0 < n
below-at n [] i h l = omega (arith, l)
below-at n (x ∷ xs) zero h l = h.0
below-at n (x ∷ xs) (suc i) h l = below-at n xs i h.1 (omega (arith, l))

-- those of a list of numbers below a bound are below it
pub below-all : (n : ℕ) (vs : List ℕ) → AllByRecursion (λ v. v < n) vs → (v : ℕ) → Stands v vs → v < n
unfolding Stands
below-all n [] h v i = absurd i
below-all n (w ∷ vs) h v (inl e) = subst (λ v. v < n) (sym e) h.0
below-all n (w ∷ vs) h v (inr i) = below-all n vs h.1 v i

-- finite types as infinite ones

spreads : (ts : List (O.MlType Name)) (f : Assignment infinite) → spread_all f (types_of ts) ≡ map (spread f) ts
unfolding spread_all
spreads [] f = refl
spreads (t ∷ ts) f = ap (λ xs. spread f t ∷ xs) (spreads ts f)

map-map : (f : O.MlType Name → InfiniteType) (τ : Assignment finite) (is : List ℕ) → map f (map τ is) ≡ map (λ i. f (τ i)) is
map-map f τ [] = refl
map-map f τ (i ∷ is) = ap (λ xs. f (τ i) ∷ xs) (map-map f τ is)

abbrev nothing : Assignment infinite
nothing v = λ _. None

found-spread : (ls : List Id) (ts : List (O.MlType Name)) (l : Id) (t : O.MlType Name) → lookup l (with_labels ls ts) ≡ Some t → lookup l (with_labels ls (map (spread nothing) ts)) ≡ Some (spread nothing t)
found-spread [] ts l t e = absurd (none l t e) where
  none : (l : Id) (t : O.MlType Name) → None ≡ Some t → ⊥
  none l t e = cc
found-spread (k ∷ ls) [] l t e = absurd (none l t e) where
  none : (l : Id) (t : O.MlType Name) → None ≡ Some t → ⊥
  none l t e = cc
found-spread (k ∷ ls) (v ∷ ts) l t e =
    elim (same_or_other l k) [
      | inl q ↦
          let f : Some v ≡ Some t = sym (lookup-here l (k, v) (with_labels ls ts) q) ∙ e in
          let g : v ≡ t = cc in
          lookup-here l (k, spread nothing v) (with_labels ls (map (spread nothing) ts)) q ∙ ap (λ t. Some (spread nothing t)) g
      | inr q ↦ lookup-there l (k, spread nothing v) (with_labels ls (map (spread nothing) ts)) q ∙ found-spread ls ts l t (sym (lookup-there l (k, v) (with_labels ls ts) q) ∙ e)
    ]

spread-fields : (τ : Assignment finite) (ls : List Id) (ts : List (O.MlType Name)) (fs : List (Id × ℕ)) → AllByRecursion (λ f. lookup f.0 (with_labels ls ts) ≡ Some f.1) (fields_at τ fs) → AllByRecursion (λ f. lookup f.0 (with_labels ls (map (spread nothing) ts)) ≡ Some f.1) (fields_at (λ i. spread nothing (τ i)) fs)
spread-fields τ ls ts [] a = tt
spread-fields τ ls ts (f ∷ fs) a = (found-spread ls ts f.0 (τ f.1) a.0, spread-fields τ ls ts fs a.1)

spread-agrees : (τ : Assignment finite) (i : ℕ) (x : Node) → Agrees finite τ i x → Agrees infinite (λ i. spread nothing (τ i)) i x
unfolding spread
spread-agrees τ i Unknown a = tt
spread-agrees τ i (Link j) a = ap (spread nothing) a
spread-agrees τ i (Open fs) a = record {
  labels = a.labels;
  types = map (spread nothing) a.types;
  rising = a.rising;
  count = length-map a.types (spread nothing) ∙ a.count;
  is_row = ap (spread nothing) a.is_row ∙ ap (tree (O.row a.labels)) (spreads a.types nothing);
  fields = spread-fields τ a.labels a.types (fields_of fs.value) a.fields;
}
spread-agrees τ i (App h kids) a = ap (spread nothing) a ∙ ap (tree (head_over h (length kids.items))) (spreads (map τ kids.items) nothing ∙ map-map (spread nothing) τ kids.items)

-- an unknown that is several names

stands-int : (c : Option Names) (x : Variables) (e : Bool) → has_several c e ≡ true → IsPossible x e c → stand_in x ≡ O.named (initial N.int)
stands-int None x e h p = cc
stands-int (Some c) V.Any e h p = refl
stands-int (Some c) (V.One x) e h p = absurd p
stands-int (Some c) V.Several e h p = absurd p

several-node : (u : ℕ) (x : Node) (a : Limit) → is_several x a ≡ true → IsFitNode Rigidity u a x → (x ≡ Unknown) × (has_several a.class a.equality ≡ true) × (stand_in a.variables ≡ O.named (initial N.int))
several-node u Unknown a e f = (refl, e, stands-int a.class a.variables a.equality e f)
several-node u (Link j) a e f = cc
several-node u (App h kids) a e f = cc
several-node u (Open fs) a e f = cc

module _ (u : ℕ) (us : List ℕ) (g : Graph) (b : Bool) (k : IsKept u g us) (d : 0 ≡ u → ⊥) where
  abbrev s : Asked
  s = asked_of u us g b

  abbrev ns : List Node
  ns = g.nodes.items

  abbrev root : (v : ℕ) → (r : ℕ) × LeadsTo ns (get_or us v 0) r
  root v = leads-below ns k.whole.sound (suc (get_or us v 0)) (get_or us v 0) (omega arith)

  abbrev many : ℕ → Bool
  many r = is_several (node_at ns r) (limit_at g.limits r)

  many-or-not : (r : ℕ) → (many r ≡ true) ⊎ (many r ≡ false)
  many-or-not r = cases (many r) where
    cases : (b : Bool) → (b ≡ true) ⊎ (b ≡ false)
    cases true = inl refl
    cases false = inr refl

  root-is : (v : ℕ) → IsRootNode (node_at ns (root v).0)
  root-is v = root-node ns (get_or us v 0) (root v).0 (node_at ns (root v).0) (root v).1 refl

  overloaded-many : (v : ℕ) → v < length us → IsOverloaded s v → many (root v).0 ≡ true
  overloaded-many v h o =
      elim (many-or-not (root v).0) [
        | inl e ↦ e
        | inr e ↦ absurd (overloaded-no u us g b k d v h (root v).0 (root v).1.same (root-is v) e o)
      ]

  many-overloaded : (v : ℕ) → v < length us → many (root v).0 ≡ true → IsOverloaded s v
  many-overloaded v h e = overloaded-yes u us g b k d v h (root v).0 (root v).1.same (node_at ns (root v).0) refl e

  many-node : (r : ℕ) → many r ≡ true → (node_at ns r ≡ Unknown) × (has_several (limit_at g.limits r).class (limit_at g.limits r).equality ≡ true) × (stand_in (limit_at g.limits r).variables ≡ O.named (initial N.int))
  many-node r e = several-node u (node_at ns r) (limit_at g.limits r) e (k.whole.fit Rigidity r)

  can-meet : (v : ℕ) (τ : Assignment finite) → Meets finite ns τ → ((l : Layer) → KeepsAt l u g.limits τ) → through finite us τ v ≡ O.named (initial N.int) → (l : Layer) → CanMeet l s (to_int v)
  unfolding CanMeet Permits spread spread_all
  can-meet v τ m f e Equations =
      let ρ : Assignment infinite = λ i. spread nothing (τ i) in
      (through infinite us ρ, (ρ, λ i. spread-agrees τ i (node_at ns i) (m i), tt, λ v l. refl), int-is Equations u (through infinite us ρ) v (ap (spread nothing) e))
  can-meet v τ m f e Finiteness = (through finite us τ, (τ, m, λ l h. f l, λ v l. refl), int-is Finiteness u (through finite us τ) v e)
  can-meet v τ m f e Newness = (through finite us τ, (τ, m, λ l h. f l, λ v l. refl), int-is Newness u (through finite us τ) v e)
  can-meet v τ m f e Locality = (through finite us τ, (τ, m, λ l h. f l, λ v l. refl), int-is Locality u (through finite us τ) v e)
  can-meet v τ m f e Equality = (through finite us τ, (τ, m, λ l h. f l, λ v l. refl), int-is Equality u (through finite us τ) v e)
  can-meet v τ m f e Classes = (through finite us τ, (τ, m, λ l h. f l, λ v l. refl), int-is Classes u (through finite us τ) v e)
  can-meet v τ m f e Rigidity = (through finite us τ, (τ, m, λ l h. f l, λ v l. refl), int-is Rigidity u (through finite us τ) v e)

  -- an unknown with a type, and all others with their defaults
  module _ (v : ℕ) (h : v < length us) where
    abbrev with : O.MlType Name → Assignment finite
    with t = types-with u us g b k d v h (root v).0 (root v).1.same t

    with-default : (t : O.MlType Name) (w : ℕ) → w < length us → IsOverloaded s w → (root w).0 ≢ (root v).0 → through finite us (with t) w ≡ O.named (initial N.int)
    with-default t w l o n =
        let e = many-node (root w).0 (overloaded-many w l o) in
        (root w).1.same finite (with t) (solution-meets ns _ k.whole.rank.rank k.whole.rank.ranked)
        ∙ (solution-unknown ns (choice-with u us g b k d v h (root v).0 (root v).1.same t) k.whole.rank.rank (root w).0 e.0
        ∙ (with-there u us g b k d v h (root v).0 (root v).1.same t (root w).0 n
        ∙ e.2))

    -- int can be met in each layer
    pub can-be-int : IsOverloaded s v → (l : Layer) → CanMeet l s (to_int v)
    can-be-int o l =
        let r = (root v).0 in
        let e = many-node r (overloaded-many v h o) in
        let j = two-names u us g b k d v h r (root v).1.same (limit_at g.limits r).class refl e.0 e.1 in
        can-meet v (with (O.named (initial N.int))) (solution-meets ns _ k.whole.rank.rank k.whole.rank.ranked) (with-keeps u us g b k d v h r (root v).1.same (O.named (initial N.int)) j.2) (with-type u us g b k d v h r (root v).1.same (O.named (initial N.int)) e.0) l

  -- what is overloaded after some unknowns became int was overloaded before
  was-overloaded : (vs : List ℕ) (cur : Asked) → ((v : ℕ) → Stands v vs → v < length us) → Settles s vs cur → (v : ℕ) → v < length us → IsOverloaded cur v → IsOverloaded s v
  unfolding Settles
  was-overloaded vs cur c x v h o =
      elim (many-or-not (root v).0) [
        | inl e ↦ many-overloaded v h e
        | inr e ↦
            absurd (node-apart u us g b k d v h (root v).0 (root v).1.same o.one o.other ((x Rigidity o.one).0 o.may_be_one).0 ((x Rigidity o.other).0 o.may_be_other).0 o.apart (o.named_so o.one o.may_be_one) (node_at ns (root v).0) refl (root-is v) e (λ p.
            o.named_so (through finite us (with v h unit)) ((x Rigidity (through finite us (with v h unit))).1 (
              p,
              λ w a q.
                  let f = overloaded-many w (c w a) q in
                  with-default v h unit w (c w a) q (λ z. let y : true ≡ false = sym f ∙ (ap many z ∙ e) in cc),
            ))))
      ]

  -- what was overloaded is so still, unless an unknown that became int is the same
  still-overloaded : (vs : List ℕ) (cur : Asked) → ((v : ℕ) → Stands v vs → v < length us) → Settles s vs cur → (v : ℕ) → v < length us → ((w : ℕ) → Stands w vs → (root w).0 ≢ (root v).0) → IsOverloaded s v → IsOverloaded cur v
  unfolding Settles
  still-overloaded vs cur c x v h apart o =
      let r = (root v).0 in
      let e = many-node r (overloaded-many v h o) in
      let j = two-names u us g b k d v h r (root v).1.same (limit_at g.limits r).class refl e.0 e.1 in
      let up : (t : O.MlType Name) → Permits Rigidity s (through finite us (with v h t)) → Permits Rigidity cur (through finite us (with v h t)) = (λ t p.
      (x Rigidity (through finite us (with v h t))).1 (p, λ w a q. with-default v h t w (c w a) q (apart w a))) in
      record {
        named_so = λ σ p. o.named_so σ ((x Rigidity σ).0 p).0;
        one = through finite us (with v h (O.named (initial N.int)));
        other = through finite us (with v h (O.named (initial j.0)));
        may_be_one = up (O.named (initial N.int)) (with-permits u us g b k d v h r (root v).1.same (O.named (initial N.int)) j.2);
        may_be_other = up (O.named (initial j.0)) (with-permits u us g b k d v h r (root v).1.same (O.named (initial j.0)) j.3);
        apart = with-apart u us g b k d v h r (root v).1.same j.0 j.1 e.0;
      }

  -- an unknown of the list that is the same, or none
  before : (vs : List ℕ) (r : ℕ) → ((w : ℕ) × Stands w vs × ((root w).0 ≡ r)) ⊎ ((w : ℕ) → Stands w vs → (root w).0 ≢ r)
  unfolding Stands
  before [] r = inr (λ w a q. absurd a)
  before (v ∷ vs) r =
      elim (same_or_not (root v).0 r) [
        | inl e ↦ inl (v, inl refl, e)
        | inr x ↦
            elim (before vs r) [
              | inl p ↦ inl (p.0, inr p.1, p.2)
              | inr f ↦
                  inr (λ w a q.
                  elim a [
                    | inl e ↦ x (subst (λ w. (root w).0 ≡ r) e q)
                    | inr i ↦ f w i q
                  ])
            ]
      ]

  same-types : (l : Layer) (σ : Assignment (world l)) (v w : ℕ) → v < length us → w < length us → (root v).0 ≡ (root w).0 → Permits l s σ → σ v ≡ σ w
  unfolding Permits
  same-types l σ v w h i e p =
      sym (p.3 v h) ∙ ((root v).1.same (world l) p.0 p.1 ∙ (ap p.0 e ∙ (sym ((root w).1.same (world l) p.0 p.1) ∙ p.3 w i)))

  pub settled-more : (vs : List ℕ) (m : ℕ) (cur new : Asked) → ((v : ℕ) → Stands v vs → v < length us) → m < length us → Settles s vs cur → Settles cur (m ∷ []) new → Settles s (vs ++ m ∷ []) new
  unfolding Settles
  settled-more vs m cur new a h x y l σ = (
    λ p.
        let q = (y l σ).0 p in
        let z = (x l σ).0 q.0 in (
          z.0,
          λ v i o.
              elim (either v vs (m ∷ []) i) [
                | inl c ↦ z.1 v c o
                | inr c ↦
                    let e : m ≡ v = sym (same-one v m c) in
                    let om : IsOverloaded s m = subst (IsOverloaded s) (sym e) o in
                    subst (λ v. σ v ≡ make (world l) (O.name (initial N.int)) []) e
                    (elim (before vs (root m).0) [
                      | inl w ↦
                          let wl : w.0 < length us = a w.0 w.1 in
                          same-types l σ m w.0 h wl (sym w.2) z.0 ∙ z.1 w.0 w.1 (many-overloaded w.0 wl (ap many w.2 ∙ overloaded-many m h om))
                      | inr f ↦ q.1 m (is-one m) (still-overloaded vs cur a x m h f om)
                    ])
              ],
        ),
    λ p.
        (y l σ).1 (
          (x l σ).1 (p.0, λ v i o. p.1 v (left v vs (m ∷ []) i) o),
          λ v i o.
              let e : m ≡ v = sym (same-one v m i) in
              let ov : IsOverloaded cur m = subst (IsOverloaded cur) (sym e) o in
              subst (λ v. σ v ≡ make (world l) (O.name (initial N.int)) []) e (p.1 m (right m vs (m ∷ []) (is-one m)) (was-overloaded vs cur a x m h ov)),
        ),
  )

pub free-over : (v n : ℕ) → v < n → IsOver n (O.free v)
unfolding IsOver
free-over v n h = h

pub int-over : (n : ℕ) → IsOver n (O.named (initial N.int))
unfolding IsOver AreOver
int-over n = tt

pub not-unmet : (l : Layer) (s : Asked) (d : Demand) → IsFirstUnmet l s d → CanMeet l s d → ⊥
unfolding IsFirstUnmet
not-unmet l s d f c = f.0 c
