-- What solvers were asked, as lists of demands.
use Rattle.std.proofs.Common.{◌≡◌, ◌↔◌, ◌<◌, ◌≤◌, ◌⊎◌, inl, inr, ℕ, zero, suc, Bool, true, false, ◌||◌, List, [], ◌∷◌, map, sym, ap, subst, refl, arith}
use Rattle.std.specs.List.{AllByRecursion}
use Rattle.sml_tree.specs.Trees.{Id}
use Rattle.sml_objects.specs.Appearance.{Stands, stands}
use Rattle.sml_objects.proofs.Standing.{found, was_found}
use Rattle.sml_objects.specs.Initial.{Name, initial, made, naming}
use Rattle.sml_objects.specs.Objects as O
use Rattle.sml_objects.specs.Types.{assign}
use Rattle.sml_layers.specs.declared.layer.Bound.TheVariants as K
use Rattle.sml_layers.specs.declared.layer.Layer.{Layer}
use Rattle.sml_layers.specs.declared.layer.Layer.TheVariants.{Equations, Finiteness, Newness, Locality, Equality, Classes, Rigidity}
use Rattle.sml_layers.specs.declared.variable.Variable.{Variable}
use Rattle.sml_layers.specs.Explicit.{variable_name}
use Rattle.sml_layers.specs.Demands as D
use Rattle.sml_layers.specs.Demands.{CanBeMet, Mentions, AllMention}
use Rattle.sml_layers.specs.Layers.{index_of}
use Rattle.sml_layers.specs.Rebound.{DemandMentions}
use Rattle.sml_layers.specs.Worlds.{world, finite}
use Rattle.sml_graph.specs.declared.demand.Ask.{Ask}
use Rattle.sml_graph.specs.declared.demand.Ask.TheVariants as A
use Rattle.sml_graph.specs.Worlds.{Assignment}
use Rattle.sml_graph.specs.Bounds.{IsWithin, AreWithin, IsNameWithin}
use Rattle.sml_graph.specs.Asked as R
use Rattle.sml_graph.specs.Asked.{Asked, Demand, equal, has_fields, asks, count, layer_of, IsAsAsked, Holds, CanMeet, Adds, IsMet, Permits, PermitsSame}
use Rattle.sml_graph.specs.Said.{ask_of, demand_of, by_number, Says, AreSoFar, IsOfNames, NumbersAreLists, SaysItsDemands}
use Rattle.sml_graph.proofs.Rebounds.{Kept, AllowsSame, met-alike, mentions-more}

-- bounds as numbers and as lists

is_variable : Name → Bool
is_variable (made zero k zero q) = true
is_variable n = false

false-true : false ≡ true → ⊥
false-true h = cc

was-variable : (n : Name) → is_variable n ≡ true → (x : Variable) × (n ≡ variable_name x)
unfolding is_variable
was-variable (initial k) h = absurd (false-true h)
was-variable (made zero k zero q) h = (record { number = k; equality = q }, refl)
was-variable (made zero k (suc a) q) h = absurd (false-true h)
was-variable (made (suc u) k a q) h = absurd (false-true h)

is_kept : List Name → Name → Bool
is_kept ns n = stands naming n ns || is_variable n

or-left : (a b : Bool) → a ≡ true → (a || b) ≡ true
or-left true b h = refl
or-left false b h = cc

or-right : (a b : Bool) → b ≡ true → (a || b) ≡ true
or-right true b h = refl
or-right false b h = h

or-cases : (a b : Bool) → (a || b) ≡ true → (a ≡ true) ⊎ (b ≡ true)
or-cases true b h = inl refl
or-cases false b h = inr h

of-names-kept : (ns : List Name) (n : Name) → IsOfNames ns n → is_kept ns n ≡ true
unfolding is_kept stands is_variable
of-names-kept ns n (inl s) = or-left (stands naming n ns) (is_variable n) (found naming n ns s)
of-names-kept ns n (inr v) = or-right (stands naming n ns) (is_variable n) (ap is_variable v.1)

kept-of-names : (ns : List Name) (n : Name) → is_kept ns n ≡ true → IsOfNames ns n
unfolding is_kept
kept-of-names ns n h = go (or-cases (stands naming n ns) (is_variable n) h)
  where
    go : (stands naming n ns ≡ true) ⊎ (is_variable n ≡ true) → IsOfNames ns n
    go (inl s) = inl (was_found naming n ns s)
    go (inr v) = inr (was-variable n v)

allows-same : (u : ℕ) (ns : List Name) (f : ℕ → List Name) → AreSoFar u ns f
    → AllowsSame naming variable_name (IsNameWithin u) (λ T n. Stands n T ⊎ ((x : Variable) × (n ≡ variable_name x))) f (is_kept ns)
unfolding naming
allows-same u ns f s = record {
  initials = λ k. of-names-kept ns (initial k) (inl (s.initials k));
  variables = λ x. of-names-kept ns (variable_name x) (inr (x, refl));
  forth = λ b n w k. forth b n w (kept-of-names ns n k);
  back = back;
}
  where
    forth : (b : ℕ) (n : Name) → IsNameWithin u b n → IsOfNames ns n → Stands n (f b) ⊎ ((x : Variable) × (n ≡ variable_name x))
    forth b n w (inl h) = inl ((s.lists b n).1 (h, w))
    forth b n w (inr v) = inr v

    back : (b : ℕ) (n : Name) → Stands n (f b) ⊎ ((x : Variable) × (n ≡ variable_name x)) → IsNameWithin u b n
    back b n (inl h) = ((s.lists b n).0 h).1
    back b n (inr v) = subst (IsNameWithin u b) (sym v.1) (λ e. absurd (no (subst (λ k. 0 < k) (sym e) s.unit)))
      where
        no : 0 < 0 → ⊥
        no l = omega (arith, l)

mentions-kept : (ns : List Name) (d : D.Demand Name ℕ) → DemandMentions (IsOfNames ns) d → DemandMentions (Kept (is_kept ns)) d
mentions-kept ns (D.equal t u) m = (more t m.0, more u m.1)
  where
    more : (t : O.MlType Name) → Mentions (IsOfNames ns) t → Mentions (Kept (is_kept ns)) t
    more t m = mentions-more (is_kept ns) (IsOfNames ns) (Kept (is_kept ns)) (of-names-kept ns) t m
mentions-kept ns (D.has_fields t fs) m = (more t m.0, all fs m.1)
  where
    more : (t : O.MlType Name) → Mentions (IsOfNames ns) t → Mentions (Kept (is_kept ns)) t
    more t m = mentions-more (is_kept ns) (IsOfNames ns) (Kept (is_kept ns)) (of-names-kept ns) t m

    all : (fs : List (Id × O.MlType Name)) → AllByRecursion (λ f. Mentions (IsOfNames ns) f.1) fs → AllByRecursion (λ f. Mentions (Kept (is_kept ns)) f.1) fs
    all [] m = tt
    all (f ∷ fs) m = (more f.1 m.0, all fs m.1)
mentions-kept ns (D.asks a t) m = mentions-more (is_kept ns) (IsOfNames ns) (Kept (is_kept ns)) (of-names-kept ns) t m

all-mention-kept : (ns : List Name) (ds : List (D.Demand Name ℕ)) → AllByRecursion (DemandMentions (IsOfNames ns)) ds → AllByRecursion (DemandMentions (Kept (is_kept ns))) ds
all-mention-kept ns [] m = tt
all-mention-kept ns (d ∷ ds) m = (mentions-kept ns d m.0, all-mention-kept ns ds m.1)

pub numbers-are-lists : NumbersAreLists
unfolding NumbersAreLists
numbers-are-lists u ns f s ds m l =
    met-alike naming variable_name (IsNameWithin u) (λ T n. Stands n T ⊎ ((x : Variable) × (n ≡ variable_name x))) f (is_kept ns)
    (allows-same u ns f s) ds (all-mention-kept ns ds m) l

-- what a solver was asked

mutual
  unfolding IsWithin AreWithin Mentions AllMention

  within-mentions : (u n : ℕ) (t : O.MlType Name) → IsWithin u n t ↔ Mentions (IsNameWithin u n) t
  within-mentions u n (O.bound k) = (λ x. x, λ x. x)
  within-mentions u n (O.free v) = (λ x. x, λ x. x)
  within-mentions u n (O.app O.arrow ts) = (λ x. (tt, (all-within u n ts).0 x.1), λ x. (tt, (all-within u n ts).1 x.1))
  within-mentions u n (O.app (O.row ls) ts) = (λ x. (tt, (all-within u n ts).0 x.1), λ x. (tt, (all-within u n ts).1 x.1))
  within-mentions u n (O.app (O.name m) ts) = (λ x. (x.0, (all-within u n ts).0 x.1), λ x. (x.0, (all-within u n ts).1 x.1))

  all-within : (u n : ℕ) (ts : O.MlTypes Name) → AreWithin u n ts ↔ AllMention (IsNameWithin u n) ts
  all-within u n O.no_type = (λ x. x, λ x. x)
  all-within u n (O.and_type t ts) =
      (λ x. ((within-mentions u n t).0 x.0, (all-within u n ts).0 x.1), λ x. ((within-mentions u n t).1 x.0, (all-within u n ts).1 x.1))

asked-same : (u : ℕ) (a : Ask) (t : O.MlType Name) → IsAsAsked u a t ↔ D.IsAsAsked (by_number u) (ask_of a) t
unfolding naming
asked-same u (A.Within k n) t = within-mentions u n t
asked-same u A.Equality t = (λ x. x, λ x. x)
asked-same u (A.Class c) t = (λ x. x, λ x. x)
asked-same u (A.Variable v) t = (λ x. x, λ x. x)

layer-same : (a : Ask) → D.layer_of (ask_of a) ≡ layer_of a
layer-same (A.Within K.Newness n) = refl
layer-same (A.Within K.Locality n) = refl
layer-same A.Equality = refl
layer-same (A.Class c) = refl
layer-same (A.Variable x) = refl

up-to-same : (l : Layer) (u : ℕ) (σ : Assignment finite) (a : Ask) (t : O.MlType Name)
    → (index_of (layer_of a) ≤ index_of l → IsAsAsked u a (assign σ t)) ↔ D.HoldsUpTo (by_number u) l σ (ask_of a) t
up-to-same l u σ a t = (
  λ h p. (asked-same u a (assign σ t)).0 (h (subst (λ k. index_of k ≤ index_of l) (layer-same a) p)),
  λ h p. (asked-same u a (assign σ t)).1 (h (subst (λ k. index_of k ≤ index_of l) (sym (layer-same a)) p)),
)

asks-same : (l : Layer) (u : ℕ) (σ : Assignment (world l)) (a : Ask) (t : O.MlType Name)
    → Holds l u σ (asks a t) ↔ D.Holds (by_number u) (world l) l σ (D.asks (ask_of a) t)
asks-same Equations u σ a t = (λ x. x, λ x. x)
asks-same Finiteness u σ a t = up-to-same Finiteness u σ a t
asks-same Newness u σ a t = up-to-same Newness u σ a t
asks-same Locality u σ a t = up-to-same Locality u σ a t
asks-same Equality u σ a t = up-to-same Equality u σ a t
asks-same Classes u σ a t = up-to-same Classes u σ a t
asks-same Rigidity u σ a t = up-to-same Rigidity u σ a t

holds-same : (l : Layer) (u : ℕ) (σ : Assignment (world l)) (d : Demand) → Holds l u σ d ↔ D.Holds (by_number u) (world l) l σ (demand_of d)
holds-same l u σ (equal t v) = (λ x. x, λ x. x)
holds-same l u σ (has_fields t fs) = (λ x. x, λ x. x)
holds-same l u σ (asks a t) = asks-same l u σ a t

at-first : (s : Asked) → count s ≡ 0 → IsMet s → Says s []
unfolding Says Permits IsMet
at-first s e m l σ = (λ p. tt, λ x. ((m l).1.0, (m l).1.1, (m l).1.2, λ v k. absurd (none v (subst (λ n. v < n) e k))))
  where
    none : (v : ℕ) → v < 0 → ⊥
    none v k = omega (arith, k)

added : (old new : Asked) (d : Demand) (ds : List Demand) → new.unit ≡ old.unit → Adds old d new → Says old ds → Says new (d ∷ ds)
unfolding Says Adds
added old new d ds e a s l σ = subst (λ u. Permits l new σ ↔ D.AllHold (by_number u) (world l) l σ (map demand_of (d ∷ ds))) (sym e) (
  λ p. let q = (a l σ).0 p in ((holds-same l old.unit σ d).0 q.1, (s l σ).0 q.0),
  λ h. (a l σ).1 ((s l σ).1 h.1, (holds-same l old.unit σ d).1 h.0),
)

kept : (old new : Asked) (ds : List Demand) → new.unit ≡ old.unit → PermitsSame old new → Says old ds → Says new ds
unfolding Says PermitsSame
kept old new ds e p s l σ = subst (λ u. Permits l new σ ↔ D.AllHold (by_number u) (world l) l σ (map demand_of ds)) (sym e) (
  λ q. (s l σ).0 ((p l σ).0 q),
  λ h. (p l σ).1 ((s l σ).1 h),
)

can-meet : (s : Asked) (d : Demand) (ds : List Demand) → Says s ds → (l : Layer) → CanMeet l s d ↔ CanBeMet (by_number s.unit) l (map demand_of (d ∷ ds))
unfolding Says CanMeet
can-meet s d ds says l = (
  λ m. (m.0, ((holds-same l s.unit m.0 d).0 m.2, (says l m.0).0 m.1)),
  λ m. (m.0, (says l m.0).1 m.1.1, (holds-same l s.unit m.0 d).1 m.1.0),
)

refused : (s : Asked) (d : Demand) (ds : List Demand) (l : Layer) → Says s ds → R.IsFirstUnmet l s d ↔ D.IsFirstUnmet (by_number s.unit) l (map demand_of (d ∷ ds))
unfolding R.IsFirstUnmet
refused s d ds l says = (
  λ f. (λ m. f.0 ((can-meet s d ds says l).1 m), λ k p. (can-meet s d ds says k).0 (f.1 k p)),
  λ f. (λ m. f.0 ((can-meet s d ds says l).0 m), λ k p. (can-meet s d ds says k).1 (f.1 k p)),
)

pub says-its-demands : SaysItsDemands
says-its-demands = record { at_first = at-first; added = added; kept = kept; refused = refused }
