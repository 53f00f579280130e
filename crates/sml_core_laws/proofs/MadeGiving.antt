-- Where heads that were not made give way to the row without fields, the equations of a state that is well made hold still. So the types
-- that a type stands for speak of what was made.
use Rattle.std.specs.Prelude.{◌≡◌, ◌&&◌, suc, length, ◌<◌, ◌≤◌, ℕ, Bool, true, false, cond, List, [], ◌∷◌, map, Some}
use Rattle.std.specs.List.{AllByRecursion}
use Rattle.std.proofs.Common.{arith}
use Rattle.std.proofs.lemmas.List.{length-map}
use mathlib.Core.Path.{refl, sym, ap, subst, ◌∙◌}
use Rattle.sml_tree.specs.Trees.{Id}
use Rattle.sml_objects.specs.Appearance.{stands}
use Rattle.sml_objects.specs.Labels.{with_labels, AreRising}
use Rattle.sml_objects.specs.Maps.{lookup}
use Rattle.sml_objects.specs.Objects.{MlType, MlTypes, bound, free, app, arrow, row, name, no_type, and_type, types_of, Head}
use Rattle.sml_objects.specs.Types.{assign, replace_type, replace_types}
use Rattle.sml_objects.proofs.Standing.{found, was_found}
use Rattle.sml_layers.specs.declared.layer.Bound.TheVariants as B
use Rattle.sml_layers.specs.declared.layer.Layer.TheVariants.{Finiteness, Rigidity}
use Rattle.sml_layers.specs.Demands.{Demand, Ask, within, equality, of_class, variable, equal, has_fields, asks, layer_of, Holds, AllHold}
use Rattle.sml_layers.specs.Layers.{index_of}
use Rattle.sml_layers.specs.Rows.{HasFields, fields_at}
use Rattle.sml_layers.specs.Worlds.{Assignment, finite}
use Rattle.sml_core_rules.specs.Objects.{replaced}
use Rattle.sml_core_rules.specs.Solutions.{Meets, IsOfLeft, AreOfLeft, StandsFor}
use Rattle.sml_core_rules.specs.States.{Scope, State, words}
use Rattle.sml_core_rules.proofs.Assigned.{there, lookup-there}
use Rattle.std.specs.List.Sorted.{IsStrictlySortedBy}
use Rattle.sml_core_rules.specs.Types.{count_types}
use Rattle.sml_core_laws.proofs.MadeShapes.{IsShape, both-true}
use Rattle.sml_core_laws.specs.Made.{Speaks, AllSpeak, IsTypeIn, IsDemandIn, IsWellMade, IsHeadIn}
use Rattle.sml_core_laws.proofs.MadeTypes.{replaced-speaks, count-replaced}

abbrev Any : ℕ → Type 0
Any k = Unit {0}

-- heads that aren't kept give way
module _ {N : Type 0} (keep : Head N → ℕ → Bool) where
  abbrev Kept : Head N → ℕ → Type 0
  Kept h k = keep h k ≡ true

  abbrev given_head : Bool → Head N → MlTypes N → MlType N
  given_head b h ts = cond b (app h ts) (app (row []) no_type)

  unfoldable mutual
    given : MlType N → MlType N
    given (bound k) = bound k
    given (free v) = free v
    given (app h ts) = given_head (keep h (count_types ts)) h (all_given ts)

    all_given : MlTypes N → MlTypes N
    all_given no_type = no_type
    all_given (and_type t ts) = and_type (given t) (all_given ts)

  count-given : (ts : MlTypes N) → count_types (all_given ts) ≡ count_types ts
  unfolding given
  count-given no_type = refl
  count-given (and_type t ts) = ap suc (count-given ts)

  mutual
    unfolding Speaks given

    given-speaks : Kept (row []) 0 → (t : MlType N) → Speaks Any Any Kept (given t)
    given-speaks e (bound k) = tt
    given-speaks e (free v) = tt
    given-speaks e (app h ts) = go (keep h (count_types ts)) refl (all-given-speak e ts)
      where
        go : (b : Bool) → keep h (count_types ts) ≡ b → AllSpeak Any Any Kept (all_given ts) → Speaks Any Any Kept (given_head b h (all_given ts))
        go true k m = (ap (keep h) (count-given ts) ∙ k, m)
        go false k m = (e, tt)

    all-given-speak : Kept (row []) 0 → (ts : MlTypes N) → AllSpeak Any Any Kept (all_given ts)
    all-given-speak e no_type = tt
    all-given-speak e (and_type t ts) = (given-speaks e t, all-given-speak e ts)

  module _ (σ : ℕ → MlType N) (C V : ℕ → Type 0) (H : Head N → ℕ → Type 0) (kept : (h : Head N) (k : ℕ) → H h k → Kept h k) where
    mutual
      unfolding Speaks given replace_type

      given-assigned : (t : MlType N) → Speaks C V H t → given (assign σ t) ≡ assign (λ v. given (σ v)) t
      given-assigned (bound k) m = refl
      given-assigned (free v) m = refl
      given-assigned (app h ts) m =
          ap (λ b. given_head b h (all_given (replace_types bound σ ts))) (ap (keep h) (count-replaced bound σ ts) ∙ kept h (count_types ts) m.0) ∙ ap (app h) (all-given-assigned ts m.1)

      all-given-assigned : (ts : MlTypes N) → AllSpeak C V H ts → all_given (replace_types bound σ ts) ≡ replace_types bound (λ v. given (σ v)) ts
      all-given-assigned no_type m = refl
      all-given-assigned (and_type t ts) m =
          ap (λ u. and_type u (all_given (replace_types bound σ ts))) (given-assigned t m.0) ∙ ap (and_type (assign (λ v. given (σ v)) t)) (all-given-assigned ts m.1)

    fields-assigned : (fs : List (Id × MlType N)) → AllByRecursion (λ f. Speaks C V H f.1) fs → fields_at given (fields_at (assign σ) fs) ≡ fields_at (assign (λ v. given (σ v))) fs
    fields-assigned [] m = refl
    fields-assigned (f ∷ fs) m =
        ap (λ t. (f.0, t) ∷ fields_at given (fields_at (assign σ) fs)) (given-assigned f.1 m.0) ∙ ap (λ gs. (f.0, assign (λ v. given (σ v)) f.1) ∷ gs) (fields-assigned fs m.1)

  -- rows

  all-given-list : (ts : List (MlType N)) → all_given (types_of ts) ≡ types_of (map given ts)
  unfolding given
  all-given-list [] = refl
  all-given-list (t ∷ ts) = ap (and_type (given t)) (all-given-list ts)

  count-list : (ts : List (MlType N)) → count_types (types_of ts) ≡ length ts
  count-list [] = refl
  count-list (t ∷ ts) = ap suc (count-list ts)

  labels-given : (ls : List Id) (ts : List (MlType N)) → with_labels ls (map given ts) ≡ replaced given (with_labels ls ts)
  labels-given [] ts = refl
  labels-given (l ∷ ls) [] = refl
  labels-given (l ∷ ls) (t ∷ ts) = ap (λ m. (l, given t) ∷ m) (labels-given ls ts)

  fields-given : (ls : List Id) (ts : List (MlType N)) (fs : List (Id × MlType N))
      → AllByRecursion (λ f. lookup f.0 (with_labels ls ts) ≡ Some f.1) fs → AllByRecursion (λ f. lookup f.0 (with_labels ls (map given ts)) ≡ Some f.1) (fields_at given fs)
  fields-given ls ts [] h = tt
  fields-given ls ts (f ∷ fs) h =
      (ap (lookup f.0) (labels-given ls ts) ∙ (lookup-there given f.0 (with_labels ls ts) ∙ ap (there given) h.0), fields-given ls ts fs h.1)

  given-fields : ((ls : List Id) → AreRising ls → Kept (row ls) (length ls)) → (t : MlType N) (fs : List (Id × MlType N)) → HasFields N finite t fs → HasFields N finite (given t) (fields_at given fs)
  unfolding given
  given-fields rows t fs h = record {
    labels = h.labels;
    types = map given h.types;
    rising = h.rising;
    count = length-map h.types given ∙ h.count;
    is_row =
        ap given h.is_row
        ∙ (ap (λ b. given_head b (row h.labels) (all_given (types_of h.types))) (ap (keep (row h.labels)) (count-list h.types ∙ h.count) ∙ rows h.labels h.rising)
        ∙ ap (app (row h.labels)) (all-given-list h.types));
    fields = fields-given h.labels h.types fs h.fields;
  }

-- the layer of what is asked is none of the equations'
late : {A : Type 0} (a : Ask A) → index_of (layer_of a) ≤ index_of Finiteness → ⊥
late (within B.Newness b) h = omega arith
late (within B.Locality b) h = omega arith
late equality h = omega arith
late (of_class c) h = omega arith
late (variable x) h = omega arith

module _ {P N : Type 0} (scope : Scope N) (S : Head N → ℕ → Type 0) (shape : IsShape scope.names S) (s : State P N) where
  names_made : Head N → Bool
  names_made arrow = true
  names_made (row ls) = true
  names_made (name n) = stands scope.names n s.names

  keep : Head N → ℕ → Bool
  keep h k = names_made h && shape.test h k

  kept : (h : Head N) (k : ℕ) → IsHeadIn S s.names h k → keep h k ≡ true
  unfolding keep names_made
  kept arrow k m = shape.passes arrow k m.1
  kept (row ls) k m = shape.passes (row ls) k m.1
  kept (name n) k m = ap (λ b. b && shape.test (name n) k) (found scope.names n s.names m.0) ∙ shape.passes (name n) k m.1

  was-kept : (h : Head N) (k : ℕ) → keep h k ≡ true → IsHeadIn S s.names h k
  unfolding keep names_made
  was-kept arrow k e = (tt, shape.tested arrow k e)
  was-kept (row ls) k e = (tt, shape.tested (row ls) k e)
  was-kept (name n) k e = let b = both-true (stands scope.names n s.names) (shape.test (name n) k) e in (was_found scope.names n s.names b.0, shape.tested (name n) k b.1)

  rows-kept : (ls : List Id) → AreRising ls → keep (row ls) (length ls) ≡ true
  rows-kept ls r = kept (row ls) (length ls) (tt, shape.rows ls r)

  nil-kept : keep (row []) 0 ≡ true
  unfolding IsStrictlySortedBy
  nil-kept = rows-kept [] tt

  holds-given : (σ : Assignment N finite) (d : Demand N (List N)) → IsDemandIn S s.made s.names d → Holds (words scope) finite Rigidity σ d → Holds (words scope) finite Finiteness (λ v. given keep (σ v)) d
  holds-given σ (equal t u) m h = sym (given-assigned keep σ _ _ _ kept t m.0) ∙ (ap (given keep) h ∙ given-assigned keep σ _ _ _ kept u m.1)
  holds-given σ (has_fields t fs) m h =
      subst (λ t. HasFields N finite t (fields_at (assign (λ v. given keep (σ v))) fs)) (given-assigned keep σ _ _ _ kept t m.0)
      (subst (HasFields N finite (given keep (assign σ t))) (fields-assigned keep σ _ _ _ kept fs m.1) (given-fields keep rows-kept (assign σ t) (fields_at (assign σ) fs) h))
  holds-given σ (asks a t) m h = λ l. absurd (late a l)

  all-hold-given : (σ : Assignment N finite) (ds : List (Demand N (List N))) → AllByRecursion (IsDemandIn S s.made s.names) ds → AllHold (words scope) finite Rigidity σ ds
      → AllHold (words scope) finite Finiteness (λ v. given keep (σ v)) ds
  all-hold-given σ [] m h = tt
  all-hold-given σ (d ∷ ds) m h = (holds-given σ d m.0 h.0, all-hold-given σ ds m.1 h.1)

  -- a type that speaks of unknowns that are left, and has such heads where others stand for them
  mutual
    unfolding Speaks IsOfLeft replace_type

    left-in : (σ : ℕ → MlType N) (t : MlType N) → IsOfLeft scope s t → Speaks Any Any (Kept keep) (assign σ t) → IsTypeIn S s.made s.names t
    left-in σ (bound k) l m = l
    left-in σ (free v) l m = l.0
    left-in σ (app h ts) l m = (was-kept h (count_types ts) (ap (keep h) (sym (count-replaced bound σ ts)) ∙ m.0), all-left-in σ ts l m.1)

    all-left-in : (σ : ℕ → MlType N) (ts : MlTypes N) → AreOfLeft scope s ts → AllSpeak Any Any (Kept keep) (replace_types bound σ ts)
        → AllSpeak (λ k. ⊥) (λ v. v < s.made) (IsHeadIn S s.names) ts
    all-left-in σ no_type l m = tt
    all-left-in σ (and_type t ts) l m = (left-in σ t l.0 m.0, all-left-in σ ts l.1 m.1)

  pub reading-in : IsWellMade S scope s → (t r : MlType N) → IsTypeIn S s.made s.names t → StandsFor scope s t r → IsTypeIn S s.made s.names r
  unfolding StandsFor
  reading-in w t r m h =
      let σ : Assignment N finite = λ v. given keep (w.met.0 v) in
      let all : Meets scope s Finiteness σ = all-hold-given w.met.0 s.demands w.demands w.met.1 in
      left-in σ r h.0
      (subst (Speaks Any Any (Kept keep)) (sym (h.1 σ all)) (replaced-speaks bound σ _ _ _ _ _ _ t m (λ k b. absurd b) (λ v l. given-speaks keep nil-kept (w.met.0 v)) kept))
