-- Where some types meet what is asked of unknowns, so do types without variables, whose heads have the parts that they take.
use Rattle.std.specs.Prelude.{◌≡◌, ◌&&◌, ◌||◌, suc, length, ℕ, Bool, true, false, cond, List, [], ◌∷◌, map, Some}
use Rattle.std.specs.List.{AllByRecursion}
use Rattle.std.proofs.lemmas.Bool.{false≢true}
use Rattle.std.proofs.lemmas.List.{length-map}
use mathlib.Core.Path.{refl, sym, ap, subst, ◌∙◌}
use Rattle.sml_tree.specs.Trees.{Id}
use Rattle.sml_objects.specs.Equality.{admits_by, all_admit_by, is_ref, has_equality}
use Rattle.sml_objects.specs.Labels.{with_labels, AreRising}
use Rattle.sml_objects.specs.Maps.{lookup}
use Rattle.sml_objects.specs.Names.{Initial, int, word, char, string, bool, exn, real, list, ref}
use Rattle.sml_objects.specs.Objects.{MlType, MlTypes, Head, bound, free, app, arrow, row, name, named, no_type, and_type, types_of}
use Rattle.sml_objects.specs.Types.{assign, replace_type, replace_types}
use Rattle.sml_layers.specs.declared.class.Class.{Class}
use Rattle.sml_layers.specs.declared.layer.Layer.TheVariants.{Rigidity}
use Rattle.sml_layers.specs.declared.variable.Variable.{Variable}
use Rattle.sml_layers.specs.Classes.{names_in, allows}
use Rattle.sml_layers.specs.Demands.{Demand, Ask, within, equality, of_class, variable, equal, has_fields, asks, Mentions, AllMention, IsAsAsked, Holds, AllHold}
use Rattle.sml_layers.specs.Rows.{HasFields, fields_at}
use Rattle.sml_layers.specs.Worlds.{Assignment, finite}
use Rattle.sml_core_rules.specs.Objects.{replaced}
use Rattle.sml_core_rules.specs.States.{Scope, State, words}
use Rattle.sml_core_rules.specs.Types.{count_types}
use Rattle.sml_core_rules.proofs.Assigned.{there, lookup-there}
use Rattle.sml_core_laws.specs.Made.{Speaks, AllSpeak, IsHeadIn, IsDemandIn}
use Rattle.sml_core_laws.proofs.MadeShapes.{IsShape, IsAlone}
use Rattle.sml_core_laws.proofs.MadeTypes.{count-replaced}

module _ {N : Type 0} (keep : Head N → ℕ → Bool) where
  abbrev nil : MlType N
  nil = app (row []) no_type

  abbrev pub Kept : Head N → ℕ → Type 0
  Kept h k = keep h k ≡ true

  unfoldable mutual
    pub cleaned : MlType N → MlType N
    cleaned (bound k) = nil
    cleaned (free v) = nil
    cleaned (app h ts) = cond (keep h (count_types ts)) (app h (all_cleaned ts)) nil

    pub all_cleaned : MlTypes N → MlTypes N
    all_cleaned no_type = no_type
    all_cleaned (and_type t ts) = and_type (cleaned t) (all_cleaned ts)

  count-cleaned : (ts : MlTypes N) → count_types (all_cleaned ts) ≡ count_types ts
  unfolding cleaned
  count-cleaned no_type = refl
  count-cleaned (and_type t ts) = ap suc (count-cleaned ts)

  mutual
    unfolding Speaks cleaned

    pub cleaned-speaks : Kept (row []) 0 → (t : MlType N) → Speaks (λ k. ⊥) (λ v. ⊥) Kept (cleaned t)
    cleaned-speaks e (bound k) = (e, tt)
    cleaned-speaks e (free v) = (e, tt)
    cleaned-speaks e (app h ts) = go (keep h (count_types ts)) refl (all-cleaned-speak e ts)
      where
        go : (b : Bool) → keep h (count_types ts) ≡ b → AllSpeak (λ k. ⊥) (λ v. ⊥) Kept (all_cleaned ts) → Speaks (λ k. ⊥) (λ v. ⊥) Kept (cond b (app h (all_cleaned ts)) nil)
        go true k m = (ap (keep h) (count-cleaned ts) ∙ k, m)
        go false k m = (e, tt)

    all-cleaned-speak : Kept (row []) 0 → (ts : MlTypes N) → AllSpeak (λ k. ⊥) (λ v. ⊥) Kept (all_cleaned ts)
    all-cleaned-speak e no_type = tt
    all-cleaned-speak e (and_type t ts) = (cleaned-speaks e t, all-cleaned-speak e ts)

  -- a head that is kept
  cleaned-kept : (h : Head N) (ts : MlTypes N) → Kept h (count_types ts) → cleaned (app h ts) ≡ app h (all_cleaned ts)
  unfolding cleaned
  cleaned-kept h ts k = ap (λ b. cond b (app h (all_cleaned ts)) nil) k

  module _ (σ : ℕ → MlType N) (V : ℕ → Type 0) (H : Head N → ℕ → Type 0) (kept : (h : Head N) (k : ℕ) → H h k → Kept h k) where
    mutual
      unfolding Speaks cleaned replace_type

      cleaned-assigned : (t : MlType N) → Speaks (λ k. ⊥) V H t → cleaned (assign σ t) ≡ assign (λ v. cleaned (σ v)) t
      cleaned-assigned (bound k) m = absurd m
      cleaned-assigned (free v) m = refl
      cleaned-assigned (app h ts) m =
          ap (λ b. cond b (app h (all_cleaned (replace_types bound σ ts))) nil) (ap (keep h) (count-replaced bound σ ts) ∙ kept h (count_types ts) m.0) ∙ ap (app h) (all-cleaned-assigned ts m.1)

      all-cleaned-assigned : (ts : MlTypes N) → AllSpeak (λ k. ⊥) V H ts → all_cleaned (replace_types bound σ ts) ≡ replace_types bound (λ v. cleaned (σ v)) ts
      all-cleaned-assigned no_type m = refl
      all-cleaned-assigned (and_type t ts) m =
          ap (λ u. and_type u (all_cleaned (replace_types bound σ ts))) (cleaned-assigned t m.0) ∙ ap (and_type (assign (λ v. cleaned (σ v)) t)) (all-cleaned-assigned ts m.1)

    fields-assigned : (fs : List (Id × MlType N)) → AllByRecursion (λ f. Speaks (λ k. ⊥) V H f.1) fs → fields_at cleaned (fields_at (assign σ) fs) ≡ fields_at (assign (λ v. cleaned (σ v))) fs
    fields-assigned [] m = refl
    fields-assigned (f ∷ fs) m =
        ap (λ t. (f.0, t) ∷ fields_at cleaned (fields_at (assign σ) fs)) (cleaned-assigned f.1 m.0) ∙ ap (λ gs. (f.0, assign (λ v. cleaned (σ v)) f.1) ∷ gs) (fields-assigned fs m.1)

  -- rows

  all-cleaned-list : (ts : List (MlType N)) → all_cleaned (types_of ts) ≡ types_of (map cleaned ts)
  unfolding cleaned
  all-cleaned-list [] = refl
  all-cleaned-list (t ∷ ts) = ap (and_type (cleaned t)) (all-cleaned-list ts)

  count-list : (ts : List (MlType N)) → count_types (types_of ts) ≡ length ts
  count-list [] = refl
  count-list (t ∷ ts) = ap suc (count-list ts)

  labels-cleaned : (ls : List Id) (ts : List (MlType N)) → with_labels ls (map cleaned ts) ≡ replaced cleaned (with_labels ls ts)
  labels-cleaned [] ts = refl
  labels-cleaned (l ∷ ls) [] = refl
  labels-cleaned (l ∷ ls) (t ∷ ts) = ap (λ m. (l, cleaned t) ∷ m) (labels-cleaned ls ts)

  fields-cleaned : (ls : List Id) (ts : List (MlType N)) (fs : List (Id × MlType N))
      → AllByRecursion (λ f. lookup f.0 (with_labels ls ts) ≡ Some f.1) fs → AllByRecursion (λ f. lookup f.0 (with_labels ls (map cleaned ts)) ≡ Some f.1) (fields_at cleaned fs)
  fields-cleaned ls ts [] h = tt
  fields-cleaned ls ts (f ∷ fs) h =
      (ap (lookup f.0) (labels-cleaned ls ts) ∙ (lookup-there cleaned f.0 (with_labels ls ts) ∙ ap (there cleaned) h.0), fields-cleaned ls ts fs h.1)

  cleaned-fields : ((ls : List Id) → AreRising ls → Kept (row ls) (length ls)) → (t : MlType N) (fs : List (Id × MlType N)) → HasFields N finite t fs → HasFields N finite (cleaned t) (fields_at cleaned fs)
  cleaned-fields rows t fs h = record {
    labels = h.labels;
    types = map cleaned h.types;
    rising = h.rising;
    count = length-map h.types cleaned ∙ h.count;
    is_row =
        ap cleaned h.is_row
        ∙ (cleaned-kept (row h.labels) (types_of h.types) (ap (keep (row h.labels)) (count-list h.types ∙ h.count) ∙ rows h.labels h.rising) ∙ ap (app (row h.labels)) (all-cleaned-list h.types));
    fields = fields-cleaned h.labels h.types fs h.fields;
  }

  -- what is asked

  mutual
    unfolding Mentions cleaned

    cleaned-mentions : (Q : N → Type 0) (t : MlType N) → Mentions Q t → Mentions Q (cleaned t)
    cleaned-mentions Q (bound k) h = (tt, tt)
    cleaned-mentions Q (free v) h = (tt, tt)
    cleaned-mentions Q (app g ts) h = go (keep g (count_types ts)) (all-cleaned-mention Q ts h.1)
      where
        go : (b : Bool) → AllMention Q (all_cleaned ts) → Mentions Q (cond b (app g (all_cleaned ts)) nil)
        go true m = (h.0, m)
        go false m = (tt, tt)

    all-cleaned-mention : (Q : N → Type 0) (ts : MlTypes N) → AllMention Q ts → AllMention Q (all_cleaned ts)
    all-cleaned-mention Q no_type h = tt
    all-cleaned-mention Q (and_type t ts) h = (cleaned-mentions Q t h.0, all-cleaned-mention Q ts h.1)

  both : (b c d e : Bool) → (b && c) ≡ true → (b ≡ true → d ≡ true) → (c ≡ true → e ≡ true) → (d && e) ≡ true
  both true c d e h f g = λ i. f refl i && g h i
  both false c d e h f g = absurd (false≢true h)

  named-admits : (r b c d : Bool) → (r || (b && c)) ≡ true → (c ≡ true → d ≡ true) → (r || (b && d)) ≡ true
  named-admits true b c d h f = refl
  named-admits false b c d h f = both b c b d h (λ e. e) f

  module _ (refs eq : N → Bool) where
    passes : (b : Bool) (t : MlType N) → admits_by refs (λ v. false) eq t ≡ true → admits_by refs (λ v. false) eq (cond b t nil) ≡ true
    unfolding admits_by
    passes true t h = h
    passes false t h = refl

    mutual
      unfolding admits_by cleaned

      cleaned-admits : (t : MlType N) → admits_by refs (λ v. false) eq t ≡ true → admits_by refs (λ v. false) eq (cleaned t) ≡ true
      cleaned-admits (bound k) h = absurd (false≢true h)
      cleaned-admits (free v) h = absurd (false≢true h)
      cleaned-admits (app arrow ts) h = absurd (false≢true h)
      cleaned-admits (app (row ls) ts) h = passes (keep (row ls) (count_types ts)) (app (row ls) (all_cleaned ts)) (all-cleaned-admit ts h)
      cleaned-admits (app (name n) ts) h =
          passes (keep (name n) (count_types ts)) (app (name n) (all_cleaned ts))
          (named-admits (refs n) (eq n) (all_admit_by refs (λ v. false) eq ts) (all_admit_by refs (λ v. false) eq (all_cleaned ts)) h (all-cleaned-admit ts))

      all-cleaned-admit : (ts : MlTypes N) → all_admit_by refs (λ v. false) eq ts ≡ true → all_admit_by refs (λ v. false) eq (all_cleaned ts) ≡ true
      all-cleaned-admit no_type h = refl
      all-cleaned-admit (and_type t ts) h =
          both (admits_by refs (λ v. false) eq t) (all_admit_by refs (λ v. false) eq ts) (admits_by refs (λ v. false) eq (cleaned t)) (all_admit_by refs (λ v. false) eq (all_cleaned ts)) h (cleaned-admits t)
          (all-cleaned-admit ts)

-- the names of a class have no parameters
class-alone : (c : Class) (k : Initial) → allows (names_in c) k ≡ true → IsAlone k
class-alone c int h = tt
class-alone c word h = tt
class-alone c char h = tt
class-alone c string h = tt
class-alone c bool h = tt
class-alone c exn h = tt
class-alone c real h = tt
class-alone c list h = absurd (false≢true h)
class-alone c ref h = absurd (false≢true h)

module _ {P N : Type 0} (scope : Scope N) (S : Head N → ℕ → Type 0) (shape : IsShape scope.names S) (variables : (x : Variable) → S (name (scope.variable x)) 0) (s : State P N) where
  abbrev pub keep : Head N → ℕ → Bool
  keep h k = shape.test h k

  name-cleaned : (n : N) → S (name n) 0 → cleaned keep (named n) ≡ named n
  unfolding cleaned
  name-cleaned n h = ap (λ b. cond b (named n) (app (row []) no_type)) (shape.passes (name n) 0 h)

  asked-cleaned : (a : Ask (List N)) (t : MlType N) → IsAsAsked (words scope) a t → IsAsAsked (words scope) a (cleaned keep t)
  asked-cleaned (within k b) t h = cleaned-mentions keep _ t h
  asked-cleaned equality t h = cleaned-admits keep (is_ref scope.names) (has_equality scope.names) t h
  asked-cleaned (of_class c) t (k, m, e) = (k, m, ap (cleaned keep) e ∙ name-cleaned (scope.names.initial k) (shape.names_alone k (class-alone c k m)))
  asked-cleaned (variable x) t h = ap (cleaned keep) h ∙ name-cleaned (scope.variable x) (variables x)

  kept : (h : Head N) (k : ℕ) → IsHeadIn S s.names h k → keep h k ≡ true
  kept h k m = shape.passes h k m.1

  holds-cleaned : (σ : Assignment N finite) (d : Demand N (List N)) → IsDemandIn S s.made s.names d → Holds (words scope) finite Rigidity σ d → Holds (words scope) finite Rigidity (λ v. cleaned keep (σ v)) d
  holds-cleaned σ (equal t u) m h = sym (cleaned-assigned keep σ _ _ kept t m.0) ∙ (ap (cleaned keep) h ∙ cleaned-assigned keep σ _ _ kept u m.1)
  holds-cleaned σ (has_fields t fs) m h =
      subst (λ t. HasFields N finite t (fields_at (assign (λ v. cleaned keep (σ v))) fs)) (cleaned-assigned keep σ _ _ kept t m.0)
      (subst (HasFields N finite (cleaned keep (assign σ t))) (fields-assigned keep σ _ _ kept fs m.1)
      (cleaned-fields keep (λ ls r. shape.passes (row ls) (length ls) (shape.rows ls r)) (assign σ t) (fields_at (assign σ) fs) h))
  holds-cleaned σ (asks a t) m h = λ l. subst (IsAsAsked (words scope) a) (cleaned-assigned keep σ _ _ kept t m) (asked-cleaned a (assign σ t) (h l))

  pub all-cleaned-hold : (σ : Assignment N finite) (ds : List (Demand N (List N))) → AllByRecursion (IsDemandIn S s.made s.names) ds → AllHold (words scope) finite Rigidity σ ds
      → AllHold (words scope) finite Rigidity (λ v. cleaned keep (σ v)) ds
  all-cleaned-hold σ [] m h = tt
  all-cleaned-hold σ (d ∷ ds) m h = (holds-cleaned σ d m.0 h.0, all-cleaned-hold σ ds m.1 h.1)
