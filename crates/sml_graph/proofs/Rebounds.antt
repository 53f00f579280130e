-- Demands with other bounds that allow the same of the names that are kept. A name that isn't kept is led back: with its
-- arguments it becomes the row without fields.
use Rattle.std.proofs.Common.{◌≡◌, ◌↔◌, ◌≤◌, ℕ, Bool, true, false, cond, ◌&&◌, ◌||◌, List, [], ◌∷◌, map, Some, sym, ◌∙◌, ap, subst, refl}
use Rattle.std.specs.Prelude.{option_map}
use Rattle.std.specs.List.{AllByRecursion}
use Rattle.std.proofs.lemmas.List.{length-map}
use Rattle.sml_tree.specs.Trees.{Id}
use Rattle.sml_objects.specs.Names.{Naming, Initial}
use Rattle.sml_objects.specs.Equality.{admits, all_admit, is_ref, admits_by, all_admit_by}
use Rattle.sml_objects.specs.Labels.{with_labels}
use Rattle.sml_objects.specs.Maps.{lookup}
use Rattle.sml_objects.specs.Objects.{MlType, MlTypes, bound, free, app, arrow, row, name, no_type, and_type, named, types_of}
use Rattle.sml_objects.specs.Types.{assign, replace_type, replace_types}
use Rattle.sml_layers.specs.declared.layer.Bound.TheVariants as K
use Rattle.sml_layers.specs.declared.layer.Layer.{Layer}
use Rattle.sml_layers.specs.declared.variable.Variable.{Variable}
use Rattle.sml_layers.specs.Demands.{Ask, within, equality, of_class, variable, Demand, equal, has_fields, asks, Words, IsAsAsked, Holds, AllHold, CanBeMet, Mentions, AllMention, layer_of}
use Rattle.sml_layers.specs.Layers.{index_of}
use Rattle.sml_layers.specs.Rebound.{rebound, rebound_ask, DemandMentions}
use Rattle.sml_layers.specs.Rows.{HasFields, fields_at}
use Rattle.sml_layers.specs.Worlds.{World, Assignment, finite, infinite, world}
use Rattle.sml_graph.proofs.Rowing.{labels-map, lookup-at}

or-and : (a b c d : Bool) → (c ≡ true → d ≡ true) → (a || (b && c)) ≡ true → (a || (b && d)) ≡ true
or-and true b c d f h = refl
or-and false true c d f h = f h
or-and false false c d f h = h

both : (a b c d : Bool) → (a ≡ true → c ≡ true) → (b ≡ true → d ≡ true) → (a && b) ≡ true → (c && d) ≡ true
both true b c d f g h = subst (λ x. (x && d) ≡ true) (sym (f refl)) (g h)
both false b c d f g h = absurd (subst (λ x. cond x ⊥ (Unit {0})) h tt)

-- the same names, variables and bounds, in words
abbrev pub words : {N B : Type 0} → Naming N → (Variable → N) → (B → N → Type 0) → Words N B
words names var Allows = record { names = names; variable = λ x. named (var x); equality = λ _. false; Allows = Allows }

module _ {N : Type 0} (keep : N → Bool) where
  abbrev pub Kept : N → Type 0
  Kept n = keep n ≡ true

  unfoldable mutual
    pub led : MlType N → MlType N
    led (bound k) = bound k
    led (free v) = free v
    led (app arrow ts) = app arrow (all_led ts)
    led (app (row ls) ts) = app (row ls) (all_led ts)
    led (app (name n) ts) = cond (keep n) (app (name n) (all_led ts)) (app (row []) no_type)

    pub all_led : MlTypes N → MlTypes N
    all_led no_type = no_type
    all_led (and_type t ts) = and_type (led t) (all_led ts)

  abbrev led_name : N → MlTypes N → Bool → MlType N
  led_name n ts b = cond b (app (name n) (all_led ts)) (app (row []) no_type)

  mutual
    unfolding led all_led replace_type replace_types Mentions AllMention

    pub led-assigned : (σ : ℕ → MlType N) (t : MlType N) → Mentions Kept t → led (assign σ t) ≡ assign (λ v. led (σ v)) t
    led-assigned σ (bound k) m = refl
    led-assigned σ (free v) m = refl
    led-assigned σ (app arrow ts) m = ap (app arrow) (all-led-assigned σ ts m.1)
    led-assigned σ (app (row ls) ts) m = ap (app (row ls)) (all-led-assigned σ ts m.1)
    led-assigned σ (app (name n) ts) m =
        ap (led_name n (replace_types bound σ ts)) m.0 ∙ ap (app (name n)) (all-led-assigned σ ts m.1)

    pub all-led-assigned : (σ : ℕ → MlType N) (ts : MlTypes N) → AllMention Kept ts → all_led (replace_types bound σ ts) ≡ replace_types bound (λ v. led (σ v)) ts
    all-led-assigned σ no_type m = refl
    all-led-assigned σ (and_type t ts) m =
        ap (λ u. and_type u (all_led (replace_types bound σ ts))) (led-assigned σ t m.0)
        ∙ ap (and_type (assign (λ v. led (σ v)) t)) (all-led-assigned σ ts m.1)

  mutual
    unfolding led all_led admits_by all_admit_by

    pub led-admits : (names : Naming N) (t : MlType N) → admits names t ≡ true → admits names (led t) ≡ true
    led-admits names (bound k) h = h
    led-admits names (free v) h = h
    led-admits names (app arrow ts) h = h
    led-admits names (app (row ls) ts) h = all-led-admit names ts h
    led-admits names (app (name n) ts) h =
        by_keep (keep n) (or-and (is_ref names n) ((names.attributes n).equality) (all_admit names ts) (all_admit names (all_led ts)) (all-led-admit names ts) h)
      where
        by_keep : (b : Bool) → admits names (app (name n) (all_led ts)) ≡ true → admits names (led_name n ts b) ≡ true
        by_keep true k = k
        by_keep false k = refl

    pub all-led-admit : (names : Naming N) (ts : MlTypes N) → all_admit names ts ≡ true → all_admit names (all_led ts) ≡ true
    all-led-admit names no_type h = refl
    all-led-admit names (and_type t ts) h =
        both (admits names t) (all_admit names ts) (admits names (led t)) (all_admit names (all_led ts)) (led-admits names t) (all-led-admit names ts) h

  mutual
    unfolding led all_led Mentions AllMention

    pub led-mentions : (P : N → Type 0) (t : MlType N) → Mentions P t → Mentions (λ n. P n × Kept n) (led t)
    led-mentions P (bound k) m = tt
    led-mentions P (free v) m = tt
    led-mentions P (app arrow ts) m = (tt, all-led-mention P ts m.1)
    led-mentions P (app (row ls) ts) m = (tt, all-led-mention P ts m.1)
    led-mentions P (app (name n) ts) m = by_keep (keep n) refl (all-led-mention P ts m.1)
      where
        by_keep : (b : Bool) → keep n ≡ b → AllMention (λ n. P n × Kept n) (all_led ts) → Mentions (λ n. P n × Kept n) (led_name n ts b)
        by_keep true e k = ((m.0, e), k)
        by_keep false e k = (tt, tt)

    pub all-led-mention : (P : N → Type 0) (ts : MlTypes N) → AllMention P ts → AllMention (λ n. P n × Kept n) (all_led ts)
    all-led-mention P no_type m = tt
    all-led-mention P (and_type t ts) m = (led-mentions P t m.0, all-led-mention P ts m.1)

  pub led-named : (n : N) → Kept n → led (named n) ≡ named n
  unfolding led all_led
  led-named n k = ap (led_name n no_type) k

  pub all-led-list : (ts : List (MlType N)) → all_led (types_of ts) ≡ types_of (map led ts)
  unfolding led all_led
  all-led-list [] = refl
  all-led-list (t ∷ ts) = ap (and_type (led t)) (all-led-list ts)

  pub led-row : (ls : List Id) (ts : List (MlType N)) → led (app (row ls) (types_of ts)) ≡ app (row ls) (types_of (map led ts))
  unfolding led
  led-row ls ts = ap (app (row ls)) (all-led-list ts)

  field-led : (ls : List Id) (ts : List (MlType N)) (l : Id) (t : MlType N) → lookup l (with_labels ls ts) ≡ Some t → lookup l (with_labels ls (map led ts)) ≡ Some (led t)
  field-led ls ts l t h = ap (lookup l) (labels-map led ls ts) ∙ (sym (lookup-at led l (with_labels ls ts)) ∙ ap (option_map led) h)

  fields-led : (ls : List Id) (ts : List (MlType N)) (fs : List (Id × MlType N))
      → AllByRecursion (λ f. lookup f.0 (with_labels ls ts) ≡ Some f.1) fs → AllByRecursion (λ f. lookup f.0 (with_labels ls (map led ts)) ≡ Some f.1) (fields_at led fs)
  fields-led ls ts [] h = tt
  fields-led ls ts (f ∷ fs) h = (field-led ls ts f.0 f.1 h.0, fields-led ls ts fs h.1)

  pub led-fields : (t : MlType N) (fs : List (Id × MlType N)) → HasFields N finite t fs → HasFields N finite (led t) (fields_at led fs)
  led-fields t fs h = record {
    labels = h.labels;
    types = map led h.types;
    rising = h.rising;
    count = length-map h.types led ∙ h.count;
    is_row = ap led h.is_row ∙ led-row h.labels h.types;
    fields = fields-led h.labels h.types fs h.fields;
  }

  fields-assigned : (σ : ℕ → MlType N) (fs : List (Id × MlType N)) → AllByRecursion (λ f. Mentions Kept f.1) fs → fields_at led (fields_at (assign σ) fs) ≡ fields_at (assign (λ v. led (σ v))) fs
  fields-assigned σ [] m = refl
  fields-assigned σ (f ∷ fs) m =
      ap (λ t. (f.0, t) ∷ fields_at led (fields_at (assign σ) fs)) (led-assigned σ f.1 m.0)
      ∙ ap (λ gs. (f.0, assign (λ v. led (σ v)) f.1) ∷ gs) (fields-assigned σ fs m.1)

  mutual
    unfolding Mentions AllMention

    pub mentions-more : (P Q : N → Type 0) → ((n : N) → P n → Q n) → (t : MlType N) → Mentions P t → Mentions Q t
    mentions-more P Q f (bound k) m = tt
    mentions-more P Q f (free v) m = tt
    mentions-more P Q f (app arrow ts) m = (tt, all-mention-more P Q f ts m.1)
    mentions-more P Q f (app (row ls) ts) m = (tt, all-mention-more P Q f ts m.1)
    mentions-more P Q f (app (name n) ts) m = (f n m.0, all-mention-more P Q f ts m.1)

    pub all-mention-more : (P Q : N → Type 0) → ((n : N) → P n → Q n) → (ts : MlTypes N) → AllMention P ts → AllMention Q ts
    all-mention-more P Q f no_type m = tt
    all-mention-more P Q f (and_type t ts) m = (mentions-more P Q f t m.0, all-mention-more P Q f ts m.1)

-- The bounds v and w allow the same names of those that are kept, among them the initial ones and those of variables.
pub record AllowsSame {N B C : Type 0} (names : Naming N) (var : Variable → N) (V : B → N → Type 0) (W : C → N → Type 0) (f : B → C) (keep : N → Bool) : Type 0 where
  pub initials : (k : Initial) → keep (names.initial k) ≡ true
  pub variables : (x : Variable) → keep (var x) ≡ true
  pub forth : (b : B) (n : N) → V b n → keep n ≡ true → W (f b) n
  pub back : (b : B) (n : N) → W (f b) n → V b n

same-layer : {B C : Type 0} (f : B → C) (a : Ask B) → layer_of (rebound_ask f a) ≡ layer_of a
same-layer f (within K.Newness b) = refl
same-layer f (within K.Locality b) = refl
same-layer f equality = refl
same-layer f (of_class c) = refl
same-layer f (variable x) = refl

module _ {N B C : Type 0} (names : Naming N) (var : Variable → N) (V : B → N → Type 0) (W : C → N → Type 0) (f : B → C) (keep : N → Bool) (same : AllowsSame names var V W f keep) where
  asked-led : (a : Ask B) (t : MlType N) → IsAsAsked (words names var V) a t → IsAsAsked (words names var W) (rebound_ask f a) (led keep t)
  asked-led (within k b) t h = mentions-more keep (λ n. V b n × Kept keep n) (W (f b)) (λ n x. same.forth b n x.0 x.1) (led keep t) (led-mentions keep (V b) t h)
  asked-led equality t h = led-admits keep names t h
  asked-led (of_class c) t h = (h.0, h.1, ap (led keep) h.2 ∙ led-named keep (names.initial h.0) (same.initials h.0))
  asked-led (variable x) t h = ap (led keep) h ∙ led-named keep (var x) (same.variables x)

  asked-back : (a : Ask B) (t : MlType N) → IsAsAsked (words names var W) (rebound_ask f a) t → IsAsAsked (words names var V) a t
  asked-back (within k b) t h = mentions-more keep (W (f b)) (V b) (same.back b) t h
  asked-back equality t h = h
  asked-back (of_class c) t h = h
  asked-back (variable x) t h = h

  holds-led : (l : Layer) (σ : ℕ → MlType N) (d : Demand N B) → DemandMentions (Kept keep) d
      → Holds (words names var V) finite l σ d → Holds (words names var W) finite l (λ v. led keep (σ v)) (rebound f d)
  holds-led l σ (equal t u) m h = sym (led-assigned keep σ t m.0) ∙ (ap (led keep) h ∙ led-assigned keep σ u m.1)
  holds-led l σ (has_fields t fs) m h =
      subst (λ u. HasFields N finite u (fields_at (assign (λ v. led keep (σ v))) fs)) (led-assigned keep σ t m.0)
      (subst (HasFields N finite (led keep (assign σ t))) (fields-assigned keep σ fs m.1) (led-fields keep (assign σ t) (fields_at (assign σ) fs) h))
  holds-led l σ (asks a t) m h = λ p.
      subst (IsAsAsked (words names var W) (rebound_ask f a)) (led-assigned keep σ t m)
      (asked-led a (assign σ t) (h (subst (λ k. index_of k ≤ index_of l) (same-layer f a) p)))

  holds-back : (w : World) (l : Layer) (σ : Assignment N w) (d : Demand N B) → Holds (words names var W) w l σ (rebound f d) → Holds (words names var V) w l σ d
  holds-back w l σ (equal t u) h = h
  holds-back w l σ (has_fields t fs) h = h
  holds-back finite l σ (asks a t) h = λ p. asked-back a (assign σ t) (h (subst (λ k. index_of k ≤ index_of l) (sym (same-layer f a)) p))
  holds-back infinite l σ (asks a t) h = tt

  -- infinite types are asked for nothing that has a bound
  holds-forth : (l : Layer) (σ : Assignment N infinite) (d : Demand N B) → Holds (words names var V) infinite l σ d → Holds (words names var W) infinite l σ (rebound f d)
  holds-forth l σ (equal t u) h = h
  holds-forth l σ (has_fields t fs) h = h
  holds-forth l σ (asks a t) h = tt

  all-led : (l : Layer) (σ : ℕ → MlType N) (ds : List (Demand N B)) → AllByRecursion (DemandMentions (Kept keep)) ds
      → AllHold (words names var V) finite l σ ds → AllHold (words names var W) finite l (λ v. led keep (σ v)) (map (rebound f) ds)
  all-led l σ [] m h = tt
  all-led l σ (d ∷ ds) m h = (holds-led l σ d m.0 h.0, all-led l σ ds m.1 h.1)

  all-back : (w : World) (l : Layer) (σ : Assignment N w) (ds : List (Demand N B)) → AllHold (words names var W) w l σ (map (rebound f) ds) → AllHold (words names var V) w l σ ds
  all-back w l σ [] h = tt
  all-back w l σ (d ∷ ds) h = (holds-back w l σ d h.0, all-back w l σ ds h.1)

  all-forth : (l : Layer) (σ : Assignment N infinite) (ds : List (Demand N B)) → AllHold (words names var V) infinite l σ ds → AllHold (words names var W) infinite l σ (map (rebound f) ds)
  all-forth l σ [] h = tt
  all-forth l σ (d ∷ ds) h = (holds-forth l σ d h.0, all-forth l σ ds h.1)

  met-forth : (w : World) (l : Layer) (ds : List (Demand N B)) → AllByRecursion (DemandMentions (Kept keep)) ds
      → (σ : Assignment N w) → AllHold (words names var V) w l σ ds → (τ : Assignment N w) × AllHold (words names var W) w l τ (map (rebound f) ds)
  met-forth finite l ds m σ h = ((λ v. led keep (σ v)), all-led l σ ds m h)
  met-forth infinite l ds m σ h = (σ, all-forth l σ ds h)

  pub met-alike : (ds : List (Demand N B)) → AllByRecursion (DemandMentions (Kept keep)) ds
      → (l : Layer) → CanBeMet (words names var V) l ds ↔ CanBeMet (words names var W) l (map (rebound f) ds)
  met-alike ds m l = (λ x. met-forth (world l) l ds m x.0 x.1, λ x. (x.0, all-back (world l) l x.0 ds x.1))
