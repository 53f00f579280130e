-- Types in which each name that isn't kept gives way to another type, made of its arguments.
use Rattle.std.proofs.Common.{◌≡◌, ℕ, Bool, true, cond, List, [], ◌∷◌, map, Some, sym, ◌∙◌, ap, refl}
use Rattle.std.specs.Prelude.{option_map}
use Rattle.std.specs.List.{AllByRecursion}
use Rattle.std.proofs.lemmas.List.{length-map}
use Rattle.sml_tree.specs.Trees.{Id}
use Rattle.sml_objects.specs.Initial.{Name}
use Rattle.sml_objects.specs.Labels.{with_labels}
use Rattle.sml_objects.specs.Maps.{lookup}
use Rattle.sml_objects.specs.Objects.{MlType, MlTypes, bound, free, app, arrow, row, name, no_type, and_type, named, types_of}
use Rattle.sml_objects.specs.Types.{assign, replace_type, replace_types}
use Rattle.sml_layers.specs.Demands.{Mentions, AllMention}
use Rattle.sml_layers.specs.Rows.{HasFields, fields_at}
use Rattle.sml_layers.specs.Worlds.{finite}
use Rattle.sml_graph.proofs.Rowing.{labels-map, lookup-at}

module _ (keep : Name → Bool) (gives : Name → MlTypes Name → MlType Name) where
  abbrev pub Kept : Name → Type 0
  Kept n = keep n ≡ true

  abbrev given_name : Name → Bool → MlTypes Name → MlType Name
  given_name n b ts = cond b (app (name n) ts) (gives n ts)

  unfoldable mutual
    pub given : MlType Name → MlType Name
    given (bound k) = bound k
    given (free v) = free v
    given (app arrow ts) = app arrow (all_given ts)
    given (app (row ls) ts) = app (row ls) (all_given ts)
    given (app (name n) ts) = given_name n (keep n) (all_given ts)

    pub all_given : MlTypes Name → MlTypes Name
    all_given no_type = no_type
    all_given (and_type t ts) = and_type (given t) (all_given ts)

  mutual
    unfolding given all_given replace_type replace_types Mentions AllMention

    pub given-assigned : (σ : ℕ → MlType Name) (t : MlType Name) → Mentions Kept t → given (assign σ t) ≡ assign (λ v. given (σ v)) t
    given-assigned σ (bound k) m = refl
    given-assigned σ (free v) m = refl
    given-assigned σ (app arrow ts) m = ap (app arrow) (all-given-assigned σ ts m.1)
    given-assigned σ (app (row ls) ts) m = ap (app (row ls)) (all-given-assigned σ ts m.1)
    given-assigned σ (app (name n) ts) m =
        ap (λ b. given_name n b (all_given (replace_types bound σ ts))) m.0 ∙ ap (app (name n)) (all-given-assigned σ ts m.1)

    pub all-given-assigned : (σ : ℕ → MlType Name) (ts : MlTypes Name) → AllMention Kept ts → all_given (replace_types bound σ ts) ≡ replace_types bound (λ v. given (σ v)) ts
    all-given-assigned σ no_type m = refl
    all-given-assigned σ (and_type t ts) m =
        ap (λ u. and_type u (all_given (replace_types bound σ ts))) (given-assigned σ t m.0)
        ∙ ap (and_type (assign (λ v. given (σ v)) t)) (all-given-assigned σ ts m.1)

  pub given-named : (n : Name) → Kept n → given (named n) ≡ named n
  unfolding given all_given
  given-named n k = ap (λ b. given_name n b no_type) k

  -- rows

  pub all-given-list : (ts : List (MlType Name)) → all_given (types_of ts) ≡ types_of (map given ts)
  unfolding given all_given
  all-given-list [] = refl
  all-given-list (t ∷ ts) = ap (and_type (given t)) (all-given-list ts)

  given-row : (ls : List Id) (ts : List (MlType Name)) → given (app (row ls) (types_of ts)) ≡ app (row ls) (types_of (map given ts))
  unfolding given
  given-row ls ts = ap (app (row ls)) (all-given-list ts)

  field-given : (ls : List Id) (ts : List (MlType Name)) (l : Id) (t : MlType Name) → lookup l (with_labels ls ts) ≡ Some t → lookup l (with_labels ls (map given ts)) ≡ Some (given t)
  field-given ls ts l t h = ap (lookup l) (labels-map given ls ts) ∙ (sym (lookup-at given l (with_labels ls ts)) ∙ ap (option_map given) h)

  fields-given : (ls : List Id) (ts : List (MlType Name)) (fs : List (Id × MlType Name))
      → AllByRecursion (λ f. lookup f.0 (with_labels ls ts) ≡ Some f.1) fs → AllByRecursion (λ f. lookup f.0 (with_labels ls (map given ts)) ≡ Some f.1) (fields_at given fs)
  fields-given ls ts [] h = tt
  fields-given ls ts (f ∷ fs) h = (field-given ls ts f.0 f.1 h.0, fields-given ls ts fs h.1)

  pub given-fields : (t : MlType Name) (fs : List (Id × MlType Name)) → HasFields Name finite t fs → HasFields Name finite (given t) (fields_at given fs)
  given-fields t fs h = record {
    labels = h.labels;
    types = map given h.types;
    rising = h.rising;
    count = length-map h.types given ∙ h.count;
    is_row = ap given h.is_row ∙ given-row h.labels h.types;
    fields = fields-given h.labels h.types fs h.fields;
  }

  pub fields-assigned : (σ : ℕ → MlType Name) (fs : List (Id × MlType Name)) → AllByRecursion (λ f. Mentions Kept f.1) fs
      → fields_at given (fields_at (assign σ) fs) ≡ fields_at (assign (λ v. given (σ v))) fs
  fields-assigned σ [] m = refl
  fields-assigned σ (f ∷ fs) m =
      ap (λ t. (f.0, t) ∷ fields_at given (fields_at (assign σ) fs)) (given-assigned σ f.1 m.0)
      ∙ ap (λ gs. (f.0, assign (λ v. given (σ v)) f.1) ∷ gs) (fields-assigned σ fs m.1)
