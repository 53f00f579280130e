-- Realisations, name by name and variant by variant.
use Rattle.std.proofs.Common.{◌≡◌, ℕ, Bool, true, false, cond, Option, Some, None, List, [], ◌∷◌, ◌++◌, map, refl, ap, sym, ◌∙◌, Vec, Global}
use Rattle.std.proofs.lemmas.Bool.{true≢false}
use Rattle.std.specs.Map.{lookup}
use Rattle.std.specs.Option.{option_map, is_some}
use Rattle.std.specs.declared.rc.Rc.{Rc}
use Rattle.sml_objects.specs.Objects as O
use Rattle.sml_objects.specs.Initial.{Name, naming}
use Rattle.sml_objects.specs.Types.{applied}
use Rattle.sml_objects.specs.Objects.{types_of}
use Rattle.sml_objects.specs.Views.{type_of, name_of, scheme_of, label_list}
use Rattle.sml_objects.specs.declared.labels.Labels.{Labels}
use Rattle.sml_objects.specs.declared.objects.TyName.{TyName}
use Rattle.sml_objects.specs.declared.objects.Scheme.{Scheme}
use Rattle.sml_objects.specs.declared.objects.MlType.{MlType, Bound, Free}
use Rattle.sml_objects.specs.declared.objects.MlType.TheViews as V
use Rattle.sml_objects.proofs.NameTests.{eq, eq-same, same-eq}
use Rattle.sml_objects.proofs.TypeViews.{parts_of, type_of-bound, type_of-free, type_of-row, type_of-arrow, type_of-name}
use Rattle.sml_rules.specs.Matching.{Realisation, realise_type, realise_types, is_name, is_yes, apply_to}
use Rattle.sml_piece.specs.Elaborated.{or_else}
use Rattle.sml_piece.specs.CodeMatched.{alone, sends}

abbrev Entries : Type 0
Entries = List (TyName × Rc Scheme Global)

not-true : (b : Bool) → ¬ (b ≡ true) → b ≡ false
not-true true h = absurd (h refl)
not-true false h = refl

abbrev see : Rc Scheme Global → O.Scheme Name
see s = scheme_of s.value

pub looked_up : (es : Entries) (k : TyName) → option_map see (lookup (eq k) es) ≡ sends es (name_of k)
looked_up [] k = refl
looked_up (e ∷ es) k = go (naming.same (name_of e.0) (name_of k)) (looked_up es k)
  where
    go : (d : Dec (name_of e.0 ≡ name_of k)) → option_map see (lookup (eq k) es) ≡ sends es (name_of k)
        → option_map see (cond (eq k e.0) (Some e.1) (lookup (eq k) es)) ≡ or_else (elim d [ yes _ ↦ Some (see e.1) | no _ ↦ None ]) (sends es (name_of k))
    go (yes h) next = ap (λ b. option_map see (cond b (Some e.1) (lookup (eq k) es))) (same-eq k e.0 (sym h))
    go (no h) next = ap (λ b. option_map see (cond b (Some e.1) (lookup (eq k) es))) (not-true (eq k e.0) (λ t. h (sym (eq-same k e.0 t)))) ∙ next

pub or_none : {X : Type 0} (o : Option X) → o ≡ or_else o None
or_none None = refl
or_none (Some x) = refl

or_some : {X : Type 0} (o p : Option X) → is_some o ≡ true → o ≡ or_else o p
or_some None p h = absurd (true≢false (sym h))
or_some (Some x) p h = refl

shows_some : {X Y : Type 0} (f : X → Y) (o : Option X) → is_some (option_map f o) ≡ is_some o
shows_some f None = refl
shows_some f (Some x) = refl

pub none_of : {X : Type 0} (o : Option X) → is_some o ≡ false → o ≡ None
none_of None h = refl
none_of (Some x) h = absurd (true≢false h)

-- a name that is sent already
pub sent_already : (es : Entries) (k : TyName) (θ : O.Scheme Name) → is_some (lookup (eq k) es) ≡ true → (n : Name)
    → sends es n ≡ or_else (sends es n) (alone (name_of k) θ n)
sent_already es k θ h n =
    elim (naming.same (name_of k) n) as (λ d. sends es n ≡ or_else (sends es n) (elim d [ yes _ ↦ Some θ | no _ ↦ None ])) [
      | yes e ↦ or_some (sends es n) (Some θ) (ap (λ m. is_some (sends es m)) (sym e) ∙ ap is_some (sym (looked_up es k)) ∙ shows_some see (lookup (eq k) es) ∙ h)
      | no e ↦ or_none (sends es n)
    ]

or_assoc : {X : Type 0} (o p q : Option X) → or_else o (or_else p q) ≡ or_else (or_else o p) q
or_assoc None p q = refl
or_assoc (Some x) p q = refl

-- one more
pub sent_last : (es : Entries) (k : TyName) (v : Rc Scheme Global) (n : Name) → sends (es ++ (k, v) ∷ []) n ≡ or_else (sends es n) (alone (name_of k) (see v) n)
sent_last [] k v n = sym (or_none (alone (name_of k) (see v) n))
sent_last (e ∷ es) k v n =
    ap (or_else (alone (name_of e.0) (see e.1) n)) (sent_last es k v n) ∙ or_assoc (alone (name_of e.0) (see e.1) n) (sends es n) (alone (name_of k) (see v) n)

pub sent_none : (es : Entries) → es ≡ [] → (n : Name) → sends es n ≡ None
sent_none es e n = ap (λ l. sends l n) e

-- a name is sent where the body of a type is that name
pub alone_is : (m n : Name) (ts : O.MlTypes Name) (θ : O.Scheme Name) → alone m θ n ≡ cond (is_name naming n (O.app (O.name m) ts)) (Some θ) None
alone_is m n ts θ = go (naming.same m n)
  where
    go : (d : Dec (m ≡ n)) → (elim d [ yes _ ↦ Some θ | no _ ↦ None ]) ≡ cond (is_yes d) (Some θ) None
    go (yes h) = refl
    go (no h) = refl

module _ (φ : Realisation Name) where
  pub realised_bound : (k : ℕ) → type_of (Bound k) ≡ realise_type φ (type_of (Bound k))
  unfolding realise_type
  realised_bound k = type_of-bound k ∙ sym (ap (realise_type φ) (type_of-bound k))

  pub realised_free : (v : ℕ) → type_of (Free v) ≡ realise_type φ (type_of (Free v))
  unfolding realise_type
  realised_free v = type_of-free v ∙ sym (ap (realise_type φ) (type_of-free v))

  pub realised_row : (ls ms : Rc Labels Global) (ts us : Vec (Rc MlType Global) Global) → label_list ms.value ≡ label_list ls.value
      → types_of (parts_of us.items) ≡ realise_types φ (types_of (parts_of ts.items)) → type_of (V.Row ms us) ≡ realise_type φ (type_of (V.Row ls ts))
  unfolding realise_type
  realised_row ls ms ts us k h = type_of-row ms us ∙ (λ i. O.app (O.row (k i)) (h i)) ∙ sym (ap (realise_type φ) (type_of-row ls ts))

  pub realised_arrow : (t u v w : Rc MlType Global) → type_of v.value ≡ realise_type φ (type_of t.value) → type_of w.value ≡ realise_type φ (type_of u.value)
      → type_of (V.Arrow v w) ≡ realise_type φ (type_of (V.Arrow t u))
  unfolding realise_type realise_types
  realised_arrow t u v w h k = type_of-arrow v w ∙ (λ i. O.arrow_of (h i) (k i)) ∙ sym (ap (realise_type φ) (type_of-arrow t u))

  pub realised_name : (n : TyName) (ts us : Vec (Rc MlType Global) Global) → types_of (parts_of us.items) ≡ realise_types φ (types_of (parts_of ts.items)) → φ (name_of n) ≡ None
      → type_of (V.Name n us) ≡ realise_type φ (type_of (V.Name n ts))
  unfolding realise_type
  realised_name n ts us h none =
      type_of-name n us ∙ ap (O.app (O.name (name_of n))) h
      ∙ sym (ap (realise_type φ) (type_of-name n ts) ∙ ap (apply_to (name_of n) (realise_types φ (types_of (parts_of ts.items)))) none)

  pub realised_by_function : (n : TyName) (ts us : Vec (Rc MlType Global) Global) (θ : O.Scheme Name) → types_of (parts_of us.items) ≡ realise_types φ (types_of (parts_of ts.items))
      → φ (name_of n) ≡ Some θ → applied θ (types_of (parts_of us.items)) ≡ realise_type φ (type_of (V.Name n ts))
  unfolding realise_type
  realised_by_function n ts us θ h some =
      ap (applied θ) h ∙ sym (ap (realise_type φ) (type_of-name n ts) ∙ ap (apply_to (name_of n) (realise_types φ (types_of (parts_of ts.items)))) some)

  pub all_realised : (ts : List (O.MlType Name)) → types_of (map (realise_type φ) ts) ≡ realise_types φ (types_of ts)
  unfolding realise_types
  all_realised [] = refl
  all_realised (t ∷ ts) = ap (O.and_type (realise_type φ t)) (all_realised ts)
