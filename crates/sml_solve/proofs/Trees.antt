-- Trees that meet demands which don't clash: each class of types has one.
use Rattle.std.proofs.Common.{◌≡◌, ◌⊎◌, ℕ, zero, suc, Option, Some, None, List, [], ◌∷◌, ◌++◌, length, map, get_or, refl, ap, sym, subst, ◌∙◌, inl, inr}
use Rattle.std.proofs.lemmas.List.{length-map}
use Rattle.std.specs.List.{AllByRecursion}
use Rattle.std.specs.List.Sorted.{IsStrictlySortedBy}
use Rattle.std.proofs.Math.Decide.{ℕ_discrete}
use Rattle.sml_tree.specs.Trees.{Id}
use Rattle.sml_objects.specs.Initial.{Name}
use Rattle.sml_objects.specs.Maps.{Map, lookup}
use Rattle.sml_objects.specs.Objects.{MlTypes, Head, row, bound, free, app, no_type, and_type}
use Rattle.sml_layers.specs.declared.layer.Layer.TheVariants.{Equations}
use Rattle.sml_objects.specs.Labels.{AreRising, with_labels}
use Rattle.sml_layers.specs.Rows.{fields_at}
use Rattle.sml_graph.specs.Rows.{HasFields}
use Rattle.sml_layers.specs.Worlds.{infinite, tree, spread, spread_all}
use Rattle.sml_graph.specs.Worlds.{Assignment, InfiniteType}
use Rattle.sml_graph.specs.Interned.{IsOver, AreOver}
use Rattle.sml_graph.specs.Asked.{Demand, equal, has_fields, asks, Holds}
use Rattle.sml_solve.specs.Clashes.{IsOneOf, HasLabels, Clash, MeetsAll}
use Rattle.sml_solve.proofs.Members.{in-left, in-right, gather, in-gather, gathered, all-in, in-all}
use Rattle.sml_solve.proofs.Discerning.{same_id, same_head}
use Rattle.sml_solve.proofs.Subterms.{Ty, listed, terms, term-in, term-part, Headed, headed}
use Rattle.sml_solve.proofs.Partitions.{Pair, when, in-when, zipped, pairs_under, Field, asked_fields, asked-field, source, field_pair, row_pairs, given_pairs, Classes, together, component_needs, row_needs, field_needs, needs}
use Rattle.sml_solve.proofs.Grouping.{AreSettled, settled}
use Rattle.sml_solve.proofs.LabelMaps.{puts-found, lookup-mapped}
use Rattle.sml_graph.proofs.Rowing.{labels_in, values_in, set_fields, rising-sets, with-parts, count-parts}
use Rattle.sml_solve.proofs.Consistency.{AgreeInHeads, IsRowFor, IsRowDemand, AreConsistent, consistent-or-clash}

abbrev nth : List Ty → ℕ → Option Ty
nth [] k = None
nth (t ∷ ts) zero = Some t
nth (t ∷ ts) (suc k) = nth ts k

none-rising : AreRising []
unfolding IsStrictlySortedBy
none-rising = tt

-- the demand speaks of the first n unknowns
abbrev pub IsDemandOver : ℕ → Demand → Type 0
IsDemandOver n (equal t v) = IsOver n t × IsOver n v
IsDemandOver n (has_fields t fs) = IsOver n t × AllByRecursion (λ f. IsOver n f.1) fs
IsDemandOver n (asks a t) = IsOver n t

module _ (ds : List Demand) (s : AreSettled ds) (ok : AreConsistent ds s.classes) where
  abbrev c : Classes
  c = s.classes

  abbrev Is : Ty → Type 0
  Is t = IsOneOf t (terms ds)

  -- what was settled

  need : (p : Pair) → IsOneOf p (needs ds c) → c p.0 ≡ c p.1
  need p i = all-in (λ q. c q.0 ≡ c q.1) (needs ds c) s.done p i

  given-one : (t v : Ty) → IsOneOf (equal t v) ds → c t ≡ c v
  given-one t v i = need (t, v) (in-left (t, v) (gather given_pairs ds) (component_needs (terms ds) c ++ (row_needs (asked_fields ds) (terms ds) c ++ field_needs (asked_fields ds) c)) (in-gather given_pairs (equal t v) ds (t, v) i (inl refl)))

  parts-one : (t u : Ty) → Is t → Is u → c t ≡ c u → (p : Pair) → IsOneOf p (pairs_under (headed t) (headed u)) → c p.0 ≡ c p.1
  parts-one t u i j e p k =
      need p (in-right p (gather given_pairs ds) (component_needs (terms ds) c ++ (row_needs (asked_fields ds) (terms ds) c ++ field_needs (asked_fields ds) c))
      (in-left p (component_needs (terms ds) c) (row_needs (asked_fields ds) (terms ds) c ++ field_needs (asked_fields ds) c)
      (in-gather (λ x. gather (λ y. together c x y (pairs_under (headed x) (headed y))) (terms ds)) t (terms ds) p i
      (in-gather (λ y. together c t y (pairs_under (headed t) (headed y))) u (terms ds) p j (in-when (ℕ_discrete (c t) (c u)) p (pairs_under (headed t) (headed u)) e k)))))

  row-one : (f : Field) (u : Ty) → IsOneOf f (asked_fields ds) → Is u → c f.0 ≡ c u → (p : Pair) → IsOneOf p (row_pairs f (headed u)) → c p.0 ≡ c p.1
  row-one f u i j e p k =
      need p (in-right p (gather given_pairs ds) (component_needs (terms ds) c ++ (row_needs (asked_fields ds) (terms ds) c ++ field_needs (asked_fields ds) c))
      (in-right p (component_needs (terms ds) c) (row_needs (asked_fields ds) (terms ds) c ++ field_needs (asked_fields ds) c)
      (in-left p (row_needs (asked_fields ds) (terms ds) c) (field_needs (asked_fields ds) c)
      (in-gather (λ g. gather (λ y. together c g.0 y (row_pairs g (headed y))) (terms ds)) f (asked_fields ds) p i
      (in-gather (λ y. together c f.0 y (row_pairs f (headed y))) u (terms ds) p j (in-when (ℕ_discrete (c f.0) (c u)) p (row_pairs f (headed u)) e k))))))

  field-one : (f g : Field) → IsOneOf f (asked_fields ds) → IsOneOf g (asked_fields ds) → c f.0 ≡ c g.0 → f.1 ≡ g.1 → c f.2 ≡ c g.2
  field-one f g i j e l =
      let p : Pair = (f.2, g.2) in
      need p (in-right p (gather given_pairs ds) (component_needs (terms ds) c ++ (row_needs (asked_fields ds) (terms ds) c ++ field_needs (asked_fields ds) c))
      (in-right p (component_needs (terms ds) c) (row_needs (asked_fields ds) (terms ds) c ++ field_needs (asked_fields ds) c)
      (in-right p (row_needs (asked_fields ds) (terms ds) c) (field_needs (asked_fields ds) c)
      (in-gather (λ x. gather (λ y. together c x.0 y.0 (when (same_id x.1 y.1) ((x.2, y.2) ∷ []))) (asked_fields ds)) f (asked_fields ds) p i
      (in-gather (λ y. together c f.0 y.0 (when (same_id f.1 y.1) ((f.2, y.2) ∷ []))) g (asked_fields ds) p j
      (in-when (ℕ_discrete (c f.0) (c g.0)) p (when (same_id f.1 g.1) ((f.2, g.2) ∷ [])) e (in-when (same_id f.1 g.1) p ((f.2, g.2) ∷ []) l (inl refl))))))))

  -- the head of a class, with its parts: of a type in it that has a head, or else of the row of all fields asked of it

  abbrev or_else : Headed → Headed → Headed
  or_else None b = b
  or_else (Some a) b = Some a

  abbrev headed_in : {P : Type 0} → Dec P → Headed → Headed → Headed
  headed_in (yes p) a b = or_else a b
  headed_in (no p) a b = b

  abbrev first_headed : ℕ → List Ty → Headed
  first_headed n [] = None
  first_headed n (t ∷ ts) = headed_in (ℕ_discrete (c t) n) (headed t) (first_headed n ts)

  abbrev one_field : {P : Type 0} → Dec P → Field → List (Id × Ty)
  one_field (yes p) f = (f.1, f.2) ∷ []
  one_field (no p) f = []

  abbrev class_fields : ℕ → List (Id × Ty)
  class_fields n = gather (λ f. one_field (ℕ_discrete (c f.0) n) f) (asked_fields ds)

  abbrev class_row : ℕ → Map Ty
  class_row n = set_fields (class_fields n) []

  abbrev row_top : ℕ → Headed
  row_top n = Some (row (labels_in (class_row n)), values_in (class_row n))

  abbrev row_in : {P : Type 0} → Dec P → Headed → Headed → Headed
  row_in (yes p) a b = a
  row_in (no p) a b = b

  abbrev demand_row : ℕ → Demand → Headed → Headed
  demand_row n (equal t v) b = b
  demand_row n (has_fields r fs) b = row_in (ℕ_discrete (c r) n) (row_top n) b
  demand_row n (asks a t) b = b

  abbrev asked_row : ℕ → List Demand → Headed
  asked_row n [] = None
  asked_row n (e ∷ es) = demand_row n e (asked_row n es)

  abbrev top : ℕ → Headed
  top n = or_else (first_headed n (terms ds)) (asked_row n ds)

  -- the tree of a class

  follow : ℕ → InfiniteType
  follow n [] = elim (top n) [ None ↦ None | Some a ↦ Some (a.0, length a.1) ]
  follow n (k ∷ path) = elim (top n) [ None ↦ None | Some a ↦ elim (nth a.1 k) [ None ↦ None | Some t ↦ follow (c t) path ] ]

  abbrev class_tree : Ty → InfiniteType
  class_tree t = follow (c t)

  follow-part : (ts : List Ty) (k : ℕ) (path : List ℕ) → (elim (nth ts k) [ None ↦ None | Some t ↦ follow (c t) path ]) ≡ get_or (map class_tree ts) k (λ _. None) path
  follow-part [] k path = refl
  follow-part (t ∷ ts) zero path = refl
  follow-part (t ∷ ts) (suc k) path = follow-part ts k path

  abbrev shape : Headed → Option (Head Name × ℕ)
  shape None = None
  shape (Some a) = Some (a.0, length a.1)

  follow-at : (n : ℕ) (h : Head Name) (ts : List Ty) → top n ≡ Some (h, ts) → (path : List ℕ) → follow n path ≡ tree h (map class_tree ts) path
  unfolding follow
  follow-at n h ts e [] = ap shape e ∙ ap (λ m. Some (h, m)) (sym (length-map ts class_tree))
  follow-at n h ts e (k ∷ path) =
      ap (λ (b : Headed). elim b [ None ↦ None | Some a ↦ elim (nth a.1 k) [ None ↦ None | Some t ↦ follow (c t) path ] ]) e ∙ follow-part ts k path

  follow-is : (n : ℕ) (h : Head Name) (ts : List Ty) → top n ≡ Some (h, ts) → follow n ≡ tree h (map class_tree ts)
  follow-is n h ts e = λ i path. follow-at n h ts e path i

  -- types with heads have the heads of their classes

  abbrev IsHeadedIn : ℕ → List Ty → Head Name × List Ty → Type 0
  IsHeadedIn n ts a = (t : Ty) × IsOneOf t ts × (c t ≡ n) × (headed t ≡ Some a)

  headed-from : (n : ℕ) (ts : List Ty) (a : Head Name × List Ty) → first_headed n ts ≡ Some a → IsHeadedIn n ts a
  headed-from n [] a e = cc
  headed-from n (t ∷ ts) a e = go (ℕ_discrete (c t) n) (headed t) refl (headed-from n ts a) e
    where
      later : IsHeadedIn n ts a → IsHeadedIn n (t ∷ ts) a
      later x = (x.0, inr x.1, x.2, x.3)

      go : (d : Dec (c t ≡ n)) (b : Headed) → headed t ≡ b → (first_headed n ts ≡ Some a → IsHeadedIn n ts a) → headed_in d b (first_headed n ts) ≡ Some a → IsHeadedIn n (t ∷ ts) a
      go (yes p) None f k q = later (k q)
      go (yes p) (Some x) f k q = (t, inl refl, p, f ∙ q)
      go (no p) b f k q = later (k q)

  headed-found : (n : ℕ) (ts : List Ty) (t : Ty) (a : Head Name × List Ty) → IsOneOf t ts → c t ≡ n → headed t ≡ Some a → (b : Head Name × List Ty) × (first_headed n ts ≡ Some b)
  headed-found n [] t a i e f = absurd i
  headed-found n (u ∷ ts) t a i e f = go (ℕ_discrete (c u) n) (headed u) refl i (λ j. headed-found n ts t a j e f)
    where
      go : (d : Dec (c u ≡ n)) (b : Headed) → headed u ≡ b → (t ≡ u) ⊎ IsOneOf t ts → (IsOneOf t ts → (b : Head Name × List Ty) × (first_headed n ts ≡ Some b)) → (x : Head Name × List Ty) × (headed_in d b (first_headed n ts) ≡ Some x)
      go (yes p) (Some x) g j k = (x, refl)
      go (yes p) None g (inl q) k = let z : None ≡ Some a = sym g ∙ (ap headed (sym q) ∙ f) in cc
      go (yes p) None g (inr j) k = k j
      go (no p) b g (inl q) k = absurd (p (ap c (sym q) ∙ e))
      go (no p) b g (inr j) k = k j

  agree : (t u : Ty) → Is t → Is u → c t ≡ c u → AgreeInHeads (headed t) (headed u)
  agree t u i j e = all-in (λ y. c t ≡ c y → AgreeInHeads (headed t) (headed y)) (terms ds) (all-in (λ x. AllByRecursion (λ y. c x ≡ c y → AgreeInHeads (headed x) (headed y)) (terms ds)) (terms ds) ok.agree t i) u j e

  zipped-one : (ts us : List Ty) → length ts ≡ length us → ((p : Pair) → IsOneOf p (zipped ts us) → c p.0 ≡ c p.1) → map class_tree us ≡ map class_tree ts
  zipped-one [] [] e h = refl
  zipped-one [] (u ∷ us) e h = cc
  zipped-one (t ∷ ts) [] e h = cc
  zipped-one (t ∷ ts) (u ∷ us) e h =
      let n : length ts ≡ length us = cc in
      let a : follow (c u) ≡ follow (c t) = ap follow (sym (h (t, u) (inl refl))) in
      let b = zipped-one ts us n (λ p i. h p (inr i)) in
      λ i. a i ∷ b i

  top-of : (n : ℕ) (b : Head Name × List Ty) → first_headed n (terms ds) ≡ Some b → top n ≡ Some b
  top-of n b e = ap (λ (x : Headed). or_else x (asked_row n ds)) e

  app-tree : (h : Head Name) (ts : MlTypes Name) → Is (app h ts) → class_tree (app h ts) ≡ tree h (map class_tree (listed ts))
  app-tree h ts i =
      let t : Ty = app h ts in
      let f = headed-found (c t) (terms ds) t (h, listed ts) i refl refl in
      let g = headed-from (c t) (terms ds) f.0 f.1 in
      let a : AgreeInHeads (Some (h, listed ts)) (Some f.0) = subst (AgreeInHeads (headed t)) g.3 (agree t g.0 i g.1 (sym g.2)) in
      let z = zipped-one (listed ts) f.0.1 a.1 (λ p k. parts-one t g.0 i g.1 (sym g.2) p (subst (λ (x : Headed). IsOneOf p (pairs_under (headed t) x)) (sym g.3) (in-when (same_head h f.0.0) p (zipped (listed ts) f.0.1) a.0 k))) in
      follow-is (c t) f.0.0 f.0.1 (top-of (c t) f.0 f.1) ∙ (λ j. tree (sym a.0 j) (z j))

  -- the types that the variables have

  abbrev types : Assignment infinite
  types v = follow (c (free v))

  mutual
    unfolding IsOver spread

    tree-of : (n : ℕ) (t : Ty) → IsOver n t → Is t → spread types t ≡ class_tree t
    tree-of n (bound k) o i = absurd o
    tree-of n (free v) o i = refl
    tree-of n (app h ts) o i = ap (tree h) (trees-of n ts o (λ p j. term-part ds h ts p i j)) ∙ sym (app-tree h ts i)

    trees-of : (n : ℕ) (ts : MlTypes Name) → AreOver n ts → ((p : Ty) → IsOneOf p (listed ts) → Is p) → spread_all types ts ≡ map class_tree (listed ts)
    trees-of n no_type o i = refl
    trees-of n (and_type t ts) o i =
        let a = tree-of n t o.0 (i t (inl refl)) in
        let b = trees-of n ts o.1 (λ p j. i p (inr j)) in
        λ k. a k ∷ b k

  -- rows have the fields that are asked of them

  row-field : (r u : Ty) (fs : List (Id × Ty)) (f : Id × Ty) (ls : List Id) (ts : List Ty) (t : Ty) → IsOneOf (has_fields r fs) ds → Is u → c r ≡ c u → headed u ≡ Some (row ls, ts) → IsOneOf f fs → lookup f.0 (with_labels ls ts) ≡ Some t → c f.1 ≡ c t
  row-field r u fs f ls ts t i j e g k l =
      let x : Field = (r, f.0, f.1) in
      row-one x u (asked-field ds r fs f i k) j e (f.1, t)
      (subst (λ (b : Headed). IsOneOf (f.1, t) (row_pairs x b)) (sym g) (subst (λ (o : Option Ty). IsOneOf (f.1, t) (field_pair f.1 o)) (sym l) (inl refl)))

  class-field : (n : ℕ) (f : Id × Ty) → IsOneOf f (class_fields n) → (x : Field) × IsOneOf x (asked_fields ds) × (c x.0 ≡ n) × (f ≡ (x.1, x.2))
  class-field n f i =
      let g = gathered (λ x. one_field (ℕ_discrete (c x.0) n) x) (asked_fields ds) f i in
      let w = from (ℕ_discrete (c g.0.0) n) g.0 g.2 in
      (g.0, g.1, w.0, w.1)
    where
      from : {P : Type 0} (d : Dec P) (x : Field) → IsOneOf f (one_field d x) → P × (f ≡ (x.1, x.2))
      from (yes p) x (inl e) = (p, e)
      from (yes p) x (inr m) = absurd m
      from (no p) x m = absurd m

  field-class : (n : ℕ) (x : Field) → IsOneOf x (asked_fields ds) → c x.0 ≡ n → IsOneOf (x.1, x.2) (class_fields n)
  field-class n x i e = in-gather (λ y. one_field (ℕ_discrete (c y.0) n) y) x (asked_fields ds) (x.1, x.2) i (to (ℕ_discrete (c x.0) n))
    where
      to : (d : Dec (c x.0 ≡ n)) → IsOneOf (x.1, x.2) (one_field d x)
      to (yes p) = inl refl
      to (no d) = absurd (d e)

  row-asked : (n : ℕ) (r : Ty) (fs : List (Id × Ty)) (es : List Demand) → IsOneOf (has_fields r fs) es → c r ≡ n → asked_row n es ≡ row_top n
  row-asked n r fs [] i e = absurd i
  row-asked n r fs (d ∷ es) i e = go d i (λ j. row-asked n r fs es j e)
    where
      either : (d : Dec (c r ≡ n)) → row_in d (row_top n) (asked_row n es) ≡ row_top n
      either (yes p) = refl
      either (no p) = absurd (p e)

      step : {P : Type 0} (d : Dec P) (b : Headed) → b ≡ row_top n → row_in d (row_top n) b ≡ row_top n
      step (yes p) b q = refl
      step (no p) b q = q

      go : (d : Demand) → (has_fields r fs ≡ d) ⊎ IsOneOf (has_fields r fs) es → (IsOneOf (has_fields r fs) es → asked_row n es ≡ row_top n) → demand_row n d (asked_row n es) ≡ row_top n
      go d (inl q) k = ap (λ x. demand_row n x (asked_row n es)) (sym q) ∙ either (ℕ_discrete (c r) n)
      go (equal t v) (inr j) k = k j
      go (has_fields q gs) (inr j) k = step (ℕ_discrete (c q) n) (asked_row n es) (k j)
      go (asks a t) (inr j) k = k j

  abbrev Shown : List Id → List Ty → Id × InfiniteType → Type 0
  Shown ls ts f = lookup f.0 (with_labels ls (map class_tree ts)) ≡ Some f.1

  all-shown : (ls : List Id) (ts : List Ty) (fs : List (Id × Ty)) → ((f : Id × Ty) → IsOneOf f fs → Shown ls ts (f.0, spread types f.1)) → AllByRecursion (Shown ls ts) (fields_at (spread types) fs)
  all-shown ls ts [] h = tt
  all-shown ls ts (f ∷ fs) h = (h f (inl refl), all-shown ls ts fs (λ g i. h g (inr i)))

  -- the field's type is in the class of what stands at its label
  shown : (n : ℕ) (ls : List Id) (ts : List Ty) (r : Ty) (fs : List (Id × Ty)) (f : Id × Ty) (t : Ty) → IsOneOf (has_fields r fs) ds → IsOver n f.1 → IsOneOf f fs → lookup f.0 (with_labels ls ts) ≡ Some t → c f.1 ≡ c t → Shown ls ts (f.0, spread types f.1)
  shown n ls ts r fs f t i o j l e =
      let x = source ds (r, f.0, f.1) (asked-field ds r fs f i j) in
      lookup-mapped class_tree f.0 ls ts t l ∙ ap Some (ap follow (sym e) ∙ sym (tree-of n f.1 o x.field_in))

  row-tree : (n : ℕ) (r : Ty) (fs : List (Id × Ty)) → IsOneOf (has_fields r fs) ds → IsOver n r → AllByRecursion (λ f. IsOver n f.1) fs → HasFields infinite (spread types r) (fields_at (spread types) fs)
  row-tree n r fs i o os = go (first_headed (c r) (terms ds)) refl
    where
      is : Is r
      is = term-in ds (has_fields r fs) r i (inl refl)

      over : (f : Id × Ty) → IsOneOf f fs → IsOver n f.1
      over f j = all-in (λ g. IsOver n g.1) fs os f j

      known : (b : Head Name × List Ty) → first_headed (c r) (terms ds) ≡ Some b → HasFields infinite (spread types r) (fields_at (spread types) fs)
      known b e =
          let g = headed-from (c r) (terms ds) b e in
          let a : HasLabels fs b.0 b.1 = subst (IsRowFor fs) g.3 (all-in (λ u. IsRowDemand c u (has_fields r fs)) (terms ds) (all-in (λ d. AllByRecursion (λ u. IsRowDemand c u d) (terms ds)) ds ok.rows (has_fields r fs) i) g.0 g.1 (sym g.2)) in
          record {
            labels = a.labels;
            types = map class_tree b.1;
            rising = a.rising;
            count = length-map b.1 class_tree ∙ a.count;
            is_row = tree-of n r o is ∙ (follow-is (c r) b.0 b.1 (top-of (c r) b e) ∙ ap (λ h. tree h (map class_tree b.1)) a.is_row);
            fields = all-shown a.labels b.1 fs (λ f j.
                let w = all-in (λ x. (t : Ty) × (lookup x.0 (with_labels a.labels b.1) ≡ Some t)) fs a.all f j in
                shown n a.labels b.1 r fs f w.0 i (over f j) j w.1 (row-field r g.0 fs f a.labels b.1 w.0 i g.1 (sym g.2) (g.3 ∙ ap (λ h. Some (h, b.1)) a.is_row) j w.1));
          }

      open_one : first_headed (c r) (terms ds) ≡ None → HasFields infinite (spread types r) (fields_at (spread types) fs)
      open_one e =
          let m = class_row (c r) in
          let q : top (c r) ≡ row_top (c r) = ap (λ (x : Headed). or_else x (asked_row (c r) ds)) e ∙ row-asked (c r) r fs ds i refl in
          record {
            labels = labels_in m;
            types = map class_tree (values_in m);
            rising = rising-sets (class_fields (c r)) [] none-rising;
            count = length-map (values_in m) class_tree ∙ count-parts m;
            is_row = tree-of n r o is ∙ follow-is (c r) (row (labels_in m)) (values_in m) q;
            fields = all-shown (labels_in m) (values_in m) fs (λ f j.
                let x : Field = (r, f.0, f.1) in
                let a = asked-field ds r fs f i j in
                let p = puts-found f (class_fields (c r)) [] (field-class (c r) x a refl) in
                let y = class-field (c r) (f.0, p.0) p.2 in
                let l : f.0 ≡ y.0.1 = ap (λ (z : Id × Ty). z.0) y.3 in
                let k : p.0 ≡ y.0.2 = ap (λ (z : Id × Ty). z.1) y.3 in
                shown n (labels_in m) (values_in m) r fs f p.0 i (over f j) j (ap (lookup f.0) (with-parts m) ∙ p.1) (field-one x y.0 a y.1 (sym y.2) l ∙ ap c (sym k)));
          }

      go : (b : Headed) → first_headed (c r) (terms ds) ≡ b → HasFields infinite (spread types r) (fields_at (spread types) fs)
      go None e = open_one e
      go (Some b) e = known b e

  meets-one : (u n : ℕ) (d : Demand) → IsOneOf d ds → IsDemandOver n d → Holds Equations u types d
  meets-one u n (equal t v) i o =
      tree-of n t o.0 (term-in ds (equal t v) t i (inl refl)) ∙ (ap follow (given-one t v i) ∙ sym (tree-of n v o.1 (term-in ds (equal t v) v i (inr (inl refl)))))
  meets-one u n (has_fields r fs) i o = row-tree n r fs i o.0 o.1
  meets-one u n (asks a t) i o = tt

  meets-all : (u n : ℕ) → AllByRecursion (IsDemandOver n) ds → MeetsAll u types ds
  meets-all u n a = in-all (Holds Equations u types) ds (λ d i. meets-one u n d i (all-in (IsDemandOver n) ds a d i))

-- Demands clash, or trees meet them.
pub clash-or-trees : (ds : List Demand) (u n : ℕ) → AllByRecursion (IsDemandOver n) ds → Clash ds ⊎ ((σ : Assignment infinite) × MeetsAll u σ ds)
clash-or-trees ds u n a =
    let s = settled ds in
    elim (consistent-or-clash ds s.classes s.made) [
      | inl ok ↦ inr (types ds s ok, meets-all ds s ok u n a)
      | inr x ↦ inl x
    ]
