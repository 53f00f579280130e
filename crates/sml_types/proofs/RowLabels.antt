-- The labels of fields that stand in the order of their keys.
use Rattle.std.proofs.Common.{◌≡◌, ℕ, List, [], ◌∷◌, map, ap, ◌∙◌, sym, subst, Vec, Global, Result, IfOk}
use Rattle.std.specs.List.{AllByRecursion}
use Rattle.std.specs.List.Sorted.{IsStrictlySortedBy}
use Rattle.std.specs.Ordering.{nat_cmp, ordering_then}
use Rattle.std.specs.declared.cmp.Ordering.{Ordering}
use Rattle.std.specs.declared.cmp.Ordering.TheVariants.{Less}
use Rattle.std.specs.declared.rc.Rc.{Rc}
use Rattle.sml_tree.specs.Views.{ident_of}
use Rattle.sml_objects.specs.Labels.{AreRising, label_order, label_rank}
use Rattle.sml_objects.specs.Maps.{order_of}
use Rattle.sml_objects.specs.Views as view
use Rattle.sml_objects.specs.Views.{label_list, type_of}
use Rattle.sml_objects.specs.declared.labels.Labels.{Labels}
use Rattle.sml_objects.specs.declared.objects.MlType.{MlType}
use Rattle.sml_objects.specs.declared.objects.MlType.TheViews as V
use Rattle.sml_objects.proofs.EnvViews.{map-map}
use Rattle.sml_objects.proofs.TypeViews.{parts_of, type_of-row}
use Rattle.sml_core_rules.specs.Types as read
use Rattle.sml_types.specs.Rows.{AreRanked, LabelKey, fields_of}

-- the order of the keys
abbrev pub key_order : LabelKey → LabelKey → Ordering
key_order x y = ordering_then (nat_cmp x.0 y.0) (order_of (ident_of x.1) (ident_of y.1))

below-keys : {X : Type 0} (k : LabelKey) (es : List (LabelKey × X)) → k.0 ≡ label_rank (ident_of k.1) → AreRanked es
    → AllByRecursion (λ y. key_order k y ≡ Less) (map (λ e. e.0) es) → AllByRecursion (λ y. label_order (ident_of k.1) y ≡ Less) (map (λ e. ident_of e.0.1) es)
below-keys k [] h hs a = tt
below-keys k (e ∷ es) h hs a = (
  (λ i. ordering_then (nat_cmp (sym h i) (sym hs.0 i)) (order_of (ident_of k.1) (ident_of e.0.1))) ∙ a.0,
  below-keys k es h hs.1 a.1,
)

-- labels rise where their keys do
pub keys-rise : {X : Type 0} (es : List (LabelKey × X)) → AreRanked es → IsStrictlySortedBy key_order (map (λ e. e.0) es) → AreRising (map (λ e. ident_of e.0.1) es)
unfolding IsStrictlySortedBy
keys-rise [] h s = tt
keys-rise (e ∷ es) h s = (below-keys e.0 es h.0 h.1 s.0, keys-rise es h.1 s.1)

-- the labels of a list that rises
pub labels-rise : {X E : Type 0} (es : List (LabelKey × X)) (list : List (Rc (Vec ℕ Global) Global)) → list ≡ map (λ e. e.0.1) es → IsStrictlySortedBy key_order (map (λ e. e.0) es)
    → (r : Result (Rc Labels Global) E) → (AreRising (map ident_of list) → IfOk r (λ ls. label_list ls.value ≡ map ident_of list))
    → AreRanked es → IfOk r (λ ls. label_list ls.value ≡ map (λ e. ident_of e.0.1) es)
labels-rise es list is sorted r h ranked =
    let same : map ident_of list ≡ map (λ e. ident_of e.0.1) es = ap (map ident_of) is ∙ map-map ident_of (λ e. e.0.1) es in
    subst (λ l. IfOk r (λ ls. label_list ls.value ≡ l)) same (h (subst AreRising (sym same) (keys-rise es ranked sorted)))

-- the row of these fields
pub row-of-fields : (es : List (LabelKey × Rc MlType Global)) (ls : Rc Labels Global) (ts : Vec (Rc MlType Global) Global) → ts.items ≡ map (λ e. e.1) es
    → label_list ls.value ≡ map (λ e. ident_of e.0.1) es → type_of (V.Row ls ts) ≡ read.row_of (fields_of (λ t. type_of t.value) es)
row-of-fields es ls ts is labels =
    let labelled : label_list ls.value ≡ map (λ f. f.0) (fields_of (λ t. type_of t.value) es) = labels ∙ sym (map-map (λ f. f.0) (λ e. (ident_of e.0.1, type_of e.1.value)) es) in
    let typed : parts_of ts.items ≡ map (λ f. f.1) (fields_of (λ t. type_of t.value) es) =
    ap parts_of is ∙ map-map (λ t. type_of t.value) (λ e. e.1) es ∙ sym (map-map (λ f. f.1) (λ e. (ident_of e.0.1, type_of e.1.value)) es) in
    type_of-row ls ts ∙ (λ i. view.row_of (labelled i) (typed i))
