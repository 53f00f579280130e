-- Fields that are put into a row, whose labels stand after their ranks.
use Rattle.std.proofs.Common.{◌≡◌, List, [], ◌∷◌, map, refl, ap, sym, ◌∙◌, Vec, Global}
use Rattle.std.specs.Ordering.{match_ordering, nat_cmp, ordering_then}
use Rattle.std.specs.BTreeMap.{insert_entry}
use Rattle.std.specs.declared.cmp.Ordering.{Ordering}
use Rattle.std.specs.declared.cmp.Ordering.TheVariants.{Less, Equal, Greater}
use Rattle.sml_tree.specs.Views.{ident_of}
use Rattle.sml_objects.specs.Labels.{label_order, label_rank}
use Rattle.sml_objects.specs.Maps.{by_order, order_of}
use Rattle.sml_objects.proofs.Puts.{same_ident}
use Rattle.std.specs.declared.rc.Rc.{Rc}
use Rattle.sml_objects.specs.Views as view
use Rattle.sml_objects.specs.Views.{label_list}
use Rattle.sml_objects.specs.declared.labels.Labels.{Labels}
use Rattle.sml_objects.proofs.EnvViews.{map-map}
use Rattle.sml_core_rules.specs.Types.{put_field, row_of}
use Rattle.sml_types.specs.Meant.{meant}
use Rattle.sml_types.specs.declared.written.Written.{Written}
use Rattle.sml_types.specs.declared.written.Written.TheViews as V
use Rattle.sml_types.proofs.Meanings.{meanings, meant-row}
use Rattle.sml_types.specs.Rows.{AreRanked, LabelKey, fields_of}
use Rattle.sml_types.proofs.RowLabels.{key_order}

last-equal : (o p : Ordering) → ordering_then o p ≡ Equal → p ≡ Equal
last-equal Less p h = cc
last-equal Equal p h = h
last-equal Greater p h = cc

same-label : (x y : LabelKey) → key_order x y ≡ Equal → ident_of x.1 ≡ ident_of y.1
same-label x y h = same_ident (ident_of x.1) (ident_of y.1) (last-equal (nat_cmp x.0 y.0) (order_of (ident_of x.1) (ident_of y.1)) h)

label-keys : (x y : LabelKey) → x.0 ≡ label_rank (ident_of x.1) → y.0 ≡ label_rank (ident_of y.1) → label_order (ident_of x.1) (ident_of y.1) ≡ key_order x y
label-keys x y h k = λ i. ordering_then (nat_cmp (sym h i) (sym k i)) (order_of (ident_of x.1) (ident_of y.1))

module _ {A X : Type 0} (f : A → X) where
  pub fields-put : (es : List (LabelKey × A)) (k : LabelKey) (v : A) → AreRanked es → k.0 ≡ label_rank (ident_of k.1)
      → fields_of f (insert_entry key_order es k v) ≡ put_field (ident_of k.1) (f v) (fields_of f es)
  fields-put [] k v h r = refl
  fields-put (e ∷ es) k v h r =
      go (key_order k e.0) refl (fields-put es k v h.1 r) ∙ sym (ap (λ o. by_order o ((ident_of k.1, f v) ∷ fields_of f (e ∷ es)) ((ident_of k.1, f v) ∷ fields_of f es) ((ident_of e.0.1, f e.1) ∷ put_field (ident_of k.1) (f v) (fields_of f es))) (label-keys k e.0 r h.0))
    where
      go : (o : Ordering) → key_order k e.0 ≡ o → fields_of f (insert_entry key_order es k v) ≡ put_field (ident_of k.1) (f v) (fields_of f es)
          → fields_of f (match_ordering o ((k, v) ∷ e ∷ es) ((e.0, v) ∷ es) (e ∷ insert_entry key_order es k v))
          ≡ by_order o ((ident_of k.1, f v) ∷ fields_of f (e ∷ es)) ((ident_of k.1, f v) ∷ fields_of f es) ((ident_of e.0.1, f e.1) ∷ put_field (ident_of k.1) (f v) (fields_of f es))
      go Less is rest = refl
      go Equal is rest = ap (λ l. (l, f v) ∷ fields_of f es) (sym (same-label k e.0 is))
      go Greater is rest = ap (λ m. (ident_of e.0.1, f e.1) ∷ m) rest

pub ranked-put : {A : Type 0} (es : List (LabelKey × A)) (k : LabelKey) (v : A) → AreRanked es → k.0 ≡ label_rank (ident_of k.1) → AreRanked (insert_entry key_order es k v)
ranked-put [] k v h r = (r, tt)
ranked-put (e ∷ es) k v h r = go (key_order k e.0) (ranked-put es k v h.1 r)
  where
    go : (o : Ordering) → AreRanked (insert_entry key_order es k v) → AreRanked (match_ordering o ((k, v) ∷ e ∷ es) ((e.0, v) ∷ es) (e ∷ insert_entry key_order es k v))
    go Less rest = (r, h)
    go Equal rest = h
    go Greater rest = (h.0, rest)

-- the row of what is written in these fields
pub written-row : (es : List (LabelKey × Rc Written Global)) (ls : Rc Labels Global) (ws : Vec (Rc Written Global) Global) → ws.items ≡ map (λ e. e.1) es
    → label_list ls.value ≡ map (λ e. ident_of e.0.1) es → meant (V.Row ls ws) ≡ row_of (fields_of (λ w. meant w.value) es)
written-row es ls ws is labels =
    let labelled : label_list ls.value ≡ map (λ f. f.0) (fields_of (λ w. meant w.value) es) = labels ∙ sym (map-map (λ f. f.0) (λ e. (ident_of e.0.1, meant e.1.value)) es) in
    let typed : meanings ws.items ≡ map (λ f. f.1) (fields_of (λ w. meant w.value) es) =
    ap meanings is ∙ map-map (λ w. meant w.value) (λ e. e.1) es ∙ sym (map-map (λ f. f.1) (λ e. (ident_of e.0.1, meant e.1.value)) es) in
    meant-row ls ws ∙ (λ i. view.row_of (labelled i) (typed i))
