-- Maps into which rows are put one after the other.
use Rattle.std.proofs.Common.{◌≡◌, ◌+◌, ◌<◌, ℕ, List, [], ◌∷◌, ◌++◌, map, take, length, get_or, Vec, Global, refl, ap, sym, ◌∙◌}
use Rattle.std.proofs.lemmas.List.{map-append, take_more}
use Rattle.std.specs.declared.rc.Rc.{Rc}
use Rattle.std.specs.BTreeMap.{insert_entry}
use Rattle.sml_tree.specs.Trees.{Id}
use Rattle.sml_tree.specs.Views.{ident_of}
use Rattle.sml_objects.specs.Maps.{Map, put, join, order_of}
use Rattle.sml_objects.specs.Views.{entries_of}
use Rattle.sml_objects.proofs.EnvViews.{entries-put}
use Rattle.sml_objects.proofs.Joins.{join-push}

-- one row more
pub row-next : {A X R : Type 0} (f : A → X) (g : R → Id × X) (before : Map X) (old new : List (Rc (Vec ℕ Global) Global × A)) (rows : List R) (i : ℕ)
    (k : Rc (Vec ℕ Global) Global) (v : A) (r : R)
    → new ≡ insert_entry (λ x y. order_of (ident_of x) (ident_of y)) old k v → i < length rows → ident_of k ≡ (g (get_or rows i r)).0 → f v ≡ (g (get_or rows i r)).1
    → entries_of f old ≡ join before (map g (take i rows)) → entries_of f new ≡ join before (map g (take (i + 1) rows))
row-next f g before old new rows i k v r inserted inside key value h =
    ap (entries_of f) inserted
    ∙ entries-put f old k v
    ∙ (λ j. put (key j) (value j) (h j))
    ∙ sym (join-push before (map g (take i rows)) (g (get_or rows i r)).0 (g (get_or rows i r)).1)
    ∙ ap (join before) (sym (map-append g (take i rows) (get_or rows i r ∷ [])))
    ∙ ap (λ l. join before (map g l)) (sym (take_more rows i r inside))
