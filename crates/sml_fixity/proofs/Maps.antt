-- Maps with one more entry, and going back over changes.
use Rattle.std.proofs.Common.{◌≡◌, ℕ, Bool, true, false, ◌&&◌, Ordering, cond, Option, Some, None, Result, Ok, Err, OnOk, OnErr, List, [], ◌∷◌, ◌++◌, refl, sym, ap, ◌∙◌, subst, Vec, Global}
use Rattle.std.specs.Prelude.{reverse}
use Rattle.std.specs.Map as stored
use Rattle.std.specs.BTreeMap.{insert_entry, is_at}
use Rattle.std.specs.FinMap.{slice_cmp-IsAntisymmetric, nat_cmp-IsAntisymmetric}
use Rattle.std.specs.Cmp.Derive.{both_true}
use Rattle.std.proofs.lemmas.Bool.{false≢true}
use Rattle.std.specs.Ordering.{match_ordering, is_eq}
use Rattle.std.specs.declared.cmp.Ordering.TheVariants.{Less, Equal, Greater}
use Rattle.std.specs.declared.rc.Rc.{Rc}
use Rattle.std.proofs.lemmas.List.{reverse-append}
use Rattle.std.proofs.Math.Path.{fun_ext}
use Rattle.sml_tree.specs.Trees.{Id}
use Rattle.sml_tree.specs.Views.{ident_of}
use Rattle.sml_fixity.specs.declared.scopes.Fixity.{Fixity}
use Rattle.sml_fixity.specs.declared.scopes.Change.{Change}
use Rattle.sml_fixity.specs.declared.scopes.Change.TheVariants.{Scope, Restore}
use Rattle.sml_fixity.specs.Order.{order_of, where_same}
use Rattle.sml_fixity.specs.CodeTable.{found, is_marked, are_marked}
use Rattle.sml_fixity.specs.Scopes.{Map, changed, unwound}

abbrev Key : Type 0
Key = Rc (Vec ℕ Global) Global

abbrev Stored : Type 0
Stored = List (Key × Option Fixity)

same_ident : (x y : Id) → order_of x y ≡ Equal → x ≡ y
same_ident x y h = slice_cmp-IsAntisymmetric nat_cmp-IsAntisymmetric x y h

is_equal : Ordering → Type 0
is_equal Less = ⊥
is_equal Equal = Unit {0}
is_equal Greater = ⊥

over : (o : Ordering) (a b v : Option Fixity) → where_same o v a ≡ where_same o v (where_same o b a)
over Less a b v = refl
over Equal a b v = refl
over Greater a b v = refl

apart_from : (r : Ordering) (a v : Option Fixity) → (r ≡ Equal → ⊥) → a ≡ where_same r v a
apart_from Less a v h = refl
apart_from Equal a v h = absurd (h refl)
apart_from Greater a v h = refl

after : (y x z : Id) (b v a A : Option Fixity) (q : Ordering) → order_of x z ≡ Greater → order_of y z ≡ q → A ≡ where_same (order_of y x) v a
    → where_same q b A ≡ where_same (order_of y x) v (where_same q b a)
unfolding is_equal
after y x z b v a A Less h k e = e
after y x z b v a A Greater h k e = e
after y x z b v a A Equal h k e =
    apart_from (order_of y x) b v (λ s. subst is_equal (sym k ∙ ap (λ u. order_of u z) (same_ident y x s) ∙ h) tt)

abbrev cmp : Key → Key → Ordering
cmp x y = order_of (ident_of x) (ident_of y)

found-insert-by : (y : Id) (k : Key) (v : Option Fixity) (e : Key × Option Fixity) (es : Stored) (o : Ordering) → order_of (ident_of k) (ident_of e.0) ≡ o
    → found y (insert_entry cmp es k v) ≡ where_same (order_of y (ident_of k)) v (found y es)
    → found y (match_ordering o ((k, v) ∷ e ∷ es) ((e.0, v) ∷ es) (e ∷ insert_entry cmp es k v)) ≡ where_same (order_of y (ident_of k)) v (found y (e ∷ es))
found-insert-by y k v e es Less h i = refl
found-insert-by y k v e es Equal h i =
    over (order_of y (ident_of e.0)) (found y es) e.1 v ∙ ap (λ z. where_same (order_of y z) v (found y (e ∷ es))) (sym (same_ident (ident_of k) (ident_of e.0) h))
found-insert-by y k v e es Greater h i = after y (ident_of k) (ident_of e.0) e.1 v (found y es) (found y (insert_entry cmp es k v)) (order_of y (ident_of e.0)) h refl i

found-insert : (y : Id) (k : Key) (v : Option Fixity) (es : Stored) → found y (insert_entry cmp es k v) ≡ where_same (order_of y (ident_of k)) v (found y es)
found-insert y k v [] = refl
found-insert y k v (e ∷ es) = found-insert-by y k v e es (order_of (ident_of k) (ident_of e.0)) refl (found-insert y k v es)

pub found_inserted : (es es' : Stored) (k : Key) (v : Option Fixity) → es' ≡ insert_entry cmp es k v → (x : Id) → found x es' ≡ where_same (order_of x (ident_of k)) v (found x es)
found_inserted es es' k v h y = ap (found y) h ∙ found-insert y k v es

pub map_changed : (es es' : Stored) (k : Id) (v : Option Fixity) → ((x : Id) → found x es' ≡ where_same (order_of x k) v (found x es)) → (λ x. found x es') ≡ changed (λ x. found x es) k v
map_changed es es' k v h = fun_ext h

both : (a b : Bool) → (a && b) ≡ true → (a ≡ true) × (b ≡ true)
both true b h = (refl, h)
both false b h = absurd (false≢true h)

-- an identifier that isn't marked has no entry
unmarked-at : (firsts : List Bool) (x : Id) (e : Key × Option Fixity) (a : Option Fixity) → is_marked firsts x ≡ false → is_marked firsts (ident_of e.0) ≡ true → a ≡ None → where_same (order_of x (ident_of e.0)) e.1 a ≡ None
unmarked-at firsts x e a n m h =
    sym (apart_from (order_of x (ident_of e.0)) a e.1 (λ s. false≢true (sym n ∙ ap (is_marked firsts) (same_ident x (ident_of e.0) s) ∙ m))) ∙ h

pub unmarked : (firsts : List Bool) (x : Id) (es : Stored) → is_marked firsts x ≡ false → are_marked firsts es ≡ true → found x es ≡ None
unmarked firsts x [] n h = refl
unmarked firsts x (e ∷ es) n h =
    let m = both (is_marked firsts (ident_of e.0)) (are_marked firsts es) h in
    unmarked-at firsts x e (found x es) n m.0 (unmarked firsts x es n m.1)

-- entries stay marked while more bytes are, and so is a new one
marked-insert-by : (firsts : List Bool) (k : Key) (v : Option Fixity) (e : Key × Option Fixity) (es : Stored) (o : Ordering) → is_marked firsts (ident_of k) ≡ true → is_marked firsts (ident_of e.0) ≡ true → are_marked firsts es ≡ true
    → are_marked firsts (insert_entry cmp es k v) ≡ true → are_marked firsts (match_ordering o ((k, v) ∷ e ∷ es) ((e.0, v) ∷ es) (e ∷ insert_entry cmp es k v)) ≡ true
marked-insert-by firsts k v e es Less m n h i = both_true m (both_true n h)
marked-insert-by firsts k v e es Equal m n h i = both_true n h
marked-insert-by firsts k v e es Greater m n h i = both_true n i

marked-insert : (firsts : List Bool) (k : Key) (v : Option Fixity) (es : Stored) → is_marked firsts (ident_of k) ≡ true → are_marked firsts es ≡ true → are_marked firsts (insert_entry cmp es k v) ≡ true
marked-insert firsts k v [] m h = both_true m refl
marked-insert firsts k v (e ∷ es) m h =
    let n = both (is_marked firsts (ident_of e.0)) (are_marked firsts es) h in
    marked-insert-by firsts k v e es (order_of (ident_of k) (ident_of e.0)) m n.0 n.1 (marked-insert firsts k v es m n.1)

marked_on : (firsts firsts' : List Bool) (es : Stored) → ((x : Id) → is_marked firsts x ≡ true → is_marked firsts' x ≡ true) → are_marked firsts es ≡ true → are_marked firsts' es ≡ true
marked_on firsts firsts' [] o h = refl
marked_on firsts firsts' (e ∷ es) o h =
    let n = both (is_marked firsts (ident_of e.0)) (are_marked firsts es) h in
    both_true (o (ident_of e.0) n.0) (marked_on firsts firsts' es o n.1)

marked_inserted : (firsts firsts' : List Bool) (es es' : Stored) (k : Key) (v : Option Fixity) → ((x : Id) → is_marked firsts x ≡ true → is_marked firsts' x ≡ true) → is_marked firsts' (ident_of k) ≡ true
    → are_marked firsts es ≡ true → es' ≡ insert_entry cmp es k v → are_marked firsts' es' ≡ true
marked_inserted firsts firsts' es es' k v o m h e = ap (are_marked firsts') e ∙ marked-insert firsts' k v es m (marked_on firsts firsts' es o h)

pub marked_stay : {A E : Type 0} (r : Result A E) (firsts firsts' : List Bool) (es es' : Stored) (k : Key) (v : Option Fixity) → ((x : Id) → is_marked firsts x ≡ true → is_marked firsts' x ≡ true)
    → is_marked firsts' (ident_of k) ≡ true → are_marked firsts es ≡ true → OnOk r (es' ≡ insert_entry cmp es k v) → OnErr r (es' ≡ es) → are_marked firsts' es' ≡ true
marked_stay (Ok a) firsts firsts' es es' k v o m h e f = marked_inserted firsts firsts' es es' k v o m h e
marked_stay (Err a) firsts firsts' es es' k v o m h e f = ap (are_marked firsts') f ∙ marked_on firsts firsts' es o h

abbrev flat : Option (Option Fixity) → Option Fixity
flat None = None
flat (Some o) = o

looked-by : (o : Ordering) (v : Option Fixity) (a : Option (Option Fixity)) (b : Option Fixity) → flat a ≡ b → flat (cond (is_eq o) (Some v) a) ≡ where_same o v b
looked-by Less v a b h = h
looked-by Equal v a b h = refl
looked-by Greater v a b h = h

looked : (k : Key) (es : Stored) → flat (stored.lookup (is_at (λ x. order_of (ident_of k) (ident_of x))) es) ≡ found (ident_of k) es
looked k [] = refl
looked k (e ∷ es) = looked-by (order_of (ident_of k) (ident_of e.0)) e.1 _ _ (looked k es)

pub fixity_found : (es : Stored) (k : Key) (o : Option (Option Fixity)) → o ≡ stored.lookup (is_at (λ x. order_of (ident_of k) (ident_of x))) es → flat o ≡ found (ident_of k) es
fixity_found es k o h = ap flat h ∙ looked k es

back_at : (o : Ordering) (here there v : Option Fixity) → (o ≡ Equal → there ≡ here) → where_same o here (where_same o v there) ≡ there
back_at Less here there v h = refl
back_at Equal here there v h = sym (h refl)
back_at Greater here there v h = refl

same_at : (o : Ordering) (here there : Option Fixity) → (o ≡ Equal → there ≡ here) → where_same o here there ≡ there
same_at Less here there h = refl
same_at Equal here there h = sym (h refl)
same_at Greater here there h = refl

changed_back : (f : Map) (x : Id) (v : Option Fixity) → changed (changed f x v) x (f x) ≡ f
changed_back f x v =
    fun_ext (λ y. back_at (order_of y x) (f x) (f y) v (λ e. ap f (same_ident y x e)))

changed_same : (f : Map) (x : Id) → changed f x (f x) ≡ f
changed_same f x =
    fun_ext (λ y. same_at (order_of y x) (f x) (f y) (λ e. ap f (same_ident y x e)))

reverse_push : (xs : List Change) (x : Change) → reverse (xs ++ x ∷ []) ≡ x ∷ reverse xs
reverse_push xs x = reverse-append xs (x ∷ [])

pub unwound_push : (f : Map) (xs : List Change) (k : Key) (v : Option Fixity) → unwound f (reverse (xs ++ Restore k v ∷ [])) ≡ unwound (changed f (ident_of k) v) (reverse xs)
unwound_push f xs k v = ap (λ (w : List Change). unwound f w) (reverse_push xs (Restore k v))

pub unwound_scope : (f : Map) (xs : List Change) → unwound f (reverse (xs ++ Scope ∷ [])) ≡ f ∷ unwound f (reverse xs)
unwound_scope f xs = ap (λ (w : List Change). unwound f w) (reverse_push xs Scope)

-- what `set` leaves, whether or not the table took the entry
pub set_keeps : {E : Type 0} (r : Result (Unit {0}) E) (f g : Map) (x : Id) (k kept : Key) (v o : Option Fixity) (xs ys : List Change) → OnOk r (g ≡ changed f (ident_of k) v) → OnErr r (g ≡ f) → ident_of k ≡ x → ident_of kept ≡ x → o ≡ f x → ys ≡ xs ++ Restore kept o ∷ [] → unwound g (reverse ys) ≡ unwound f (reverse xs)
set_keeps (Ok u) f g x k kept v o xs ys h n i j before e =
    rw (e, h) (unwound_push (changed f (ident_of k) v) xs kept o ∙ rw (i, j, before) (ap (λ (w : Map). unwound w (reverse xs)) (changed_back f x v)))
set_keeps (Err u) f g x k kept v o xs ys h n i j before e =
    rw (e, n) (unwound_push f xs kept o ∙ rw (j, before) (ap (λ (w : Map). unwound w (reverse xs)) (changed_same f x)))

-- one change taken back
pub restored : (f g : Map) (k : Key) (v : Option Fixity) (xs ys zs : List Change) → g ≡ changed f (ident_of k) v → xs ≡ ys ++ Restore k v ∷ [] → zs ≡ ys → unwound g (reverse zs) ≡ unwound f (reverse xs)
restored f g k v xs ys zs h e d = rw (h, e, d) (sym (unwound_push f ys k v))
