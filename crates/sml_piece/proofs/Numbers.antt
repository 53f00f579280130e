-- The numbers of local variables, as they are stored.
use Rattle.std.proofs.Common.{◌≡◌, ℕ, List, Option, Some, None, refl, ap, sym, ◌∙◌, Vec, Global}
use Rattle.std.specs.Option.{option_map}
use Rattle.std.specs.Map as stored
use Rattle.std.specs.BTreeMap.{insert_entry, is_at}
use Rattle.std.specs.declared.rc.Rc.{Rc}
use Rattle.sml_tree.specs.Trees.{Id}
use Rattle.sml_tree.specs.Views.{ident_of}
use Rattle.sml_objects.specs.Maps.{lookup, put, order_of}
use Rattle.sml_objects.specs.Views.{entries_of}
use Rattle.sml_objects.proofs.EnvViews.{lookup-entries, entries-put}
use Rattle.sml_piece.specs.Elaborated.{flat}
use Rattle.sml_objects.proofs.Puts.{at, lookup-put, at-through}

abbrev Stored : Type 0
Stored = List (Rc (Vec ℕ Global) Global × Option ℕ)

as_it_is : (o : Option (Option ℕ)) → option_map (λ x. x) o ≡ o
as_it_is None = refl
as_it_is (Some x) = refl

pub number_found : (es : Stored) (k : Rc (Vec ℕ Global) Global) (o : Option (Option ℕ))
    → o ≡ stored.lookup (is_at (λ x. order_of (ident_of k) (ident_of x))) es → flat o ≡ flat (lookup (ident_of k) (entries_of (λ o. o) es))
number_found es k o h = ap flat (h ∙ sym (as_it_is _) ∙ lookup-entries (λ o. o) es k)

pub number_set : (es es' : Stored) (k : Rc (Vec ℕ Global) Global) (n : Option ℕ) (x y : Id)
    → es' ≡ insert_entry (λ x y. order_of (ident_of x) (ident_of y)) es k n → ident_of k ≡ y
    → flat (lookup x (entries_of (λ o. o) es')) ≡ at (order_of x y) n (flat (lookup x (entries_of (λ o. o) es)))
number_set es es' k n x y h e =
    ap (λ es. flat (lookup x (entries_of (λ o. o) es))) h
    ∙ ap (λ m. flat (lookup x m)) (entries-put (λ o. o) es k n ∙ ap (λ y. put y n (entries_of (λ o. o) es)) e)
    ∙ ap flat (lookup-put x y n (entries_of (λ o. o) es)) ∙ at-through flat (order_of x y) (Some n) (lookup x (entries_of (λ o. o) es))
