-- Gathering goes on after what was gathered.
use Rattle.std.proofs.Common.{◌≡◌, ℕ, ◌+◌, ◌<◌, List, [], ◌∷◌, ◌++◌, Bool, true, false, if◌then◌else◌, ◌||◌, drop, get_or, length, refl, ap, sym, ◌∙◌}
use Rattle.std.specs.Prelude.{Vec}
use Rattle.std.specs.Global.{Global}
use Rattle.std.specs.List.{list_any}
use Rattle.std.specs.Str.{bytes_eq}
use Rattle.std.specs.declared.rc.Rc.{Rc}
use Rattle.std.proofs.lemmas.List.{drop_more}
use Rattle.indexmap.specs.IndexSet.{insert_key}
use Rattle.sml_tree.specs.Trees.{Id}
use Rattle.sml_tree.specs.Views.{ident_of}
use Rattle.sml_closing.specs.Gathered.{ids_of, with_all}

all_after : (ks xs ys : List Id) → with_all (with_all ks xs) ys ≡ with_all ks (xs ++ ys)
all_after ks [] ys = refl
all_after ks (x ∷ xs) ys = all_after (insert_key bytes_eq ks x) xs ys

pub then_more : (a b c xs ys : List Id) → b ≡ with_all a xs → c ≡ with_all b ys → c ≡ with_all a (xs ++ ys)
then_more a b c xs ys e f = f ∙ ap (λ ks. with_all ks ys) e ∙ all_after a xs ys

-- one element more of a list, whose variables are those of its elements one after the other
pub one_more : {A : Type 0} (variables : List A → List Id) (all : List A) (i : ℕ) (d x : A) (own now next whole : List Id)
    → ((rest : List A) → variables (x ∷ rest) ≡ own ++ variables rest) → i < length all → get_or all i d ≡ x
    → with_all now (variables (drop i all)) ≡ whole → next ≡ with_all now own → with_all next (variables (drop (i + 1) all)) ≡ whole
one_more variables all i d x own now next whole split within here h n =
    ap (λ ks. with_all ks (variables (drop (i + 1) all))) n ∙ all_after now own (variables (drop (i + 1) all))
    ∙ ap (with_all now) (sym (ap variables (drop_more all i d within ∙ ap (λ y. y ∷ drop (i + 1) all) here) ∙ split (drop (i + 1) all))) ∙ h

any_same : (x : Id) (ks : List (Rc (Vec ℕ Global) Global)) → list_any (λ q. bytes_eq x (ident_of q)) ks ≡ list_any (bytes_eq x) (ids_of ks)
any_same x [] = refl
any_same x (k ∷ ks) = ap (λ b. bytes_eq x (ident_of k) || b) (any_same x ks)

mapped_end : (ks : List (Rc (Vec ℕ Global) Global)) (k : Rc (Vec ℕ Global) Global) → ids_of (ks ++ k ∷ []) ≡ ids_of ks ++ ident_of k ∷ []
mapped_end [] k = refl
mapped_end (j ∷ ks) k = ap (λ xs. ident_of j ∷ xs) (mapped_end ks k)

either : (b : Bool) (ks : List (Rc (Vec ℕ Global) Global)) (k : Rc (Vec ℕ Global) Global) → ids_of (if b then ks else ks ++ k ∷ []) ≡ (if b then ids_of ks else ids_of ks ++ ident_of k ∷ [])
either true ks k = refl
either false ks k = mapped_end ks k

pub inserted : (old new : List (Rc (Vec ℕ Global) Global)) (k : Rc (Vec ℕ Global) Global) (x : Id) → ident_of k ≡ x → new ≡ insert_key (λ p q. bytes_eq (ident_of p) (ident_of q)) old k → ids_of new ≡ with_all (ids_of old) (x ∷ [])
inserted old new k x e h =
    ap ids_of h ∙ either (list_any (λ q. bytes_eq (ident_of k) (ident_of q)) old) old k
    ∙ ap (λ b. if b then ids_of old else ids_of old ++ ident_of k ∷ []) (any_same (ident_of k) old)
    ∙ ap (λ y. with_all (ids_of old) (y ∷ [])) e
