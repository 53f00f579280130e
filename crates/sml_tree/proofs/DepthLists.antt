-- How deep the variables of a list stand, one variable after another.
use Rattle.std.proofs.Common.{◌≡◌, ℕ, ◌+◌, ◌<◌, List, [], ◌∷◌, ◌++◌, drop, length, get_or, if◌then◌else◌, append_assoc, refl, ap, sym, ◌∙◌}
use Rattle.std.specs.Str.{bytes_eq}
use Rattle.sml_lex.specs.declared.fault.Place.{Place}
use Rattle.sml_tree.specs.declared.names.Name.{Name}
use Rattle.sml_tree.specs.Trees.{Id}
use Rattle.sml_tree.specs.Names as N
use Rattle.sml_tree.specs.Views.{ident_of}
use Rattle.sml_tree.specs.TypeViews.{names_of}
use Rattle.sml_tree.specs.CodeDepths.{without, depths}
use Rattle.sml_tree.proofs.Lists.{opened}
use Rattle.sml_tree.proofs.Instances.{without_same}

pub depths_same : (f g : Id → ℕ) → ((v : Id) → f v ≡ g v) → (xs : List (N.Name Place)) → depths f xs ≡ depths g xs
depths_same f g e [] = refl
depths_same f g e (x ∷ xs) = ap (λ d. d ∷ depths (without x.id f) xs) (e x.id) ∙ ap (λ ds. g x.id ∷ ds) (depths_same (without x.id f) (without x.id g) (λ v. without_same x.id f g v (λ _. e v)) xs)

pub depths_on : (f g : Id → ℕ) (found : List ℕ) (d : ℕ) (xs : List Name) (i : ℕ) (x : Name) → i < length xs → x ≡ get_or xs i x → d ≡ f (ident_of x.ident) → ((v : Id) → g v ≡ (if bytes_eq v (ident_of x.ident) then 0 else f v))
    → (found ++ d ∷ []) ++ depths g (names_of (drop (i + 1) xs)) ≡ found ++ depths f (names_of (drop i xs))
depths_on f g found d xs i x within e here taken =
    append_assoc found (d ∷ []) (depths g (names_of (drop (i + 1) xs)))
    ∙ ap (λ ds. found ++ d ∷ ds) (depths_same g (without (ident_of x.ident) f) taken (names_of (drop (i + 1) xs)))
    ∙ ap (λ n. found ++ n ∷ depths (without (ident_of x.ident) f) (names_of (drop (i + 1) xs))) here
    ∙ sym (ap (λ ys. found ++ depths f (names_of ys)) (opened xs i x within e))
