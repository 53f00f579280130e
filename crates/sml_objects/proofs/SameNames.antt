-- The names that were collected are those that stand there.
use Rattle.std.proofs.Common.{◌≡◌, ◌⊎◌, List, [], subst, sym, ap, ◌∙◌, map, inl, inr}
use Rattle.sml_objects.specs.Initial.{Name, naming}
use Rattle.sml_objects.specs.Appearance.{Stands, HaveSameNames, firsts_after}
use Rattle.sml_objects.specs.Views.{name_of}
use Rattle.sml_objects.specs.declared.objects.TyName.{TyName}
use Rattle.sml_objects.proofs.Standing.{firsts-all, firsts-only}

pub stand-collected : (keys first : List TyName) (xs ns : List Name) → map name_of keys ≡ firsts_after naming (map name_of first) xs → first ≡ []
    → ((n : Name) → Stands n xs → Stands n ns) → ((n : Name) → Stands n ns → Stands n xs) → HaveSameNames (map name_of keys) ns
unfolding Stands
stand-collected keys first xs ns h e to from n = (
  λ s. to n (only n (firsts-only naming n [] xs (subst (λ l. Stands n l) whole s))),
  λ s. subst (λ l. Stands n l) (sym whole) (firsts-all naming n [] xs (from n s)),
)
  where
    whole : map name_of keys ≡ firsts_after naming [] xs
    whole = h ∙ ap (λ l. firsts_after naming (map name_of l) xs) e

    only : (n : Name) → Stands n [] ⊎ Stands n xs → Stands n xs
    only n (inl s) = absurd s
    only n (inr s) = s
