-- Steps along a path of structures.
use Rattle.std.proofs.Common.{◌≡◌, ◌<◌, ℕ, ◌+◌, List, [], ◌∷◌, ◌++◌, map, take, drop, length, get_or, refl, ap, sym, ◌∙◌, arith, Option, Some, None}
use Rattle.std.proofs.lemmas.List.{take_more, drop_more}
use Rattle.std.proofs.Math.Seq.{drop-length}
use Rattle.sml_tree.specs.Trees.{Id, LongId}
use Rattle.sml_objects.specs.Maps.{lookup}
use Rattle.sml_objects.specs.Objects.{Env, Scheme, structures, types, values, find_structure}
use Rattle.sml_objects.specs.Initial.{Name}
use Rattle.sml_rules.specs.Lookups.{find_at, found_in, entry, no_path, Found, value_at, type_at}

module _ (pick : Env Name → Option (Scheme Name)) where
  one_step : (i : ℕ) (path : List Id) (s : Id) (E : Env Name) → i < length path → get_or path i s ≡ s
      → find_at pick (take i path) (drop i path) E ≡ found_in (take (i + 1) path) (find_at pick (take (i + 1) path) (drop (i + 1) path)) (find_structure s (structures E))
  unfolding find_at
  one_step i path s E h e =
      ap (λ rest. find_at pick (take i path) rest E) (drop_more path i s h ∙ ap (λ y. y ∷ drop (i + 1) path) e)
      ∙ ap (λ seen. found_in seen (find_at pick seen (drop (i + 1) path)) (find_structure s (structures E))) (sym (take_more path i s h ∙ ap (λ y. take i path ++ y ∷ []) e))

  pub path_on : (i : ℕ) (path : List Id) (s : Id) (E F : Env Name) → i < length path → get_or path i s ≡ s → find_structure s (structures E) ≡ Some F
      → find_at pick (take i path) (drop i path) E ≡ find_at pick (take (i + 1) path) (drop (i + 1) path) F
  path_on i path s E F h e f =
      one_step i path s E h e ∙ ap (found_in (take (i + 1) path) (find_at pick (take (i + 1) path) (drop (i + 1) path))) f

  pub path_stops : (i : ℕ) (path : List Id) (s : Id) (E : Env Name) → i < length path → get_or path i s ≡ s → find_structure s (structures E) ≡ None
      → find_at pick (take i path) (drop i path) E ≡ no_path (take (i + 1) path)
  path_stops i path s E h e f =
      one_step i path s E h e ∙ ap (found_in (take (i + 1) path) (find_at pick (take (i + 1) path) (drop (i + 1) path))) f

  pub path_ends : (i : ℕ) (path : List Id) (E : Env Name) → i ≡ length path → find_at pick (take i path) (drop i path) E ≡ entry (pick E)
  unfolding find_at
  path_ends i path E e = go (drop i path) (ap (λ n. drop n path) e ∙ drop-length path)
    where
      go : (rest : List Id) → rest ≡ [] → find_at pick (take i path) rest E ≡ entry (pick E)
      go [] h = refl
      go (x ∷ rest) h = let bad : ⊥ = cc in absurd bad

-- what a long identifier finds

pub value_short : (C : Env Name) (x : LongId) → x.path ≡ [] → value_at C x ≡ entry (lookup x.last (values C))
unfolding value_at find_at
value_short C x e = ap (λ path. find_at (λ E. lookup x.last (values E)) [] path C) e

pub value_long : (C : Env Name) (x : LongId) (r : Found (Scheme Name)) → find_at (λ E. lookup x.last (values E)) [] x.path C ≡ r → value_at C x ≡ r
unfolding value_at
value_long C x r e = e

pub type_short : (C : Env Name) (x : LongId) → x.path ≡ [] → type_at C x ≡ entry (lookup x.last (types C))
unfolding type_at find_at
type_short C x e = ap (λ path. find_at (λ E. lookup x.last (types E)) [] path C) e

pub type_long : (C : Env Name) (x : LongId) (r : Found (Scheme Name)) → find_at (λ E. lookup x.last (types E)) [] x.path C ≡ r → type_at C x ≡ r
unfolding type_at
type_long C x r e = e

pub no_items : {A B : Type 0} (f : A → B) (xs : List A) → length xs ≡ 0 → map f xs ≡ []
no_items f [] e = refl
no_items f (x ∷ xs) e = absurd (omega (arith, e))
