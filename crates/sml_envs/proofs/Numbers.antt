-- Names that are numbered by their places.
use Rattle.std.proofs.Common.{◌≡◌, ℕ, ◌+◌, Bool, true, false, cond, filter, List, [], map, Some, refl, ap, sym, subst, ◌∙◌, true≢false}
use Rattle.std.specs.List.{list_any, position}
use Rattle.sml_objects.specs.Appearance.{firsts_after, stands}
use Rattle.sml_objects.specs.Canonical.{index_of, is_new, renumber, with_number}
use Rattle.sml_objects.specs.Initial.{Name, made, naming}
use Rattle.sml_objects.specs.Views.{name_of}
use Rattle.sml_objects.specs.declared.objects.Initial.{Initial}
use Rattle.sml_objects.specs.declared.objects.MadeName.{MadeName}
use Rattle.sml_objects.specs.declared.objects.TyName.{TyName}
use Rattle.sml_objects.specs.declared.objects.TyName.TheVariants as T
use Rattle.sml_objects.proofs.NameTests.{eq}
use Rattle.sml_objects.proofs.NamePlaces.{renumber-found, renumber-missing}
use Rattle.sml_envs.specs.Appearing.{new_in}
use Rattle.sml_envs.proofs.Appearances.{firsts-filtered}
use Rattle.sml_objects.proofs.Standing.{was_found, was_kept}

module _ (u count : ℕ) (ns : List TyName) where
  -- an initial name, where all that are numbered are new
  pub initial-stays : (x : TyName) (k : Initial) → x ≡ T.Initial k → ((n : Name) → stands naming n (map name_of ns) ≡ true → is_new u count n ≡ true)
      → name_of x ≡ renumber u count (map name_of ns) (name_of x)
  unfolding renumber
  initial-stays x k is new = subst (λ x. name_of x ≡ renumber u count (map name_of ns) (name_of x)) (sym is) (go (stands naming (name_of (T.Initial k)) (map name_of ns)) (new (name_of (T.Initial k))))
    where
      go : (b : Bool) → (b ≡ true → is_new u count (name_of (T.Initial k)) ≡ true)
          → name_of (T.Initial k) ≡ cond b (with_number u (count + index_of naming (name_of (T.Initial k)) (map name_of ns)) (name_of (T.Initial k))) (name_of (T.Initial k))
      go true h = absurd (true≢false (sym (h refl)))
      go false h = refl

  pub made-numbered : (x : TyName) (m : MadeName) (i : ℕ) → x ≡ T.Made m → true ≡ list_any (eq (T.Made m)) ns → Some i ≡ position (eq (T.Made m)) ns
      → made u (count + i) m.arity m.equality ≡ renumber u count (map name_of ns) (name_of x)
  made-numbered x m i is found place =
      renumber-found u count ns (T.Made m) i found place ∙ ap (λ y. renumber u count (map name_of ns) (name_of y)) (sym is)

  pub made-stays : (x : TyName) (m : MadeName) → x ≡ T.Made m → false ≡ list_any (eq (T.Made m)) ns → name_of (T.Made m) ≡ renumber u count (map name_of ns) (name_of x)
  made-stays x m is missing = renumber-missing u count ns (T.Made m) missing ∙ ap (λ y. renumber u count (map name_of ns) (name_of y)) (sym is)

-- a name among those that are kept is one to keep
pub stands-to-keep : (p : Name → Bool) (n : Name) (ns : List Name) → stands naming n (filter p ns) ≡ true → p n ≡ true
stands-to-keep p n ns h = (was_kept p n ns (was_found naming n (filter p ns) h)).1

-- those of some names that are new, collected
pub collected-new : (u count : ℕ) (names : List Name) (old new : List TyName)
    → map name_of new ≡ firsts_after naming (map name_of old) (filter (is_new u count) names) → old ≡ [] → map name_of new ≡ new_in u count names
collected-new u count names old new h none =
    h
    ∙ ap (λ ks. firsts_after naming (map name_of ks) (filter (is_new u count) names)) none
    ∙ sym (firsts-filtered (is_new u count) [] names)
