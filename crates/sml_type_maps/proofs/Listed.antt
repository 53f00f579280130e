-- What is listed for names, in maps by names.
use Rattle.std.proofs.Common.{◌≡◌, Bool, true, false, cond, Option, Some, None, List, [], ◌∷◌, refl, ap, sym, ◌∙◌}
use Rattle.std.specs.Map.{lookup}
use Rattle.std.specs.Bool.{if◌then◌else◌}
use Rattle.std.specs.Option.{option_map, is_some}
use Rattle.indexmap.specs.IndexMap.{insert_entry}
use Rattle.sml_objects.specs.Initial.{Name, naming}
use Rattle.sml_objects.specs.Views.{name_of}
use Rattle.sml_objects.specs.declared.objects.TyName.{TyName}
use Rattle.sml_objects.proofs.NameTests.{eq, eq-is}
use Rattle.sml_type_maps.specs.Mapped.{is_same, listed_for}

module _ {A X : Type 0} (see : A → X) where
  option-cond : (b : Bool) (a : A) (o : Option A) → option_map see (cond b (Some a) o) ≡ cond b (Some (see a)) (option_map see o)
  option-cond true a o = refl
  option-cond false a o = refl

  pub looked-up : (es : List (TyName × A)) (k : TyName) → option_map see (lookup (eq k) es) ≡ listed_for see es (name_of k)
  looked-up [] k = refl
  looked-up (e ∷ es) k =
      option-cond (eq k e.0) e.1 (lookup (eq k) es)
      ∙ (λ i. cond (eq-is k e.0 i) (Some (see e.1)) (looked-up es k i))

  same-yes : (n m : Name) → n ≡ m → is_same n m ≡ true
  same-yes n m h = elim (naming.same n m) as (λ d. (elim d [ yes _ ↦ true | no _ ↦ false ]) ≡ true) [ yes _ ↦ refl | no d ↦ absurd (d h) ]

  same-no : (n m : Name) → ¬ (n ≡ m) → is_same n m ≡ false
  same-no n m h = elim (naming.same n m) as (λ d. (elim d [ yes _ ↦ true | no _ ↦ false ]) ≡ false) [ yes d ↦ absurd (h d) | no _ ↦ refl ]

  -- one more, or another one
  pub listed-put : (es : List (TyName × A)) (k : TyName) (v : A) (n : Name)
      → listed_for see (insert_entry eq es k v) n ≡ cond (is_same n (name_of k)) (Some (see v)) (listed_for see es n)
  listed-put [] k v n = refl
  listed-put (e ∷ es) k v n =
      ap (λ b. listed_for see (if b then (e.0, v) ∷ es else e ∷ insert_entry eq es k v) n) (eq-is k e.0)
      ∙ go (naming.same (name_of k) (name_of e.0)) (naming.same n (name_of e.0)) (listed-put es k v n)
    where
      go : (d : Dec (name_of k ≡ name_of e.0)) → Dec (n ≡ name_of e.0)
          → listed_for see (insert_entry eq es k v) n ≡ cond (is_same n (name_of k)) (Some (see v)) (listed_for see es n)
          → listed_for see (if (elim d [ yes _ ↦ true | no _ ↦ false ]) then (e.0, v) ∷ es else e ∷ insert_entry eq es k v) n
          ≡ cond (is_same n (name_of k)) (Some (see v)) (listed_for see (e ∷ es) n)
      go (yes d) (yes g) next =
          ap (λ b. cond b (Some (see v)) (listed_for see es n)) (same-yes n (name_of e.0) g)
          ∙ sym (ap (λ b. cond b (Some (see v)) (listed_for see (e ∷ es) n)) (same-yes n (name_of k) (g ∙ sym d)))
      go (yes d) (no g) next =
          ap (λ b. cond b (Some (see v)) (listed_for see es n)) (same-no n (name_of e.0) g)
          ∙ sym (ap (λ b. cond b (Some (see v)) (listed_for see (e ∷ es) n)) (same-no n (name_of k) (λ h. g (h ∙ d)))
          ∙ ap (λ b. cond b (Some (see e.1)) (listed_for see es n)) (same-no n (name_of e.0) g))
      go (no d) (yes g) next =
          ap (λ b. cond b (Some (see e.1)) (listed_for see (insert_entry eq es k v) n)) (same-yes n (name_of e.0) g)
          ∙ sym (ap (λ b. cond b (Some (see v)) (listed_for see (e ∷ es) n)) (same-no n (name_of k) (λ h. d (sym h ∙ g)))
          ∙ ap (λ b. cond b (Some (see e.1)) (listed_for see es n)) (same-yes n (name_of e.0) g))
      go (no d) (no g) next =
          ap (λ b. cond b (Some (see e.1)) (listed_for see (insert_entry eq es k v) n)) (same-no n (name_of e.0) g)
          ∙ next
          ∙ ap (cond (is_same n (name_of k)) (Some (see v))) (sym (ap (λ b. cond b (Some (see e.1)) (listed_for see es n)) (same-no n (name_of e.0) g)))

  pub seen-some : (o : Option A) → is_some (option_map see o) ≡ is_some o
  seen-some None = refl
  seen-some (Some a) = refl
