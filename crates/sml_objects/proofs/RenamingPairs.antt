-- The pairs of a program's renaming.
use Rattle.std.proofs.Common.{◌≡◌, true, false, cond, Some, unwrap_or, List, [], ◌∷◌, refl, ap, sym, ◌∙◌}
use Rattle.std.specs.Map.{lookup}
use Rattle.std.specs.Bool.{if◌then◌else◌}
use Rattle.indexmap.specs.IndexMap.{insert_entry}
use Rattle.sml_objects.specs.Names.{Initial}
use Rattle.sml_objects.specs.Initial.{Name, naming}
use Rattle.sml_objects.specs.Exchanges.{renamed_by, exchanged, IsRenaming}
use Rattle.sml_objects.specs.Views.{name_of}
use Rattle.sml_objects.specs.declared.objects.TyName.{TyName}
use Rattle.sml_objects.proofs.NameTests.{eq, eq-is}
use Rattle.sml_objects.proofs.Exchanges.{first, second, other, exchange, after, unchanging}

abbrev Pairs : Type 0
Pairs = List (TyName × TyName)

pub looked-up : (es : Pairs) (n : TyName) → name_of (unwrap_or (lookup (eq n) es) n) ≡ renamed_by es (name_of n)
unfolding renamed_by
looked-up [] n = refl
looked-up (e ∷ es) n =
    ap (λ b. name_of (unwrap_or (cond b (Some e.1) (lookup (eq n) es)) n)) (eq-is n e.0)
    ∙ go (naming.same (name_of n) (name_of e.0)) (looked-up es n)
  where
    go : (d : Dec (name_of n ≡ name_of e.0)) → name_of (unwrap_or (lookup (eq n) es) n) ≡ renamed_by es (name_of n)
        → name_of (unwrap_or (cond (elim d [ yes _ ↦ true | no _ ↦ false ]) (Some e.1) (lookup (eq n) es)) n)
        ≡ (elim d [ yes _ ↦ name_of e.1 | no _ ↦ renamed_by es (name_of n) ])
    go (yes d) next = refl
    go (no d) next = next

here : (e : TyName × TyName) (es : Pairs) (n : Name) → n ≡ name_of e.0 → renamed_by (e ∷ es) n ≡ name_of e.1
unfolding renamed_by
here e es n h =
    elim (naming.same n (name_of e.0)) as (λ d. (elim d [ yes _ ↦ name_of e.1 | no _ ↦ renamed_by es n ]) ≡ name_of e.1) [ yes _ ↦ refl | no d ↦ absurd (d h) ]

there : (e : TyName × TyName) (es : Pairs) (n : Name) → ¬ (n ≡ name_of e.0) → renamed_by (e ∷ es) n ≡ renamed_by es n
unfolding renamed_by
there e es n h =
    elim (naming.same n (name_of e.0)) as (λ d. (elim d [ yes _ ↦ name_of e.1 | no _ ↦ renamed_by es n ]) ≡ renamed_by es n) [ yes d ↦ absurd (h d) | no _ ↦ refl ]

pub put-here : (es : Pairs) (k v : TyName) (n : Name) → n ≡ name_of k → renamed_by (insert_entry eq es k v) n ≡ name_of v
put-here [] k v n h = here (k, v) [] n h
put-here (e ∷ es) k v n h =
    ap (λ b. renamed_by (if b then (e.0, v) ∷ es else e ∷ insert_entry eq es k v) n) (eq-is k e.0)
    ∙ go (naming.same (name_of k) (name_of e.0)) (put-here es k v n h)
  where
    go : (d : Dec (name_of k ≡ name_of e.0)) → renamed_by (insert_entry eq es k v) n ≡ name_of v
        → renamed_by (if (elim d [ yes _ ↦ true | no _ ↦ false ]) then (e.0, v) ∷ es else e ∷ insert_entry eq es k v) n ≡ name_of v
    go (yes d) next = here (e.0, v) es n (h ∙ d)
    go (no d) next = there e (insert_entry eq es k v) n (λ g. d (sym h ∙ g)) ∙ next

pub put-there : (es : Pairs) (k v : TyName) (n : Name) → ¬ (n ≡ name_of k) → renamed_by (insert_entry eq es k v) n ≡ renamed_by es n
put-there [] k v n h = there (k, v) [] n h
put-there (e ∷ es) k v n h =
    ap (λ b. renamed_by (if b then (e.0, v) ∷ es else e ∷ insert_entry eq es k v) n) (eq-is k e.0)
    ∙ go (naming.same (name_of k) (name_of e.0)) (naming.same n (name_of e.0)) (put-there es k v n h)
  where
    go : (d : Dec (name_of k ≡ name_of e.0)) → Dec (n ≡ name_of e.0) → renamed_by (insert_entry eq es k v) n ≡ renamed_by es n
        → renamed_by (if (elim d [ yes _ ↦ true | no _ ↦ false ]) then (e.0, v) ∷ es else e ∷ insert_entry eq es k v) n ≡ renamed_by (e ∷ es) n
    go (yes d) g next = there (e.0, v) es n (λ g. h (g ∙ sym d)) ∙ sym (there e es n (λ g. h (g ∙ sym d)))
    go (no d) (yes g) next = here e (insert_entry eq es k v) n g ∙ sym (here e es n g)
    go (no d) (no g) next = there e (insert_entry eq es k v) n g ∙ next ∙ sym (there e es n g)

-- two names change places
pub exchanged-pairs : (es fs gs : Pairs) (a b v w : TyName) → fs ≡ insert_entry eq es a w → gs ≡ insert_entry eq fs b v
    → name_of v ≡ renamed_by es (name_of a) → name_of w ≡ renamed_by es (name_of b)
    → (n : Name) → renamed_by gs n ≡ renamed_by es (exchanged naming (name_of a) (name_of b) n)
exchanged-pairs es fs gs a b v w f g av bw n = go (naming.same n (name_of b)) (naming.same n (name_of a))
  where
    go : Dec (n ≡ name_of b) → Dec (n ≡ name_of a) → renamed_by gs n ≡ renamed_by es (exchanged naming (name_of a) (name_of b) n)
    go (yes h) d =
        ap (λ l. renamed_by l n) g ∙ put-here fs b v n h ∙ av ∙ ap (renamed_by es) (sym (second naming (name_of a) (name_of b) n h))
    go (no h) (yes k) =
        ap (λ l. renamed_by l n) g ∙ put-there fs b v n h ∙ ap (λ l. renamed_by l n) f ∙ put-here es a w n k ∙ bw
        ∙ ap (renamed_by es) (sym (first naming (name_of a) (name_of b) n k))
    go (no h) (no k) =
        ap (λ l. renamed_by l n) g ∙ put-there fs b v n h ∙ ap (λ l. renamed_by l n) f ∙ put-there es a w n k
        ∙ ap (renamed_by es) (sym (other naming (name_of a) (name_of b) n k h))

pub renaming-after : (f g : Name → Name) (a b : Name) → naming.attributes a ≡ naming.attributes b
    → ((k : Initial) → ¬ (naming.initial k ≡ a)) → ((k : Initial) → ¬ (naming.initial k ≡ b))
    → ((n : Name) → g n ≡ f (exchanged naming a b n)) → IsRenaming f → IsRenaming g
unfolding after exchange
renaming-after f g a b e i j h r =
    (after naming r.0 (exchange naming a b e i j), λ n. h n ∙ r.1 (exchanged naming a b n))

pub renaming-none : (f : Name → Name) → ((n : Name) → f n ≡ n) → IsRenaming f
unfolding unchanging
renaming-none f h = (unchanging naming, h)

pub renamed-none : (es : Pairs) (n : Name) → es ≡ [] → renamed_by es n ≡ n
unfolding renamed_by
renamed-none es n e = ap (λ l. renamed_by l n) e
