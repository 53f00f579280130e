-- Environments of the program, entry by entry.
use Rattle.std.proofs.Common.{◌≡◌, ℕ, List, [], ◌∷◌, map, refl, ap, ◌∙◌, Vec, Global, Option, Some, None, cond, Bor}
use Rattle.std.specs.Option.{option_map, option_copied}
use Rattle.std.specs.Ordering.{match_ordering, is_eq}
use Rattle.std.specs.Map as stored
use Rattle.std.specs.BTreeMap.{insert_entry, is_at}
use Rattle.std.specs.declared.cmp.Ordering.TheVariants.{Less, Equal, Greater}
use Rattle.std.specs.declared.rc.Rc.{Rc}
use Rattle.sml_tree.specs.Trees.{Id}
use Rattle.sml_tree.specs.Views.{ident_of}
use Rattle.sml_objects.specs.Maps.{put, lookup, order_of, by_order}
use Rattle.sml_objects.specs.Objects as O
use Rattle.sml_objects.specs.Initial.{Name}
use Rattle.sml_objects.specs.Views.{env_of, env_layer, entries_of, structures_of, schemes_of}
use Rattle.sml_objects.specs.declared.objects.Env.{Env}
use Rattle.sml_objects.specs.declared.objects.Env.TheOpen.{Env-F}
use Rattle.sml_objects.specs.declared.objects.Env.TheViews.{out-Env, roll-Env}
use Rattle.sml_objects.specs.declared.objects.Env.TheFolds.{fold-roll-Env, fold_out-Env, map-Env}

-- an environment with these parts
abbrev pub parts : Env-F Env → O.Env Name
parts e =
    O.env (structures_of (entries_of (λ s. env_of s.value) e.structures.entries)) (schemes_of e.types.entries) (schemes_of e.values.entries)

pub map-map : {A B C : Type 0} (g : B → C) (f : A → B) (xs : List A) → map g (map f xs) ≡ map (λ x. g (f x)) xs
map-map g f [] = refl
map-map g f (x ∷ xs) = ap (λ ys. g (f x) ∷ ys) (map-map g f xs)

structures-seen : (e : Env-F Env)
    → entries_of (λ s. s.value) (map-Env Env (O.Env Name) env_of e).structures.entries ≡ entries_of (λ s. env_of s.value) e.structures.entries
structures-seen e = map-map _ _ e.structures.entries

pub env_of-roll : (e : Env-F Env) → env_of (roll-Env e) ≡ parts e
env_of-roll e =
    fold-roll-Env (O.Env Name) env_layer e
    ∙ ap (λ ss. O.env (structures_of ss) (schemes_of e.types.entries) (schemes_of e.values.entries)) (structures-seen e)

pub env_of-out : (e : Env) → env_of e ≡ parts (out-Env e)
env_of-out e =
    fold_out-Env (O.Env Name) env_layer e
    ∙ ap (λ ss. O.env (structures_of ss) (schemes_of (out-Env e).types.entries) (schemes_of (out-Env e).values.entries)) (structures-seen (out-Env e))

-- entries and maps

pub entries-put : {A X : Type 0} (f : A → X) (es : List (Rc (Vec ℕ Global) Global × A)) (k : Rc (Vec ℕ Global) Global) (v : A)
    → entries_of f (insert_entry (λ x y. order_of (ident_of x) (ident_of y)) es k v) ≡ put (ident_of k) (f v) (entries_of f es)
entries-put f [] k v = refl
entries-put {A = A} {X = X} f (e ∷ es) k v =
    elim (order_of (ident_of k) (ident_of e.0)) as (λ o. entries_of f (match_ordering o ((k, v) ∷ e ∷ es) ((e.0, v) ∷ es) (e ∷ insert_entry (λ x y. order_of (ident_of x) (ident_of y)) es k v))
    ≡ by_order o ((ident_of k, f v) ∷ entries_of f (e ∷ es)) ((ident_of e.0, f v) ∷ entries_of f es) ((ident_of e.0, f e.1) ∷ put (ident_of k) (f v) (entries_of f es))) [
      | Less ↦ refl
      | Equal ↦ refl
      | Greater ↦ ap (λ m. (ident_of e.0, f e.1) ∷ m) (entries-put f es k v)
    ]

pub structures-put : (es : List (Id × O.Env Name)) (s : Id) (e : O.Env Name)
    → structures_of (put s e es) ≡ O.put_structure s e (structures_of es)
structures-put [] s e = refl
structures-put (x ∷ xs) s e =
    elim (order_of s x.0) as (λ o. structures_of (by_order o ((s, e) ∷ x ∷ xs) ((x.0, e) ∷ xs) (x ∷ put s e xs))
    ≡ by_order o (O.and_structure s e (structures_of (x ∷ xs))) (O.and_structure x.0 e (structures_of xs)) (O.and_structure x.0 x.1 (O.put_structure s e (structures_of xs)))) [
      | Less ↦ refl
      | Equal ↦ refl
      | Greater ↦ ap (O.and_structure x.0 x.1) (structures-put xs s e)
    ]

pub lookup-entries : {A X : Type 0} (f : A → X) (es : List (Rc (Vec ℕ Global) Global × A)) (k : Rc (Vec ℕ Global) Global)
    → option_map f (stored.lookup (is_at (λ x. order_of (ident_of k) (ident_of x))) es) ≡ lookup (ident_of k) (entries_of f es)
lookup-entries f [] k = refl
lookup-entries f (e ∷ es) k =
    elim (order_of (ident_of k) (ident_of e.0)) as (λ o. option_map f (cond (is_eq o) (Some e.1) (stored.lookup (is_at (λ x. order_of (ident_of k) (ident_of x))) es))
    ≡ by_order o (lookup (ident_of k) (entries_of f es)) (Some (f e.1)) (lookup (ident_of k) (entries_of f es))) [
      | Less ↦ lookup-entries f es k
      | Equal ↦ refl
      | Greater ↦ lookup-entries f es k
    ]

pub find-entries : (es : List (Id × O.Env Name)) (s : Id) → O.find_structure s (structures_of es) ≡ lookup s es
find-entries [] s = refl
find-entries (e ∷ es) s =
    elim (order_of s e.0) as (λ o. by_order o (O.find_structure s (structures_of es)) (Some e.1) (O.find_structure s (structures_of es))
    ≡ by_order o (lookup s es) (Some e.1) (lookup s es)) [
      | Less ↦ find-entries es s
      | Equal ↦ refl
      | Greater ↦ find-entries es s
    ]

pub map-copied : {A X : Type 0} (f : A → X) (r : Option (Bor A)) → option_map (λ s. f s.now) r ≡ option_map f (option_copied r)
map-copied f None = refl
map-copied f (Some s) = refl
