-- What is found in drafts, the innermost first.
use Rattle.std.proofs.Common.{◌≡◌, ◌<◌, ◌+◌, ℕ, List, [], ◌∷◌, map, reverse, drop, length, get_or, Option, Some, None, Bor, Vec, Global, refl, ap, sym, ◌∙◌}
use Rattle.std.proofs.lemmas.List.{at_drop_more}
use Rattle.std.specs.Option.{option_map, option_copied}
use Rattle.std.specs.declared.rc.Rc.{Rc}
use Rattle.sml_tree.specs.Views.{ident_of}
use Rattle.sml_objects.specs.Maps.{lookup}
use Rattle.sml_objects.specs.Views.{entries_of}
use Rattle.sml_objects.proofs.EnvViews.{lookup-entries, map-copied}
use Rattle.sml_core_rules.specs.Objects as O
use Rattle.sml_bases.specs.declared.objects.Env.{Env}
use Rattle.sml_bases.specs.declared.objects.Env.TheViews.{out-Env}
use Rattle.sml_bases.specs.declared.objects.TypeStr.{TypeStr}
use Rattle.sml_bases.specs.Layers.{first_found, or_else}
use Rattle.sml_bases.specs.Views.{env_of, ty_str_of}
use Rattle.sml_bases.proofs.EnvViews.{env_of-out, find-entries}
use Rattle.sml_sigs.specs.Layers.{drafted_at, structure_drafted, type_drafted}
use Rattle.sml_sigs.specs.declared.draft.Draft.{Draft}

-- one step on, from the first of those that are left
pub found-next : {A X : Type 0} (f : A → Option X) (xs : List A) (n : ℕ) (a : A) (r : Option X) → (n < length xs) × (a ≡ get_or xs n a) → r ≡ f a
    → first_found f (drop n xs) ≡ or_else r (first_found f (drop (n + 1) xs))
found-next f xs n a r t e =
    at_drop_more (first_found f) xs n a t.0 ∙ (λ i. or_else ((ap f (sym t.1) ∙ sym e) i) (first_found f (drop (n + 1) xs)))

choose : {X Y : Type 0} (view : X → Y) (a b : Option X) → option_map view (or_else a b) ≡ or_else (option_map view a) (option_map view b)
choose view None b = refl
choose view (Some x) b = refl

-- the same of what is seen of both
first-seen : {A B X Y : Type 0} (f : A → Option X) (g : B → Option Y) (view : X → Y) (see : A → B) (xs : List A)
    → ((a : A) → option_map view (f a) ≡ g (see a)) → option_map view (first_found f xs) ≡ first_found g (map see xs)
first-seen f g view see [] same = refl
first-seen f g view see (x ∷ xs) same =
    choose view (f x) (first_found f xs) ∙ (λ i. or_else (same x i) (first-seen f g view see xs same i))

pub structure-of-drafts : (ds : List Draft) (k : Rc (Vec ℕ Global) Global) (r : Option (Bor (Rc Env Global)))
    → option_copied r ≡ first_found (drafted_at (λ e. (out-Env e).structures.entries) (ident_of k)) (reverse ds)
    → option_map (λ s. env_of s.now.value) r ≡ structure_drafted ds (ident_of k)
structure-of-drafts ds k r h =
    let x = ident_of k in
    map-copied (λ s. env_of s.value) r
    ∙ ap (option_map (λ s. env_of s.value)) h
    ∙ first-seen (drafted_at (λ e. (out-Env e).structures.entries) x) (λ E. O.find_structure x (O.structures E)) (λ s. env_of s.value) (λ d. env_of d.env) (reverse ds)
    (λ d. lookup-entries (λ s. env_of s.value) (out-Env d.env).structures.entries k ∙ sym (find-entries (entries_of (λ s. env_of s.value) (out-Env d.env).structures.entries) x) ∙ ap (λ E. O.find_structure x (O.structures E)) (sym (env_of-out d.env)))

pub type-of-drafts : (ds : List Draft) (k : Rc (Vec ℕ Global) Global) (r : Option (Bor TypeStr))
    → option_copied r ≡ first_found (drafted_at (λ e. (out-Env e).types.entries) (ident_of k)) (reverse ds)
    → option_map (λ t. ty_str_of t.now) r ≡ type_drafted ds (ident_of k)
type-of-drafts ds k r h =
    let x = ident_of k in
    map-copied ty_str_of r
    ∙ ap (option_map ty_str_of) h
    ∙ first-seen (drafted_at (λ e. (out-Env e).types.entries) x) (λ E. lookup x (O.types E)) ty_str_of (λ d. env_of d.env) (reverse ds)
    (λ d. lookup-entries ty_str_of (out-Env d.env).types.entries k ∙ ap (λ E. lookup x (O.types E)) (sym (env_of-out d.env)))
