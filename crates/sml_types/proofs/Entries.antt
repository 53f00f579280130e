-- What is read of the maps of an environment.
use Rattle.std.proofs.Common.{◌≡◌, ℕ, ap, sym, ◌∙◌, Vec, Global, Bor, Option, List}
use Rattle.std.specs.Map as stored
use Rattle.std.specs.BTreeMap.{is_at}
use Rattle.std.specs.Option.{option_map, option_copied}
use Rattle.std.specs.declared.rc.Rc.{Rc}
use Rattle.sml_tree.specs.Views.{ident_of}
use Rattle.sml_objects.specs.Maps.{lookup, order_of}
use Rattle.sml_objects.specs.Views.{entries_of}
use Rattle.sml_objects.proofs.EnvViews.{lookup-entries, map-copied}
use Rattle.sml_core_rules.specs.Objects.{find_structure, structures, types}
use Rattle.sml_bases.specs.Views.{env_of, ty_str_of}
use Rattle.sml_bases.specs.declared.objects.Env.{Env}
use Rattle.sml_bases.specs.declared.objects.TypeStr.{TypeStr}
use Rattle.sml_bases.specs.declared.objects.Env.TheViews.{out-Env}
use Rattle.sml_bases.proofs.EnvViews.{env_of-out, find-entries}

abbrev stored-at : {A : Type 0} → Rc (Vec ℕ Global) Global → List (Rc (Vec ℕ Global) Global × A) → Option A
stored-at k es = stored.lookup (is_at (λ x. order_of (ident_of k) (ident_of x))) es

-- what a map has for an identifier
pub looked : {A X : Type 0} (f : A → X) (es : List (Rc (Vec ℕ Global) Global × A)) (k : Rc (Vec ℕ Global) Global) (r : Option (Bor A)) → option_copied r ≡ stored-at k es
    → option_map (λ a. f a.now) r ≡ lookup (ident_of k) (entries_of f es)
looked f es k r h = map-copied f r ∙ ap (option_map f) h ∙ lookup-entries f es k

pub structure-read : (e : Env) (k : Rc (Vec ℕ Global) Global) (r : Option (Bor (Rc Env Global))) → option_copied r ≡ stored-at k (out-Env e).structures.entries
    → option_map (λ s. env_of s.now.value) r ≡ find_structure (ident_of k) (structures (env_of e))
structure-read e k r h =
    map-copied (λ s. env_of s.value) r
    ∙ ap (option_map (λ s. env_of s.value)) h
    ∙ lookup-entries (λ s. env_of s.value) (out-Env e).structures.entries k
    ∙ sym (find-entries (entries_of (λ s. env_of s.value) (out-Env e).structures.entries) (ident_of k))
    ∙ ap (λ E. find_structure (ident_of k) (structures E)) (sym (env_of-out e))

pub type-read : (e : Env) (k : Rc (Vec ℕ Global) Global) (r : Option (Bor TypeStr)) → option_copied r ≡ stored-at k (out-Env e).types.entries
    → option_map (λ t. ty_str_of t.now) r ≡ lookup (ident_of k) (types (env_of e))
type-read e k r h =
    looked ty_str_of (out-Env e).types.entries k r h
    ∙ ap (λ E. lookup (ident_of k) (types E)) (sym (env_of-out e))
