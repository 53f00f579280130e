-- Names that are sought.
use Rattle.std.proofs.Common.{◌≡◌, ◌<◌, ◌+◌, ℕ, Bool, true, false, ◌||◌, ◌&&◌, cond, List, [], ◌∷◌, ◌++◌, map, take, length, get_or, refl, ap, sym, ◌∙◌, Option, Some, None, arith}
use Rattle.std.specs.Bool.{if◌then◌else◌}
use Rattle.std.specs.List.{list_any}
use Rattle.std.specs.Option.{option_map, is_none}
use Rattle.std.proofs.lemmas.List.{map-append, take_more}
use Rattle.sml_objects.specs.Appearance.{stands}
use Rattle.sml_objects.specs.Initial.{Name, naming}
use Rattle.sml_objects.specs.Objects.{Scheme}
use Rattle.sml_objects.specs.Views.{name_of}
use Rattle.sml_objects.specs.declared.objects.TyName.{TyName}
use Rattle.sml_objects.proofs.NameTests.{eq, inserted, same}
use Rattle.sml_rules.specs.Matching.{Realisation}
use Rattle.sml_core_rules.specs.Functions as F
use Rattle.sml_match.specs.Searches.{if_next, next_of}

or-nothing : (b : Bool) → (b || false) ≡ b
or-nothing true = refl
or-nothing false = refl

or-assoc : (b c d : Bool) → ((b || c) || d) ≡ (b || (c || d))
or-assoc true c d = refl
or-assoc false c d = refl

pub nothing-stands : (n : Name) → stands naming n [] ≡ false
unfolding stands
nothing-stands n = refl

first-stands : (n m : Name) (ms : List Name) → stands naming n (m ∷ ms) ≡ (same n m || stands naming n ms)
unfolding stands
first-stands n m ms =
    elim (naming.same n m) as (λ d. (elim d [ yes _ ↦ true | no _ ↦ stands naming n ms ]) ≡ ((elim d [ yes _ ↦ true | no _ ↦ false ]) || stands naming n ms)) [
      | yes d ↦ refl
      | no d ↦ refl
    ]

pub last-stands : (n : Name) (ms : List Name) (m : Name) → stands naming n (ms ++ m ∷ []) ≡ (stands naming n ms || same n m)
last-stands n [] m = first-stands n m [] ∙ ap (λ b. same n m || b) (nothing-stands n) ∙ or-nothing (same n m) ∙ ap (λ b. b || same n m) (sym (nothing-stands n))
last-stands n (k ∷ ms) m =
    first-stands n k (ms ++ m ∷ []) ∙ ap (λ b. same n k || b) (last-stands n ms m)
    ∙ sym (or-assoc (same n k) (stands naming n ms) (same n m)) ∙ ap (λ b. b || same n m) (sym (first-stands n k ms))

same-stands : (n m : Name) (ms : List Name) → stands naming m ms ≡ true → (stands naming n ms || same n m) ≡ stands naming n ms
same-stands n m ms h =
    elim (naming.same n m) as (λ d. (stands naming n ms || (elim d [ yes _ ↦ true | no _ ↦ false ])) ≡ stands naming n ms) [
      | yes e ↦ (let t : stands naming n ms ≡ true = ap (λ k. stands naming k ms) e ∙ h in ap (λ b. b || true) t ∙ sym t)
      | no _ ↦ or-nothing (stands naming n ms)
    ]

with-one : (n m : Name) (ms : List Name) (b : Bool) → b ≡ stands naming m ms → stands naming n (cond b ms (ms ++ m ∷ [])) ≡ (stands naming n ms || same n m)
with-one n m ms true e = sym (same-stands n m ms (sym e))
with-one n m ms false e = last-stands n ms m

-- one more that is sought
pub one-more : (n : Name) (k : TyName) (old new : List TyName) (ms : List Name) → new ≡ (if list_any (eq k) old then old else old ++ (k ∷ []))
    → stands naming n (map name_of old) ≡ stands naming n ms → stands naming n (map name_of new) ≡ stands naming n (ms ++ name_of k ∷ [])
one-more n k old new ms h e =
    ap (stands naming n) (inserted k old new h)
    ∙ with-one n (name_of k) (map name_of old) (stands naming (name_of k) (map name_of old)) refl
    ∙ ap (λ b. b || same n (name_of k)) e
    ∙ sym (last-stands n ms (name_of k))

pub one-further : (n : Name) (old new all items : List TyName) (v : all ≡ items) (i : ℕ) (k d : TyName) → new ≡ (if list_any (eq k) old then old else old ++ (k ∷ [])) → i < length all → k ≡ get_or all i d
    → stands naming n (map name_of old) ≡ stands naming n (map name_of (take i items)) → stands naming n (map name_of new) ≡ stands naming n (map name_of (take (i + 1) items))
one-further n old new all items v i k d h l e s =
    let m = ap (λ q. length q) v in
    let within : i < length items = omega (arith, l, m) in
    let at : get_or items i d ≡ k = sym (e ∙ ap (λ q. get_or q i d) v) in
    one-more n k old new (map name_of (take i items)) h s
    ∙ ap (stands naming n) (sym (ap (map name_of) (take_more items i d within ∙ ap (λ y. take i items ++ y ∷ []) at) ∙ map-append name_of (take i items) (k ∷ [])))

-- the next name, by the name that a type function is
pub next-none : (ns : List Name) (φ : Realisation Name) (θ : Scheme Name) (o : Option TyName) → option_map name_of o ≡ F.name_of θ → o ≡ None → None ≡ next_of ns φ θ
next-none ns φ θ o h e = ap (λ q. if_next ns φ (option_map name_of q)) (sym e) ∙ ap (if_next ns φ) h

pub next-some : (ns : List Name) (φ : Realisation Name) (θ : Scheme Name) (k : TyName) (b : Bool) → Some (name_of k) ≡ F.name_of θ
    → b ≡ (stands naming (name_of k) ns && is_none (φ (name_of k))) → cond b (Some (name_of k)) None ≡ next_of ns φ θ
next-some ns φ θ k b h e = ap (λ b. cond b (Some (name_of k)) None) e ∙ ap (if_next ns φ) h
