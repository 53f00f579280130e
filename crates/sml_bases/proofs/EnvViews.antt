-- Environments of the program, entry by entry.
use Rattle.std.proofs.Common.{◌≡◌, [], ◌∷◌, refl, ap, ◌∙◌, Some}
use Rattle.std.specs.declared.cmp.Ordering.TheVariants.{Less, Equal, Greater}
use Rattle.sml_tree.specs.Trees.{Id}
use Rattle.sml_objects.specs.Maps.{Map, put, join, lookup, order_of, by_order}
use Rattle.sml_objects.specs.Initial.{Name}
use Rattle.sml_objects.specs.Views.{entries_of}
use Rattle.sml_objects.proofs.EnvViews.{map-map}
use Rattle.sml_objects.proofs.Joins.{joined-by}
use Rattle.sml_core_rules.specs.Objects as O
use Rattle.sml_bases.specs.Views.{env_of, env_layer, structures_of, ty_str_of, value_of}
use Rattle.sml_bases.specs.declared.objects.Env.{Env}
use Rattle.sml_bases.specs.declared.objects.Env.TheOpen.{Env-F}
use Rattle.sml_bases.specs.declared.objects.Env.TheViews.{out-Env, roll-Env}
use Rattle.sml_bases.specs.declared.objects.Env.TheFolds.{fold-roll-Env, fold_out-Env, map-Env}

-- an environment with these parts
abbrev pub parts : Env-F Env → O.Env Name
parts e = O.maps (structures_of (entries_of (λ s. env_of s.value) e.structures.entries)) (entries_of ty_str_of e.types.entries) (entries_of value_of e.values.entries)

structures-seen : (e : Env-F Env)
    → entries_of (λ s. s.value) (map-Env Env (O.Env Name) env_of e).structures.entries ≡ entries_of (λ s. env_of s.value) e.structures.entries
structures-seen e = map-map _ _ e.structures.entries

pub env_of-roll : (e : Env-F Env) → env_of (roll-Env e) ≡ parts e
env_of-roll e =
    fold-roll-Env (O.Env Name) env_layer e
    ∙ ap (λ ss. O.maps (structures_of ss) (entries_of ty_str_of e.types.entries) (entries_of value_of e.values.entries)) (structures-seen e)

pub env_of-out : (e : Env) → env_of e ≡ parts (out-Env e)
env_of-out e =
    fold_out-Env (O.Env Name) env_layer e
    ∙ ap (λ ss. O.maps (structures_of ss) (entries_of ty_str_of (out-Env e).types.entries) (entries_of value_of (out-Env e).values.entries)) (structures-seen (out-Env e))

structures-put : (es : Map (O.Env Name)) (s : Id) (e : O.Env Name) → structures_of (put s e es) ≡ O.put_structure s e (structures_of es)
structures-put [] s e = refl
structures-put (x ∷ xs) s e =
    elim (order_of s x.0) as (λ o. structures_of (by_order o ((s, e) ∷ x ∷ xs) ((x.0, e) ∷ xs) (x ∷ put s e xs))
    ≡ by_order o (O.and_structure s e (structures_of (x ∷ xs))) (O.and_structure x.0 e (structures_of xs)) (O.and_structure x.0 x.1 (O.put_structure s e (structures_of xs)))) [
      | Less ↦ refl
      | Equal ↦ refl
      | Greater ↦ ap (O.and_structure x.0 x.1) (structures-put xs s e)
    ]

structures-join : (m n : Map (O.Env Name)) → structures_of (join m n) ≡ O.join_structures (structures_of m) (structures_of n)
structures-join m [] = refl
structures-join m (e ∷ n) = structures-join (put e.0 e.1 m) n ∙ ap (λ ss. O.join_structures ss (structures_of n)) (structures-put m e.0 e.1)

pub find-entries : (es : Map (O.Env Name)) (s : Id) → O.find_structure s (structures_of es) ≡ lookup s es
find-entries [] s = refl
find-entries (e ∷ es) s =
    elim (order_of s e.0) as (λ o. by_order o (O.find_structure s (structures_of es)) (Some e.1) (O.find_structure s (structures_of es))
    ≡ by_order o (lookup s es) (Some e.1) (lookup s es)) [
      | Less ↦ find-entries es s
      | Equal ↦ refl
      | Greater ↦ find-entries es s
    ]

-- environments whose maps are joined
pub env_of-joined : (old other new : Env-F Env)
    → entries_of (λ s. s.value) new.structures.entries ≡ join (entries_of (λ s. s.value) old.structures.entries) (entries_of (λ s. s.value) other.structures.entries)
    → entries_of ty_str_of new.types.entries ≡ join (entries_of ty_str_of old.types.entries) (entries_of ty_str_of other.types.entries)
    → entries_of value_of new.values.entries ≡ join (entries_of value_of old.values.entries) (entries_of value_of other.values.entries)
    → env_of (roll-Env new) ≡ O.extend (parts old) (parts other)
env_of-joined old other new ss ts vs =
    env_of-roll new
    ∙ (λ i. O.maps
    ((ap structures_of (joined-by env_of old.structures.entries other.structures.entries new.structures.entries ss)
    ∙ structures-join (entries_of (λ s. env_of s.value) old.structures.entries) (entries_of (λ s. env_of s.value) other.structures.entries)) i)
    (ts i)
    (vs i))
