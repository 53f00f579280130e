-- Renaming of maps, and of what has no variables to replace.
use Rattle.std.proofs.Common.{◌≡◌, [], ◌∷◌, refl, ap, ◌∙◌}
use Rattle.sml_objects.specs.Maps.{Map}
use Rattle.sml_objects.specs.Objects as O
use Rattle.sml_objects.specs.Initial.{Name}
use Rattle.sml_objects.specs.Types.{replace_type, replace_types}
use Rattle.sml_objects.specs.Views.{structures_of, entries_of, env_of, schemes_of}
use Rattle.sml_objects.specs.declared.objects.Env.{Env}
use Rattle.sml_objects.specs.declared.objects.Env.TheOpen.{Env-F}
use Rattle.sml_objects.specs.declared.objects.Env.TheViews.{roll-Env}
use Rattle.sml_objects.proofs.EnvViews.{env_of-roll, parts}
use Rattle.sml_objects.proofs.Joins.{mapped}

mutual
  unfolding replace_type replace_types

  pub replace-none : {N : Type 0} (t : O.MlType N) → replace_type O.bound O.free t ≡ t
  replace-none (O.bound k) = refl
  replace-none (O.free v) = refl
  replace-none (O.app h ts) = ap (O.app h) (replace-none-all ts)

  replace-none-all : {N : Type 0} (ts : O.MlTypes N) → replace_types O.bound O.free ts ≡ ts
  replace-none-all O.no_type = refl
  replace-none-all (O.and_type t ts) = λ i. O.and_type (replace-none t i) (replace-none-all ts i)

pub map-mapped : (f : Name → Name) (m : Map (O.Scheme Name)) → mapped (O.rename_scheme f) m ≡ O.rename_map f m
unfolding O.rename_map
map-mapped f [] = refl
map-mapped f (e ∷ m) = ap (λ l. (e.0, O.rename_scheme f e.1) ∷ l) (map-mapped f m)

pub structures-mapped : (f : Name → Name) (m : Map (O.Env Name)) → structures_of (mapped (O.rename_env f) m) ≡ O.rename_structures f (structures_of m)
unfolding O.rename_structures
structures-mapped f [] = refl
structures-mapped f (e ∷ m) = ap (O.and_structure e.0 (O.rename_env f e.1)) (structures-mapped f m)

pub env-renamed : (f : Name → Name) (old new : Env-F Env)
    → structures_of (entries_of (λ s. env_of s.value) new.structures.entries) ≡ O.rename_structures f (structures_of (entries_of (λ s. env_of s.value) old.structures.entries))
    → schemes_of new.types.entries ≡ O.rename_map f (schemes_of old.types.entries)
    → schemes_of new.values.entries ≡ O.rename_map f (schemes_of old.values.entries)
    → env_of (roll-Env new) ≡ O.rename_env f (parts old)
unfolding O.rename_env
env-renamed f old new ss ts vs = env_of-roll new ∙ (λ i. O.env (ss i) (ts i) (vs i))
