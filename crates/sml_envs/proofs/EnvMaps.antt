-- What environments become, part by part.
use Rattle.std.proofs.Common.{◌≡◌, ℕ, [], ◌∷◌, refl, ap, sym, ◌∙◌}
use Rattle.sml_objects.specs.Initial.{Name}
use Rattle.sml_objects.specs.Maps.{Map}
use Rattle.sml_objects.specs.Objects.{MlType, MlTypes}
use Rattle.sml_objects.specs.Views.{entries_of}
use Rattle.sml_core_rules.specs.Objects.{Env, and_structure, maps, replace, replace_structures, replaced}
use Rattle.sml_bases.specs.Views.{env_of, structures_of, ty_str_of, value_of}
use Rattle.sml_bases.specs.declared.objects.Env.{Env as Held}
use Rattle.sml_bases.specs.declared.objects.Env.TheOpen.{Env-F}
use Rattle.sml_bases.specs.declared.objects.Env.TheViews.{out-Env, roll-Env}
use Rattle.sml_bases.proofs.EnvViews.{env_of-out, env_of-roll, parts}
use Rattle.sml_envs.specs.Mapped.{AllIn, AllInStructures, AreOrderedIn, AreOrderedInAll, Each, HaveOrdered, IsOrderedValue, env_by, ty_str_by, value_by}

pub each-ordered : (m : Map (Env Name)) → AreOrderedInAll (structures_of m) → Each AreOrderedIn m
unfolding AllInStructures
each-ordered [] h = tt
each-ordered (e ∷ m) h = (h.0, each-ordered m h.1)

abbrev held : Env-F Held → Map (Env Name)
held e = entries_of (λ s. env_of s.value) e.structures.entries

pub ordered-parts : (e : Env-F Held) → AreOrderedIn (parts e)
    → AreOrderedInAll (structures_of (held e)) × (HaveOrdered (entries_of ty_str_of e.types.entries) × Each IsOrderedValue (entries_of value_of e.values.entries))
unfolding AllIn
ordered-parts e h = h

module _ (b f : ℕ → MlType Name) (n : Name → MlTypes Name → MlType Name) where
  pub structures-by : (m : Map (Env Name)) → structures_of (replaced (env_by b f n) m) ≡ replace_structures (ty_str_by b f n) (value_by b f n) (structures_of m)
  unfolding replace_structures
  structures-by [] = refl
  structures-by (e ∷ m) = ap (and_structure e.0 (env_by b f n e.1)) (structures-by m)

  parts-by : (old new : Env-F Held)
      → structures_of (held new) ≡ replace_structures (ty_str_by b f n) (value_by b f n) (structures_of (held old))
      → entries_of ty_str_of new.types.entries ≡ replaced (ty_str_by b f n) (entries_of ty_str_of old.types.entries)
      → entries_of value_of new.values.entries ≡ replaced (value_by b f n) (entries_of value_of old.values.entries)
      → parts new ≡ env_by b f n (parts old)
  unfolding replace
  parts-by old new ss ts vs = λ i. maps (ss i) (ts i) (vs i)

  -- an environment that is made of what its parts become
  pub made-by : (old made : Held) (new : Env-F Held) → made ≡ roll-Env new
      → structures_of (held new) ≡ replace_structures (ty_str_by b f n) (value_by b f n) (structures_of (held (out-Env old)))
      → entries_of ty_str_of new.types.entries ≡ replaced (ty_str_by b f n) (entries_of ty_str_of (out-Env old).types.entries)
      → entries_of value_of new.values.entries ≡ replaced (value_by b f n) (entries_of value_of (out-Env old).values.entries)
      → env_of made ≡ env_by b f n (env_of old)
  made-by old made new is ss ts vs =
      ap env_of is ∙ env_of-roll new ∙ parts-by (out-Env old) new ss ts vs ∙ ap (env_by b f n) (sym (env_of-out old))

  -- one whose parts stay
  pub stays-by : (old : Held)
      → replace_structures (ty_str_by b f n) (value_by b f n) (structures_of (held (out-Env old))) ≡ structures_of (held (out-Env old))
      → replaced (ty_str_by b f n) (entries_of ty_str_of (out-Env old).types.entries) ≡ entries_of ty_str_of (out-Env old).types.entries
      → replaced (value_by b f n) (entries_of value_of (out-Env old).values.entries) ≡ entries_of value_of (out-Env old).values.entries
      → env_of old ≡ env_by b f n (env_of old)
  stays-by old ss ts vs =
      env_of-out old ∙ parts-by (out-Env old) (out-Env old) (sym ss) (sym ts) (sym vs) ∙ ap (env_by b f n) (sym (env_of-out old))
