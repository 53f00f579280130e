-- Environments with a thing that is large.
use Rattle.std.proofs.Common.{◌≡◌, ℕ, Bool, true, false, ◌||◌, [], ◌∷◌, refl, ap, ◌∙◌, sym}
use Rattle.sml_objects.specs.Initial.{Name}
use Rattle.sml_objects.specs.Maps.{Map}
use Rattle.sml_objects.specs.Objects as O
use Rattle.sml_objects.specs.Views.{entries_of}
use Rattle.sml_core_rules.specs.Objects.{Env}
use Rattle.sml_bases.specs.Views.{env_of, structures_of, ty_str_of, value_of}
use Rattle.sml_bases.specs.declared.objects.Env.{Env as Held}
use Rattle.sml_bases.specs.declared.objects.Env.TheViews.{out-Env}
use Rattle.sml_bases.proofs.EnvViews.{env_of-out}
use Rattle.sml_bases.specs.Entries.{some_entry}
use Rattle.sml_bases.proofs.SomeEntries.{or-left, or-right}
use Rattle.sml_envs.specs.Large.{has_large, have_large, is_large_type, is_large_value}

module _ (b f : ℕ → O.MlType Name) (n : Name → O.MlTypes Name → O.MlType Name) where
  pub some-structure : (m : Map (Env Name)) → have_large b f n (structures_of m) ≡ some_entry (has_large b f n) m
  unfolding have_large
  some-structure [] = refl
  some-structure (e ∷ m) = ap (λ c. has_large b f n e.1 || c) (some-structure m)

  abbrev types : Held → Bool
  types e = some_entry (is_large_type b f n) (entries_of ty_str_of (out-Env e).types.entries)

  abbrev values : Held → Bool
  values e = some_entry (is_large_value b f n) (entries_of value_of (out-Env e).values.entries)

  parts-large : (e : Held)
      → has_large b f n (env_of e) ≡ (have_large b f n (structures_of (entries_of (λ s. env_of s.value) (out-Env e).structures.entries)) || (types e || values e))
  unfolding has_large
  parts-large e = ap (has_large b f n) (env_of-out e)

  pub by-structures : (e : Held) → have_large b f n (structures_of (entries_of (λ s. env_of s.value) (out-Env e).structures.entries)) ≡ true
      → has_large b f n (env_of e) ≡ true
  by-structures e h = parts-large e ∙ or-left _ _ h

  pub by-types : (e : Held) → some_entry (is_large_type b f n) (entries_of ty_str_of (out-Env e).types.entries) ≡ true → has_large b f n (env_of e) ≡ true
  by-types e h = parts-large e ∙ or-right _ _ (or-left _ _ h)

  -- where only the values are left
  pub by-rest : (e : Held) (v : Bool) → have_large b f n (structures_of (entries_of (λ s. env_of s.value) (out-Env e).structures.entries)) ≡ false
      → some_entry (is_large_type b f n) (entries_of ty_str_of (out-Env e).types.entries) ≡ false
      → some_entry (is_large_value b f n) (entries_of value_of (out-Env e).values.entries) ≡ v → v ≡ has_large b f n (env_of e)
  by-rest e v ss ts vs = sym (parts-large e ∙ (λ i. ss i || (ts i || vs i)))
