-- An environment whose types and values are put one after the other.
use Rattle.std.proofs.Common.{◌≡◌, [], ap, sym, ◌∙◌}
use Rattle.sml_core_rules.specs.Objects as O
use Rattle.sml_objects.specs.Initial.{Name}
use Rattle.sml_objects.specs.Maps.{Map, join}
use Rattle.sml_objects.specs.Objects.{Scheme}
use Rattle.sml_objects.specs.Views.{entries_of}
use Rattle.sml_bases.specs.Views.{env_of, ty_str_of, value_of, structures_of}
use Rattle.sml_bases.specs.declared.objects.Env.{Env}
use Rattle.sml_bases.specs.declared.objects.Env.TheOpen.{Env-F}
use Rattle.sml_bases.specs.declared.objects.Env.TheViews.{out-Env, roll-Env, out-roll-Env}
use Rattle.sml_bases.proofs.EnvViews.{env_of-roll, env_of-out, parts}

pub value-seen : (s : O.Status) (σ τ : Scheme Name) → σ ≡ τ → ◌≡◌ {A = O.Value Name} (record { scheme = σ; status = s }) (record { scheme = τ; status = s })
value-seen s σ τ h = λ i. record { scheme = h i; status = s }

-- first its types, and then its values
pub filled : (n : Env) (one two : Env-F Env) (ts : Map (O.TyStr Name)) (vs : Map (O.Value Name))
    → env_of n ≡ O.empty
    → one.structures ≡ (out-Env n).structures → one.values ≡ (out-Env n).values
    → two.structures ≡ (out-Env (roll-Env one)).structures → two.types ≡ (out-Env (roll-Env one)).types
    → entries_of ty_str_of one.types.entries ≡ join (entries_of ty_str_of (out-Env n).types.entries) ts
    → entries_of value_of two.values.entries ≡ join (entries_of value_of (out-Env (roll-Env one)).values.entries) vs
    → env_of (roll-Env two) ≡ O.maps O.no_structure (join [] ts) (join [] vs)
filled n one two ts vs is-empty one-structures one-values two-structures two-types types values =
    let o : out-Env (roll-Env one) ≡ one = out-roll-Env one in
    let h : parts (out-Env n) ≡ O.empty = sym (env_of-out n) ∙ is-empty in
    env_of-roll two
    ∙ (λ i. O.maps
    ((ap (λ m. structures_of (entries_of (λ s. env_of s.value) m.entries)) (two-structures ∙ ap (λ e. e.structures) o ∙ one-structures) ∙ ap O.structures h) i)
    ((ap (λ m. entries_of ty_str_of m.entries) (two-types ∙ ap (λ e. e.types) o) ∙ types ∙ ap (λ m. join m ts) (ap O.types h)) i)
    ((values ∙ ap (λ m. join m vs) (ap (λ e. entries_of value_of e.values.entries) o ∙ ap (λ m. entries_of value_of m.entries) one-values ∙ ap O.values h)) i))
