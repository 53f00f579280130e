-- Declarations whose unknowns all turn out to be int.
use Rattle.std.specs.Prelude.{◌≡◌, ◌<◌, ℕ, Bool}
use mathlib.Core.Path.{refl, sym}
use Rattle.sml_objects.specs.Initial.{Name}
use Rattle.sml_objects.specs.Names.{int}
use Rattle.sml_objects.specs.Objects.{MlType, free, mono}
use Rattle.sml_objects.specs.Fates.{close_as}
use Rattle.sml_objects.specs.declared.fates.Fate.TheVariants.{Keep}
use Rattle.sml_objects.specs.Types.{replace_type, replace_types, variables_after, variables_after_all}
use Rattle.sml_layers.specs.declared.layer.Layer.TheVariants.{Finiteness}
use Rattle.sml_core_rules.specs.Solutions.{Meets, IsScheme, StandsFor, IsOfLeft, AreOfLeft}
use Rattle.sml_core_rules.specs.States.{State}
use Rattle.sml_samples.specs.Around.{Place, scope, type_of}

module _ (s : State Place Name) (met : Meets scope s Finiteness (λ _. type_of int))
    (known : (τ : ℕ → MlType Name) → Meets scope s Finiteness τ → (v : ℕ) → v < s.made → τ v ≡ type_of int) where
  -- so is the type of the first
  pub int-scheme : (n : ℕ) (x : Bool) → 0 < s.made → IsScheme scope s n x (free 0) (mono (type_of int))
  unfolding IsScheme StandsFor IsOfLeft AreOfLeft replace_type replace_types close_as variables_after variables_after_all
  int-scheme n x h = (type_of int, (tt, λ σ m. sym (known σ m 0 h)), λ _. Keep, tt, refl)
