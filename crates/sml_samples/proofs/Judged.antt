-- What is to be judged says nothing of types: schemes are the same whatever it is. A type with a small scheme stands for a small one.
use Rattle.std.specs.Prelude.{◌≡◌, ◌≤◌, ℕ, Bool, List}
use mathlib.Core.Path.{refl}
use Rattle.sml_objects.specs.Initial.{Name}
use Rattle.sml_objects.specs.Objects.{MlType, MlTypes, Scheme, bound, free, app, no_type, and_type}
use Rattle.sml_objects.specs.Sizes.{type_size}
use Rattle.sml_core_rules.proofs.Schemes.{scheme-small}
use Rattle.sml_core_rules.specs.Solutions.{MayBe, HasOneSetOfLabels, IsFixed, IsInt, AsksEquality, IsOfLeft, AreOfLeft, StandsFor, IsScheme, StandsForSmall}
use Rattle.sml_core_rules.specs.States.{State, Judged}
use Rattle.sml_samples.specs.Around.{Place, scope}

module _ (s : State Place Name) (js : List (Judged Place)) where
  mutual
    unfolding IsOfLeft AreOfLeft MayBe HasOneSetOfLabels

    left-same : (t : MlType Name) → IsOfLeft scope s t ≡ IsOfLeft scope (record s { judged = js }) t
    left-same (bound k) = refl
    left-same (free v) = refl
    left-same (app h ts) = lefts-same ts

    lefts-same : (ts : MlTypes Name) → AreOfLeft scope s ts ≡ AreOfLeft scope (record s { judged = js }) ts
    lefts-same no_type = refl
    lefts-same (and_type t ts) = λ i. left-same t i × lefts-same ts i

pub scheme-judged : (s : State Place Name) (js : List (Judged Place)) (n : ℕ) (x : Bool) (t : MlType Name) (σ : Scheme Name) → IsScheme scope s n x t σ
    → IsScheme scope (record s { judged = js }) n x t σ
unfolding IsScheme StandsFor IsFixed IsInt AsksEquality MayBe HasOneSetOfLabels
scheme-judged s js n x t σ h = (h.0, (coe 0 1 (i. left-same s js h.0 i) h.1.0, h.1.1), h.2, h.3, h.4)

pub small : (s : State Place Name) (n : ℕ) (x : Bool) (t : MlType Name) (σ : Scheme Name) → IsScheme scope s n x t σ → type_size σ.body ≤ 10000 → StandsForSmall scope s t
small s n x t σ is within = scheme-small scope s n x t σ is within
