-- `val rec f = fn x => x`: unknown 0 is the type of f, and 1 that of x.
use Rattle.std.specs.Prelude.{◌≢◌, ◌<◌, ℕ, zero, suc, false, List, [], ◌∷◌}
use mathlib.Core.Path.{refl, sym}
use mathlib.Core.Logic.{inl}
use Rattle.std.proofs.Common.{arith}
use Rattle.sml_objects.specs.Initial.{Name}
use Rattle.sml_objects.specs.Names.{Initial, int, string, real}
use Rattle.sml_objects.specs.Objects.{MlType, free, bound, arrow_of}
use Rattle.sml_objects.specs.Fates.{close_as}
use Rattle.sml_objects.specs.declared.fates.Fate.TheVariants.{Bind}
use Rattle.sml_objects.specs.Types.{replace_type, replace_types, variables_after, variables_after_all, index_among}
use Rattle.sml_layers.specs.Demands.{equal, asks, within, Mentions}
use Rattle.sml_layers.specs.declared.layer.Bound.TheVariants.{Newness}
use Rattle.sml_layers.specs.declared.layer.Layer.TheVariants.{Finiteness, Equality, Classes, Rigidity}
use Rattle.sml_core_rules.specs.Solutions.{Meets, IsScheme, StandsFor, IsLeft, IsOfLeft, AreOfLeft, IsFateOf}
use Rattle.sml_core_rules.specs.States.{State, Judged, no_window}
use Rattle.sml_samples.proofs.Judged.{scheme-judged}
use Rattle.sml_samples.specs.Around.{Place, scope, initial_names, type_of}
use Rattle.sml_samples.proofs.Loose.{loose, is-bound}
use Rattle.sml_samples.proofs.Names.{initial-within}

abbrev pub types : MlType Name → ℕ → MlType Name
types t zero = arrow_of t t
types t (suc v) = t

abbrev pub after : State Place Name
after = record {
  made = 2;
  names = initial_names;
  demands = equal (free 0) (arrow_of (free 1) (free 1)) ∷ asks (within Newness initial_names) (free 1) ∷ asks (within Newness initial_names) (free 0) ∷ [];
  window = no_window;
  is_open = false;
  judged = [];
}

met-finitely : (t : MlType Name) → Meets scope after Finiteness (types t)
unfolding replace_type replace_types
met-finitely t = (refl, (λ h. absurd (omega (arith, h)), (λ h. absurd (omega (arith, h)), tt)))

met-equality : (k : Initial) → Meets scope after Equality (types (type_of k))
unfolding replace_type replace_types Mentions
met-equality k = (refl, (λ h. initial-within k, (λ h. (tt, (initial-within k, (initial-within k, tt))), tt)))

met-classes : (k : Initial) → Meets scope after Classes (types (type_of k))
unfolding replace_type replace_types Mentions
met-classes k = (refl, (λ h. initial-within k, (λ h. (tt, (initial-within k, (initial-within k, tt))), tt)))

pub met : (k : Initial) → Meets scope after Rigidity (types (type_of k))
unfolding replace_type replace_types Mentions
met k = (refl, (λ h. initial-within k, (λ h. (tt, (initial-within k, (initial-within k, tt))), tt)))

left : IsLeft scope after 1
left = (omega arith, inl (loose after 1 types (λ t. refl) met-finitely), apart)
  where
    apart : (u : ℕ) → u < 1 → (σ : ℕ → MlType Name) × Meets scope after Finiteness σ × (σ u ≢ σ 1)
    apart zero h = (types (type_of int), met-finitely (type_of int), λ e. cc)
    apart (suc u) h = absurd (omega (arith, h))

fate : IsFateOf scope after 0 false 1 (Bind false)
fate = is-bound after 1 types (λ t. refl) met-finitely (met-classes string) (met-equality real)

own-scheme : IsScheme scope after 0 false (free 0) (record { variables = false ∷ []; body = arrow_of (bound 0) (bound 0) })
unfolding IsScheme StandsFor IsOfLeft AreOfLeft replace_type replace_types close_as variables_after variables_after_all index_among
own-scheme = (arrow_of (free 1) (free 1), ((left, (left, tt)), λ σ m. sym m.0), λ _. Bind false, (fate, tt), refl)

pub scheme : (js : List (Judged Place)) → IsScheme scope (record after { judged = js }) 0 false (free 0) (record { variables = false ∷ []; body = arrow_of (bound 0) (bound 0) })
scheme js = scheme-judged _ js _ _ _ _ own-scheme
