-- `val rec f = fn x => let val y = x in y end`: unknown 0 is the type of f, 1 that of x, and 2 that of y.
use Rattle.std.specs.Prelude.{◌≢◌, ◌<◌, ℕ, zero, suc, true, false, List, [], ◌∷◌}
use mathlib.Core.Path.{refl, sym}
use mathlib.Core.Logic.{inl, inr}
use Rattle.std.proofs.Common.{arith}
use Rattle.sml_objects.specs.Initial.{Name}
use Rattle.sml_objects.specs.Names.{Initial, int, string, real}
use Rattle.sml_objects.specs.Objects.{MlType, free, arrow_of, mono}
use Rattle.sml_objects.specs.Fates.{close_as}
use Rattle.sml_objects.specs.declared.fates.Fate.TheVariants.{Bind, Keep}
use Rattle.sml_objects.specs.Types.{replace_type, replace_types, variables_after, variables_after_all, index_among}
use Rattle.sml_layers.specs.Demands.{equal, asks, within, Mentions}
use Rattle.sml_layers.specs.declared.layer.Bound.TheVariants.{Newness, Locality}
use Rattle.sml_layers.specs.declared.layer.Layer.TheVariants.{Finiteness, Equality, Classes, Rigidity}
use Rattle.sml_core_rules.specs.Solutions.{Meets, IsScheme, StandsFor, IsLeft, IsOfLeft, AreOfLeft, IsFateOf, IsFixed}
use Rattle.sml_core_rules.specs.States.{State, Judged, no_window}
use Rattle.sml_samples.proofs.Judged.{scheme-judged}
use Rattle.sml_samples.specs.Around.{Place, scope, initial_names, type_of}
use Rattle.sml_samples.specs.Core.{identity_scheme}
use Rattle.sml_samples.proofs.Functions.{types}
use Rattle.sml_samples.proofs.Loose.{loose, not-int, is-bound}
use Rattle.sml_samples.proofs.Names.{initial-within}

-- at the end of the inner declaration

abbrev pub inner_state : State Place Name
inner_state = record {
  made = 3;
  names = initial_names;
  demands = equal (free 2) (free 1) ∷ asks (within Newness initial_names) (free 1) ∷ asks (within Newness initial_names) (free 0) ∷ [];
  window = no_window;
  is_open = false;
  judged = [];
}

abbrev all : MlType Name → ℕ → MlType Name
all t v = t

all-finitely : (t : MlType Name) → Meets scope inner_state Finiteness (all t)
unfolding replace_type
all-finitely t = (refl, (λ h. absurd (omega (arith, h)), (λ h. absurd (omega (arith, h)), tt)))

all-classes : Meets scope inner_state Classes (all (type_of string))
unfolding replace_type
all-classes = (refl, (λ h. initial-within string, (λ h. initial-within string, tt)))

inner-left : IsLeft scope inner_state 1
unfolding replace_type
inner-left = (omega arith, inl (loose inner_state 1 all (λ t. refl) all-finitely), apart)
  where
    apart : (u : ℕ) → u < 1 → (σ : ℕ → MlType Name) × Meets scope inner_state Finiteness σ × (σ u ≢ σ 1)
    apart zero h = (types (type_of int), (refl, (λ h. absurd (omega (arith, h)), (λ h. absurd (omega (arith, h)), tt))), λ e. cc)
    apart (suc u) h = absurd (omega (arith, h))

inner-fate : IsFateOf scope inner_state 2 false 1 Keep
unfolding replace_type IsFixed
inner-fate = (not-int inner_state 1 all (λ t. refl) all-finitely all-classes, inr (inl (λ σ τ m k same u. same 1 (omega arith))))

own-inner-scheme : IsScheme scope inner_state 2 false (free 2) (mono (free 1))
unfolding IsScheme StandsFor IsOfLeft replace_type close_as variables_after index_among
own-inner-scheme = (free 1, (inner-left, λ σ m. sym m.0), λ _. Keep, (inner-fate, tt), refl)

pub inner-scheme : (js : List (Judged Place)) → IsScheme scope (record inner_state { judged = js }) 2 false (free 2) (mono (free 1))
inner-scheme js = scheme-judged _ js _ _ _ _ own-inner-scheme

-- at the end of the outer one

abbrev pub after : State Place Name
after = record {
  made = 3;
  names = initial_names;
  demands = equal (free 0) (arrow_of (free 1) (free 1)) ∷ asks (within Locality initial_names) (free 1) ∷ asks (within Newness initial_names) (free 2)
      ∷ inner_state.demands;
  window = no_window;
  is_open = true;
  judged = [];
}

finitely : (t : MlType Name) → Meets scope after Finiteness (types t)
unfolding replace_type replace_types
finitely t = (refl, (λ h. absurd (omega (arith, h)), (λ h. absurd (omega (arith, h)), (refl, (λ h. absurd (omega (arith, h)), (λ h. absurd (omega (arith, h)), tt))))))

pub met : (k : Initial) → Meets scope after Rigidity (types (type_of k))
unfolding replace_type replace_types Mentions
met k = (refl, (λ h. initial-within k, (λ h. initial-within k, (refl, (λ h. initial-within k, (λ h. (tt, (initial-within k, (initial-within k, tt))), tt))))))

met-classes : (k : Initial) → Meets scope after Classes (types (type_of k))
unfolding replace_type replace_types Mentions
met-classes k = (refl, (λ h. initial-within k, (λ h. initial-within k, (refl, (λ h. initial-within k, (λ h. (tt, (initial-within k, (initial-within k, tt))), tt))))))

met-equality : (k : Initial) → Meets scope after Equality (types (type_of k))
unfolding replace_type replace_types Mentions
met-equality k = (refl, (λ h. initial-within k, (λ h. initial-within k, (refl, (λ h. initial-within k, (λ h. (tt, (initial-within k, (initial-within k, tt))), tt))))))

left : IsLeft scope after 1
left = (omega arith, inl (loose after 1 types (λ t. refl) finitely), apart)
  where
    apart : (u : ℕ) → u < 1 → (σ : ℕ → MlType Name) × Meets scope after Finiteness σ × (σ u ≢ σ 1)
    apart zero h = (types (type_of int), finitely (type_of int), λ e. cc)
    apart (suc u) h = absurd (omega (arith, h))

fate : IsFateOf scope after 0 false 1 (Bind false)
fate = is-bound after 1 types (λ t. refl) finitely (met-classes string) (met-equality real)

own-scheme : IsScheme scope after 0 false (free 0) identity_scheme
unfolding IsScheme StandsFor IsOfLeft AreOfLeft replace_type replace_types close_as variables_after variables_after_all index_among
own-scheme = (arrow_of (free 1) (free 1), ((left, (left, tt)), λ σ m. sym m.0), λ _. Bind false, (fate, tt), refl)

pub scheme : (js : List (Judged Place)) → IsScheme scope (record after { judged = js }) 0 false (free 0) identity_scheme
scheme js = scheme-judged _ js _ _ _ _ own-scheme
