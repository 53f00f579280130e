-- `val rec f = fn x => x + x`: unknown 0 is the type of f, 1 that of x, and 2 that of `+`, which is int.
use Rattle.std.specs.Prelude.{◌≡◌, ℕ, true, false, List, [], ◌∷◌}
use mathlib.Core.Path.{refl, sym}
use Rattle.std.proofs.Common.{arith}
use Rattle.sml_objects.specs.Initial.{Name, naming}
use Rattle.sml_objects.specs.Names.{Initial, int, word}
use Rattle.sml_objects.specs.Objects.{MlType, free, arrow_of, mono}
use Rattle.sml_objects.specs.Fates.{close_as}
use Rattle.sml_objects.specs.declared.fates.Fate.TheVariants.{Keep}
use Rattle.sml_objects.specs.Types.{replace_type, replace_types, variables_after, variables_after_all}
use Rattle.sml_layers.specs.Classes.{names_in, allows}
use Rattle.sml_layers.specs.Demands.{Demand, equal, asks, within, of_class, Mentions}
use Rattle.sml_layers.specs.declared.class.Class.TheVariants.{Num}
use Rattle.sml_layers.specs.declared.layer.Bound.TheVariants.{Newness}
use Rattle.sml_layers.specs.declared.layer.Layer.TheVariants.{Finiteness, Rigidity}
use Rattle.sml_core_rules.specs.Solutions.{Meets, IsScheme, StandsFor, IsOfLeft, AreOfLeft, IsOverloaded}
use Rattle.sml_core_rules.specs.States.{State, Judged, no_window}
use Rattle.sml_samples.proofs.Judged.{scheme-judged}
use Rattle.sml_samples.specs.Around.{Place, scope, initial_names, type_of, twice}
use Rattle.sml_samples.proofs.Functions.{types}
use Rattle.sml_samples.proofs.Names.{initial-within}

abbrev pub asked : List (Demand Name (List Name))
asked =
    equal (free 0) (arrow_of (free 1) (free 2)) ∷ equal (twice (free 2)) (twice (free 1)) ∷ asks (of_class Num) (free 2)
    ∷ asks (within Newness initial_names) (free 1) ∷ asks (within Newness initial_names) (free 0) ∷ []

-- before it is settled, and after that
abbrev pub open_state : State Place Name
open_state = record { made = 3; names = initial_names; demands = asked; window = record { rows = []; overloaded = 2 ∷ [] }; is_open = false; judged = [] }

abbrev pub settled_state : State Place Name
settled_state = record { made = 3; names = initial_names; demands = equal (free 2) (type_of int) ∷ asked; window = no_window; is_open = false; judged = [] }

pub met : (k : Initial) → allows (names_in Num) k ≡ true → Meets scope open_state Rigidity (types (type_of k))
unfolding replace_type replace_types Mentions naming
met k a = (refl, (refl, (λ h. (k, a, refl), (λ h. initial-within k, (λ h. (tt, (initial-within k, (initial-within k, tt))), tt)))))

pub met-settled : Meets scope settled_state Rigidity (types (type_of int))
unfolding replace_type
met-settled = (refl, met int refl)

pub overloaded : (js : List (Judged Place)) → IsOverloaded scope (record open_state { judged = js }) 2
unfolding IsOverloaded replace_type
overloaded js = (λ σ m. let q = m.1.1.0 (omega arith) in (q.0, q.2), types (type_of int), types (type_of word), met int refl, met word refl, λ e. cc)

finitely : Meets scope settled_state Finiteness (types (type_of int))
unfolding replace_type replace_types
finitely = (refl, (refl, (refl, (λ h. absurd (omega (arith, h)), (λ h. absurd (omega (arith, h)), (λ h. absurd (omega (arith, h)), tt))))))

module _ (τ : ℕ → MlType Name) (m : Meets scope settled_state Finiteness τ) where
  argument : τ 1 ≡ type_of int
  unfolding replace_type replace_types
  argument = let e : twice (τ 2) ≡ twice (τ 1) = m.1.1.0 in let f : τ 2 ≡ type_of int = m.0 in cc

  whole : τ 0 ≡ arrow_of (type_of int) (type_of int)
  unfolding replace_type replace_types
  whole = let e : τ 0 ≡ arrow_of (τ 1) (τ 2) = m.1.0 in let f : τ 2 ≡ type_of int = m.0 in let g = argument in cc

own-scheme : IsScheme scope settled_state 0 false (free 0) (mono (arrow_of (type_of int) (type_of int)))
unfolding IsScheme StandsFor IsOfLeft AreOfLeft replace_type replace_types close_as variables_after variables_after_all
own-scheme = (arrow_of (type_of int) (type_of int), ((tt, (tt, tt)), λ τ m. sym (whole τ m)), λ _. Keep, tt, refl)

pub scheme : (js : List (Judged Place)) → IsScheme scope (record settled_state { judged = js }) 0 false (free 0) (mono (arrow_of (type_of int) (type_of int)))
scheme js = scheme-judged _ js _ _ _ _ own-scheme
