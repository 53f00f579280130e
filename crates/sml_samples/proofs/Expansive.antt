-- `val i = (fn x => x) (fn x => x)`: unknown 0 is the type of i, and 1 and 2 those of the variables.
use Rattle.std.specs.Prelude.{◌≡◌, ◌≢◌, ◌<◌, ℕ, zero, suc, true, false, List, [], ◌∷◌}
use mathlib.Core.Path.{refl, sym, ◌∙◌}
use mathlib.Core.Logic.{inl}
use Rattle.std.proofs.Common.{arith}
use Rattle.sml_objects.specs.Initial.{Name}
use Rattle.sml_objects.specs.Names.{int, string}
use Rattle.sml_objects.specs.Objects.{MlType, free, arrow_of, mono}
use Rattle.sml_objects.specs.Fates.{close_as}
use Rattle.sml_objects.specs.declared.fates.Fate.TheVariants.{Keep}
use Rattle.sml_objects.specs.Types.{replace_type, replace_types, variables_after, variables_after_all, index_among}
use Rattle.sml_layers.specs.Demands.{equal, asks, within, Mentions}
use Rattle.sml_layers.specs.declared.layer.Bound.TheVariants.{Newness}
use Rattle.sml_layers.specs.declared.layer.Layer.TheVariants.{Finiteness, Classes, Rigidity}
use Rattle.sml_core_rules.specs.Solutions.{Meets, IsScheme, StandsFor, IsLeft, IsOfLeft, AreOfLeft, IsFateOf, IsAlways}
use Rattle.sml_core_rules.specs.States.{State, Judged, words, no_window, with_demand, opened}
use Rattle.sml_samples.proofs.Judged.{scheme-judged}
use Rattle.sml_samples.specs.Around.{Place, scope, initial_names, type_of}
use Rattle.sml_samples.proofs.Loose.{loose, not-int}
use Rattle.sml_samples.proofs.Names.{initial-within}

abbrev pub types : MlType Name → ℕ → MlType Name
types t zero = arrow_of t t
types t (suc zero) = arrow_of t t
types t (suc (suc v)) = t

abbrev pub after : State Place Name
after = record {
  made = 3;
  names = initial_names;
  demands = equal (free 0) (free 1) ∷ equal (free 1) (arrow_of (free 2) (free 2)) ∷ asks (within Newness initial_names) (free 2)
      ∷ asks (within Newness initial_names) (free 1) ∷ [];
  window = no_window;
  is_open = false;
  judged = [];
}

finitely : (t : MlType Name) → Meets scope after Finiteness (types t)
unfolding replace_type replace_types
finitely t = (refl, (refl, (λ h. absurd (omega (arith, h)), (λ h. absurd (omega (arith, h)), tt))))

pub met : (t : MlType Name) → Mentions ((words scope).Allows initial_names) t → Meets scope after Rigidity (types t)
unfolding replace_type replace_types Mentions
met t w = (refl, (refl, (λ h. w, (λ h. (tt, (w, (w, tt))), tt))))

-- where the type is int
pub met-int : Meets scope after Rigidity (types (type_of int))
met-int = met (type_of int) (initial-within int)

met-classes : Meets scope after Classes (types (type_of string))
unfolding replace_type replace_types Mentions
met-classes = (refl, (refl, (λ h. initial-within string, (λ h. (tt, (initial-within string, (initial-within string, tt))), tt))))

left : IsLeft scope after 2
left = (omega arith, inl (loose after 2 types (λ t. refl) finitely), apart)
  where
    apart : (u : ℕ) → u < 2 → (σ : ℕ → MlType Name) × Meets scope after Finiteness σ × (σ u ≢ σ 2)
    apart zero h = (types (type_of int), finitely (type_of int), λ e. cc)
    apart (suc zero) h = (types (type_of int), finitely (type_of int), λ e. cc)
    apart (suc (suc u)) h = absurd (omega (arith, h))

fate : IsFateOf scope after 0 true 2 Keep
fate = (not-int after 2 types (λ t. refl) finitely met-classes, inl refl)

own-scheme : IsScheme scope after 0 true (free 0) (mono (arrow_of (free 2) (free 2)))
unfolding IsScheme StandsFor IsOfLeft AreOfLeft replace_type replace_types close_as variables_after variables_after_all index_among
own-scheme = (arrow_of (free 2) (free 2), ((left, (left, tt)), λ σ m. sym (m.0 ∙ m.1.0)), λ _. Keep, (fate, tt), refl)

pub scheme : (js : List (Judged Place)) → IsScheme scope (record after { judged = js }) 0 true (free 0) (mono (arrow_of (free 2) (free 2)))
scheme js = scheme-judged _ js _ _ _ _ own-scheme

-- the type stays open, and mentions only names made so far

abbrev pub closed : State Place Name
closed = with_demand (asks (within Newness initial_names) (free 0)) (opened after)

pub met-closed : (t : MlType Name) → Mentions ((words scope).Allows initial_names) t → Meets scope closed Rigidity (types t)
unfolding replace_type replace_types Mentions
met-closed t w = (λ h. (tt, (w, (w, tt))), met t w)

pub met-closed-int : Meets scope closed Rigidity (types (type_of int))
met-closed-int = met-closed (type_of int) (initial-within int)

pub open-ended : (js : List (Judged Place)) → (u : MlType Name) → ¬ (IsAlways scope (record closed { judged = js }) (arrow_of (free 2) (free 2)) u)
unfolding IsAlways replace_type replace_types
open-ended js u f =
    let e : arrow_of (type_of int) (type_of int) ≡ u = f (types (type_of int)) met-closed-int in
    let d : arrow_of (type_of string) (type_of string) ≡ u = f (types (type_of string)) (met-closed (type_of string) (initial-within string)) in
    let c : arrow_of (type_of int) (type_of int) ≡ arrow_of (type_of string) (type_of string) = e ∙ sym d in cc

-- `val j = i 3` after it: unknown 3 is the type of j

abbrev pub later : State Place Name
later = record {
  made = 4;
  names = initial_names;
  demands = equal (free 3) (free 2) ∷ equal (free 2) (type_of int) ∷ closed.demands;
  window = no_window;
  is_open = true;
  judged = [];
}

pub met-later : Meets scope later Rigidity (types (type_of int))
unfolding replace_type replace_types
met-later = (refl, (refl, met-closed-int))

later-finitely : Meets scope later Finiteness (types (type_of int))
unfolding replace_type replace_types
later-finitely = (refl, (refl, (λ h. absurd (omega (arith, h)), finitely (type_of int))))

module _ (τ : ℕ → MlType Name) (m : Meets scope later Finiteness τ) where
  third : τ 3 ≡ type_of int
  unfolding replace_type replace_types
  third = m.0 ∙ m.1.0

  second : τ 1 ≡ arrow_of (type_of int) (type_of int)
  unfolding replace_type replace_types
  second = let e : τ 1 ≡ arrow_of (τ 2) (τ 2) = m.1.1.1.1.0 in let f : τ 2 ≡ type_of int = m.1.0 in cc

  first : τ 0 ≡ arrow_of (type_of int) (type_of int)
  unfolding replace_type replace_types
  first = m.1.1.1.0 ∙ second

own-later-scheme : IsScheme scope later 3 true (free 3) (mono (type_of int))
unfolding IsScheme StandsFor IsOfLeft AreOfLeft replace_type replace_types close_as variables_after variables_after_all
own-later-scheme = (type_of int, (tt, λ τ m. sym (third τ m)), λ _. Keep, tt, refl)

pub later-scheme : (js : List (Judged Place)) → IsScheme scope (record later { judged = js }) 3 true (free 3) (mono (type_of int))
later-scheme js = scheme-judged _ js _ _ _ _ own-later-scheme

pub turned-out : (js : List (Judged Place)) → IsAlways scope (record later { judged = js }) (arrow_of (free 2) (free 2)) (arrow_of (type_of int) (type_of int))
unfolding IsAlways replace_type replace_types
turned-out js σ m = let e : σ 2 ≡ type_of int = m.1.0 in cc
