-- `val rec f = fn x => abs (x div x)`: unknown 0 is the type of f, 1 that of x, 2 that of `abs`, and 3 that of `div`.
use Rattle.std.specs.Prelude.{◌≡◌, ◌≢◌, ◌<◌, ℕ, zero, suc, true, false, List, [], ◌∷◌}
use mathlib.Core.Path.{refl, sym, ap, subst, ◌∙◌}
use mathlib.Core.Logic.{inl}
use Rattle.std.proofs.Common.{arith}
use Rattle.sml_objects.specs.Initial.{Name, naming}
use Rattle.sml_objects.specs.Names.{Initial, int, word, char, string, bool, exn, real, list, ref}
use Rattle.sml_objects.specs.Objects.{MlType, free, arrow_of, mono}
use Rattle.sml_objects.specs.Fates.{close_as}
use Rattle.sml_objects.specs.declared.fates.Fate.TheVariants.{Default}
use Rattle.sml_objects.specs.Types.{replace_type, replace_types, variables_after, variables_after_all, index_among}
use Rattle.sml_layers.specs.Classes.{names_in, allows}
use Rattle.sml_layers.specs.Demands.{equal, asks, within, of_class, Mentions}
use Rattle.sml_layers.specs.declared.class.Class.TheVariants.{RealInt, WordInt}
use Rattle.sml_layers.specs.declared.layer.Bound.TheVariants.{Newness}
use Rattle.sml_layers.specs.declared.layer.Layer.TheVariants.{Finiteness, Classes, Rigidity}
use Rattle.sml_core_rules.specs.Solutions.{Meets, IsScheme, StandsFor, IsLeft, IsOfLeft, AreOfLeft, IsFateOf, IsInt, IsOverloaded}
use Rattle.sml_core_rules.specs.States.{State, Judged, no_window}
use Rattle.sml_samples.proofs.Judged.{scheme-judged}
use Rattle.sml_samples.specs.Around.{Place, scope, initial_names, type_of, twice}
use Rattle.sml_samples.proofs.Functions.{types}
use Rattle.sml_samples.proofs.Loose.{loose}
use Rattle.sml_samples.proofs.Names.{initial-within}

abbrev pub after : State Place Name
after = record {
  made = 4;
  names = initial_names;
  demands = equal (free 0) (arrow_of (free 1) (free 2)) ∷ equal (free 2) (free 3) ∷ equal (twice (free 3)) (twice (free 1)) ∷ asks (of_class WordInt) (free 3)
      ∷ asks (of_class RealInt) (free 2) ∷ asks (within Newness initial_names) (free 1) ∷ asks (within Newness initial_names) (free 0) ∷ [];
  window = no_window;
  is_open = false;
  judged = [];
}

-- before it is settled
abbrev pub unsettled : State Place Name
unsettled = record after { window = record { rows = []; overloaded = 2 ∷ 3 ∷ [] } }

finitely : (t : MlType Name) → Meets scope after Finiteness (types t)
unfolding replace_type replace_types
finitely t =
    (refl, (refl, (refl, (λ h. absurd (omega (arith, h)), (λ h. absurd (omega (arith, h)), (λ h. absurd (omega (arith, h)), (λ h. absurd (omega (arith, h)), tt)))))))

pub met : Meets scope after Rigidity (types (type_of int))
unfolding replace_type replace_types Mentions naming
met =
    (refl, (refl, (refl, (λ h. (int, refl, refl), (λ h. (int, refl, refl), (λ h. initial-within int, (λ h. (tt, (initial-within int, (initial-within int, tt))), tt)))))))

-- the one type of both classes
one : (t u : MlType Name) → t ≡ u → (k : Initial) × (allows (names_in RealInt) k ≡ true) × (t ≡ type_of k) → (k : Initial) × (allows (names_in WordInt) k ≡ true) × (u ≡ type_of k)
    → u ≡ type_of int
one t u e (j, a, f) (k, b, g) = go j k (let d : type_of j ≡ type_of k = sym f ∙ (e ∙ g) in cc) a b g
  where
    go : (j k : Initial) → j ≡ k → allows (names_in RealInt) j ≡ true → allows (names_in WordInt) k ≡ true → u ≡ type_of k → u ≡ type_of int
    go j int d a b g = g
    go j word d a b g = let c : false ≡ true = subst (λ j. allows (names_in RealInt) j ≡ true) d a in absurd cc
    go j char d a b g = absurd cc
    go j string d a b g = absurd cc
    go j bool d a b g = absurd cc
    go j exn d a b g = absurd cc
    go j real d a b g = absurd cc
    go j list d a b g = absurd cc
    go j ref d a b g = absurd cc

pub third : (σ : ℕ → MlType Name) → Meets scope after Classes σ → σ 3 ≡ type_of int
unfolding replace_type replace_types naming
third σ m = one (σ 2) (σ 3) m.1.0 (m.1.1.1.1.0 (omega arith)) (m.1.1.1.0 (omega arith))

pub second : (σ : ℕ → MlType Name) → Meets scope after Classes σ → σ 2 ≡ type_of int
unfolding replace_type replace_types
second σ m = let e : σ 2 ≡ σ 3 = m.1.0 in e ∙ third σ m

-- so they aren't settled as overloaded ones
pub one-type : (js : List (Judged Place)) → (v : ℕ) → ((σ : ℕ → MlType Name) → Meets scope after Classes σ → σ v ≡ type_of int) → ¬ (IsOverloaded scope (record unsettled { judged = js }) v)
unfolding IsOverloaded replace_type replace_types
one-type js v f o = o.5 (f o.1 (lower o.1 o.3) ∙ sym (f o.2 (lower o.2 o.4)))
  where
    lower : (σ : ℕ → MlType Name) → Meets scope after Rigidity σ → Meets scope after Classes σ
    lower σ m = (
      m.0,
      (
        m.1.0,
        (
          m.1.1.0,
          (λ h. m.1.1.1.0 (omega arith), (λ h. m.1.1.1.1.0 (omega arith), (λ h. m.1.1.1.1.1.0 (omega arith), (λ h. m.1.1.1.1.1.1.0 (omega arith), tt)))),
        ),
      ),
    )

left : IsLeft scope after 1
left = (omega arith, inl (loose after 1 types (λ t. refl) finitely), apart)
  where
    apart : (u : ℕ) → u < 1 → (σ : ℕ → MlType Name) × Meets scope after Finiteness σ × (σ u ≢ σ 1)
    apart zero h = (types (type_of int), finitely (type_of int), λ e. cc)
    apart (suc u) h = absurd (omega (arith, h))

-- all are the same by the equations
module _ (τ : ℕ → MlType Name) (m : Meets scope after Finiteness τ) where
  of-both : τ 3 ≡ τ 1
  unfolding replace_type replace_types
  of-both = let e : twice (τ 3) ≡ twice (τ 1) = m.1.1.0 in cc

  of-abs : τ 2 ≡ τ 1
  unfolding replace_type replace_types
  of-abs = let e : τ 2 ≡ τ 3 = m.1.0 in e ∙ of-both

  whole : τ 0 ≡ arrow_of (τ 1) (τ 1)
  unfolding replace_type replace_types
  whole = let e : τ 0 ≡ arrow_of (τ 1) (τ 2) = m.0 in e ∙ ap (arrow_of (τ 1)) of-abs

fate : IsFateOf scope after 0 false 1 Default
unfolding replace_type replace_types IsInt naming
fate = λ σ m. let e : twice (σ 3) ≡ twice (σ 1) = m.1.1.0 in let f : σ 3 ≡ type_of int = third σ m in cc

own-scheme : IsScheme scope after 0 false (free 0) (mono (arrow_of (type_of int) (type_of int)))
unfolding IsScheme StandsFor IsOfLeft AreOfLeft replace_type replace_types close_as variables_after variables_after_all index_among naming
own-scheme = (arrow_of (free 1) (free 1), ((left, (left, tt)), λ σ m. sym (whole σ m)), λ _. Default, (fate, tt), refl)

pub scheme : (js : List (Judged Place)) → IsScheme scope (record after { judged = js }) 0 false (free 0) (mono (arrow_of (type_of int) (type_of int)))
scheme js = scheme-judged _ js _ _ _ _ own-scheme
