-- `val rec f = fn x : ''a => x`: unknown 0 is the explicit variable, 1 the type of f, and 2 that of x.
use Rattle.std.specs.Prelude.{◌≡◌, ℕ, zero, suc, true, false, List, [], ◌∷◌}
use mathlib.Core.Path.{refl}
use mathlib.Core.Logic.{inl, inr}
use Rattle.std.proofs.Common.{arith}
use Rattle.sml_objects.specs.Equality.{admits_by, all_admit_by}
use Rattle.sml_objects.specs.Initial.{Name, made, naming}
use Rattle.sml_objects.specs.Names.{string}
use Rattle.sml_objects.specs.Objects.{MlType, free, bound, arrow_of, named}
use Rattle.sml_objects.specs.Fates.{close_as}
use Rattle.sml_objects.specs.declared.fates.Fate.TheVariants.{Bind}
use Rattle.sml_objects.specs.Types.{replace_type, replace_types, variables_after, variables_after_all, index_among}
use Rattle.sml_layers.specs.Demands.{equal, asks, within, variable, equality, Mentions}
use Rattle.sml_layers.specs.declared.layer.Bound.TheVariants.{Newness}
use Rattle.sml_layers.specs.declared.layer.Layer.TheVariants.{Finiteness, Classes, Rigidity}
use Rattle.sml_core_rules.specs.Solutions.{Meets, IsScheme, StandsFor, IsLeft, IsOfLeft, AreOfLeft, IsFixed, IsFateOf, AsksEquality}
use Rattle.sml_core_rules.specs.States.{State, Judged, words, no_window}
use Rattle.sml_samples.proofs.Judged.{scheme-judged}
use Rattle.sml_samples.specs.Around.{Place, scope, initial_names, type_of}
use Rattle.sml_samples.proofs.Loose.{loose, not-int, not-fixed, not-flexible}
use Rattle.sml_samples.proofs.Names.{initial-within}

abbrev pub types : MlType Name → ℕ → MlType Name
types t zero = t
types t (suc zero) = arrow_of t t
types t (suc (suc v)) = t

abbrev pub after : State Place Name
after = record {
  made = 3;
  names = initial_names;
  demands = equal (free 1) (arrow_of (free 0) (free 2)) ∷ asks (within Newness initial_names) (free 2) ∷ equal (free 2) (free 0)
      ∷ asks (within Newness initial_names) (free 1) ∷ asks equality (free 0) ∷ asks (variable (record { number = 0; equality = true })) (free 0) ∷ [];
  window = no_window;
  is_open = false;
  judged = [];
}

pub finitely : (t : MlType Name) → Meets scope after Finiteness (types t)
unfolding replace_type replace_types
finitely t = (refl, (λ h. absurd (omega (arith, h)), (refl, (λ h. absurd (omega (arith, h)), (λ h. absurd (omega (arith, h)), (λ h. absurd (omega (arith, h)), tt))))))

-- the name of the variable
abbrev pub itself : MlType Name
itself = named (made 0 0 0 true)

pub met : Meets scope after Rigidity (types itself)
unfolding replace_type replace_types Mentions admits_by all_admit_by naming
met = (refl, (λ h. own, (refl, (λ h. (tt, (own, (own, tt))), (λ h. refl, (λ h. refl, tt))))))
  where
    own : Mentions ((words scope).Allows initial_names) itself
    own = (inr (record { number = 0; equality = true }, refl), tt)

met-classes : Meets scope after Classes (types (type_of string))
unfolding replace_type replace_types Mentions admits_by all_admit_by naming
met-classes =
    (refl, (λ h. initial-within string, (refl, (λ h. (tt, (initial-within string, (initial-within string, tt))), (λ h. refl, (λ h. absurd (omega (arith, h)), tt))))))

left : IsLeft scope after 0
left = (omega arith, inl (loose after 0 types (λ t. refl) finitely), λ u h. absurd (omega (arith, h)))

fate : IsFateOf scope after 0 false 0 (Bind true)
unfolding replace_type replace_types AsksEquality
fate = (
  not-int after 0 types (λ t. refl) finitely met-classes,
  refl,
  not-fixed after 0 types (λ t. refl) finitely,
  not-flexible after 0 types (λ t. refl) finitely,
  (λ e σ m. m.1.1.1.1.0 (omega arith), λ f. refl),
)

pub general : (js : List (Judged Place)) → ¬ (IsFixed scope (record after { judged = js }) 0 [] 0)
general js = not-fixed (record after { judged = js }) 0 types (λ t. refl) finitely

own-scheme : IsScheme scope after 0 false (free 1) (record { variables = true ∷ []; body = arrow_of (bound 0) (bound 0) })
unfolding IsScheme StandsFor IsOfLeft AreOfLeft replace_type replace_types close_as variables_after variables_after_all index_among
own-scheme = (arrow_of (free 0) (free 0), ((left, (left, tt)), λ σ m. same σ m), λ _. Bind true, (fate, tt), refl)
  where
    same : (σ : ℕ → MlType Name) → Meets scope after Finiteness σ → arrow_of (σ 0) (σ 0) ≡ σ 1
    same σ m = let e : σ 1 ≡ arrow_of (σ 0) (σ 2) = m.0 in let f : σ 2 ≡ σ 0 = m.1.1.0 in cc

pub scheme : (js : List (Judged Place)) → IsScheme scope (record after { judged = js }) 0 false (free 1) (record { variables = true ∷ []; body = arrow_of (bound 0) (bound 0) })
scheme js = scheme-judged _ js _ _ _ _ own-scheme
