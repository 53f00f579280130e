-- `val _ = fn x : 'a => let val _ : 'a = x in 3 end`: unknown 0 is the explicit variable, 1 the type of the function, 2 that of x,
-- and 3 that of the inner pattern.
use Rattle.std.specs.Prelude.{ℕ, zero, suc, false, List, [], ◌∷◌}
use mathlib.Core.Path.{refl}
use mathlib.Core.Logic.{inr}
use Rattle.std.proofs.Common.{arith}
use Rattle.sml_objects.specs.Initial.{Name, made}
use Rattle.sml_objects.specs.Names.{int}
use Rattle.sml_objects.specs.Objects.{MlType, free, arrow_of, named}
use Rattle.sml_objects.specs.Types.{replace_type, replace_types}
use Rattle.sml_layers.specs.Demands.{equal, asks, within, variable, Mentions}
use Rattle.sml_layers.specs.declared.layer.Bound.TheVariants.{Newness, Locality}
use Rattle.sml_layers.specs.declared.layer.Layer.TheVariants.{Finiteness, Rigidity}
use Rattle.sml_core_rules.specs.Solutions.{Meets, IsFixed}
use Rattle.sml_core_rules.specs.States.{State, Judged, words, no_window}
use Rattle.sml_samples.specs.Around.{Place, scope, initial_names, type_of}
use Rattle.sml_samples.proofs.Loose.{not-fixed}
use Rattle.sml_samples.proofs.Names.{initial-within}

abbrev pub types : MlType Name → ℕ → MlType Name
types t zero = t
types t (suc zero) = arrow_of t (type_of int)
types t (suc (suc v)) = t

abbrev pub after : State Place Name
after = record {
  made = 4;
  names = initial_names;
  demands = equal (free 1) (arrow_of (free 0) (type_of int)) ∷ asks (within Locality initial_names) (type_of int) ∷ equal (free 0) (free 2) ∷ equal (free 3) (free 0)
      ∷ asks (within Newness initial_names) (free 2) ∷ equal (free 2) (free 0) ∷ asks (variable (record { number = 0; equality = false })) (free 0) ∷ [];
  window = no_window;
  is_open = false;
  judged = [];
}

finitely : (t : MlType Name) → Meets scope after Finiteness (types t)
unfolding replace_type replace_types
finitely t = (refl, (λ h. absurd (omega (arith, h)), (refl, (refl, (λ h. absurd (omega (arith, h)), (refl, (λ h. absurd (omega (arith, h)), tt)))))))

-- the name of the variable
abbrev pub itself : MlType Name
itself = named (made 0 0 0 false)

pub met : Meets scope after Rigidity (types itself)
unfolding replace_type replace_types Mentions
met = (refl, (λ h. initial-within int, (refl, (refl, (λ h. own, (refl, (λ h. refl, tt)))))))
  where
    own : Mentions ((words scope).Allows initial_names) itself
    own = (inr (record { number = 0; equality = false }, refl), tt)

pub general : (js : List (Judged Place)) → ¬ (IsFixed scope (record after { judged = js }) 0 [] 0)
general js = not-fixed (record after { judged = js }) 0 types (λ t. refl) finitely
