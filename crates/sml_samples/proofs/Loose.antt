-- An unknown that may be any type, by assignments that give it each.
use Rattle.std.specs.Prelude.{◌≡◌, ℕ, true, false, []}
use mathlib.Core.Path.{refl, sym, ap, ◌∙◌}
use Rattle.std.proofs.Common.{arith}
use Rattle.sml_objects.specs.Equality.{admits, admits_by, all_admit_by}
use Rattle.sml_objects.specs.Initial.{Name, naming}
use Rattle.sml_objects.specs.Names.{int, string, real}
use Rattle.sml_objects.specs.Objects.{MlType, app, row, types_of}
use Rattle.sml_objects.specs.declared.fates.Fate.TheVariants.{Bind}
use Rattle.sml_layers.specs.declared.layer.Layer.TheVariants.{Finiteness, Equality, Classes}
use Rattle.sml_core_rules.specs.Solutions.{Meets, MayBe, IsFree, IsFlexible, IsFixed, IsInt, IsFateOf, AsksEquality}
use Rattle.sml_core_rules.specs.States.{State}
use Rattle.sml_samples.specs.Around.{Place, scope, type_of}

module _ (s : State Place Name) (v : ℕ) (types : MlType Name → ℕ → MlType Name) (gives : (t : MlType Name) → types t v ≡ t)
    (met : (t : MlType Name) → Meets scope s Finiteness (types t)) where
  pub loose : IsFree scope s v
  unfolding MayBe
  loose t = (types t, met t, gives t)

  pub not-flexible : IsFlexible scope s v → ⊥
  not-flexible f =
      let r = f.0 (types (type_of int)) (met (type_of int)) in
      let e : type_of int ≡ app (row r.labels) (types_of r.types) = sym (gives (type_of int)) ∙ r.is_row in cc

  pub not-fixed : IsFixed scope s 0 [] v → ⊥
  unfolding IsFixed
  not-fixed f =
      let e = f (types (type_of string)) (types (type_of int)) (met (type_of string)) (met (type_of int)) (λ w h. absurd (omega (arith, h))) tt in
      let d : type_of string ≡ type_of int = sym (gives (type_of string)) ∙ (e ∙ gives (type_of int)) in cc

  pub not-int : Meets scope s Classes (types (type_of string)) → IsInt scope s v → ⊥
  unfolding IsInt naming
  not-int m f = let e : type_of string ≡ type_of int = sym (gives (type_of string)) ∙ f (types (type_of string)) m in cc

  -- so it is bound by the scheme, and needn't admit equality where no demand asks it
  pub is-bound : Meets scope s Classes (types (type_of string)) → Meets scope s Equality (types (type_of real)) → IsFateOf scope s 0 false v (Bind false)
  unfolding AsksEquality admits_by all_admit_by naming
  is-bound m k = (
    not-int m,
    refl,
    not-fixed,
    not-flexible,
    (λ e. absurd cc, λ f. let e : false ≡ true = sym (ap (admits naming) (gives (type_of real))) ∙ f (types (type_of real)) k in absurd cc),
  )
