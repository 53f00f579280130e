-- Unknowns that aren't left.
use Rattle.std.specs.Prelude.{◌≡◌, ℕ, List, []}
use mathlib.Core.Path.{sym, ◌∙◌}
use mathlib.Core.Logic.{inl, inr}
use Rattle.sml_tree.specs.Trees.{Id}
use Rattle.sml_objects.specs.Objects.{MlType, MlTypes, Head, app, arrow, row, bound, no_type, types_of}
use Rattle.sml_objects.specs.Types.{replace_type, replace_types}
use Rattle.sml_layers.specs.declared.layer.Layer.TheVariants.{Finiteness}
use Rattle.sml_layers.specs.Worlds.{Assignment, finite}
use Rattle.sml_core_rules.specs.States.{Scope, State}
use Rattle.sml_core_rules.specs.Solutions.{Meets, MayBe, HasOneSetOfLabels, IsLeft}

module _ {P N : Type 0} (scope : Scope N) (s : State P N) (σ : Assignment N finite) (met : Meets scope s Finiteness σ) where
  -- one that is always the same head over types, which is no row
  pub settled : (v : ℕ) (h : Head N) (ts : MlTypes N) → ((ls : List Id) → h ≡ row ls → ⊥)
      → ((τ : Assignment N finite) → Meets scope s Finiteness τ → τ v ≡ app h (replace_types bound τ ts)) → IsLeft scope s v → ⊥
  unfolding MayBe
  settled v h ts n e l = elim l.1 [
    | inl f ↦
        let m = f (app (row []) no_type) in
        let q : app h (replace_types bound m.0 ts) ≡ app (row []) no_type = sym (e m.0 m.1) ∙ m.2 in n [] cc
    | inr f ↦
        let r = f.0 σ met in
        let q : app h (replace_types bound σ ts) ≡ app (row r.labels) (types_of r.types) = sym (e σ met) ∙ r.is_row in n r.labels cc
  ]

  -- one that is always the same row
  pub settled-row : (v : ℕ) (ls : List Id) (ts : List (MlType N)) → ((τ : Assignment N finite) → Meets scope s Finiteness τ → τ v ≡ app (row ls) (types_of ts))
      → IsLeft scope s v → ⊥
  unfolding MayBe HasOneSetOfLabels replace_type
  settled-row v ls ts e l = elim l.1 [
    | inl f ↦ let m = f (app arrow no_type) in let q : app (row ls) (types_of ts) ≡ app arrow no_type = sym (e m.0 m.1) ∙ m.2 in cc
    | inr f ↦ f.1 (ls, (λ τ m. (ts, e τ m)))
  ]
