-- Where names give way to types, and those made so far are kept, the equations hold still.
use Rattle.std.proofs.Common.{◌≡◌, Bool, true, ℕ, List, [], ◌∷◌, sym, ◌∙◌, ap, subst}
use Rattle.std.specs.List.{AllByRecursion}
use Rattle.sml_tree.specs.Trees.{Id}
use Rattle.sml_objects.specs.Appearance.{Stands}
use Rattle.sml_objects.specs.Initial.{Name}
use Rattle.sml_objects.specs.Objects.{MlType, MlTypes}
use Rattle.sml_objects.specs.Types.{assign}
use Rattle.sml_layers.specs.declared.layer.Layer.TheVariants.{Finiteness, Rigidity}
use Rattle.sml_layers.specs.Demands as D
use Rattle.sml_layers.specs.Demands.{Demand, equal, has_fields, asks, AllHold, Mentions}
use Rattle.sml_layers.specs.Rows.{HasFields, fields_at}
use Rattle.sml_layers.specs.Worlds.{Assignment, finite}
use Rattle.sml_graph.specs.Asked as R
use Rattle.sml_graph.specs.Said.{demand_of, by_list}
use Rattle.sml_graph.proofs.Rebounds.{mentions-more}
use Rattle.sml_asks.specs.Solvers.{IsBound, IsRebound, IsTypeIn, IsDemandIn, AreDemands}
use Rattle.sml_asks.proofs.Giving.{given, given-assigned, given-fields, fields-assigned}
use Rattle.sml_asks.proofs.Rebinding.{late}

module _ (unit next made : ℕ) (names : List Name) (keep : Name → Bool) (gives : Name → MlTypes Name → MlType Name) (named-kept : (n : Name) → Stands n names → keep n ≡ true) where
  pub mentions-kept : (u : MlType Name) → Mentions (λ n. Stands n names) u → Mentions (λ n. keep n ≡ true) u
  mentions-kept u m = mentions-more keep (λ n. Stands n names) (λ n. keep n ≡ true) named-kept u m

  fields-kept : (fs : List (Id × MlType Name)) → AllByRecursion (λ f. IsTypeIn made names f.1) fs → AllByRecursion (λ f. Mentions (λ n. keep n ≡ true) f.1) fs
  fields-kept [] h = tt
  fields-kept (f ∷ fs) h = (mentions-kept f.1 h.0.1, fields-kept fs h.1)

  holds-given : (σ : Assignment Name finite) (d : Demand Name ℕ) (e : Demand Name (List Name)) → IsDemandIn made names d → IsRebound (IsBound unit next names) d e
      → D.Holds by_list finite Rigidity σ e → D.Holds by_list finite Finiteness (λ v. given keep gives (σ v)) e
  holds-given σ (equal u w) e k s h =
      subst (D.Holds by_list finite Finiteness (λ v. given keep gives (σ v))) (sym s)
      (sym (given-assigned keep gives σ u (mentions-kept u k.0.1)) ∙ (ap (given keep gives) (subst (D.Holds by_list finite Rigidity σ) s h) ∙ given-assigned keep gives σ w (mentions-kept w k.1.1)))
  holds-given σ (has_fields u fs) e k s h =
      let fields : HasFields Name finite (assign σ u) (fields_at (assign σ) fs) = subst (D.Holds by_list finite Rigidity σ) s h in
      subst (D.Holds by_list finite Finiteness (λ v. given keep gives (σ v))) (sym s)
      (subst (λ w. HasFields Name finite w (fields_at (assign (λ v. given keep gives (σ v))) fs)) (given-assigned keep gives σ u (mentions-kept u k.0.1))
      (subst (HasFields Name finite (given keep gives (assign σ u))) (fields-assigned keep gives σ fs (fields-kept fs k.1)) (given-fields keep gives (assign σ u) (fields_at (assign σ) fs) fields)))
  holds-given σ (asks a u) e k s h = subst (D.Holds by_list finite Finiteness (λ v. given keep gives (σ v))) (sym s.2) (λ p. absurd (late s.0 p))

  pub all-given-hold : (ds : List R.Demand) (es : List (Demand Name (List Name))) → AreDemands unit next made names ds es → (σ : Assignment Name finite)
      → AllHold by_list finite Rigidity σ es → AllHold by_list finite Finiteness (λ v. given keep gives (σ v)) es
  all-given-hold [] [] s σ h = tt
  all-given-hold (d ∷ ds) (e ∷ es) s σ h = (holds-given σ (demand_of d) e s.0.known s.0.same h.0, all-given-hold ds es s.1 σ h.1)
  all-given-hold [] (e ∷ es) s σ h = absurd s
  all-given-hold (d ∷ ds) [] s σ h = absurd s
