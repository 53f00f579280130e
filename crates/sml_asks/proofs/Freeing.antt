-- The unknown of an explicit variable may be any type, by the equations: where the variable's name gives way to the type, they hold
-- still.
use Rattle.std.proofs.Common.{◌≡◌, ℕ, Bool, true, false, cond, List, [], ◌∷◌, inl, inr, sym, ◌∙◌, ap, subst, refl, arith}
use Rattle.sml_objects.specs.Appearance.{Stands, stands}
use Rattle.sml_objects.specs.Initial.{Name, naming}
use Rattle.sml_objects.specs.Objects.{MlType, MlTypes, free, named}
use Rattle.sml_objects.specs.Types.{replace_type}
use Rattle.sml_objects.proofs.Standing.{found, was_found}
use Rattle.sml_layers.specs.declared.layer.Layer.TheVariants.{Rigidity}
use Rattle.sml_layers.specs.declared.variable.Variable.{Variable}
use Rattle.sml_layers.specs.Demands as D
use Rattle.sml_layers.specs.Demands.{Demand, equal, has_fields, asks, AllHold, Mentions}
use Rattle.sml_layers.specs.Explicit.{variable_name}
use Rattle.sml_layers.specs.Worlds.{Assignment, finite}
use Rattle.sml_graph.specs.Said.{by_list}
use Rattle.sml_core_rules.specs.Solutions as C
use Rattle.sml_asks.specs.Closings.{VariablesAreFree}
use Rattle.sml_asks.specs.Solvers.{AreNames}
use Rattle.sml_asks.proofs.Giving.{given, all_given}
use Rattle.sml_asks.proofs.Holding.{all-given-hold}

module _ (unit next : ℕ) (names : List Name) (known : AreNames unit next names) (x : Variable) (t : MlType Name) where
  abbrev is_other : Bool → Bool
  is_other b = cond b false true

  keep : Name → Bool
  keep n = is_other (stands naming n (variable_name x ∷ []))

  gives : Name → MlTypes Name → MlType Name
  gives n ts = t

  abbrev gave : MlType Name → MlType Name
  gave u = given keep gives u

  named-kept : (n : Name) → Stands n names → keep n ≡ true
  unfolding keep Stands
  named-kept n h = go (stands naming n (variable_name x ∷ [])) refl
    where
      go : (b : Bool) → stands naming n (variable_name x ∷ []) ≡ b → is_other (stands naming n (variable_name x ∷ [])) ≡ true
      go true e = absurd (same (was_found naming n (variable_name x ∷ []) e))
        where
          same : Stands n (variable_name x ∷ []) → ⊥
          same (inl q) = known.apart x (subst (λ m. Stands m names) q h)
          same (inr q) = q
      go false e = ap is_other e

  variable-given : gave (named (variable_name x)) ≡ t
  unfolding given all_given keep gives Stands
  variable-given =
      let e : stands naming (variable_name x) (variable_name x ∷ []) ≡ true = found naming (variable_name x) (variable_name x ∷ []) (inl refl) in
      ap (λ b. cond (is_other b) (named (variable_name x)) t) e

one-holds : (σ : Assignment Name finite) (es : List (Demand Name (List Name))) (e : Demand Name (List Name)) → Stands e es → AllHold by_list finite Rigidity σ es
    → D.Holds by_list finite Rigidity σ e
unfolding Stands
one-holds σ [] e s h = absurd s
one-holds σ (f ∷ es) e (inl q) h = subst (D.Holds by_list finite Rigidity σ) (sym q) h.0
one-holds σ (f ∷ es) e (inr s) h = one-holds σ es e s h.1

pub variables-are-free : VariablesAreFree
unfolding C.MayBe replace_type
variables-are-free unit next solver s x v is asked t =
    let σ : Assignment Name finite = is.met.0 in
    let stands_so : σ v ≡ named (variable_name x) = one-holds σ s.demands (asks (D.variable x) (free v)) asked is.met.1 (omega arith) in (
      (λ w. given (keep unit next s.names is.known x t) (gives unit next s.names is.known x t) (σ w)),
      all-given-hold unit next s.made s.names (keep unit next s.names is.known x t) (gives unit next s.names is.known x t) (named-kept unit next s.names is.known x t) is.demands s.demands is.same σ is.met.1,
      ap (given (keep unit next s.names is.known x t) (gives unit next s.names is.known x t)) stands_so ∙ variable-given unit next s.names is.known x t,
    )
