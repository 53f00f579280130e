-- A new unknown may stand for an explicit variable: nothing is asked of it yet.
use Rattle.std.proofs.Common.{◌≡◌, ◌<◌, ℕ, Bool, true, false, cond, ◌&&◌, List, [], ◌∷◌, sym, ◌∙◌, ap, subst, refl, arith, nat_eq}
use Rattle.std.specs.List.{AllByRecursion}
use Rattle.std.proofs.lemmas.Bool.{eqb-true, eq-eqb}
use Rattle.sml_lex.specs.declared.fault.Place.{Place}
use Rattle.sml_tree.specs.Trees.{Id}
use Rattle.sml_objects.specs.Equality.{admits, admits_by, all_admit_by}
use Rattle.sml_objects.specs.Initial.{Name, naming}
use Rattle.sml_objects.specs.Objects.{MlType, MlTypes, bound, free, app, no_type, and_type, named}
use Rattle.sml_objects.specs.Types.{assign, replace_type, replace_types}
use Rattle.sml_layers.specs.declared.layer.Layer.TheVariants.{Rigidity}
use Rattle.sml_layers.specs.declared.variable.Variable.{Variable}
use Rattle.sml_layers.specs.Demands as D
use Rattle.sml_layers.specs.Demands.{Demand, equal, has_fields, asks, AllHold, CanBeMet, IsFirstUnmet}
use Rattle.sml_layers.specs.Explicit.{variable_name}
use Rattle.sml_layers.specs.Rows.{HasFields, fields_at}
use Rattle.sml_layers.specs.Worlds.{Assignment, finite}
use Rattle.sml_graph.specs.Asked as R
use Rattle.sml_graph.specs.Interned.{IsOver, AreOver}
use Rattle.sml_graph.specs.Said.{demand_of, by_list}
use Rattle.sml_core_rules.specs.States.{State}
use Rattle.sml_core_rules.proofs.Lower.{can-lower}
use Rattle.sml_asks.specs.Closings.{VariablesAreMet}
use Rattle.sml_asks.specs.Solvers.{SolverIs, IsBound, IsRebound, IsTypeIn, IsDemandIn, AreDemands}

-- types see their own unknowns alone

module _ (n : ℕ) (σ τ : ℕ → MlType Name) (same : (v : ℕ) → v < n → σ v ≡ τ v) where
  mutual
    unfolding IsOver AreOver replace_type replace_types

    pub assigned-same : (t : MlType Name) → IsOver n t → assign σ t ≡ assign τ t
    assigned-same (bound k) o = refl
    assigned-same (free v) o = same v o
    assigned-same (app h ts) o = ap (app h) (all-assigned-same ts o)

    all-assigned-same : (ts : MlTypes Name) → AreOver n ts → replace_types bound σ ts ≡ replace_types bound τ ts
    all-assigned-same no_type o = refl
    all-assigned-same (and_type t ts) o = let a = assigned-same t o.0 in let b = all-assigned-same ts o.1 in cc

  module _ (names : List Name) where
    fields-same : (fs : List (Id × MlType Name)) → AllByRecursion (λ f. IsTypeIn n names f.1) fs → fields_at (assign σ) fs ≡ fields_at (assign τ) fs
    fields-same [] o = refl
    fields-same (f ∷ fs) o = let a = assigned-same f.1 o.0.0 in let b = fields-same fs o.1 in cc

    holds-same : (unit next : ℕ) (d : Demand Name ℕ) (e : Demand Name (List Name)) → IsDemandIn n names d → IsRebound (IsBound unit next names) d e
        → D.Holds by_list finite Rigidity σ e → D.Holds by_list finite Rigidity τ e
    holds-same unit next (equal t u) e k s h =
        subst (D.Holds by_list finite Rigidity τ) (sym s) (sym (assigned-same t k.0.0) ∙ (subst (D.Holds by_list finite Rigidity σ) s h ∙ assigned-same u k.1.0))
    holds-same unit next (has_fields t fs) e k s h =
        let fields : HasFields Name finite (assign σ t) (fields_at (assign σ) fs) = subst (D.Holds by_list finite Rigidity σ) s h in
        subst (D.Holds by_list finite Rigidity τ) (sym s)
        (subst (λ u. HasFields Name finite u (fields_at (assign τ) fs)) (assigned-same t k.0.0) (subst (HasFields Name finite (assign σ t)) (fields-same fs k.1) fields))
    holds-same unit next (asks a t) e k s h =
        let asked : D.HoldsUpTo by_list Rigidity σ s.0 t = subst (D.Holds by_list finite Rigidity σ) s.2 h in
        subst (D.Holds by_list finite Rigidity τ) (sym s.2) (λ p. subst (D.IsAsAsked by_list s.0) (assigned-same t k.0) (asked p))

    all-hold-same : (unit next : ℕ) (ds : List R.Demand) (es : List (Demand Name (List Name))) → AreDemands unit next n names ds es → AllHold by_list finite Rigidity σ es
        → AllHold by_list finite Rigidity τ es
    all-hold-same unit next [] [] s h = tt
    all-hold-same unit next (d ∷ ds) (e ∷ es) s h = (holds-same unit next (demand_of d) e s.0.known s.0.same h.0, all-hold-same unit next ds es s.1 h.1)
    all-hold-same unit next [] (e ∷ es) s h = absurd s
    all-hold-same unit next (d ∷ ds) [] s h = absurd s

-- the new unknown is the variable

module _ (unit next : ℕ) (solver : R.Asked) (s : State Place Name) (x : Variable) (is : SolverIs unit next solver s) where
  with_variable : Assignment Name finite
  with_variable v = cond (nat_eq v s.made) (named (variable_name x)) (is.met.0 v)

  below-same : (v : ℕ) → v < s.made → is.met.0 v ≡ with_variable v
  unfolding with_variable
  below-same v k = go (nat_eq v s.made) refl
    where
      go : (b : Bool) → nat_eq v s.made ≡ b → is.met.0 v ≡ cond (nat_eq v s.made) (named (variable_name x)) (is.met.0 v)
      go true e = absurd (omega (arith, eqb-true v s.made e, k))
      go false e = sym (ap (λ b. cond b (named (variable_name x)) (is.met.0 v)) e)

  is-variable : with_variable s.made ≡ named (variable_name x)
  unfolding with_variable
  is-variable = ap (λ b. cond b (named (variable_name x)) (is.met.0 s.made)) (eq-eqb s.made s.made refl)

  others-hold : AllHold by_list finite Rigidity with_variable s.demands
  others-hold = all-hold-same s.made is.met.0 with_variable below-same s.names unit next is.demands s.demands is.same is.met.1

  variable-met : CanBeMet by_list Rigidity (asks (D.variable x) (free s.made) ∷ s.demands)
  unfolding replace_type
  variable-met = (with_variable, ((λ p. is-variable), others-hold))

  admits-equality : x.equality ≡ true → admits naming (named (variable_name x)) ≡ true
  unfolding admits_by all_admit_by naming
  admits-equality e = ap (λ b. b && true) e

  equality-met : x.equality ≡ true → CanBeMet by_list Rigidity (asks D.equality (free s.made) ∷ asks (D.variable x) (free s.made) ∷ s.demands)
  unfolding replace_type
  equality-met e = (with_variable, ((λ p. ap (admits naming) is-variable ∙ admits-equality e), ((λ p. is-variable), others-hold)))

pub variables-are-met : VariablesAreMet
variables-are-met unit next solver s x is l = (
  λ f. f.0 (can-lower by_list l (asks (D.variable x) (free s.made) ∷ s.demands) (variable-met unit next solver s x is)),
  λ e f. f.0 (can-lower by_list l (asks D.equality (free s.made) ∷ asks (D.variable x) (free s.made) ∷ s.demands) (equality-met unit next solver s x is e)),
)
