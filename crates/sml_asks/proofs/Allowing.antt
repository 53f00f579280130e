-- That a type mentions only names made so far is never refused: in the types that meet the demands a name that wasn't made, and stands for
-- no explicit variable, gives way to the row without fields.
use Rattle.std.proofs.Common.{◌≡◌, ◌<◌, ℕ, Bool, List, [], ◌∷◌, sym, ◌∙◌, ap, subst, refl}
use Rattle.std.specs.List.{AllByRecursion}
use Rattle.sml_lex.specs.declared.fault.Place.{Place}
use Rattle.sml_tree.specs.Trees.{Id}
use Rattle.sml_objects.specs.Initial.{Name, naming}
use Rattle.sml_objects.specs.Objects.{MlType, MlTypes, bound, free, app, arrow, row, name, no_type, and_type}
use Rattle.sml_objects.specs.Types.{assign}
use Rattle.sml_layers.specs.declared.layer.Bound.{Bound}
use Rattle.sml_layers.specs.declared.layer.Layer.TheVariants.{Rigidity}
use Rattle.sml_layers.specs.Demands as D
use Rattle.sml_layers.specs.Demands.{Ask, within, equality, of_class, variable, Demand, equal, has_fields, asks, AllHold, CanBeMet, Mentions, AllMention}
use Rattle.sml_layers.specs.Explicit.{variable_name}
use Rattle.sml_layers.specs.Rebound.{DemandMentions}
use Rattle.sml_layers.specs.Rows.{HasFields, fields_at}
use Rattle.sml_layers.specs.Worlds.{Assignment, finite}
use Rattle.sml_graph.specs.Asked as R
use Rattle.sml_graph.specs.Said.{demand_of, by_list}
use Rattle.sml_graph.proofs.Rebounds.{Kept, led, led-admits, led-assigned, led-fields, led-mentions, led-named, mentions-more}
use Rattle.sml_core_rules.proofs.Lower.{can-lower}
use Rattle.sml_core_rules.specs.States.{State}
use Rattle.sml_asks.specs.Closings.{NamesSoFarAreAllowed}
use Rattle.sml_asks.specs.Solvers.{AreNames, IsBound, IsRebound, SolverIs, IsTypeIn, IsDemandIn, AreDemands}
use Rattle.sml_asks.proofs.Rebinding.{kept, initial-kept, mentions-kept, variable-kept, was-kept}

mutual
  unfolding Mentions AllMention

  any-mentions : (t : MlType Name) → Mentions (λ n. Unit {0}) t
  any-mentions (bound k) = tt
  any-mentions (free v) = tt
  any-mentions (app arrow ts) = (tt, any-mention ts)
  any-mentions (app (row ls) ts) = (tt, any-mention ts)
  any-mentions (app (name n) ts) = (tt, any-mention ts)

  any-mention : (ts : MlTypes Name) → AllMention (λ n. Unit {0}) ts
  any-mention no_type = tt
  any-mention (and_type t ts) = (any-mentions t, any-mention ts)

module _ (unit next : ℕ) (names : List Name) (known : AreNames unit next names) (counted : 0 < unit) where
  abbrev keep : Name → Bool
  keep n = kept unit next names known counted n

  -- the type, where the other names give way
  abbrev plain : MlType Name → MlType Name
  plain t = led keep t

  asked-plain : (a : Ask (List Name)) (t : MlType Name) → D.IsAsAsked by_list a t → D.IsAsAsked by_list a (plain t)
  unfolding naming
  asked-plain (within k T) t h = mentions-more keep (λ n. by_list.Allows T n × Kept keep n) (by_list.Allows T) (λ n x. x.0) (plain t) (led-mentions keep (by_list.Allows T) t h)
  asked-plain equality t h = led-admits keep naming t h
  asked-plain (of_class c) t h = (h.0, h.1, ap plain h.2 ∙ led-named keep (naming.initial h.0) (initial-kept unit next names known counted h.0))
  asked-plain (variable x) t h = ap plain h ∙ led-named keep (variable_name x) (variable-kept unit next names known counted x)

  -- demands that mention only names that are kept

  fields-plain : (σ : Assignment Name finite) (fs : List (Id × MlType Name)) → AllByRecursion (λ f. Mentions (Kept keep) f.1) fs
      → fields_at plain (fields_at (assign σ) fs) ≡ fields_at (assign (λ v. plain (σ v))) fs
  fields-plain σ [] m = refl
  fields-plain σ (f ∷ fs) m =
      ap (λ t. (f.0, t) ∷ fields_at plain (fields_at (assign σ) fs)) (led-assigned keep σ f.1 m.0)
      ∙ ap (λ gs. (f.0, assign (λ v. plain (σ v)) f.1) ∷ gs) (fields-plain σ fs m.1)

  holds-plain : (σ : Assignment Name finite) (d : Demand Name (List Name)) → DemandMentions (Kept keep) d → D.Holds by_list finite Rigidity σ d
      → D.Holds by_list finite Rigidity (λ v. plain (σ v)) d
  holds-plain σ (equal t u) m h = sym (led-assigned keep σ t m.0) ∙ (ap plain h ∙ led-assigned keep σ u m.1)
  holds-plain σ (has_fields t fs) m h =
      subst (λ u. HasFields Name finite u (fields_at (assign (λ v. plain (σ v))) fs)) (led-assigned keep σ t m.0)
      (subst (HasFields Name finite (plain (assign σ t))) (fields-plain σ fs m.1) (led-fields keep (assign σ t) (fields_at (assign σ) fs) h))
  holds-plain σ (asks a t) m h = λ p. subst (D.IsAsAsked by_list a) (led-assigned keep σ t m) (asked-plain a (assign σ t) (h p))

  module _ (made : ℕ) where
    type-kept : (t : MlType Name) → IsTypeIn made names t → Mentions (Kept keep) t
    type-kept t k = mentions-kept unit next names known counted t k.1

    fields-kept : (fs : List (Id × MlType Name)) → AllByRecursion (λ f. IsTypeIn made names f.1) fs → AllByRecursion (λ f. Mentions (Kept keep) f.1) fs
    fields-kept [] h = tt
    fields-kept (f ∷ fs) h = (type-kept f.1 h.0, fields-kept fs h.1)

    demand-kept : (d : Demand Name ℕ) (e : Demand Name (List Name)) → IsDemandIn made names d → IsRebound (IsBound unit next names) d e → DemandMentions (Kept keep) e
    demand-kept (equal t u) e k s = subst (DemandMentions (Kept keep)) (sym s) (type-kept t k.0, type-kept u k.1)
    demand-kept (has_fields t fs) e k s = subst (DemandMentions (Kept keep)) (sym s) (type-kept t k.0, fields-kept fs k.1)
    demand-kept (asks a t) e k s = subst (DemandMentions (Kept keep)) (sym s.2) (type-kept t k)

    all-hold-plain : (ds : List R.Demand) (es : List (Demand Name (List Name))) → AreDemands unit next made names ds es → (σ : Assignment Name finite)
        → AllHold by_list finite Rigidity σ es → AllHold by_list finite Rigidity (λ v. plain (σ v)) es
    all-hold-plain [] [] s σ h = tt
    all-hold-plain (d ∷ ds) (e ∷ es) s σ h = (holds-plain σ e (demand-kept (demand_of d) e s.0.known s.0.same) h.0, all-hold-plain ds es s.1 σ h.1)
    all-hold-plain [] (e ∷ es) s σ h = absurd s
    all-hold-plain (d ∷ ds) [] s σ h = absurd s

    -- a type that mentions only names made so far still does
    assigned-allowed : (σ : Assignment Name finite) (t : MlType Name) → IsTypeIn made names t → Mentions (by_list.Allows names) (assign (λ v. plain (σ v)) t)
    assigned-allowed σ t k =
        subst (Mentions (by_list.Allows names)) (led-assigned keep σ t (type-kept t k))
        (mentions-more keep (λ n. (Unit {0}) × Kept keep n) (by_list.Allows names) (λ n x. was-kept unit next names known counted n x.1) (plain (assign σ t))
        (led-mentions keep (λ n. Unit {0}) (assign σ t) (any-mentions (assign σ t))))

module _ (unit next : ℕ) (solver : R.Asked) (s : State Place Name) (b : Bound) (t : MlType Name) (is : SolverIs unit next solver s) (k : IsTypeIn s.made s.names t) where
  allowed-met : CanBeMet by_list Rigidity (asks (within b s.names) t ∷ s.demands)
  allowed-met = (
    (λ v. plain unit next s.names is.known is.counted (is.met.0 v)),
    (
      (λ p. assigned-allowed unit next s.names is.known is.counted s.made is.met.0 t k),
      all-hold-plain unit next s.names is.known is.counted s.made is.demands s.demands is.same is.met.0 is.met.1,
    ),
  )

pub names-so-far-are-allowed : NamesSoFarAreAllowed
names-so-far-are-allowed unit next solver s b t is k = (
  allowed-met unit next solver s b t is k,
  λ l f. f.0 (can-lower by_list l (asks (within b s.names) t ∷ s.demands) (allowed-met unit next solver s b t is k)),
)
