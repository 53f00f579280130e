-- Calls of a solver as steps of scripts.
use Rattle.std.proofs.Common.{◌≡◌, ℕ, Result, Ok, Err, List, [], ◌∷◌, map, sym, ◌∙◌, subst, refl}
use Rattle.std.specs.List.{AllByRecursion}
use Rattle.sml_lex.specs.declared.fault.Place.{Place}
use Rattle.sml_tree.specs.Trees.{Id}
use Rattle.sml_objects.specs.Initial.{Name}
use Rattle.sml_objects.specs.Objects.{MlType}
use Rattle.sml_layers.specs.declared.layer.Layer.{Layer}
use Rattle.sml_layers.specs.declared.layer.Layer.TheVariants.{Rigidity}
use Rattle.sml_layers.specs.Demands as D
use Rattle.sml_layers.specs.Demands.{Demand, equal, has_fields, asks, CanBeMet, IsFirstUnmet}
use Rattle.sml_graph.specs.declared.demand.Ask.{Ask}
use Rattle.sml_graph.specs.declared.demand.Halt.{Halt}
use Rattle.sml_graph.specs.declared.demand.Refusal.{Refusal}
use Rattle.sml_graph.specs.declared.demand.Refusal.TheVariants as R
use Rattle.sml_graph.specs.Asked as A
use Rattle.sml_graph.specs.Asked.{Asked, count, Adds, CanMeet}
use Rattle.sml_graph.specs.Interned.{IsOver}
use Rattle.sml_graph.specs.Said.{ask_of, demand_of, by_number, Says}
use Rattle.sml_graph.proofs.Saying.{says-its-demands}
use Rattle.sml_solve.specs.Calls.{Demands}
use Rattle.sml_solve.specs.Clashes.{IsDemandOf}
use Rattle.sml_core_rules.specs.States.{State}
use Rattle.sml_asks.specs.Solvers.{IsBound, IsReboundAsk, SolverIs, IsTypeIn, IsDemandIn, IsDemand, AreDemands}
use Rattle.sml_asks.specs.Steps.{Answers, Asks}
use Rattle.sml_asks.proofs.Rebinding.{met-both, first-both}

-- where the types permitted with a demand are those before that meet it, demands that can be met with it can be met
met-said : (old new : Asked) (d : A.Demand) (ds : List A.Demand) → Adds old d new → Says new (d ∷ ds) → (l : Layer) → CanMeet l old d
    → CanBeMet (by_number new.unit) l (map demand_of (d ∷ ds))
unfolding Adds Says CanMeet
met-said old new d ds a says l m = (m.0, (says l m.0).0 ((a l m.0).1 (m.1, m.2)))

module _ (unit next : ℕ) (old new : Asked) (s : State Place Name) (d : A.Demand) (e : Demand Name (List Name))
    (is : SolverIs unit next old s) (asked : IsDemand unit next s.made s.names d e) where
  asked-too : AreDemands unit next s.made s.names (d ∷ is.demands) (e ∷ s.demands)
  asked-too = (asked, is.same)

  pub answers : (result : Result (Unit {0}) Refusal) → Demands old d new result → Answers unit next s e new result
  answers (Ok x) c =
      let says : Says new (d ∷ is.demands) = says-its-demands.added old new d is.demands c.returns.unit c.ok is.says in
      record {
        counted = is.counted;
        maker = c.returns.unit ∙ is.maker;
        spent = c.returns.kept;
        unknowns = c.count ∙ is.unknowns;
        known = is.known;
        demands = d ∷ is.demands;
        says = says;
        same = asked-too;
        met = (met-both unit next s.names is.known is.counted s.made (d ∷ is.demands) (e ∷ s.demands) asked-too Rigidity).0
            (subst (λ u. CanBeMet (by_number u) Rigidity (map demand_of (d ∷ is.demands))) (c.returns.unit ∙ is.maker) (met-said old new d is.demands c.ok says Rigidity (c.met Rigidity)));
      }
  answers (Err (R.Unmet l)) c =
      first-both unit next s.names is.known is.counted s.made (d ∷ is.demands) (e ∷ s.demands) asked-too l
      (subst (λ u. IsFirstUnmet (by_number u) l (map demand_of (d ∷ is.demands))) is.maker ((says-its-demands.refused old d is.demands l is.says).0 (c.unmet l refl)))
  answers (Err R.Labels) c = c.labels refl
  answers (Err R.Memory) c = tt
  answers (Err R.Spent) c = cc (is.spent, c.returns.spent.0 refl)

-- what the demand speaks of was made

fields-known : (made : ℕ) (names : List Name) (fs : List (Id × MlType Name)) → AllByRecursion (λ f. IsTypeIn made names f.1) fs → AllByRecursion (λ f. IsOver made f.1) fs
fields-known made names [] h = tt
fields-known made names (f ∷ fs) h = (h.0.0, fields-known made names fs h.1)

demand-known : (old : Asked) (made : ℕ) (names : List Name) → count old ≡ made → (d : A.Demand) → IsDemandIn made names (demand_of d) → IsDemandOf old d
demand-known old made names e (A.equal t u) h = (subst (λ n. IsOver n t) (sym e) h.0.0, subst (λ n. IsOver n u) (sym e) h.1.0)
demand-known old made names e (A.has_fields t fs) h =
    (subst (λ n. IsOver n t) (sym e) h.0.0, subst (λ n. AllByRecursion (λ f. IsOver n f.1) fs) (sym e) (fields-known made names fs h.1))
demand-known old made names e (A.asks a t) h = subst (λ n. IsOver n t) (sym e) h.0

-- a demand that is asked once it speaks of the solver's unknowns is a step
pub asks-known : (old new : Asked) (d : A.Demand) (result : Result (Unit {0}) Refusal) → (IsDemandOf old d → Demands old d new result) → Asks old d new result
unfolding Asks
asks-known old new d result c unit next s e is asked =
    answers unit next old new s d e is asked result (c (demand-known old s.made s.names is.unknowns d asked.known))

-- the same, where the solver stays as it is before the call if the demand speaks of its unknowns
pub asks-after : (old mid new : Asked) (d : A.Demand) (made : Result (Unit {0}) Halt) (result : Result (Unit {0}) Refusal)
    → (IsDemandOf old d → (made ≡ Ok tt) × (mid ≡ old)) → Demands mid d new result → Asks old d new result
asks-after old mid new d made result same c = asks-known old new d result (λ k. subst (λ m. Demands m d new result) (same k).1 c)

pub asks-halted : (old mid new : Asked) (d : A.Demand) (made : Result (Unit {0}) Halt) (h : Halt) (result : Result (Unit {0}) Refusal)
    → (IsDemandOf old d → (made ≡ Ok tt) × (mid ≡ old)) → made ≡ Err h → Asks old d new result
asks-halted old mid new d made h result same e = asks-known old new d result (λ k. let p : made ≡ Ok tt = (same k).0 in cc)

pub asks-never : (old new : Asked) (d : A.Demand) (result : Result (Unit {0}) Refusal) → (IsDemandOf old d → ⊥) → Asks old d new result
asks-never old new d result never = asks-known old new d result (λ k. absurd (never k))

-- after two calls of which each leaves the solver as it is
pub twice-same : (P Q : Asked → Type 0) (old mid last : Asked) (first second : Result (Unit {0}) Halt)
    → (P old → (first ≡ Ok tt) × (mid ≡ old)) → (Q mid → (second ≡ Ok tt) × (last ≡ mid)) → P old × Q old → (second ≡ Ok tt) × (last ≡ old)
twice-same P Q old mid last first second f g h =
    let a : (first ≡ Ok tt) × (mid ≡ old) = f h.0 in
    let b : (second ≡ Ok tt) × (last ≡ mid) = g (subst Q (sym a.1) h.1) in
    (b.0, b.1 ∙ a.1)

-- what callers read off

module _ (unit next : ℕ) (old new : Asked) (s : State Place Name) (is : SolverIs unit next old s) (result : Result (Unit {0}) Refusal) where
  pub equal-answer : (t u : MlType Name) → Asks old (A.equal t u) new result → IsTypeIn s.made s.names t → IsTypeIn s.made s.names u → Answers unit next s (equal t u) new result
  unfolding Asks
  equal-answer t u f k l = f unit next s (equal t u) is (record { known = (k, l); same = refl })

  pub row-answer : (t : MlType Name) (fs : List (Id × MlType Name)) → Asks old (A.has_fields t fs) new result → IsTypeIn s.made s.names t
      → AllByRecursion (λ f. IsTypeIn s.made s.names f.1) fs → Answers unit next s (has_fields t fs) new result
  unfolding Asks
  row-answer t fs f k l = f unit next s (has_fields t fs) is (record { known = (k, l); same = refl })

  -- of one type, where the second asks the same with a list for a bound
  pub ask-answer : (a : Ask) (b : D.Ask (List Name)) (t : MlType Name) → Asks old (A.asks a t) new result → IsReboundAsk (IsBound unit next s.names) (ask_of a) b
      → IsTypeIn s.made s.names t → Answers unit next s (asks b t) new result
  unfolding Asks
  ask-answer a b t f same k = f unit next s (asks b t) is (record { known = k; same = (b, same, refl) })
