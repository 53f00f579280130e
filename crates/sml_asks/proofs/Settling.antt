-- Overloaded unknowns that become `int`, as steps.
use Rattle.std.proofs.Common.{◌≡◌, ◌⊎◌, ◌<◌, ℕ, Bool, true, false, Result, Ok, Err, OnOk, List, [], ◌∷◌, ◌++◌, inl, inr, sym, ◌∙◌, ap, subst, refl}
use Rattle.std.specs.Bool.{OnTrue, OnFalse}
use Rattle.std.specs.List.{AllByRecursion}
use Rattle.sml_lex.specs.declared.fault.Place.{Place}
use Rattle.sml_objects.specs.Appearance.{Stands}
use Rattle.sml_objects.specs.Initial.{Name, initial, naming}
use Rattle.sml_objects.specs.Names.{int}
use Rattle.sml_objects.specs.Objects.{MlType, free, name, named}
use Rattle.sml_objects.specs.Types.{replace_type, replace_types}
use Rattle.sml_layers.specs.declared.layer.Layer.{Layer}
use Rattle.sml_layers.specs.Demands.{Demand, equal, Mentions, AllMention}
use Rattle.sml_layers.specs.Worlds.{World, finite, infinite, make, typed, spread, spread_all, world}
use Rattle.sml_graph.specs.Worlds.{Assignment}
use Rattle.sml_graph.specs.declared.demand.Halt.{Halt}
use Rattle.sml_graph.specs.declared.demand.Halt.TheVariants as H
use Rattle.sml_graph.specs.Asked as A
use Rattle.sml_graph.specs.Asked.{Asked, count, Adds, CanMeet, Permits}
use Rattle.sml_graph.specs.Interned.{IsOver, AreOver}
use Rattle.sml_demands.specs.Overloaded as O
use Rattle.sml_demands.specs.Overloaded.{Settles}
use Rattle.sml_solve.specs.Calls.{Returns}
use Rattle.sml_rules.specs.Answers.{Answer, accepted, refused}
use Rattle.sml_core_rules.specs.Expressions.{settle}
use Rattle.sml_core_rules.specs.Scopes.{run_scope}
use Rattle.sml_core_rules.specs.Scripts.{IsAnswer, ◌>>=◌}
use Rattle.sml_core_rules.specs.States.{State, with_demand}
use Rattle.sml_asks.specs.Solvers.{SolverIs, IsDemand}
use Rattle.sml_asks.specs.Closings.{AsksSettled}
use Rattle.sml_asks.proofs.Leaving.{overloaded-same}
use Rattle.sml_asks.proofs.Stepping.{answers}

-- one unknown

abbrev int_type : MlType Name
int_type = named (initial int)

typed-free : (w : World) (σ : Assignment w) (v : ℕ) → typed w σ (free v) ≡ σ v
unfolding replace_type spread
typed-free finite σ v = refl
typed-free infinite σ v = refl

typed-int : (w : World) (σ : Assignment w) → typed w σ int_type ≡ make w (name (initial int)) []
unfolding replace_type replace_types spread spread_all
typed-int finite σ = refl
typed-int infinite σ = refl

settled-adds : (old new : Asked) (v : ℕ) → O.IsOverloaded old v → Settles old (v ∷ []) new → Adds old (A.equal (free v) int_type) new
unfolding Adds Settles Stands
settled-adds old new v o s l σ = (
  λ p. let q = (s l σ).0 p in (q.0, typed-free (world l) σ v ∙ (q.1 v (inl refl) o ∙ sym (typed-int (world l) σ))),
  λ (p, h). (s l σ).1 (p, λ w k x. only w k (sym (typed-free (world l) σ v) ∙ (h ∙ typed-int (world l) σ))),
)
  where
    only : (w : ℕ) → (w ≡ v) ⊎ ⊥ → σ v ≡ make (world l) (name (initial int)) [] → σ w ≡ make (world l) (name (initial int)) []
    only w (inl e) h = ap σ e ∙ h
    only w (inr e) h = absurd e

module _ (unit next : ℕ) (old new : Asked) (s : State Place Name) (v : ℕ) (is : SolverIs unit next old s) (below : v < s.made) where
  abbrev default : Demand Name (List Name)
  default = equal (free v) int_type

  default-asked : IsDemand unit next s.made s.names (A.equal (free v) int_type) default
  unfolding IsOver AreOver Mentions AllMention
  default-asked = record { known = ((below, tt), (tt, (is.known.initials int, tt))); same = refl }

  settled-is : O.IsOverloaded old v → ((l : Layer) → CanMeet l old (A.equal (free v) int_type)) → Settles old (v ∷ []) new → count new ≡ count old → new.unit ≡ old.unit → new.spent ≡ false
      → SolverIs unit next new (with_demand default s)
  settled-is o can t n u q = answers unit next old new s (A.equal (free v) int_type) default is default-asked (Ok tt) (record {
    ok = settled-adds old new v o t;
    met = can;
    unmet = λ l e. absurd (cc);
    labels = λ e. cc;
    count = n;
    returns = record { unit = u; kept = q; err = tt; spent = ((λ e. absurd (cc)), λ e. absurd (let f : old.spent ≡ false = is.spent in cc)) };
  })

pub settled-yes : (old new : Asked) (v : ℕ) → O.IsOverloaded old v → ((l : Layer) → CanMeet l old (A.equal (free v) int_type)) → Settles old (v ∷ []) new → count new ≡ count old
    → new.unit ≡ old.unit → new.spent ≡ false → AsksSettled old (v ∷ []) new
unfolding AsksSettled IsAnswer ◌>>=◌ naming
settled-yes old new v o can t n u q unit next s is below =
    let after : SolverIs unit next new (with_demand (equal (free v) int_type) s) = settled-is unit next old new s v is below.0 o can t n u q in
    (equal (free v) int_type ∷ s.demands, after, λ p. inl ((overloaded-same unit next old s is v).1 o, inl (after.met, refl)))

pub settled-no : (old : Asked) (v : ℕ) → (O.IsOverloaded old v → ⊥) → AsksSettled old (v ∷ []) old
unfolding AsksSettled IsAnswer ◌>>=◌
settled-no old v o unit next s is below = (s.demands, is, λ p. inr ((λ x. o ((overloaded-same unit next old s is v).0 x)), refl))

-- the same, where the solver was asked whether it is overloaded
pub settled-so : (old new : Asked) (v : ℕ) (b : Bool) (result : Result (Unit {0}) Halt) → b ≡ true → OnTrue b (O.IsOverloaded old v)
    → OnTrue b ((l : Layer) → CanMeet l old (A.equal (free v) int_type)) → OnOk result (Settles old (v ∷ []) new) → count new ≡ count old → Returns old new result H.Spent
    → OnOk result (AsksSettled old (v ∷ []) new)
settled-so old new v true (Ok x) e o can t n r = settled-yes old new v o can t n r.unit r.kept
settled-so old new v true (Err h) e o can t n r = tt
settled-so old new v false result e o can t n r = absurd (cc)

pub settled-not : (old : Asked) (v : ℕ) (b : Bool) → b ≡ false → OnFalse b (O.IsOverloaded old v → ⊥) → AsksSettled old (v ∷ []) old
settled-not old v false e o = settled-no old v o
settled-not old v true e o = absurd (cc)

pub settled-none : (old : Asked) → AsksSettled old [] old
unfolding AsksSettled IsAnswer
settled-none old unit next s is below = (s.demands, is, λ p. refl)

-- one after the other

state_of : State Place Name → Answer Place ((Unit {0}) × State Place Name) → State Place Name
state_of s (refused f) = s
state_of s (accepted r) = r.1

module _ (unit : ℕ) (p : Place) (v : ℕ) (last : State Place Name) (o : Answer Place ((Unit {0}) × State Place Name)) where
  one-more : (vs : List ℕ) (s : State Place Name) → IsAnswer (run_scope unit) (settle (run_scope unit) p vs) s (accepted (tt, last))
      → IsAnswer (run_scope unit) (settle (run_scope unit) p (v ∷ [])) last o → IsAnswer (run_scope unit) (settle (run_scope unit) p (vs ++ v ∷ [])) s o
  unfolding IsAnswer ◌>>=◌ state_of
  one-more [] s a b = subst (λ s. IsAnswer (run_scope unit) (settle (run_scope unit) p (v ∷ [])) s o) (ap (state_of s) a) b
  one-more (w ∷ ws) s (inl (c, inl (m, a))) b = inl (c, inl (m, one-more ws _ a b))
  one-more (w ∷ ws) s (inl (c, inr (l, f, e))) b = absurd (cc)
  one-more (w ∷ ws) s (inr (c, a)) b = inr (c, one-more ws s a b)

all-split : (n v : ℕ) (vs : List ℕ) → AllByRecursion (λ w. w < n) (vs ++ v ∷ []) → AllByRecursion (λ w. w < n) vs × (v < n)
all-split n v [] h = (tt, h.0)
all-split n v (w ∷ ws) h = let r : AllByRecursion (λ w. w < n) ws × (v < n) = all-split n v ws h.1 in ((h.0, r.0), r.1)

pub settled-more : (old mid new : Asked) (vs : List ℕ) (v : ℕ) → AsksSettled old vs mid → AsksSettled mid (v ∷ []) new → AsksSettled old (vs ++ v ∷ []) new
unfolding AsksSettled
settled-more old mid new vs v f g unit next s is below =
    let b : AllByRecursion (λ w. w < s.made) vs × (v < s.made) = all-split s.made v vs below in
    let x = f unit next s is b.0 in
    let y = g unit next (record s { demands = x.0 }) x.1 (b.1, tt) in
    (y.0, y.1, λ p. one-more unit p v (record s { demands = x.0 }) (accepted (tt, record s { demands = y.0 })) vs s (x.2 p) (y.2 p))

-- where the unknowns were made, the solver is as it was
pub settled-after : (old mid new : Asked) (vs : List ℕ) → (AllByRecursion (λ v. v < count old) vs → mid ≡ old) → AsksSettled mid vs new → AsksSettled old vs new
unfolding AsksSettled
settled-after old mid new vs same f unit next s is below =
    f unit next s (subst (λ m. SolverIs unit next m s) (sym (same (subst (λ n. AllByRecursion (λ v. v < n) vs) (sym is.unknowns) below))) is) below

pub settled-all : (old mid new : Asked) (vs : List ℕ) (result : Result (Unit {0}) Halt) → (AllByRecursion (λ v. v < count old) vs → mid ≡ old)
    → OnOk result (AsksSettled mid vs new) → OnOk result (AsksSettled old vs new)
settled-all old mid new vs (Ok x) same f = settled-after old mid new vs same f
settled-all old mid new vs (Err h) same f = tt
