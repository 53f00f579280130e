-- Answers of scripts in sequence, of the contexts before, between and after.
use Rattle.std.proofs.Common.{◌≡◌, ◌≤◌, ℕ, length, Result, Ok, Err, subst, sym, ◌∙◌, arith}
use Rattle.std.specs.Result.{IsErrAnd}
use Rattle.sml_lex.specs.Faults.{Fault, fault_of}
use Rattle.sml_lex.specs.declared.fault.Place.{Place}
use Rattle.sml_objects.specs.Appearance.{Stands}
use Rattle.sml_objects.specs.Initial.{Name}
use Rattle.sml_objects.specs.Maps.{Map}
use Rattle.sml_objects.specs.Objects.{MlType, MlTypes, bound, free, app, arrow, row, name, no_type, and_type}
use Rattle.sml_layers.specs.Demands.{Mentions, AllMention}
use Rattle.sml_graph.specs.Interned.{IsOver, AreOver, IsBodyOver, AreBodiesOver}
use Rattle.sml_rules.specs.Answers.{accepted, refused}
use Rattle.sml_core_rules.specs.Objects.{Env}
use Rattle.sml_core_rules.specs.Scopes.{run_scope}
use Rattle.sml_core_rules.specs.Scripts.{Script, IsAnswer, ◌>>=◌}
use Rattle.sml_core_rules.specs.States.{State, Window}
use Rattle.sml_core_rules.proofs.Accepted.{bind-joined}
use Rattle.sml_core_rules.proofs.Refused.{bind-refused}
use Rattle.sml_types.specs.declared.fault.CoreFault.{CoreFault}
use Rattle.sml_types.specs.declared.fault.CoreFault.TheVariants as F
use Rattle.sml_asks.specs.Solvers.{IsTypeIn}
use Rattle.sml_core.specs.declared.context.Context.{Context}
use Rattle.sml_core.specs.Answered.{AnswersAs, IsLater, Keeps, Reaches, unit_of}
use Rattle.sml_core.specs.Seen.{AreFunctionsIn, AreValuesIn, Sees}

-- an error that was handed on
pub by-err : {X : Type 0} (Q : Result X CoreFault → Type 0) (result : Result X CoreFault) (e : CoreFault) → IsErrAnd result (λ f. f ≡ e) → Q (Err e) → Q result
by-err Q (Ok x) e is q = absurd is
by-err Q (Err f) e is q = subst (λ f. Q (Err f)) (sym is) q

pub no-later : (s : State Place Name) → IsLater s s
no-later s = record { made = omega arith; names = λ n h. h }

-- a type that speaks of what was made speaks of what was made later

mutual
  unfolding IsOver AreOver

  over-later : (k n : ℕ) → k ≤ n → (t : MlType Name) → IsOver k t → IsOver n t
  over-later k n le (bound v) o = o
  over-later k n le (free v) o = omega (arith, le, o)
  over-later k n le (app h ts) o = all-over-later k n le ts o

  all-over-later : (k n : ℕ) → k ≤ n → (ts : MlTypes Name) → AreOver k ts → AreOver n ts
  all-over-later k n le no_type o = tt
  all-over-later k n le (and_type t ts) o = (over-later k n le t o.0, all-over-later k n le ts o.1)

module _ (P Q : Name → Type 0) (more : (n : Name) → P n → Q n) where
  mutual
    unfolding Mentions AllMention

    mentions-more : (t : MlType Name) → Mentions P t → Mentions Q t
    mentions-more (bound v) m = tt
    mentions-more (free v) m = tt
    mentions-more (app arrow ts) m = (tt, all-mention-more ts m.1)
    mentions-more (app (row ls) ts) m = (tt, all-mention-more ts m.1)
    mentions-more (app (name n) ts) m = (more n m.0, all-mention-more ts m.1)

    all-mention-more : (ts : MlTypes Name) → AllMention P ts → AllMention Q ts
    all-mention-more no_type m = tt
    all-mention-more (and_type t ts) m = (mentions-more t m.0, all-mention-more ts m.1)

pub type-later : (s t : State Place Name) → IsLater s t → (u : MlType Name) → IsTypeIn s.made s.names u → IsTypeIn t.made t.names u
type-later s t l u k = (over-later s.made t.made l.made u k.0, mentions-more (λ n. Stands n s.names) (λ n. Stands n t.names) l.names u k.1)

-- so do the values of an environment

mutual
  unfolding IsBodyOver AreBodiesOver

  body-later : (b k n : ℕ) → k ≤ n → (t : MlType Name) → IsBodyOver b k t → IsBodyOver b n t
  body-later b k n le (bound i) o = o
  body-later b k n le (free v) o = omega (arith, le, o)
  body-later b k n le (app h ts) o = bodies-later b k n le ts o

  bodies-later : (b k n : ℕ) → k ≤ n → (ts : MlTypes Name) → AreBodiesOver b k ts → AreBodiesOver b n ts
  bodies-later b k n le no_type o = tt
  bodies-later b k n le (and_type t ts) o = (body-later b k n le t o.0, bodies-later b k n le ts o.1)

pub values-later : (s t : State Place Name) → IsLater s t → (C : Env Name) → AreValuesIn s.made s.names C → AreValuesIn t.made t.names C
unfolding AreValuesIn
values-later s t l C known = λ x v f.
    let is = known x v f in
    record {
      unknowns = body-later (length v.scheme.variables) s.made t.made l.made v.scheme.body is.unknowns;
      mentions = mentions-more (λ n. Stands n s.names) (λ n. Stands n t.names) l.names v.scheme.body is.mentions;
      status = is.status;
    }

pub functions-later : (s t : State Place Name) → IsLater s t → (C : Env Name) → AreFunctionsIn s.made s.names C → AreFunctionsIn t.made t.names C
unfolding AreFunctionsIn
functions-later s t l C known = λ c f is.
    let k = known c f is in
    record {
      unknowns = body-later (length f.function.variables) s.made t.made l.made f.function.body k.unknowns;
      mentions = mentions-more (λ n. Stands n s.names) (λ n. Stands n t.names) l.names f.function.body k.mentions;
    }

-- what is seen stays so

pub keeps-all : {c : Context} → Keeps c c
keeps-all = record { means = λ C h. h; around = λ C m h. h; scoped = λ vs h. h }

pub keeps-more : {old mid new : Context} → Keeps old mid → Keeps mid new → Keeps old new
keeps-more k l = record { means = λ C h. l.means C (k.means C h); around = λ C m h. l.around C m (k.around C m h); scoped = λ vs h. l.scoped vs (k.scoped vs h) }

pub sees-later : {C : Env Name} {vs : Map (MlType Name)} {old new : Context} {s t : State Place Name} → Keeps old new → IsLater s t → Sees C vs old s → Sees C vs new t
sees-later {C} {vs} {old} {new} {s} {t} k l sees = record {
  means = k.means C sees.means;
  values = values-later s t l C sees.values;
  functions = functions-later s t l C sees.functions;
  scoped = k.scoped vs sees.scoped;
  variables = λ x u is. type-later s t l u (sees.variables x u is);
  spelled = sees.spelled;
}

pub sees-after : {X : Type 0} {around : Window Place Name} {old new : Context} {k : Script Place Name X} {s t : State Place Name} {x : X} {C : Env Name} {vs : Map (MlType Name)}
    → Reaches around old k s new x t → Sees C vs old s → Sees C vs new t
sees-after r sees = sees-later r.seen r.later sees

pub later-still : {s t u : State Place Name} → IsLater s t → IsLater t u → IsLater s u
later-still k l = record { made = omega (arith, k.made, l.made); names = λ n h. l.names n (k.names n h) }

-- one after the other

module _ {X Y : Type 0} (around : Window Place Name) (old mid : Context) (k : Script Place Name X) (next : X → Script Place Name Y) (s t : State Place Name) (x : X)
    (first : Reaches around old k s mid x t) where
  joined : (o : _) → IsAnswer (run_scope (unit_of mid)) (next x) t o → IsAnswer (run_scope (unit_of old)) (k >>= next) s o
  joined o a = bind-joined (run_scope (unit_of old)) k next s (x, t) o first.answer (subst (λ u. IsAnswer (run_scope u) (next x) t o) first.unit a)

  pub then-reaches : (new : Context) (y : Y) (u : State Place Name) → Reaches around mid (next x) t new y u → Reaches around old (k >>= next) s new y u
  then-reaches new y u then = record {
    answer = joined (accepted (y, u)) then.answer;
    at = then.at;
    unit = then.unit ∙ first.unit;
    seen = keeps-more first.seen then.seen;
    later = record { made = omega (arith, first.later.made, then.later.made); names = λ n h. then.later.names n (first.later.names n h) };
  }

  pub then-refused : (f : Fault Place) → IsAnswer (run_scope (unit_of mid)) (next x) t (refused f) → IsAnswer (run_scope (unit_of old)) (k >>= next) s (refused f)
  then-refused f a = joined (refused f) a

pub first-refused : {X Y : Type 0} (old : Context) (k : Script Place Name X) (next : X → Script Place Name Y) (s : State Place Name) (f : Fault Place) → IsAnswer (run_scope (unit_of old)) k s (refused f)
    → IsAnswer (run_scope (unit_of old)) (k >>= next) s (refused f)
first-refused old k next s f a = bind-refused (run_scope (unit_of old)) k next s f a

-- a call after another one, or after its fault

module _ {X' Y' : Type 0} (view : Y' → X') (Q : X' → State Place Name → Type 0) where
  pub then-answers : {X : Type 0} {around : Window Place Name} {old mid : Context} {k : Script Place Name X} {s t : State Place Name} {x : X} (next : X → Script Place Name X') (new : Context) (result : Result Y' CoreFault)
      → Reaches around old k s mid x t → AnswersAs view Q around mid (next x) t new result → AnswersAs view Q around old (k >>= next) s new result
  then-answers {X} {around} {old} {mid} {k} {s} {t} {x} next new (Ok y) first a = (a.0, then-reaches around old mid k next s t x first new (view y) a.0 a.1, a.2)
  then-answers next new (Err F.Memory) first a = tt
  then-answers {X} {around} {old} {mid} {k} {s} {t} {x} next new (Err (F.Fault f)) first a = then-refused around old mid k next s t x first (fault_of f) a

  pub ends-there : {X Y : Type 0} (first : Y → X) (P : X → State Place Name → Type 0) (around : Window Place Name) (old new : Context) (k : Script Place Name X) (next : X → Script Place Name X') (s : State Place Name) (f : CoreFault)
      → AnswersAs first P around old k s new (Err f) → AnswersAs view Q around old (k >>= next) s new (Err f)
  ends-there first P around old new k next s F.Memory a = tt
  ends-there first P around old new k next s (F.Fault f) a = first-refused old k next s (fault_of f) a

  -- in the scope of another context of the same unit
  pub in-unit : (around : Window Place Name) (old mid new : Context) (k : ℕ → Script Place Name X') (s : State Place Name) (result : Result Y' CoreFault) → unit_of mid ≡ unit_of old
      → AnswersAs view Q around mid (k (unit_of mid)) s new result → AnswersAs view Q around mid (k (unit_of old)) s new result
  in-unit around old mid new k s result e a = subst (λ u. AnswersAs view Q around mid (k u) s new result) e a
