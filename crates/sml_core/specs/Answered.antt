-- What calls of elaboration say of scripts: in each state that a context is that of, the answer is one that the script of the phrase may
-- be given there, and where it is an object, the context is that of the state after it. Nothing is said after want of memory.
use Rattle.std.specs.List.{AllByRecursion}
use Rattle.std.specs.Prelude.{◌≡◌, ◌≤◌, ℕ, List, [], ◌++◌, map, Option, Some, None, Result, Ok, Err, ◌<◌, ◌+◌, Bool, length}
use Rattle.std.specs.Global.{Global}
use Rattle.std.specs.declared.rc.Rc.{Rc}
use Rattle.sml_lex.specs.Faults.{fault_of}
use Rattle.sml_lex.specs.declared.fault.Place.{Place}
use Rattle.sml_tree.specs.Expressions.{Exp, Exps, Fields, Rules, constant, name, row, tuple, let_in, bracket, apply, typed, handle, raise, fn, no_exp, and_exp, field, no_field, and_field, rule, no_rule, and_rule}
use Rattle.sml_objects.specs.Appearance.{Stands}
use Rattle.sml_objects.specs.Initial.{Name}
use Rattle.sml_objects.specs.Maps.{Map}
use Rattle.sml_objects.specs.Objects.{MlType}
use Rattle.sml_objects.specs.Views.{maker_of, type_of}
use Rattle.sml_objects.specs.declared.objects.MlType as P
use Rattle.sml_rules.specs.Answers.{refused, accepted, fault_at}
use Rattle.sml_lex.specs.declared.fault.Code.TheVariants.{E3}
use Rattle.sml_tree.specs.Trees.{Id}
use Rattle.sml_rules.specs.Lookups.{Found, found, no_entry, no_path}
use Rattle.sml_bases.specs.Views.{value_of}
use Rattle.sml_bases.specs.declared.objects.Value as V
use Rattle.sml_layers.specs.declared.layer.Bound.{Bound}
use Rattle.sml_layers.specs.Demands.{asks, within}
use Rattle.sml_core_rules.specs.Objects.{Env, Value, Status}
use Rattle.sml_core_rules.specs.Scopes.{run_scope}
use Rattle.sml_core_rules.specs.Scripts.{Script, IsAnswer, new_unknown, require, ◌>>=◌}
use Rattle.sml_core_rules.specs.States.{State, Window, no_window}
use Rattle.sml_core_rules.specs.Values.{applied, apply_general, instance, require_attributes, require_equal, require_status}
use Rattle.sml_core_rules.specs.Expressions.{at_first, exn_type, read_exp, read_fields}
use Rattle.sml_scopes.specs.Means.{Means, MeansAt}
use Rattle.sml_scopes.specs.declared.scopes.Mark.{Mark}
use Rattle.sml_types.specs.declared.fault.CoreFault.{CoreFault}
use Rattle.sml_types.specs.declared.fault.CoreFault.TheVariants.{Memory, Fault}
use Rattle.sml_asks.specs.Solvers.{IsBound, IsTypeIn, SolverIs}
use Rattle.sml_core.specs.Seen.{AreScoped, IsValueIn, Sees, WhereOverloaded}
use Rattle.sml_core.specs.declared.context.Context.{Context}

-- the unit that a context makes names for, and the scope of its names
abbrev pub unit_of : Context → ℕ
unit_of c = maker_of c.new.unit

-- the flexible rows of a context, each with the place that asks for its labels
abbrev pub rows_of : Context → List (Place × MlType Name)
rows_of c = map (λ r. (r.0, type_of r.1.value)) c.rows.items

-- A context is that of a state inside value declarations that have these rows and overloaded identifiers, and keeps nothing for who asks
-- why a declaration is refused.
pub record IsAt (around : Window Place Name) (c : Context) (s : State Place Name) : Type 0 where
  pub solver : SolverIs (unit_of c) c.new.next c.solver s
  pub rows : rows_of c ≡ around.rows ++ s.window.rows
  pub overloaded : c.overloaded.items ≡ around.overloaded ++ s.window.overloaded
  pub quiet : c.recorder.wanted ≡ None

-- what was made in the first state was made in the second
pub record IsLater (s t : State Place Name) : Type 0 where
  pub made : s.made ≤ t.made
  pub names : (n : Name) → Stands n s.names → Stands n t.names

-- The scopes mean whatever they meant, around each mark too, and explicit variables stand for what they stood for.
pub record Keeps (old new : Context) : Type 0 where
  pub means : (C : Env Name) → Means old.scopes C → Means new.scopes C
  pub around : (C : Env Name) (m : Mark) → MeansAt old.scopes m C → MeansAt new.scopes m C
  pub scoped : (vs : Map (MlType Name)) → AreScoped old.explicit vs → AreScoped new.explicit vs

-- A context is at the beginning of a run over these names, and sees this environment and no explicit type variable.
pub record Begins (C : Env Name) (ns : List Name) (c : Context) : Type 0 where
  pub at : IsAt no_window c (at_first ns)
  pub sees : Sees C [] c (at_first ns)

-- After the script's answer with an object the context is that of a later state, of the same unit, and sees what it saw.
pub record Reaches {X : Type 0} (around : Window Place Name) (old : Context) (k : Script Place Name X) (s : State Place Name) (new : Context) (x : X) (t : State Place Name) : Type 0 where
  pub answer : IsAnswer (run_scope (unit_of old)) k s (accepted (x, t))
  pub at : IsAt around new t
  pub unit : unit_of new ≡ unit_of old
  pub seen : Keeps old new
  pub later : IsLater s t

-- The answer is one that the script may be given. Of its object this is true.
abbrev pub AnswersAs : {X Y : Type 0} → (Y → X) → (X → State Place Name → Type 0) → Window Place Name → Context → Script Place Name X → State Place Name → Context
    → Result Y CoreFault → Type 0
AnswersAs view Q around old k s new (Ok y) = (t : State Place Name) × Reaches around old k s new (view y) t × Q (view y) t
AnswersAs view Q around old k s new (Err (Fault f)) = IsAnswer (run_scope (unit_of old)) k s (refused (fault_of f))
AnswersAs view Q around old k s new (Err Memory) = Unit {0}

-- a call answers no object
abbrev pub Does : Window Place Name → Context → Script Place Name (Unit {0}) → State Place Name → Context → Result (Unit {0}) CoreFault → Type 0
Does around old k s new result = AnswersAs (λ u. u) (λ u t. Unit {0}) around old k s new result

-- a call answers a type, which speaks of what was made
abbrev pub Types : Window Place Name → Context → Script Place Name (MlType Name) → State Place Name → Context → Result (Rc P.MlType Global) CoreFault → Type 0
Types around old k s new result = AnswersAs (λ t. type_of t.value) (λ t u. IsTypeIn u.made u.names t) around old k s new result

-- A call makes an unknown.
unfoldable pub MakesUnknown : Context → Context → Result (Rc P.MlType Global) CoreFault → Type 0
MakesUnknown old new result = (around : Window Place Name) (s : State Place Name) → IsAt around old s → Types around old new_unknown s new result

-- A call keeps what is wanted of a demand for who asks why: nothing, where nothing is wanted.
unfoldable pub Watches : Context → Context → Result (Unit {0}) CoreFault → Type 0
Watches old new result = old.recorder.wanted ≡ None → (result ≡ Ok tt) × (new ≡ record old { recorder = new.recorder }) × (new.recorder.wanted ≡ None)

-- A call demands that two types are equal, which speak of what was made.
unfoldable pub Equates : Context → Place → MlType Name → MlType Name → Context → Result (Unit {0}) CoreFault → Type 0
Equates old p t u new result =
    (around : Window Place Name) (s : State Place Name) → IsAt around old s → IsTypeIn s.made s.names t → IsTypeIn s.made s.names u
    → Does around old (require_equal p t u) s new result

-- A call demands that a type, which speaks of what was made, mentions only names with lower numbers than this, and the names that a list has,
-- where these are the same.
unfoldable pub Limits : Context → Place → MlType Name → Bound → ℕ → Context → Result (Unit {0}) CoreFault → Type 0
Limits old p t b most new result =
    (around : Window Place Name) (s : State Place Name) (list : List Name) → IsAt around old s → IsTypeIn s.made s.names t → IsBound (unit_of old) old.new.next s.names most list
    → Does around old (require (asks (within b list) t) p) s new result

-- A call applies what has the first type to what has the second.
unfoldable pub Applies : Context → Place → MlType Name → MlType Name → Context → Result (Rc P.MlType Global) CoreFault → Type 0
Applies old p t a new result =
    (around : Window Place Name) (s : State Place Name) → IsAt around old s → IsTypeIn s.made s.names t → IsTypeIn s.made s.names a
    → Types around old (applied p t a) s new result

-- It makes the first an arrow from the second.
unfoldable pub AppliesSo : Context → Place → MlType Name → MlType Name → Context → Result (Rc P.MlType Global) CoreFault → Type 0
AppliesSo old p t a new result =
    (around : Window Place Name) (s : State Place Name) → IsAt around old s → IsTypeIn s.made s.names t → IsTypeIn s.made s.names a
    → Types around old (apply_general p t a) s new result

-- A call asks of unknowns from a number on what variables with these equality attributes ask.
unfoldable pub AsksAttributes : Context → Place → ℕ → List Bool → Context → Result (Unit {0}) CoreFault → Type 0
AsksAttributes old p k es new result =
    (around : Window Place Name) (s : State Place Name) → IsAt around old s → k + length es ≤ s.made → Does around old (require_attributes p k es) s new result

-- A call asks of an unknown what the status of its value asks.
unfoldable pub AsksStatus : Context → Place → ℕ → Status → Context → Result (Unit {0}) CoreFault → Type 0
AsksStatus old p k w new result =
    (around : Window Place Name) (s : State Place Name) → IsAt around old s → WhereOverloaded w (k < s.made) → Does around old (require_status p k w) s new result

-- this value, none, or E3 with the beginning of the path that leads nowhere
abbrev pub FindsValue : Place → Result (Option V.Value) CoreFault → Found (Value Name) → Type 0
FindsValue p (Ok (Some v)) f = f ≡ found (value_of v)
FindsValue p (Ok None) f = f ≡ no_entry
FindsValue p (Err Memory) f = Unit {0}
FindsValue p (Err (Fault g)) f = (s : List Id) × (f ≡ no_path s) × (fault_of g ≡ fault_at E3 p s)

-- A call makes an instance of a value.
unfoldable pub MakesInstance : Context → Place → Value Name → Context → Result (Rc P.MlType Global) CoreFault → Type 0
MakesInstance old p v new result =
    (around : Window Place Name) (s : State Place Name) → IsAt around old s → IsValueIn s.made s.names v → Types around old (instance p v) s new result

-- A call raises what has the type.
unfoldable pub Raises : Context → Place → MlType Name → Context → Result (Rc P.MlType Global) CoreFault → Type 0
Raises old p t new result =
    (around : Window Place Name) (s : State Place Name) → IsAt around old s → IsTypeIn s.made s.names t
    → Types around old (require_equal p t (exn_type (run_scope (unit_of old))) >>= λ u. new_unknown) s new result

-- without declarations
unfoldable mutual
  pub IsPlain : Exp Place → Type 0
  IsPlain (constant p c) = Unit {0}
  IsPlain (name p x) = Unit {0}
  IsPlain (row p fs) = ArePlainFields fs
  IsPlain (tuple p es) = ArePlain es
  IsPlain (let_in p ds e) = ⊥
  IsPlain (bracket p e) = IsPlain e
  IsPlain (apply p f e) = IsPlain f × IsPlain e
  IsPlain (typed p e t) = IsPlain e
  IsPlain (handle p e m) = IsPlain e × ArePlainRules m
  IsPlain (raise p e) = IsPlain e
  IsPlain (fn p m) = ArePlainRules m

  pub ArePlain : Exps Place → Type 0
  ArePlain no_exp = Unit {0}
  ArePlain (and_exp e es) = IsPlain e × ArePlain es

  pub ArePlainFields : Fields Place → Type 0
  ArePlainFields no_field = Unit {0}
  ArePlainFields (and_field (field l e) fs) = IsPlain e × ArePlainFields fs

  pub ArePlainRules : Rules Place → Type 0
  ArePlainRules no_rule = Unit {0}
  ArePlainRules (and_rule (rule p q e) m) = IsPlain e × ArePlainRules m

-- A call reads an expression in an environment and with types of explicit variables that the context sees.
unfoldable pub Reads : Context → Exp Place → Context → Result (Rc P.MlType Global) CoreFault → Type 0
Reads old e new result =
    IsPlain e → (C : Env Name) (vs : Map (MlType Name)) (around : Window Place Name) (s : State Place Name) → IsAt around old s → Sees C vs old s
    → Types around old (read_exp (run_scope (unit_of old)) C vs e) s new result

-- fields with their types
abbrev pub Row : Type 0
Row = List (Id × MlType Name)

-- the types of fields speak of what was made
abbrev pub AreFieldsIn : Row → State Place Name → Type 0
AreFieldsIn r s = AllByRecursion (λ f. IsTypeIn s.made s.names f.1) r

-- A call reads fields, one after the other.
unfoldable pub ReadsFields : {Y : Type 0} → (Y → Row) → Context → Fields Place → Context → Result Y CoreFault → Type 0
ReadsFields view old fs new result =
    ArePlainFields fs → (C : Env Name) (vs : Map (MlType Name)) (around : Window Place Name) (s : State Place Name) → IsAt around old s → Sees C vs old s
    → AnswersAs view AreFieldsIn around old (read_fields (run_scope (unit_of old)) C vs [] fs) s new result
