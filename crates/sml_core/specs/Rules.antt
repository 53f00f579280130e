-- What calls read of matches: rules one after the other, each with the variables of its pattern bound, and `handle`.
use Rattle.std.specs.Prelude.{false, [], Option, Some, None, Result, Ok, Err}
use Rattle.std.specs.Global.{Global}
use Rattle.std.specs.declared.rc.Rc.{Rc}
use Rattle.sml_lex.specs.Faults.{fault_of}
use Rattle.sml_lex.specs.declared.fault.Fault.{Fault as CodeFault}
use Rattle.sml_lex.specs.declared.fault.Place.{Place}
use Rattle.sml_tree.specs.Trees.{Id}
use Rattle.sml_tree.specs.Expressions.{Rule, Rules, rule}
use Rattle.sml_objects.specs.Initial.{Name}
use Rattle.sml_objects.specs.Maps.{Map}
use Rattle.sml_objects.specs.Objects.{MlType, arrow_of, mono}
use Rattle.sml_objects.specs.Views.{type_of}
use Rattle.sml_objects.specs.declared.objects.MlType as P
use Rattle.sml_rules.specs.Answers.{refused}
use Rattle.sml_core_rules.specs.Objects.{Env, Value, extend, of_values, variable}
use Rattle.sml_core_rules.specs.Scopes.{run_scope}
use Rattle.sml_core_rules.specs.Scripts.{Script, IsAnswer, give, ◌>>=◌}
use Rattle.sml_core_rules.specs.States.{Scope, State, Window, of_handle}
use Rattle.sml_core_rules.specs.Patterns.{Bindings, Typed, pattern_place, read_pat, typed}
use Rattle.sml_core_rules.specs.Expressions.{bound_values, exn_type, judge_patterns, like_first, read_exp, read_rules, require_bindings, rule_patterns}
use Rattle.sml_core_rules.specs.Values.{require_equal}
use Rattle.sml_scopes.specs.Means.{Means, MeansAt}
use Rattle.sml_scopes.specs.declared.scopes.Mark.{Mark}
use Rattle.sml_types.specs.declared.fault.CoreFault.{CoreFault}
use Rattle.sml_types.specs.declared.fault.CoreFault.TheVariants.{Memory, Fault}
use Rattle.sml_warnings.specs.Lost.{IsLost, StandsInPatterns}
use Rattle.sml_asks.specs.Solvers.{IsTypeIn}
use Rattle.sml_core.specs.Answered.{ArePlainRules, IsAt, IsPlain, Reaches, Types, unit_of}
use Rattle.sml_core.specs.Seen.{Sees}
use Rattle.sml_core.specs.Patterns.{AreBoundIn}
use Rattle.sml_core.specs.declared.context.Context.{Context}

-- what a variable of one type is bound to
abbrev pub variable_entry : Id → MlType Name → Id × Value Name
variable_entry x t = (x, record { scheme = mono t; status = variable })

-- what a rule asks before its expression: its pattern, and that the variables mention only names made so far
abbrev pub read_rule_pattern : Scope Name → Env Name → Map (MlType Name) → Rule Place → Script Place Name (Typed Name (MlType Name))
read_rule_pattern scope C vs (rule p q e) = do
  r ← read_pat scope false C vs [] q
  u ← require_bindings scope (pattern_place q) r.bound
  give r

-- the environment with these variables
abbrev pub with_bound : Env Name → Bindings Name → Env Name
with_bound C bs = extend C (of_values (bound_values bs))

-- The script of the pattern reached this state; apart from its variables, which are bound, the context sees what it saw.
pub record IsOpened (around : Window Place Name) (old : Context) (r : Rule Place) (C : Env Name) (vs : Map (MlType Name)) (s : State Place Name) (new : Context) (t : MlType Name) (bs : Bindings Name)
    (u : State Place Name) : Type 0 where
  pub reaches : Reaches around old (read_rule_pattern (run_scope (unit_of old)) C vs r) s (record new { scopes = old.scopes }) (typed t bs) u
  pub type : IsTypeIn u.made u.names t
  pub bound : AreBoundIn u bs
  pub means : Means new.scopes (with_bound C bs)
  pub stays : (D : Env Name) (m : Mark) → MeansAt old.scopes m D → MeansAt new.scopes m D

-- A call reads the pattern of a rule, and binds its variables.
unfoldable pub OpensRule : Context → Rule Place → Context → Result (Rc P.MlType Global) CoreFault → Type 0
OpensRule old r new (Ok t) =
    (bs : Bindings Name)
    × ((C : Env Name) (vs : Map (MlType Name)) (around : Window Place Name) (s : State Place Name) → IsAt around old s → Sees C vs old s
    → (u : State Place Name) × IsOpened around old r C vs s new (type_of t.value) bs u)
OpensRule old r new (Err Memory) = Unit {0}
OpensRule old r new (Err (Fault f)) =
    (C : Env Name) (vs : Map (MlType Name)) (around : Window Place Name) (s : State Place Name) → IsAt around old s → Sees C vs old s
    → IsAnswer (run_scope (unit_of old)) (read_rule_pattern (run_scope (unit_of old)) C vs r) s (refused (fault_of f))

-- the type of a rule: an arrow from that of its pattern to that of its expression
abbrev pub read_rule : Scope Name → Env Name → Map (MlType Name) → Rule Place → Script Place Name (MlType Name)
read_rule scope C vs (rule p q e) = do
  r ← read_rule_pattern scope C vs (rule p q e)
  t ← read_exp scope (with_bound C r.bound) vs e
  give (arrow_of r.type t)

abbrev pub IsPlainRule : Rule Place → Type 0
IsPlainRule (rule p q e) = IsPlain e

-- A call reads a rule.
unfoldable pub ReadsRule : Context → Rule Place → Context → Result (Rc P.MlType Global) CoreFault → Type 0
ReadsRule old r new result =
    IsPlainRule r → (C : Env Name) (vs : Map (MlType Name)) (around : Window Place Name) (s : State Place Name) → IsAt around old s → Sees C vs old s
    → Types around old (read_rule (run_scope (unit_of old)) C vs r) s new result

-- the type of the rules so far, if there were any, speaks of what was made
abbrev pub IsFirstIn : Option (MlType Name) → State Place Name → Type 0
IsFirstIn None s = Unit {0}
IsFirstIn (Some t) s = IsTypeIn s.made s.names t

-- A call makes the type of a rule like that of the first one.
unfoldable pub LikeFirst : Context → Place → Option (MlType Name) → MlType Name → Context → Result (Rc P.MlType Global) CoreFault → Type 0
LikeFirst old p first t new result =
    (around : Window Place Name) (s : State Place Name) → IsAt around old s → IsFirstIn first s → IsTypeIn s.made s.names t
    → Types around old (like_first (run_scope (unit_of old)) p first t) s new result

-- A call reads the rules of a match.
unfoldable pub ReadsRules : Context → Rules Place → Context → Result (Rc P.MlType Global) CoreFault → Type 0
ReadsRules old m new result =
    ArePlainRules m → (C : Env Name) (vs : Map (MlType Name)) (around : Window Place Name) (s : State Place Name) → IsAt around old s → Sees C vs old s
    → Types around old (read_rules (run_scope (unit_of old)) C vs None m) s new result

-- no identifier in the patterns of a match has a path that leads nowhere
abbrev pub NoneIsLost : Env Name → Rules Place → Type 0
NoneIsLost C m = (g : CodeFault) → StandsInPatterns (IsLost C g) (rule_patterns m) → ⊥

-- what `handle` asks after its expression and its match
abbrev pub handle_so : Scope Name → Place → Env Name → MlType Name → MlType Name → Rules Place → Script Place Name (MlType Name)
handle_so scope p C t h m = do
  u ← require_equal p h (arrow_of (exn_type scope) t)
  j ← judge_patterns scope (of_handle p) C (rule_patterns m)
  give t

-- A call asks that, of types which speak of what was made.
unfoldable pub Handles : Context → Place → MlType Name → MlType Name → Rules Place → Context → Result (Rc P.MlType Global) CoreFault → Type 0
Handles old p t h m new result =
    (C : Env Name) (vs : Map (MlType Name)) (around : Window Place Name) (s : State Place Name) → IsAt around old s → Sees C vs old s → IsTypeIn s.made s.names t
    → IsTypeIn s.made s.names h → NoneIsLost C m → Types around old (handle_so (run_scope (unit_of old)) p C t h m) s new result
