-- What calls say of the beginning of a value declaration: explicit type variables are scoped there, each with an unknown of its own.
use Rattle.std.specs.Prelude.{◌≡◌, ◌<◌, ℕ, false, List, [], ◌∷◌, ◌++◌, length, None, Result, Ok, Err, Vec}
use Rattle.std.specs.Global.{Global}
use Rattle.std.specs.declared.rc.Rc.{Rc}
use Rattle.sml_lex.specs.declared.fault.Place.{Place}
use Rattle.sml_tree.specs.Trees.{Id}
use Rattle.sml_tree.specs.Views.{ident_of}
use Rattle.sml_tree.specs.Withtype.{unlisted}
use Rattle.sml_objects.specs.Initial.{Name}
use Rattle.sml_objects.specs.Maps.{Map}
use Rattle.sml_objects.specs.Objects.{MlType, free}
use Rattle.sml_layers.specs.Demands.{asks, variable}
use Rattle.sml_core_rules.specs.Datatypes.{is_equality}
use Rattle.sml_core_rules.specs.Expressions.{Begun, admit_equality, begin_values, not_in_scope, scope_variables}
use Rattle.sml_core_rules.specs.Lookups.{is_listed}
use Rattle.sml_core_rules.specs.Objects.{Env}
use Rattle.sml_core_rules.specs.Scopes.{run_scope}
use Rattle.sml_core_rules.specs.Scripts.{Script, give, new_unknowns, require, ◌>>=◌}
use Rattle.sml_core_rules.specs.States.{Scope, State, Window}
use Rattle.sml_types.specs.Variables.{place_in}
use Rattle.sml_types.specs.declared.fault.CoreFault.{CoreFault}
use Rattle.sml_types.specs.declared.fault.CoreFault.TheVariants.{Memory, Fault}
use Rattle.sml_core.specs.Answered.{IsAt, Reaches, unit_of}
use Rattle.sml_core.specs.Patterns.{bindings_of}
use Rattle.sml_core.specs.Seen.{Sees}
use Rattle.sml_core.specs.declared.context.Context.{Context}
use Rattle.sml_core.specs.declared.explicit.Explicit.{Explicit}
use Rattle.sml_core.specs.declared.values.Declaration.{Declaration}

-- a variable that was not in scope is, with this unknown, after those that were
abbrev pub AddsVariable : Explicit → Id → ℕ → Explicit → Type 0
AddsVariable old x k new =
    place_in old.unknowns.entries x ≡ None → (key : Rc (Vec ℕ Global) Global) × (ident_of key ≡ x) × (new.unknowns.entries ≡ old.unknowns.entries ++ (key, k) ∷ [])

-- those that were in scope are, and after them perhaps others
abbrev pub AddsVariables : Explicit → Explicit → Type 0
AddsVariables old new = (more : List (Rc (Vec ℕ Global) Global × ℕ)) × (new.unknowns.entries ≡ old.unknowns.entries ++ more)

-- what is asked for one explicit variable
abbrev pub scope_variable : Scope Name → Place → Id → Script Place Name ℕ
scope_variable scope p x = do
  k ← new_unknowns 1
  u ← require (asks (variable (record { number = k; equality = is_equality x })) (free k)) p
  e ← admit_equality scope p (is_equality x) k
  give k

-- A call scopes a variable, and refuses nothing, whatever the place. Apart from the variable the context sees what it saw.
unfoldable pub ScopesVariable : Context → Id → Context → Result ℕ CoreFault → Type 0
ScopesVariable old x new (Ok k) =
    AddsVariable old.explicit x k new.explicit
    × ((p : Place) (around : Window Place Name) (s : State Place Name) → IsAt around old s
    → (t : State Place Name) × Reaches around old (scope_variable (run_scope (unit_of old)) p x) s (record new { explicit = old.explicit }) k t × (k < t.made))
ScopesVariable old x new (Err Memory) = Unit {0}
ScopesVariable old x new (Err (Fault f)) = ⊥

-- The variables of a list that were not in scope have these unknowns, and the types in `ws` stand for all that are in scope then. No source
-- spells the variable of no list.
pub record AreAllScoped (p : Place) (around : Window Place Name) (old : Context) (C : Env Name) (vs : Map (MlType Name)) (xs : List Id) (s : State Place Name) (new : Context) (ks : List ℕ)
    (ws : Map (MlType Name)) (t : State Place Name) : Type 0 where
  pub reaches : Reaches around old (scope_variables (run_scope (unit_of old)) p vs (not_in_scope vs [] xs)) s (record new { explicit = old.explicit }) (ks, ws) t
  pub sees : is_listed unlisted xs ≡ false → Sees C ws new t

-- A call scopes those of a list that are not in scope.
unfoldable pub ScopesAll : Context → List Id → Context → Result (Vec ℕ Global) CoreFault → Type 0
ScopesAll old xs new (Ok ks) =
    AddsVariables old.explicit new.explicit
    × ((p : Place) (C : Env Name) (vs : Map (MlType Name)) (around : Window Place Name) (s : State Place Name) → IsAt around old s → Sees C vs old s
    → (ws : Map (MlType Name)) × (t : State Place Name) × AreAllScoped p around old C vs xs s new ks.items ws t)
ScopesAll old xs new (Err Memory) = Unit {0}
ScopesAll old xs new (Err (Fault f)) = ⊥

-- A declaration counts what there was before it, and binds nothing yet.
pub record IsFirst (old : Context) (d : Declaration) : Type 0 where
  pub rows : d.rows ≡ length old.rows.items
  pub overloaded : d.overloaded ≡ length old.overloaded.items
  pub explicit : d.explicit ≡ length old.explicit.unknowns.entries
  pub none : bindings_of d.variables ≡ []
  pub kind : d.variables.is_recursive ≡ false
  pub expansive : d.expansive.items ≡ []

-- the rows and overloaded identifiers of all declarations around, once one begins
abbrev pub inside : Window Place Name → State Place Name → Window Place Name
inside around s = record { rows = around.rows ++ s.window.rows; overloaded = around.overloaded ++ s.window.overloaded }

-- A declaration with these variables in its list or unguarded began, and has around it what is kept of it.
pub record HasBegun (p : Place) (around : Window Place Name) (old : Context) (C : Env Name) (vs : Map (MlType Name)) (xs : List Id) (s : State Place Name) (new : Context) (d : Declaration)
    (b : Begun Place Name) (t : State Place Name) : Type 0 where
  pub reaches : Reaches (inside around s) old (begin_values (run_scope (unit_of old)) p vs xs) s (record new { explicit = old.explicit }) b t
  pub made : d.unknowns ≡ b.made
  pub scoped : d.scoped.items ≡ b.scoped
  pub window : b.window ≡ s.window
  pub sees : is_listed unlisted xs ≡ false → Sees C b.variables new t

-- A call begins a value declaration with these variables in its list or unguarded.
unfoldable pub BeginsValues : Context → List Id → Context → Result Declaration CoreFault → Type 0
BeginsValues old xs new (Ok d) =
    IsFirst old d × AddsVariables old.explicit new.explicit
    × ((p : Place) (C : Env Name) (vs : Map (MlType Name)) (around : Window Place Name) (s : State Place Name) → IsAt around old s → Sees C vs old s
    → (b : Begun Place Name) × (t : State Place Name) × HasBegun p around old C vs xs s new d b t)
BeginsValues old xs new (Err Memory) = Unit {0}
BeginsValues old xs new (Err (Fault f)) = ⊥
