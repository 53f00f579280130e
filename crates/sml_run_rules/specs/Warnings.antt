-- Which warnings a declaration has: those of the matches and value bindings in it, by the shapes of values.
use Rattle.std.specs.Prelude.{◌≡◌, ◌⊎◌, ◌↔◌, ◌<◌, ℕ, List, [], ◌∷◌, Option, Some, None}
use Rattle.std.specs.List.{AllByRecursion}
use Rattle.std.specs.List.Sorted.{IsStrictlySortedBy}
use Rattle.sml_lex.specs.declared.fault.Place.{Place}
use Rattle.sml_lex.specs.declared.fault.Warning.{Warning}
use Rattle.sml_tree.specs.Structures.{TopDec}
use Rattle.sml_patterns.specs.declared.judge.Holder as J
use Rattle.sml_patterns.specs.declared.judge.Holder.TheVariants.{Fn, Handle, Val}
use Rattle.sml_patterns.specs.declared.names.Meaning.{Meaning}
use Rattle.sml_patterns.specs.declared.names.Meaning.TheVariants as M
use Rattle.sml_patterns.specs.Shape.{World, column}
use Rattle.sml_patterns.specs.Warnings.{Rule, MakeRules, AllFit, IsWarning, warning_cmp}
use Rattle.sml_objects.specs.Appearance.{Stands}
use Rattle.sml_objects.specs.Initial.{Name, naming}
use Rattle.sml_rules.specs.Answers.{accepted}
use Rattle.sml_core_rules.specs.Objects.{Basis, Status, variable, constructor, exception, overloaded}
use Rattle.sml_core_rules.specs.Scopes.{run_scope}
use Rattle.sml_core_rules.specs.States.{Holder, of_fn, of_handle, of_val, Judged}
use Rattle.sml_module_rules.specs.Structures.{Added, IsTopReading}
use Rattle.sml_module_rules.specs.WellFormed.{IsBasis}

-- what an identifier in a pattern means, by its status; one that isn't bound is a variable
abbrev pub meaning_of : Option Status → Meaning
meaning_of None = M.Variable
meaning_of (Some variable) = M.Variable
meaning_of (Some (constructor k n)) = M.Constructor k n
meaning_of (Some exception) = M.Exception
meaning_of (Some (overloaded c)) = M.Variable

abbrev pub holder_of : Holder Place → J.Holder
holder_of (of_fn p) = Fn p
holder_of (of_handle p) = Handle p
holder_of (of_val p) = Val p

-- A warning of a match or of a binding. The types that its patterns have are any that they fit: it doesn't matter which.
pub record IsWarningOf (j : Judged Place) (x : Warning) : Type 0 where
  pub rules : List Rule
  pub made : MakeRules (λ y. meaning_of (j.status y)) j.patterns rules
  pub world : World
  pub depth : ℕ
  pub type : ℕ
  pub fit : AllFit world (column depth type) rules
  pub is_warning : IsWarning world (column depth type) (holder_of j.holder) rules x

-- a warning of one of them
abbrev pub IsWarningOfOne : List (Judged Place) → Warning → Type 0
IsWarningOfOne [] x = ⊥
IsWarningOfOne (j ∷ js) x = IsWarningOf j x ⊎ IsWarningOfOne js x

-- All warnings of these, by place and code, each once.
pub record AreWarnings (js : List (Judged Place)) (ws : List Warning) : Type 0 where
  pub sorted : IsStrictlySortedBy warning_cmp ws
  pub all : (x : Warning) → Stands x ws ↔ IsWarningOfOne js x

-- They are one list.
abbrev pub WarningsAreOne : Type 0
WarningsAreOne = (js : List (Judged Place)) (ws vs : List Warning) → AreWarnings js ws → AreWarnings js vs → ws ≡ vs

-- the patterns fit in some world
abbrev pub HasWorld : Judged Place → Type 0
HasWorld j =
    (rules : List Rule) × MakeRules (λ y. meaning_of (j.status y)) j.patterns rules × (world : World) × (depth : ℕ) × (type : ℕ) × AllFit world (column depth type) rules

-- Of a declaration that is accepted each match and each binding has one, so that it has warnings where it should.
abbrev pub MatchesHaveWorlds : Type 0
MatchesHaveWorlds =
    (unit : ℕ) → 0 < unit → (B : Basis Name) → IsBasis naming B → (p : Place) (d : TopDec Place) (A : Added Place Name)
    → IsTopReading (run_scope unit) p B d (accepted A) → AllByRecursion HasWorld A.judged
