-- Samples of what is to be judged for warnings in a declaration: matches and value bindings, but for those after `rec`.
use Rattle.std.specs.Prelude.{◌≡◌, ℕ, List, [], ◌∷◌, map, Option, Some, None, codes}
use Rattle.sml_tree.specs.Patterns.{Pat}
use Rattle.sml_tree.specs.Trees.{LongId}
use Rattle.sml_tree.specs.Expressions.{Dec, val_dec, no_bind}
use Rattle.sml_objects.specs.Initial.{Name}
use Rattle.sml_rules.specs.Answers.{accepted}
use Rattle.sml_core_rules.specs.Objects.{Env, Status, exception}
use Rattle.sml_core_rules.specs.States.{State, Holder, of_fn, of_handle, of_val}
use Rattle.sml_core_rules.specs.Expressions.{IsReading, at_first}
use Rattle.sml_samples.specs.Around.{Place, scope, initial_names, around}
use Rattle.sml_samples.specs.Core.{pattern_at, one_binding, three, identity}
use Rattle.sml_samples.specs.Phrases.{exception_handled}

-- what holds patterns, these with the places of their rules, and the status of an identifier there
abbrev pub Seen : Type 0
Seen = Holder Place × List (Place × Pat Place) × Option Status

abbrev pub long : List ℕ → LongId
long x = record { path = []; last = x }

-- The declaration is accepted, and this is to be judged in it, the newest first, where the status of an identifier is looked up.
abbrev pub Judges : Dec Place → List ℕ → List Seen → Type 0
Judges d x js =
    (E : Env Name) × (s : State Place Name) × IsReading scope around [] d (at_first initial_names) (accepted (E, s))
    × (map (λ j. (j.holder, j.patterns, j.status (long x))) s.judged ≡ js)

-- the pattern of one identifier
abbrev pub one_pattern : Place → List ℕ → List (Place × Pat Place)
one_pattern p x = (p, pattern_at p x) ∷ []

pub record JudgedSamples : Type 0 where
  -- `val x = 3`
  pub binding : Judges (val_dec 1 [] (one_binding (pattern_at 2 (codes "x")) (three 4)) no_bind) (codes "x") ((of_val 2, one_pattern 2 (codes "x"), None) ∷ [])
  -- `val rec f = fn x => x`: not the pattern after `rec`
  pub function : Judges (val_dec 1 [] no_bind (one_binding (pattern_at 3 (codes "f")) (identity 5))) (codes "x") ((of_fn 5, one_pattern 6 (codes "x"), None) ∷ [])
  -- `local exception X in val x = (raise X) handle X => 3 : int end`, where X is an exception
  pub handler : Judges exception_handled (codes "X")
      ((of_val 6, one_pattern 6 (codes "x"), Some exception) ∷ (of_handle 8, one_pattern 13 (codes "X"), Some exception) ∷ [])
