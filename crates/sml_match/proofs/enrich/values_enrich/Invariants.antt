-- What is left to ask, after what was asked.
use Rattle.std.proofs.Common.{◌≡◌, ◌++◌, ℕ}
use Rattle.sml_lex.specs.declared.fault.Place.{Place}
use Rattle.sml_objects.specs.Initial.{Name}
use Rattle.sml_objects.specs.Views.{entries_of}
use Rattle.sml_rules.specs.Lookups.{found}
use Rattle.sml_core_rules.specs.Objects.{Env, values}
use Rattle.sml_core_rules.specs.Scopes.{run_scope}
use Rattle.sml_core_rules.specs.States.{State}
use Rattle.sml_bases.specs.Views.{env_of, value_of}
use Rattle.sml_types.specs.Answered.{env_at}
use Rattle.sml_match.specs.Paths.{path_in}
use Rattle.sml_match.specs.Required.{AreClosedValues, AreKnownValues, answers}
use Rattle.sml_match.proofs.Requiring.{Outcome}
use Rattle.sml_match.proofs.Values.{values-left}
use Rattle.sml_match.proofs.Walks.{Lines}
use Rattle.sml_match.proofs.enrich.values_enrich.Given as goal

abbrev pub invariant-loop-name : goal.invariant-loop-name
invariant-loop-name l = record {
  path : path_in l.way ≡ path_in l.fn.way;
  known : AreKnownValues (entries_of value_of l.specified.entries) → AreKnownValues (entries_of value_of l.name-iterator);
  left : (unit : ℕ) (s : State Place Name) (p : Place) (E : Env Name) → env_at E (path_in l.fn.way) ≡ found (env_of l.env) → AreClosedValues (values (env_of l.env))
      → AreKnownValues (entries_of value_of l.specified.entries) → (rest : Lines) (o : Outcome)
      → answers (run_scope unit) s p E (values-left (path_in l.fn.way) l.name-iterator ++ rest) o
      → answers (run_scope unit) s p E (values-left (path_in l.fn.way) l.specified.entries ++ rest) o;
}
