-- What is left to ask, after what was asked.
use Rattle.std.proofs.Common.{◌≡◌, ◌++◌, ℕ}
use Rattle.sml_lex.specs.declared.fault.Place.{Place}
use Rattle.sml_objects.specs.Initial.{Name}
use Rattle.sml_objects.specs.Views.{entries_of}
use Rattle.sml_rules.specs.Lookups.{found}
use Rattle.sml_core_rules.specs.Objects.{Env}
use Rattle.sml_core_rules.specs.Scopes.{run_scope}
use Rattle.sml_core_rules.specs.States.{State}
use Rattle.sml_bases.specs.Views.{env_of, structures_of}
use Rattle.sml_types.specs.Answered.{env_at}
use Rattle.sml_match.specs.Paths.{path_in}
use Rattle.sml_match.specs.Required.{HasClosedValues, HaveKnownValues, answers}
use Rattle.sml_match.proofs.Requiring.{Outcome}
use Rattle.sml_match.proofs.Walks.{Lines, structures-left}
use Rattle.sml_match.proofs.enrich.+enriches.Given as goal

abbrev pub invariant-structures_enrich-loop-name : goal.invariant-structures_enrich-loop-name
invariant-structures_enrich-loop-name l = record {
  path : path_in l.way ≡ path_in l.fn.way;
  known : HaveKnownValues (structures_of (entries_of (λ s. env_of s.value) l.specified.entries)) → HaveKnownValues (structures_of (entries_of (λ s. env_of s.value) l.name-iterator));
  left : (unit : ℕ) (s : State Place Name) (p : Place) (E : Env Name) → env_at E (path_in l.fn.way) ≡ found (env_of l.env) → HasClosedValues (env_of l.env)
      → HaveKnownValues (structures_of (entries_of (λ s. env_of s.value) l.specified.entries)) → (rest : Lines) (o : Outcome)
      → answers (run_scope unit) s p E (structures-left (path_in l.fn.way) l.name-iterator ++ rest) o
      → answers (run_scope unit) s p E (structures-left (path_in l.fn.way) l.specified.entries ++ rest) o;
}
