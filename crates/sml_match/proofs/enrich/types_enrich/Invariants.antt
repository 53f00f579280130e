-- What is left to ask, after what was asked.
use Rattle.std.proofs.Common.{◌≡◌, ◌++◌}
use Rattle.sml_lex.specs.declared.fault.Place.{Place}
use Rattle.sml_objects.specs.Initial.{Name}
use Rattle.sml_rules.specs.Lookups.{found}
use Rattle.sml_core_rules.specs.Objects.{Env}
use Rattle.sml_core_rules.specs.States.{Scope, State}
use Rattle.sml_bases.specs.Views.{env_of}
use Rattle.sml_types.specs.Answered.{env_at}
use Rattle.sml_match.specs.Paths.{path_in}
use Rattle.sml_match.specs.Required.{answers}
use Rattle.sml_match.proofs.Requiring.{Outcome}
use Rattle.sml_match.proofs.Walks.{Lines, types-left}
use Rattle.sml_match.proofs.enrich.types_enrich.Given as goal

abbrev pub invariant-loop-name : goal.invariant-loop-name
invariant-loop-name l = record {
  path : path_in l.way ≡ path_in l.fn.way;
  left : (scope : Scope Name) (s : State Place Name) (p : Place) (E : Env Name) → env_at E (path_in l.fn.way) ≡ found (env_of l.env) → (rest : Lines) (o : Outcome)
      → answers scope s p E (types-left (path_in l.fn.way) l.name-iterator ++ rest) o
      → answers scope s p E (types-left (path_in l.fn.way) l.specified.entries ++ rest) o;
}
