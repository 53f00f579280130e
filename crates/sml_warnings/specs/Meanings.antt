-- What identifiers in patterns mean in an environment.
use Rattle.std.specs.Prelude.{◌≡◌, List, Option, Some, None, Result, Ok, Err}
use Rattle.sml_lex.specs.Faults.{fault_of}
use Rattle.sml_lex.specs.declared.fault.Code.TheVariants.{E3}
use Rattle.sml_lex.specs.declared.fault.Place.{Place}
use Rattle.sml_tree.specs.Trees.{Id, LongId}
use Rattle.sml_objects.specs.Initial.{Name}
use Rattle.sml_rules.specs.Answers.{fault_at}
use Rattle.sml_rules.specs.Lookups.{Found, no_path}
use Rattle.sml_core_rules.specs.Objects.{Env, Value, Status, variable, constructor, exception, overloaded}
use Rattle.sml_core_rules.specs.Lookups.{found_status, status_at}
use Rattle.sml_patterns.specs.declared.names.Meaning.{Meaning}
use Rattle.sml_patterns.specs.declared.names.Meaning.TheVariants as M
use Rattle.sml_types.specs.declared.fault.CoreFault.{CoreFault}
use Rattle.sml_types.specs.declared.fault.CoreFault.TheVariants.{Memory, Fault}

-- what an identifier in a pattern means, by its status; one that isn't bound is a variable
abbrev pub meaning_of : Option Status → Meaning
meaning_of None = M.Variable
meaning_of (Some variable) = M.Variable
meaning_of (Some (constructor k n)) = M.Constructor k n
meaning_of (Some exception) = M.Exception
meaning_of (Some (overloaded c)) = M.Variable

-- what long identifiers mean there
abbrev pub meaning_in : Env Name → LongId → Meaning
meaning_in C x = meaning_of (status_at C x)

-- this meaning, or E3 with the beginning of the path that leads nowhere
abbrev pub FindsMeaning : Place → Result Meaning CoreFault → Found (Value Name) → Type 0
FindsMeaning p (Ok m) f = ((s : List Id) → f ≡ no_path s → ⊥) × (m ≡ meaning_of (found_status f))
FindsMeaning p (Err Memory) f = Unit {0}
FindsMeaning p (Err (Fault g)) f = (s : List Id) × (f ≡ no_path s) × (fault_of g ≡ fault_at E3 p s)
