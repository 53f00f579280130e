-- What a long identifier of a value was found to mean.
use Rattle.std.specs.Prelude.{◌≡◌, List, Option, Some, None, Result, Ok, Err}
use Rattle.std.specs.Borrow.{Bor}
use Rattle.sml_lex.specs.Faults.{fault_of}
use Rattle.sml_lex.specs.declared.fault.Code.TheVariants.{E3}
use Rattle.sml_lex.specs.declared.fault.Place.{Place}
use Rattle.sml_tree.specs.Trees.{Id}
use Rattle.sml_objects.specs.Initial.{Name}
use Rattle.sml_rules.specs.Answers.{fault_at}
use Rattle.sml_rules.specs.Lookups.{Found, found, no_entry, no_path}
use Rattle.sml_core_rules.specs.Objects as O
use Rattle.sml_bases.specs.Views.{value_of}
use Rattle.sml_bases.specs.declared.objects.Value.{Value}
use Rattle.sml_types.specs.declared.fault.CoreFault.{CoreFault}
use Rattle.sml_types.specs.declared.fault.CoreFault.TheVariants.{Memory, Fault}

-- this value, none, or E3 with the beginning of the path that leads nowhere
abbrev pub Finds : Place → Result (Option (Bor Value)) CoreFault → Found (O.Value Name) → Type 0
Finds p (Ok (Some v)) f = f ≡ found (value_of v.now)
Finds p (Ok None) f = f ≡ no_entry
Finds p (Err Memory) f = Unit {0}
Finds p (Err (Fault g)) f = (s : List Id) × (f ≡ no_path s) × (fault_of g ≡ fault_at E3 p s)
