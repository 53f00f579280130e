-- What is said of long identifiers, and what an environment says of them.
use Rattle.std.specs.Prelude.{◌≡◌, Bool}
use Rattle.sml_tree.specs.Trees.{LongId}
use Rattle.sml_objects.specs.Initial.{Name}
use Rattle.sml_core_rules.specs.Objects.{Env}
use Rattle.sml_core_rules.specs.Lookups.{value_at}
use Rattle.sml_core_rules.specs.Closing.{found_constructs}

-- whatever is said of a long identifier holds in this environment
abbrev pub TellsOf : (LongId → Bool → Type 0) → Env Name → Type 0
TellsOf says C = (x : LongId) → (b : Bool) → says x b → b ≡ found_constructs x.last (value_at C x)
