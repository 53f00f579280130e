-- What scopes say of identifiers holds in the environment that they mean.
use Rattle.std.specs.Prelude.{◌≡◌}
use Rattle.sml_objects.specs.Initial.{Name}
use Rattle.sml_core_rules.specs.Closing.{found_constructs}
use Rattle.sml_core_rules.specs.Lookups.{value_at}
use Rattle.sml_core_rules.specs.Objects as O
use Rattle.sml_closing.specs.Statuses as statuses
use Rattle.sml_types.specs.Answered.{TellsOf}
use Rattle.sml_scopes.specs.CodeScopes.{structure_in, type_in}
use Rattle.sml_scopes.specs.Means.{Means}
use Rattle.sml_scopes.specs.declared.scopes.Scopes.{Scopes}

abbrev pub ScopesTell : Type 0
ScopesTell = (s : Scopes) (C : O.Env Name) → Means s C
    → TellsOf (λ x o. o ≡ structure_in s x) (λ x o. o ≡ type_in s x) C × statuses.TellsOf (λ x b. (D : O.Env Name) → Means s D → b ≡ found_constructs x.last (value_at D x)) C
