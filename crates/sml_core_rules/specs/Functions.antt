-- Type functions that are names (the Definition, section 4.4).
use Rattle.std.specs.Prelude.{ℕ, suc, Bool, true, false, ◌&&◌, nat_eq, cond, length, Option, Some, None}
use Rattle.sml_objects.specs.Objects.{MlType, MlTypes, Scheme, bound, free, app, arrow, row, name, no_type, and_type}
use Rattle.sml_core_rules.specs.Types.{count_types}

-- the bound variables from k on, in order
unfoldable pub are_parameters : {N : Type 0} → ℕ → MlTypes N → Bool
are_parameters k no_type = true
are_parameters k (and_type (bound j) ts) = nat_eq j k && are_parameters (suc k) ts
are_parameters k (and_type (free v) ts) = false
are_parameters k (and_type (app h us) ts) = false

abbrev pub named_type : {N : Type 0} → ℕ → MlType N → Option N
named_type k (bound j) = None
named_type k (free v) = None
named_type k (app arrow ts) = None
named_type k (app (row ls) ts) = None
named_type k (app (name n) ts) = cond (nat_eq (count_types ts) k && are_parameters 0 ts) (Some n) None

-- the name that a type function is, applied to its variables in order
abbrev pub name_of : {N : Type 0} → Scheme N → Option N
name_of θ = named_type (length θ.variables) θ.body
