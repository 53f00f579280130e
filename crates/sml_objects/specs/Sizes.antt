-- The size of a type.
use Rattle.std.specs.Prelude.{ℕ, suc, ◌+◌}
use Rattle.sml_objects.specs.Objects.{MlType, MlTypes, bound, free, app, no_type, and_type}

-- each variable, arrow, row and applied name once
unfoldable mutual
  pub type_size : {N : Type 0} → MlType N → ℕ
  type_size (bound k) = 1
  type_size (free v) = 1
  type_size (app h ts) = suc (types_size ts)

  pub types_size : {N : Type 0} → MlTypes N → ℕ
  types_size no_type = 0
  types_size (and_type t ts) = type_size t + types_size ts
