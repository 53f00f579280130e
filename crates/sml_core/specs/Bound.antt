-- What is bound in the scopes of a context, and solvers that are begun anew.
use Rattle.std.specs.Prelude.{◌≡◌, ℕ, false}
use Rattle.sml_objects.specs.Initial.{Name}
use Rattle.sml_core_rules.specs.Objects.{Env, extend}
use Rattle.sml_scopes.specs.Means.{Means}
use Rattle.sml_scopes.specs.declared.scopes.Scopes.{Scopes}
use Rattle.sml_graph.specs.Asked.{Asked, count, IsMet}

-- The second scopes mean what the first do, extended by an environment.
abbrev pub Extends : Scopes → Env Name → Scopes → Type 0
Extends old E new = (C : Env Name) → Means old C → Means new (extend C E)

-- no unknown was made, and nothing asked, for declarations of this unit
pub record IsAnew (maker : ℕ) (s : Asked) : Type 0 where
  pub count : count s ≡ 0
  pub unit : s.unit ≡ maker
  pub met : IsMet s
  pub spent : s.spent ≡ false
