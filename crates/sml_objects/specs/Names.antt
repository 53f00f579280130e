-- Names of types (the Definition, section 4.1). A name has the unit that made it, an arity, an equality attribute and
-- the identifiers of its constructors. The names are a parameter, so no definition can look at more of a name than this.
use Rattle.std.specs.Prelude.{◌≡◌, ℕ, Bool, List}

pub record Attributes : Type 0 where
  -- the unit that made it, counted from 1 in the order listed; 0 for an initial name
  pub maker : ℕ
  pub arity : ℕ
  pub equality : Bool
  pub constructors : List (List ℕ)

pub data Initial : Type 0 where
  int word char string bool exn real list ref : Initial
  deriving Discrete as Initial-discrete

pub record Naming (Name : Type 0) : Type 0 where
  pub attributes : Name → Attributes
  pub initial : Initial → Name
  pub same : (a b : Name) → Dec (a ≡ b)
