-- Counts of the nodes of types. The first bound variables of a type may be counted by themselves.
use Rattle.std.specs.Prelude.{◌≡◌, ◌≤◌, ◌<◌, ℕ, suc, ◌+◌, ◌*◌, min, cond, nat_eq, nat_lt, slice_index, vec_len, Option, None, Some}
use Rattle.sml_objects.specs.Initial.{Name}
use Rattle.sml_objects.specs.Objects.{MlType, MlTypes, bound, free, app, no_type, and_type}
use Rattle.sml_objects.specs.Sizes.{type_size}
use Rattle.sml_type_maps.specs.declared.sizes.Count.{Count}

unfoldable mutual
  -- the nodes of a type besides its first n bound variables
  pub nodes_past : {N : Type 0} → ℕ → MlType N → ℕ
  nodes_past n (bound k) = cond (nat_lt k n) 0 1
  nodes_past n (free v) = 1
  nodes_past n (app h ts) = suc (all_nodes_past n ts)

  pub all_nodes_past : {N : Type 0} → ℕ → MlTypes N → ℕ
  all_nodes_past n no_type = 0
  all_nodes_past n (and_type t ts) = nodes_past n t + all_nodes_past n ts

unfoldable mutual
  -- how often the bound variable k stands in a type
  pub uses_in : {N : Type 0} → MlType N → ℕ → ℕ
  uses_in (bound j) k = cond (nat_eq k j) 1 0
  uses_in (free v) k = 0
  uses_in (app h ts) k = uses_in_all ts k

  pub uses_in_all : {N : Type 0} → MlTypes N → ℕ → ℕ
  uses_in_all no_type k = 0
  uses_in_all (and_type t ts) k = uses_in t k + uses_in_all ts k

-- numbers that are the same, or both at least the limit
abbrev pub SameBelow : ℕ → ℕ → ℕ → Type 0
SameBelow limit m n = min m limit ≡ min n limit

-- numbers of nodes that are the same, or both more than a scheme may have
abbrev pub SameNodes : ℕ → ℕ → Type 0
SameNodes m n = SameBelow 10001 m n

-- numbers that are the same as a count has them, whose numbers stop at the greatest of their type
abbrev pub SameUses : ℕ → ℕ → Type 0
SameUses m n = SameBelow 4294967295 m n

-- That so many nodes were added to a count, and for each variable that is counted by itself so many uses. These are
-- known only while the count isn't large.
pub record HasAdded (old new : Count) (more : ℕ) (uses : ℕ → ℕ) : Type 0 where
  pub variables : vec_len new.uses ≡ vec_len old.uses
  pub nodes : SameNodes new.nodes (old.nodes + more)
  pub each : new.nodes ≤ 10000 → (k : ℕ) → k < vec_len old.uses → SameUses (slice_index new.uses.items k) (slice_index old.uses.items k + uses k)

-- that a type was added so many times
abbrev pub HasAddedType : Count → Count → ℕ → MlType Name → Type 0
HasAddedType old new times t = HasAdded old new (times * nodes_past (vec_len old.uses) t) (λ k. times * uses_in t k)

-- that a node above these types was added so many times
abbrev pub HasAddedAbove : Count → Count → ℕ → MlTypes Name → Type 0
HasAddedAbove old new times ts = HasAdded old new (times * suc (all_nodes_past (vec_len old.uses) ts)) (λ k. times * uses_in_all ts k)

-- That a count is of a type, whose first n bound variables are counted by themselves.
pub record IsCountOf (n : ℕ) (t : MlType Name) (c : Count) : Type 0 where
  pub variables : vec_len c.uses ≡ n
  pub nodes : SameNodes c.nodes (nodes_past n t)
  pub each : c.nodes ≤ 10000 → (k : ℕ) → k < n → SameUses (slice_index c.uses.items k) (uses_in t k)

-- That a count is of a body for so many arguments, where so many variables around it are counted by themselves. The count has
-- the variables that stand for the arguments, and of the others those that stand in the body.
pub record IsBodyFor (arguments around : ℕ) (t : MlType Name) (c : Count) : Type 0 where
  pub is : IsCountOf (vec_len c.uses) t c
  pub first : arguments ≤ vec_len c.uses
  pub others : (k : ℕ) → vec_len c.uses ≤ k → k < around → uses_in t k ≡ 0

-- That so many nodes were added to a count of all nodes, in which no variable is counted by itself.
abbrev pub HasNodes : Count → Count → ℕ → Type 0
HasNodes old new more = vec_len old.uses ≡ 0 → (vec_len new.uses ≡ 0) × SameNodes new.nodes (old.nodes + more)

-- the size of what stands for a variable, or of the variable itself
abbrev pub size_or_one : Option (MlType Name) → ℕ
size_or_one None = 1
size_or_one (Some t) = type_size t
