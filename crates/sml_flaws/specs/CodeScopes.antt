-- The scopes of the type variables of value declarations: each goes from its declaration to the end of that.
use Rattle.std.specs.Prelude.{◌≡◌, ℕ, ◌<◌, ◌≤◌, Bool, ◌&&◌, nat_lt, List, take, get_or, length, Option, Some, None, unwrap_or}
use Rattle.std.specs.List.{All, filter_map, list_any}
use Rattle.std.specs.List.Sorted.{IsPermutation, IsNonDecreasingBy}
use Rattle.std.specs.Option.{option_map}
use Rattle.std.specs.Str.{bytes_eq}
use Rattle.indexmap.specs.IndexMap.{IndexMap, get_by}
use denote.Ref.{Bor}
use Rattle.sml_tree.specs.Trees.{Id}
use Rattle.sml_flaws.specs.declared.mark.Owned.{Owned}
use Rattle.sml_flaws.specs.declared.mark.Mark.{Mark}
use Rattle.sml_flaws.specs.declared.mark.Mark.TheVariants as M
use Rattle.sml_flaws.specs.declared.scopes.Passed.{Passed}

-- the type variable of a value declaration that a mark is
abbrev pub owned_in : Mark → Option Owned
owned_in (M.Listed v) = option_map (λ owner. record { owner = owner; token = v.token }) v.owner
owned_in (M.Owned v) = Some v
owned_in _ = None

-- these are the type variables of the value declarations of these marks, in the order of the declarations
pub record AreOwned (marks : List Mark) (owned : List Owned) : Type 0 where
  pub same : IsPermutation (filter_map owned_in marks) owned
  pub ascending : IsNonDecreasingBy (λ v. v.owner) owned

-- whether a type variable has this name and its scope ends after this node
abbrev pub ends_after : (ℕ → Id) → List ℕ → Id → ℕ → Owned → Bool
ends_after text ends name node v = nat_lt node (get_or ends v.owner 0) && bytes_eq name (text v.token)

-- whether its scope begins before this node too
abbrev pub is_round : (ℕ → Id) → List ℕ → Id → ℕ → Owned → Bool
is_round text ends name node v = nat_lt v.owner node && ends_after text ends name node v

-- what the program knows: the last end of the scopes of each name
abbrev pub KnowsReaches : {S : Type 0} → (ℕ → Id) → List ℕ → List Owned → IndexMap (Bor (List ℕ)) ℕ S → Type 0
KnowsReaches text ends owned reaches = (name : Id) (node : ℕ) → nat_lt node (unwrap_or (get_by (λ k. bytes_eq name k.now) reaches) 0) ≡ list_any (ends_after text ends name node) owned

-- the declarations of the first of these are passed, and all of them begin before the node
pub record KnowsPassed (text : ℕ → Id) (ends : List ℕ) (owned : List Owned) (passed : Passed) : Type 0 where
  pub within : passed.count ≤ length owned
  pub before : All (λ v. v.owner < passed.node) (take passed.count owned)
  pub reaches : KnowsReaches text ends (take passed.count owned) passed.reaches
