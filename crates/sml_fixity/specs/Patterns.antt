-- Patterns among infix trees (the Definition, the grammar of atpat and pat).
use Rattle.std.specs.Prelude.{◌≡◌, ℕ, Bool, IsTrue, List, slice_index_or}
use Rattle.sml_fixity.specs.declared.roles.Role.{Role}
use Rattle.sml_fixity.specs.declared.sequences.Item.{Item}
use Rattle.sml_fixity.specs.declared.sequences.Item.TheVariants.{Phrase}
use Rattle.sml_fixity.specs.declared.sequences.Step.{Step}
use Rattle.sml_fixity.specs.declared.sequences.FixFault.{FixFault}
use Rattle.sml_fixity.specs.declared.sequences.FixFault.TheVariants.{NoOperand, MixedSides, Malformed, Memory}
use Rattle.sml_fixity.specs.Infix.{Tree, Single, Applied, Joined, yield, Obeys, IsTheTree, FaultStands}
use Rattle.sml_fixity.specs.Sequences.{is_identifier}

-- whether the item of this index is an identifier
abbrev pub names_of : List Item → ℕ → Bool
names_of items index = is_identifier (slice_index_or items index Phrase)

-- one operand that is an identifier
abbrev pub IsName : (ℕ → Bool) → Tree → Type 0
IsName names (Single a) = IsTrue (names a)
IsName names (Applied f x) = ⊥
IsName names (Joined o l r) = ⊥

-- only an identifier is applied, and to one operand
abbrev pub IsPattern : (ℕ → Bool) → Tree → Type 0
IsPattern names (Single a) = Unit {0}
IsPattern names (Applied f x) = IsName names f
IsPattern names (Joined o l r) = IsPattern names l × IsPattern names r

-- the one tree of a sequence, which is a pattern
pub record IsThePattern (items : List Item) (roles : List Role) (steps : List Step) : Type 0 where
  pub the_tree : IsTheTree roles steps
  pub pattern : IsPattern (names_of items) the_tree.tree

-- some tree that is written as these roles obeys, and is no pattern
pub record IsMalformed (items : List Item) (roles : List Role) : Type 0 where
  pub tree : Tree
  pub written : yield tree ≡ roles
  pub obeys : Obeys tree
  pub no_pattern : ¬ IsPattern (names_of items) tree

-- what a fault of a pattern says
abbrev pub PatternFaultStands : List Item → List Role → FixFault → Type 0
PatternFaultStands items roles (NoOperand index) = FaultStands roles (NoOperand index)
PatternFaultStands items roles (MixedSides index) = FaultStands roles (MixedSides index)
PatternFaultStands items roles Malformed = IsMalformed items roles
PatternFaultStands items roles Memory = Unit {0}
