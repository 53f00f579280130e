-- What the reader of a sequence holds between two roles.
use Rattle.std.specs.Prelude.{◌≡◌, ◌≢◌, Bool, true, false, List, [], ◌∷◌, ◌++◌}
use Rattle.sml_fixity.specs.declared.roles.Operator.{Operator}
use Rattle.sml_fixity.specs.declared.roles.Role.{Role}
use Rattle.sml_fixity.specs.declared.roles.Role.TheVariants.{Infix}
use Rattle.sml_fixity.specs.declared.sequences.Step.{Step}
use Rattle.sml_fixity.specs.declared.roles.Reader.{Reader}
use Rattle.sml_fixity.specs.declared.roles.Order.{Order}
use Rattle.sml_fixity.specs.declared.roles.Order.TheVariants.{EarlierFirst, LaterFirst, Mixed}
use Rattle.sml_fixity.specs.Infix.{Tree, yield, postfix, EachOperator, level, side, StandsLeft, StandsRight, Obeys}

-- left parts with their operators, the last one last
pub data Frames : Type 0 where
  Bottom : Frames
  Under : Frames → Tree → Operator → Frames

abbrev pub line : Frames → List Role
line Bottom = []
line (Under fs t o) = line fs ++ (yield t ++ Infix o ∷ [])

abbrev pub written : Frames → List Step
written Bottom = []
written (Under fs t o) = written fs ++ postfix t

abbrev pub operators : Frames → List Operator
operators Bottom = []
operators (Under fs t o) = operators fs ++ o ∷ []

-- p may stand in the right part of the last operator
abbrev pub Follows : Frames → Operator → Type 0
Follows Bottom p = Unit {0}
Follows (Under fs t o) p = StandsRight o p

abbrev pub Sound : Frames → Type 0
Sound Bottom = Unit {0}
Sound (Under fs t o) = Sound fs × Obeys t × EachOperator (StandsLeft o) t × Follows fs o

-- the roles read end in an operator, or are none
pub record AwaitsOperand (roles : List Role) (steps : List Step) (pending : List Operator) : Type 0 where
  pub frames : Frames
  pub sound : Sound frames
  pub roles_are : roles ≡ line frames
  pub steps_are : steps ≡ written frames
  pub pending_are : pending ≡ operators frames

-- the roles read end in the tree of an operand
pub record HasOperand (roles : List Role) (steps : List Step) (pending : List Operator) : Type 0 where
  pub frames : Frames
  pub tree : Tree
  pub sound : Sound frames
  pub obeys : Obeys tree
  pub follows : EachOperator (Follows frames) tree
  pub roles_are : roles ≡ line frames ++ yield tree
  pub steps_are : steps ≡ written frames ++ postfix tree
  pub pending_are : pending ≡ operators frames

-- the same where the tree is an application of operands
pub record HasAtoms (roles : List Role) (steps : List Step) (pending : List Operator) : Type 0 where
  pub has : HasOperand roles steps pending
  pub atoms : EachOperator (λ _. ⊥) has.tree

abbrev pub ReadsBy : Bool → List Role → List Step → List Operator → Type 0
ReadsBy true roles steps pending = HasAtoms roles steps pending
ReadsBy false roles steps pending = AwaitsOperand roles steps pending

abbrev pub Reads : List Role → Reader → Type 0
Reads roles reader = ReadsBy reader.after_operand roles reader.steps.items reader.pending.items

-- how two operators group, the second standing after the first
abbrev pub Orders : Operator → Operator → Order → Type 0
Orders p q EarlierFirst = StandsLeft q p
Orders p q LaterFirst = StandsRight p q
Orders p q Mixed = (level p ≡ level q) × (side p ≢ side q)

-- the steps build a tree that is written as these roles and obeys
pub record IsBuilt (roles : List Role) (steps : List Step) : Type 0 where
  pub tree : Tree
  pub built : steps ≡ postfix tree
  pub written_as : yield tree ≡ roles
  pub obeys : Obeys tree

-- the operand's tree may be the left part of q
pub record Reducing (q : Operator) (roles : List Role) (steps : List Step) (pending : List Operator) : Type 0 where
  pub has : HasOperand roles steps pending
  pub left : EachOperator (StandsLeft q) has.tree

-- and q may follow the operator before it
pub record Reduced (q : Operator) (roles : List Role) (steps : List Step) (pending : List Operator) : Type 0 where
  pub reducing : Reducing q roles steps pending
  pub follows : Follows reducing.has.frames q
