-- What an infix sequence stands for (the Definition, section 2.6 and the grammar of appexp and infexp).
use Rattle.std.specs.Prelude.{◌≡◌, ◌≢◌, ◌⊎◌, ℕ, ◌<◌, ◌≤◌, List, [], ◌∷◌, ◌++◌, length}
use Rattle.sml_fixity.specs.declared.scopes.Side.{Side}
use Rattle.sml_fixity.specs.declared.scopes.Side.TheVariants.{Left, Right}
use Rattle.sml_fixity.specs.declared.roles.Operator.{Operator}
use Rattle.sml_fixity.specs.declared.roles.Role.{Role}
use Rattle.sml_fixity.specs.declared.roles.Role.TheVariants.{Atom, Infix}
use Rattle.sml_fixity.specs.declared.sequences.Step.{Step}
use Rattle.sml_fixity.specs.declared.sequences.Step.TheVariants.{Push, Apply, Combine}
use Rattle.sml_fixity.specs.declared.sequences.FixFault.{FixFault}
use Rattle.sml_fixity.specs.declared.sequences.FixFault.TheVariants.{NoOperand, MixedSides, Malformed, Memory}

-- an operand, an application, or an operator between two parts
pub data Tree : Type 0 where
  Single : ℕ → Tree
  Applied : Tree → Tree → Tree
  Joined : Operator → Tree → Tree → Tree

-- the roles that a tree is written as
abbrev pub yield : Tree → List Role
yield (Single a) = Atom a ∷ []
yield (Applied f x) = yield f ++ yield x
yield (Joined o l r) = yield l ++ Infix o ∷ yield r

-- the steps that build a tree on a stack
abbrev pub postfix : Tree → List Step
postfix (Single a) = Push a ∷ []
postfix (Applied f x) = postfix f ++ postfix x ++ Apply ∷ []
postfix (Joined o l r) = postfix l ++ postfix r ++ Combine o.index ∷ []

-- P holds of each operator in a tree
abbrev pub EachOperator : (Operator → Type 0) → Tree → Type 0
EachOperator P (Single a) = Unit {0}
EachOperator P (Applied f x) = EachOperator P f × EachOperator P x
EachOperator P (Joined o l r) = P o × EachOperator P l × EachOperator P r

abbrev pub IsSingle : Tree → Type 0
IsSingle (Single a) = Unit {0}
IsSingle (Applied f x) = ⊥
IsSingle (Joined o l r) = ⊥

abbrev pub level : Operator → ℕ
level o = o.fixity.level

abbrev pub side : Operator → Side
side o = o.fixity.side

-- in the left part of o an operator p is tighter, or of o's level where both group to the left
abbrev pub StandsLeft : Operator → Operator → Type 0
StandsLeft o p = (level o < level p) ⊎ ((level p ≡ level o) × (side o ≡ Left) × (side p ≡ Left))

abbrev pub StandsRight : Operator → Operator → Type 0
StandsRight o p = (level o < level p) ⊎ ((level p ≡ level o) × (side o ≡ Right) × (side p ≡ Right))

-- looser operators stand above tighter ones, equal levels group to their side, and application is
-- tighter than any operator and groups to the left
abbrev pub Obeys : Tree → Type 0
Obeys (Single a) = Unit {0}
Obeys (Applied f x) = Obeys f × EachOperator (λ _. ⊥) f × IsSingle x
Obeys (Joined o l r) = Obeys l × Obeys r × EachOperator (StandsLeft o) l × EachOperator (StandsRight o) r

-- the one tree that is written as these roles and obeys, by its steps
pub record IsTheTree (roles : List Role) (steps : List Step) : Type 0 where
  pub tree : Tree
  pub built : steps ≡ postfix tree
  pub written : yield tree ≡ roles
  pub obeys : Obeys tree
  pub only : (other : Tree) → yield other ≡ roles → Obeys other → other ≡ tree

-- the last role is an operator
abbrev pub EndsInOperator : List Role → Type 0
EndsInOperator roles = (front : List Role) × (p : Operator) × (roles ≡ front ++ Infix p ∷ [])

-- the operator at a place is first or last, or stands directly after another
pub record StrayAt (roles : List Role) (place : ℕ) : Type 0 where
  pub before : List Role
  pub operator : Operator
  pub after : List Role
  pub split : roles ≡ before ++ Infix operator ∷ after
  pub place_is : length before ≡ place
  pub stray : (before ≡ []) ⊎ ((after ≡ []) ⊎ EndsInOperator before)

-- no operator among the roles is looser than p
abbrev pub NoneLooser : Operator → List Role → Type 0
NoneLooser p [] = Unit {0}
NoneLooser p (Atom a ∷ roles) = NoneLooser p roles
NoneLooser p (Infix q ∷ roles) = (level p ≤ level q) × NoneLooser p roles

-- among the roles there is an operator of q's level and the other side, with none looser after it
pub record Clashes (roles : List Role) (q : Operator) : Type 0 where
  pub before : List Role
  pub earlier : Operator
  pub between : List Role
  pub split : roles ≡ before ++ Infix earlier ∷ between
  pub same_level : level earlier ≡ level q
  pub other_side : side earlier ≢ side q
  pub none_looser : NoneLooser earlier between

-- the operator at a place is the second of two of one level and different sides, with none looser between
pub record MixedAt (roles : List Role) (place : ℕ) : Type 0 where
  pub before : List Role
  pub operator : Operator
  pub after : List Role
  pub split : roles ≡ before ++ Infix operator ∷ after
  pub place_is : length before ≡ place
  pub clash : Clashes before operator

-- no tree that is written as these roles obeys
abbrev pub NoTree : List Role → Type 0
NoTree roles = (t : Tree) → yield t ≡ roles → Obeys t → ⊥

-- no fault stands before a place
abbrev pub NoneBefore : List Role → ℕ → Type 0
NoneBefore roles place = (k : ℕ) → k < place → (¬ StrayAt roles k) × (¬ MixedAt roles k)

-- what a fault says
abbrev pub FaultStands : List Role → FixFault → Type 0
FaultStands roles (NoOperand place) = StrayAt roles place × NoneBefore roles place × NoTree roles
FaultStands roles (MixedSides place) =
    MixedAt roles place × (¬ StrayAt roles place) × NoneBefore roles place × NoTree roles
FaultStands roles Malformed = ⊥
FaultStands roles Memory = Unit {0}
