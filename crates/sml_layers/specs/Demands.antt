-- Demands on unknown types, over any type `N` of type names: what may be asked, what it says, and which layers can be
-- met. A bound says which names a type may mention; what bounds are is a parameter too, `B`: in the rules the list of the
-- names, in the solver the number of those that had been made.
use Rattle.std.specs.Prelude.{◌≡◌, ◌≤◌, ◌<◌, ℕ, Bool, true, List, [], ◌∷◌}
use Rattle.sml_tree.specs.Trees.{Id}
use Rattle.sml_objects.specs.Names.{Naming, Initial}
use Rattle.sml_objects.specs.Equality.{is_ref, has_equality, admits_by}
use Rattle.sml_objects.specs.Objects.{MlType, MlTypes, Head, bound, free, app, arrow, row, name, no_type, and_type, named}
use Rattle.sml_objects.specs.Types.{assign}
use Rattle.sml_layers.specs.declared.class.Class.{Class}
use Rattle.sml_layers.specs.declared.layer.Bound.{Bound}
use Rattle.sml_layers.specs.declared.layer.Bound.TheVariants as B
use Rattle.sml_layers.specs.declared.layer.Layer.{Layer}
use Rattle.sml_layers.specs.declared.layer.Layer.TheVariants.{Newness, Locality, Equality, Classes, Rigidity}
use Rattle.sml_layers.specs.declared.variable.Variable.{Variable}
use Rattle.sml_layers.specs.Classes.{names_in, allows}
use Rattle.sml_layers.specs.Layers.{index_of}
use Rattle.sml_layers.specs.Rows.{HasFields, fields_at}
use Rattle.sml_layers.specs.Worlds.{World, Assignment, finite, infinite, typed, world}

-- What may be asked of a type: that it mentions only names that a bound allows, that it admits equality, that it is one of
-- the names of a class, that it is an explicit variable.
pub data Ask (B : Type 0) : Type 0 where
  within : Bound → B → Ask B
  equality : Ask B
  of_class : Class → Ask B
  variable : Variable → Ask B

-- What may be demanded: that two types are equal, that a type is a row that has these fields, or something of one type.
pub data Demand (N B : Type 0) : Type 0 where
  equal : MlType N → MlType N → Demand N B
  has_fields : MlType N → List (Id × MlType N) → Demand N B
  asks : Ask B → MlType N → Demand N B

-- the layer in which a type is asked for something
abbrev pub layer_of : {B : Type 0} → Ask B → Layer
layer_of (within B.Newness b) = Newness
layer_of (within B.Locality b) = Locality
layer_of equality = Equality
layer_of (of_class c) = Classes
layer_of (variable x) = Rigidity

-- All names that the type mentions are such.
abbrev pub HeadMentions : {N : Type 0} → (N → Type 0) → Head N → Type 0
HeadMentions P arrow = Unit {0}
HeadMentions P (row ls) = Unit {0}
HeadMentions P (name n) = P n

unfoldable mutual
  pub Mentions : {N : Type 0} → (N → Type 0) → MlType N → Type 0
  Mentions P (bound k) = Unit {0}
  Mentions P (free v) = Unit {0}
  Mentions P (app h ts) = HeadMentions P h × AllMention P ts

  pub AllMention : {N : Type 0} → (N → Type 0) → MlTypes N → Type 0
  AllMention P no_type = Unit {0}
  AllMention P (and_type t ts) = Mentions P t × AllMention P ts

-- What may be seen of names and of type variables: the naming, the type that stands for an explicit variable, which type
-- variables admit equality, and the names that a bound allows.
pub record Words (N B : Type 0) : Type 1 where
  pub names : Naming N
  pub variable : Variable → MlType N
  pub equality : ℕ → Bool
  pub Allows : B → N → Type 0

module _ {N B : Type 0} (words : Words N B) where
  abbrev pub IsAsAsked : Ask B → MlType N → Type 0
  IsAsAsked (within k b) t = Mentions (words.Allows b) t
  IsAsAsked equality t = admits_by (is_ref words.names) words.equality (has_equality words.names) t ≡ true
  IsAsAsked (of_class c) t = (k : Initial) × (allows (names_in c) k ≡ true) × (t ≡ named (words.names.initial k))
  IsAsAsked (variable x) t = t ≡ words.variable x

  -- the type is as asked, as far as the layers up to this one see it
  abbrev pub HoldsUpTo : Layer → Assignment N finite → Ask B → MlType N → Type 0
  HoldsUpTo l σ a t = index_of (layer_of a) ≤ index_of l → IsAsAsked a (assign σ t)

  -- the types of the unknowns meet the demand, as far as the layers up to this one see it
  abbrev pub Holds : (w : World) → Layer → Assignment N w → Demand N B → Type 0
  Holds w l σ (equal t u) = typed w σ t ≡ typed w σ u
  Holds w l σ (has_fields t fs) = HasFields N w (typed w σ t) (fields_at (typed w σ) fs)
  Holds finite l σ (asks a t) = HoldsUpTo l σ a t
  Holds infinite l σ (asks a t) = Unit {0}

  -- they meet all demands
  abbrev pub AllHold : (w : World) → Layer → Assignment N w → List (Demand N B) → Type 0
  AllHold w l σ [] = Unit {0}
  AllHold w l σ (d ∷ ds) = Holds w l σ d × AllHold w l σ ds

  -- some types meet all demands, in the layers up to this one
  abbrev pub CanBeMet : Layer → List (Demand N B) → Type 0
  CanBeMet l ds = (σ : Assignment N (world l)) × AllHold (world l) l σ ds

  -- the first layer in which none do
  abbrev pub IsFirstUnmet : Layer → List (Demand N B) → Type 0
  IsFirstUnmet l ds = (CanBeMet l ds → ⊥) × ((k : Layer) → index_of k < index_of l → CanBeMet k ds)
