-- What was asked of a solver's unknowns so far, seen as the types that they may have.
use Rattle.std.specs.Prelude.{◌≡◌, ℕ, ◌<◌, ◌≤◌, ◌↔◌, Bool, true, List, length, Some}
use Rattle.sml_tree.specs.Trees.{Id}
use Rattle.sml_objects.specs.Equality.{admits}
use Rattle.sml_objects.specs.Initial.{Name, naming}
use Rattle.sml_objects.specs.Objects.{MlType, Scheme}
use Rattle.sml_objects.specs.Types.{assign}
use Rattle.sml_graph.specs.declared.graph.Graph.{Graph}
use Rattle.sml_graph.specs.declared.demand.Ask.{Ask}
use Rattle.sml_graph.specs.declared.demand.Ask.TheVariants as A
use Rattle.sml_layers.specs.declared.layer.Bound.TheVariants as B
use Rattle.sml_layers.specs.declared.layer.Layer.{Layer}
use Rattle.sml_layers.specs.declared.layer.Layer.TheVariants.{Equations, Finiteness, Newness, Locality, Equality, Classes, Rigidity}
use Rattle.sml_graph.specs.declared.limits.Limit.{Limit}
use Rattle.sml_graph.specs.declared.node.Node.{Node}
use Rattle.sml_graph.specs.declared.variables.Variables.TheVariants as V
use Rattle.sml_layers.specs.Worlds.{finite, typed, world}
use Rattle.sml_graph.specs.Worlds.{Assignment}
use Rattle.sml_layers.specs.Rows.{fields_at}
use Rattle.sml_graph.specs.Rows.{HasFields}
use Rattle.sml_graph.specs.Graphs.{Meets}
use Rattle.sml_graph.specs.Interned.{IsOver, IsBodyOver, through}
use Rattle.sml_graph.specs.Bounds.{IsWithin}
use Rattle.sml_layers.specs.Classes.{names_in}
use Rattle.sml_graph.specs.Limits.{no_limit, IsIn, KeepsThrough}
use Rattle.sml_graph.specs.Variables.{variable_type}
use Rattle.sml_layers.specs.Layers.{index_of}

-- A solver. Callers see of it the number of its unknowns, whether it is spent, and what `Permits` says.
pub record Asked : Type 0 where
  pub nodes : List Node
  pub unknowns : List ℕ
  pub unit : ℕ
  pub limits : List Limit
  pub spent : Bool

abbrev pub asked_of : ℕ → List ℕ → Graph → Bool → Asked
asked_of u us g b = record { nodes = g.nodes.items; unknowns = us; unit = u; limits = g.limits; spent = b }

-- how many unknowns there are
abbrev pub count : Asked → ℕ
count s = length s.unknowns

-- what is asked of single nodes in the layers up to this one
abbrev pub KeepsUpTo : (l : Layer) → ℕ → List Limit → Assignment (world l) → Type 0
KeepsUpTo Equations u ls τ = Unit {0}
KeepsUpTo Finiteness u ls τ = KeepsThrough Finiteness u ls τ
KeepsUpTo Newness u ls τ = KeepsThrough Newness u ls τ
KeepsUpTo Locality u ls τ = KeepsThrough Locality u ls τ
KeepsUpTo Equality u ls τ = KeepsThrough Equality u ls τ
KeepsUpTo Classes u ls τ = KeepsThrough Classes u ls τ
KeepsUpTo Rigidity u ls τ = KeepsThrough Rigidity u ls τ

-- The unknowns may have these types, by what was asked in the layers up to this one.
unfoldable pub Permits : (l : Layer) → Asked → Assignment (world l) → Type 0
Permits l s σ =
    (τ : Assignment (world l)) × Meets (world l) s.nodes τ × KeepsUpTo l s.unit s.limits τ
    × ((v : ℕ) → v < count s → through (world l) s.unknowns τ v ≡ σ v)

-- the layer in which a type is asked for something
abbrev pub layer_of : Ask → Layer
layer_of (A.Within B.Newness n) = Newness
layer_of (A.Within B.Locality n) = Locality
layer_of A.Equality = Equality
layer_of (A.Class c) = Classes
layer_of (A.Variable x) = Rigidity

-- The type is as asked: it mentions only such names of the unit as are among its first n, it admits equality, it is of the class,
-- it is the explicit variable.
abbrev pub IsAsAsked : ℕ → Ask → MlType Name → Type 0
IsAsAsked u (A.Within b n) t = IsWithin u n t
IsAsAsked u A.Equality t = admits naming t ≡ true
IsAsAsked u (A.Class c) t = IsIn (names_in c) t
IsAsAsked u (A.Variable x) t = t ≡ variable_type x

-- the limit that asks just this
abbrev pub limit_of : Ask → Limit
limit_of (A.Within B.Newness n) = record no_limit { newness = Some n }
limit_of (A.Within B.Locality n) = record no_limit { locality = Some n }
limit_of A.Equality = record no_limit { equality = true }
limit_of (A.Class c) = record no_limit { class = Some (names_in c) }
limit_of (A.Variable x) = record no_limit { variables = V.One x }

-- What may be demanded: that two types are equal, that a type is a row that has these fields, or something else of one type.
pub data Demand : Type 0 where
  equal : MlType Name → MlType Name → Demand
  has_fields : MlType Name → List (Id × MlType Name) → Demand
  asks : Ask → MlType Name → Demand

-- the type is as asked, as far as the layers up to this one see it
abbrev pub HoldsUpTo : Layer → ℕ → Assignment finite → Ask → MlType Name → Type 0
HoldsUpTo l u σ a t = index_of (layer_of a) ≤ index_of l → IsAsAsked u a (assign σ t)

-- the types of the unknowns meet the demand, as far as the layers up to this one see it
abbrev pub Holds : (l : Layer) → ℕ → Assignment (world l) → Demand → Type 0
Holds l u σ (equal t v) = typed (world l) σ t ≡ typed (world l) σ v
Holds l u σ (has_fields t fs) = HasFields (world l) (typed (world l) σ t) (fields_at (typed (world l) σ) fs)
Holds Equations u σ (asks a t) = Unit {0}
Holds Finiteness u σ (asks a t) = HoldsUpTo Finiteness u σ a t
Holds Newness u σ (asks a t) = HoldsUpTo Newness u σ a t
Holds Locality u σ (asks a t) = HoldsUpTo Locality u σ a t
Holds Equality u σ (asks a t) = HoldsUpTo Equality u σ a t
Holds Classes u σ (asks a t) = HoldsUpTo Classes u σ a t
Holds Rigidity u σ (asks a t) = HoldsUpTo Rigidity u σ a t

-- the demand speaks of the solver's unknowns, and of no variable that a scheme binds
abbrev pub IsOf : Asked → MlType Name → Type 0
IsOf s t = IsOver (count s) t

-- the scheme binds its variables, and speaks of the solver's unknowns otherwise
abbrev pub IsSchemeOf : Asked → Scheme Name → Type 0
IsSchemeOf s σ = IsBodyOver (length σ.variables) (count s) σ.body

-- some types meet what was asked so far and the demand, in the layers up to this one
unfoldable pub CanMeet : Layer → Asked → Demand → Type 0
CanMeet l s d = (σ : Assignment (world l)) × Permits l s σ × Holds l s.unit σ d

-- the first layer that can't be met
unfoldable pub IsFirstUnmet : Layer → Asked → Demand → Type 0
IsFirstUnmet l s d = (CanMeet l s d → ⊥) × ((k : Layer) → index_of k < index_of l → CanMeet k s d)

-- the types permitted are those before that also meet the demand
unfoldable pub Adds : Asked → Demand → Asked → Type 0
Adds old d new = (l : Layer) (σ : Assignment (world l)) → Permits l new σ ↔ (Permits l old σ × Holds l old.unit σ d)

-- the same types are permitted
unfoldable pub PermitsSame : Asked → Asked → Type 0
PermitsSame old new = (l : Layer) (σ : Assignment (world l)) → Permits l new σ ↔ Permits l old σ

-- some types are permitted
unfoldable pub IsMet : Asked → Type 0
IsMet s = (l : Layer) → (σ : Assignment (world l)) × Permits l s σ
