-- Types in two algebras: the finite types of section 4.2 of the Definition, and types that may be infinite. Where
-- even infinite types can't make two types equal, they clash; where only these can, a type would be circular.
use Rattle.std.specs.Prelude.{ℕ, List, [], ◌∷◌, length, Option, Some, None, slice_index_or}
use Rattle.sml_objects.specs.Objects.{MlType, MlTypes, Head, bound, free, app, no_type, and_type, types_of}
use Rattle.sml_objects.specs.Types.{assign}
use Rattle.sml_layers.specs.declared.layer.Layer.{Layer}
use Rattle.sml_layers.specs.declared.layer.Layer.TheVariants.{Equations, Finiteness, Newness, Locality, Equality, Classes, Rigidity}

-- what stands at the end of each path from the top: a head with the number of its parts, or nothing
abbrev pub InfiniteType : Type 0 → Type 0
InfiniteType N = List ℕ → Option (Head N × ℕ)

pub data World : Type 0 where
  finite : World
  infinite : World

abbrev pub In : Type 0 → World → Type 0
In N finite = MlType N
In N infinite = InfiniteType N

-- an assignment gives each unknown a type
abbrev pub Assignment : Type 0 → World → Type 0
Assignment N w = ℕ → In N w

abbrev pub tree : {N : Type 0} → Head N → List (InfiniteType N) → InfiniteType N
tree h ts [] = Some (h, length ts)
tree h ts (k ∷ path) = slice_index_or ts k (λ _. None) path

-- a head over types
abbrev pub make : {N : Type 0} (w : World) → Head N → List (In N w) → In N w
make finite h ts = app h (types_of ts)
make infinite h ts = tree h ts

-- the tree of a type whose free variables have these trees
unfoldable mutual
  pub spread : {N : Type 0} → (ℕ → InfiniteType N) → MlType N → InfiniteType N
  spread σ (bound k) = λ _. None
  spread σ (free v) = σ v
  spread σ (app h ts) = tree h (spread_all σ ts)

  pub spread_all : {N : Type 0} → (ℕ → InfiniteType N) → MlTypes N → List (InfiniteType N)
  spread_all σ no_type = []
  spread_all σ (and_type t ts) = spread σ t ∷ spread_all σ ts

-- the type whose free variables have these types
abbrev pub typed : {N : Type 0} (w : World) → Assignment N w → MlType N → In N w
typed finite σ t = assign σ t
typed infinite σ t = spread σ t

-- only the first layer is over infinite types
abbrev pub world : Layer → World
world Equations = infinite
world Finiteness = finite
world Newness = finite
world Locality = finite
world Equality = finite
world Classes = finite
world Rigidity = finite
