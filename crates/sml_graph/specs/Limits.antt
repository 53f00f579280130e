-- What is asked of the type of each node, layer by layer, and what follows for the types of its parts.
use Rattle.std.specs.Prelude.{◌≡◌, ℕ, ◌+◌, ◌<◌, ◌≤◌, ◌^◌, ◌↔◌, ◌⊎◌, Bool, true, false, not, ◌&&◌, ◌||◌, cond, nat_lt, List, [], ◌∷◌, length, take, Option, Some, None, slice_index_or}
use Rattle.std.specs.List.{AllByRecursion}
use Rattle.sml_objects.specs.Appearance.{Stands}
use Rattle.sml_objects.specs.Names.{Initial}
use Rattle.sml_objects.specs.Initial.{Name, initial, naming, attributes_of}
use Rattle.sml_objects.specs.Equality.{admits, is_reference_name}
use Rattle.sml_objects.specs.Objects.{MlType, Head, arrow, row, name, named}
use Rattle.sml_layers.specs.declared.class.Names.{Names}
use Rattle.sml_layers.specs.declared.layer.Layer.{Layer}
use Rattle.sml_layers.specs.declared.layer.Layer.TheVariants.{Equations, Finiteness, Newness, Locality, Equality, Classes, Rigidity}
use Rattle.sml_graph.specs.declared.limits.Limit.{Limit}
use Rattle.sml_graph.specs.declared.change.Change.{Change}
use Rattle.sml_graph.specs.declared.node.Node.{Node}
use Rattle.sml_graph.specs.declared.node.Node.TheVariants.{Unknown, Link, App, Open}
use Rattle.sml_layers.specs.Worlds.{finite}
use Rattle.sml_graph.specs.Worlds.{Assignment}
use Rattle.sml_graph.specs.Graphs.{node_at, head_over, parts, Meets}
use Rattle.sml_graph.specs.Changes.{HasChange, BeginsWith, IsOfAll, AreInside}
use Rattle.sml_graph.specs.Bounds.{IsWithin, IsHeadWithin}
use Rattle.sml_layers.specs.Classes.{allows, both_names}
use Rattle.sml_layers.specs.Layers.{index_of}
use Rattle.sml_graph.specs.Variables.{both_variables, MeetsVariables, FitsVariables, IsPossible, variables_height}
use Rattle.sml_graph.specs.declared.variables.Variables.TheVariants as V

abbrev pub no_limit : Limit
no_limit = record { newness = None; locality = None; equality = false; class = None; variables = V.Any }

abbrev pub limit_at : List Limit → ℕ → Limit
limit_at ls i = slice_index_or ls i no_limit

abbrev pub MeetsBound : ℕ → Option ℕ → MlType Name → Type 0
MeetsBound u None t = Unit {0}
MeetsBound u (Some n) t = IsWithin u n t

abbrev pub MeetsEquality : Bool → MlType Name → Type 0
MeetsEquality false t = Unit {0}
MeetsEquality true t = admits naming t ≡ true

-- the type is one of the names
abbrev pub IsIn : Names → MlType Name → Type 0
IsIn c t = (k : Initial) × (allows c k ≡ true) × (t ≡ named (initial k))

abbrev pub MeetsClass : Option Names → MlType Name → Type 0
MeetsClass None t = Unit {0}
MeetsClass (Some c) t = IsIn c t

-- what the limit asks of a type in the layer
abbrev pub MeetsAt : Layer → ℕ → Limit → MlType Name → Type 0
MeetsAt Equations u a t = Unit {0}
MeetsAt Finiteness u a t = Unit {0}
MeetsAt Newness u a t = MeetsBound u a.newness t
MeetsAt Locality u a t = MeetsBound u a.locality t
MeetsAt Equality u a t = MeetsEquality a.equality t
MeetsAt Classes u a t = MeetsClass a.class t
MeetsAt Rigidity u a t = MeetsVariables a.variables t

-- each node's type is as its limit asks
abbrev pub KeepsAt : Layer → ℕ → List Limit → Assignment finite → Type 0
KeepsAt l u ls σ = (i : ℕ) → MeetsAt l u (limit_at ls i) (σ i)

-- the same in the layers up to this one
abbrev pub KeepsThrough : Layer → ℕ → List Limit → Assignment finite → Type 0
KeepsThrough l u ls σ = (k : Layer) → index_of k ≤ index_of l → KeepsAt k u ls σ

-- the first limit asks as much as the second
abbrev pub IsUnder : Limit → Limit → Type 0
IsUnder a b = (l : Layer) (u : ℕ) (t : MlType Name) → MeetsAt l u a t → MeetsAt l u b t

-- the third limit asks no more than the first two do
abbrev pub IsOfBoth : Limit → Limit → Limit → Type 0
IsOfBoth a b c = (l : Layer) (u : ℕ) (t : MlType Name) → MeetsAt l u a t → MeetsAt l u b t → MeetsAt l u c t

-- what both ask

abbrev pub both_bounds : Option ℕ → Option ℕ → Option ℕ
both_bounds None b = b
both_bounds (Some m) None = Some m
both_bounds (Some m) (Some n) = Some (cond (nat_lt n m) n m)

abbrev pub both_classes : Option Names → Option Names → Option Names
both_classes None b = b
both_classes (Some c) None = Some c
both_classes (Some c) (Some d) = Some (both_names c d)

abbrev pub both : Limit → Limit → Limit
both a b = record {
  newness = both_bounds a.newness b.newness;
  locality = both_bounds a.locality b.locality;
  equality = a.equality || b.equality;
  class = both_classes a.class b.class;
  variables = both_variables a.variables b.variables;
}

-- what is asked of the head of a type

abbrev pub FitsBound : ℕ → Option ℕ → Head Name → Type 0
FitsBound u None h = Unit {0}
FitsBound u (Some n) h = IsHeadWithin u n h

abbrev pub FitsEquality : Bool → Head Name → Type 0
FitsEquality false h = Unit {0}
FitsEquality true arrow = ⊥
FitsEquality true (row ls) = Unit {0}
FitsEquality true (name m) = (is_reference_name m || (attributes_of m).equality) ≡ true

abbrev pub FitsClass : Option Names → Head Name → ℕ → Type 0
FitsClass None h n = Unit {0}
FitsClass (Some c) h n = (k : Initial) × (allows c k ≡ true) × (h ≡ name (initial k)) × (n ≡ 0)

abbrev pub FitsAt : Layer → ℕ → Limit → Head Name → ℕ → Type 0
FitsAt Equations u a h n = Unit {0}
FitsAt Finiteness u a h n = Unit {0}
FitsAt Newness u a h n = FitsBound u a.newness h
FitsAt Locality u a h n = FitsBound u a.locality h
FitsAt Equality u a h n = FitsEquality a.equality h
FitsAt Classes u a h n = FitsClass a.class h n
FitsAt Rigidity u a h n = FitsVariables a.variables h n

-- where nothing is known of a type, only explicit variables ask for too much
abbrev pub IsFitUnknown : Layer → Limit → Type 0
IsFitUnknown Rigidity a = IsPossible a.variables a.equality a.class
IsFitUnknown l a = Unit {0}

abbrev pub IsFitNode : Layer → ℕ → Limit → Node → Type 0
IsFitNode l u a Unknown = IsFitUnknown l a
IsFitNode l u a (Link j) = Unit {0}
IsFitNode l u a (App h kids) = FitsAt l u a (head_over h (length kids.items)) (length kids.items)
IsFitNode l u a (Open fs) = FitsAt l u a (row []) 0

-- what is asked of the parts of a type: equality of those of a reference isn't

abbrev pub asks_parts : Head Name → Bool
asks_parts arrow = true
asks_parts (row ls) = true
asks_parts (name m) = not (is_reference_name m)

abbrev pub for_parts : Head Name → Limit → Limit
for_parts h a = record { newness = a.newness; locality = a.locality; equality = asks_parts h && a.equality; class = None; variables = V.Any }

-- what is asked of the nodes that a node speaks of
abbrev pub handed : Node → Limit → Limit
handed Unknown a = a
handed (Link j) a = a
handed (App h kids) a = for_parts (head_over h (length kids.items)) a
handed (Open fs) a = for_parts (row []) a

-- the limit is asked of each of these
abbrev pub AreUnder : List Limit → Limit → List ℕ → Type 0
AreUnder ls a ks = AllByRecursion (λ k. IsUnder (limit_at ls k) a) ks

-- what is asked of the node is asked of its parts
abbrev pub IsClosedNode : List Limit → ℕ → Node → Type 0
IsClosedNode ls i x = AreUnder ls (handed x (limit_at ls i)) (parts x)

-- the same of its first parts, before the change
abbrev pub IsClosedTo : List Limit → ℕ → Node → Change → Type 0
IsClosedTo ls i x c = (c.node ≡ i) × AreUnder ls (handed x (limit_at ls i)) (take c.from (parts x))

abbrev pub IsClosed : List Node → List Limit → Type 0
IsClosed ns ls = (i : ℕ) → IsClosedNode ls i (node_at ns i)

-- each head is as asked in the layer
abbrev pub IsFit : Layer → ℕ → List Node → List Limit → Type 0
IsFit l u ns ls = (i : ℕ) → IsFitNode l u (limit_at ls i) (node_at ns i)

-- the layer comes before one that failed
abbrev pub IsBefore : Layer → Option Layer → Type 0
IsBefore l None = Unit {0}
IsBefore l (Some m) = index_of l < index_of m

-- each node is done, but for changes that are left to do and for layers that failed
abbrev pub IsDoneBut : ℕ → List Node → List Limit → Option Layer → List Change → Type 0
IsDoneBut u ns ls f cs =
    (i : ℕ) → (IsClosedNode ls i (node_at ns i) × ((l : Layer) → IsBefore l f → IsFitNode l u (limit_at ls i) (node_at ns i)))
    ⊎ HasChange (IsClosedTo ls i (node_at ns i)) cs

-- the types that meet the nodes keep the one limits where they keep the others
abbrev pub SameLimits : ℕ → List Node → List Limit → List Limit → Type 0
SameLimits u ns ls ms = (l : Layer) (σ : Assignment finite) → Meets finite ns σ → KeepsAt l u ls σ ↔ KeepsAt l u ms σ

-- no types that meet the nodes keep the limits in the layers up to this one
abbrev pub NoneKeeps : ℕ → List Node → List Limit → Layer → Type 0
NoneKeeps u ns ls l = (σ : Assignment finite) → Meets finite ns σ → KeepsThrough l u ls σ → ⊥

-- how much a limit can still be lowered

abbrev pub bound_height : Option ℕ → ℕ
bound_height None = 2 ^ 32
bound_height (Some n) = n

abbrev pub class_height : Option Names → ℕ
class_height None = 4
class_height (Some c) = cond c.word 1 0 + (cond c.real 1 0 + cond c.text 1 0)

abbrev pub height : Limit → ℕ
height a = bound_height a.newness + (bound_height a.locality + (cond a.equality 0 1 + (class_height a.class + variables_height a.variables)))

abbrev pub heights : List Limit → ℕ
heights [] = 0
heights (l ∷ ls) = height l + heights ls

-- the limits of some nodes are lowered by one; nodes whose limit changed are left to do
pub record Lowers (ls : List Limit) (bs : List Change) (ks : List ℕ) (a : Limit) (ms : List Limit) (cs : List Change) : Type 0 where
  pub len : length ms ≡ length ls
  pub reach : AreUnder ms a ks
  pub under : (i : ℕ) → IsUnder (limit_at ms i) (limit_at ls i)
  pub moved : (i : ℕ) → (limit_at ms i ≡ limit_at ls i) ⊎ (IsOfBoth (limit_at ls i) a (limit_at ms i) × Stands i ks × HasChange (IsOfAll i) cs)
  pub grows : BeginsWith bs cs
  pub inside : AreInside (length ls) bs → AreInside (length ls) cs
  pub less : heights ms + length cs ≤ heights ls + length bs
