-- Schemes of what a value declaration binds (the Definition, sections 4.5 and 4.8).
use Rattle.std.specs.Prelude.{◌≡◌, ℕ, ◌↔◌, ◌⊎◌, ◌||◌, Bool, true, false, cond, List, [], map, slice_index, slice_index_or}
use Rattle.sml_objects.specs.Equality.{admits}
use Rattle.sml_objects.specs.Fates.{close_as}
use Rattle.sml_objects.specs.Initial.{Name, initial, naming}
use Rattle.sml_objects.specs.Names.{int}
use Rattle.sml_objects.specs.Objects.{MlType, Scheme, named}
use Rattle.sml_objects.specs.Types.{variables_after}
use Rattle.sml_objects.specs.declared.fates.Fate.{Fate}
use Rattle.sml_objects.specs.declared.fates.Fate.TheVariants.{Bind, Keep, Default}
use Rattle.sml_layers.specs.declared.layer.Layer.{Layer}
use Rattle.sml_layers.specs.declared.layer.Layer.TheVariants.{Finiteness, Equality, Classes}
use Rattle.sml_graph.specs.declared.limits.Limit.{Limit}
use Rattle.sml_graph.specs.declared.node.Node.{Node}
use Rattle.sml_graph.specs.declared.node.Node.TheVariants.{Unknown, Link, App, Open}
use Rattle.sml_layers.specs.Worlds.{finite, typed, world}
use Rattle.sml_graph.specs.Worlds.{In, Assignment}
use Rattle.sml_graph.specs.Graphs.{node_at}
use Rattle.sml_graph.specs.Limits.{limit_at}
use Rattle.sml_graph.specs.Asked.{Asked, Permits}
use Rattle.sml_schemes.specs.Left.{IsLeft, IsFlexible, IsReading}
use Rattle.sml_layers.specs.Classes.{has_one}
use Rattle.sml_schemes.specs.Fixed.{IsMarked}

-- by its class, the unknown can be no other type than int
unfoldable pub IsInt : Asked → ℕ → Type 0
IsInt s v = (σ : Assignment finite) → Permits Classes s σ → σ v ≡ named (initial int)

-- whatever type the unknown becomes admits equality
unfoldable pub AsksEquality : Asked → ℕ → Type 0
AsksEquality s v = (σ : Assignment finite) → Permits Equality s σ → admits naming (σ v) ≡ true

-- What becomes of an unknown that is left. Where no type but int is left for it, it is int. Otherwise it is bound, with
-- its equality attribute and nothing else of what was asked, unless the phrase is expansive, the unknown has a flag, or it is a
-- flexible row.
abbrev pub IsFateOf : Asked → List Bool → Bool → ℕ → Fate → Type 0
IsFateOf s bs x v (Bind e) = (IsInt s v → ⊥) × (x ≡ false) × (IsMarked bs v → ⊥) × (IsFlexible s v → ⊥) × ((e ≡ true) ↔ AsksEquality s v)
IsFateOf s bs x v Keep = (IsInt s v → ⊥) × ((x ≡ true) ⊎ IsMarked bs v ⊎ IsFlexible s v)
IsFateOf s bs x v Default = IsInt s v

-- the scheme of a type over unknowns that are left, each of which has its fate
pub record IsSchemeOfReading (s : Asked) (bs : List Bool) (x : Bool) (r : MlType Name) (θ : Scheme Name) : Type 0 where
  pub fate : ℕ → Fate
  pub fates : (v : ℕ) → IsLeft s v → IsFateOf s bs x v (fate v)
  pub scheme : θ ≡ close_as (named (initial int)) (map fate (variables_after [] r)) r

-- The scheme of a type is that of its reading.
pub record IsScheme (s : Asked) (bs : List Bool) (x : Bool) (t : MlType Name) (θ : Scheme Name) : Type 0 where
  pub reading : MlType Name
  pub reads : IsReading s t reading
  pub closed : IsSchemeOfReading s bs x reading θ

-- a type has no two schemes
abbrev pub HasOneScheme : Asked → Type 0
HasOneScheme s = (bs : List Bool) (x : Bool) (t : MlType Name) (θ η : Scheme Name) → IsScheme s bs x t θ → IsScheme s bs x t η → θ ≡ η

-- By what was asked in the layers up to this one, the type may be this one.
unfoldable pub MayBecome : (l : Layer) → Asked → MlType Name → In (world l) → Type 0
MayBecome l s t a = (σ : Assignment (world l)) × Permits l s σ × (typed (world l) σ t ≡ a)

abbrev pub MayBecomeSame : Layer → Asked → MlType Name → Asked → MlType Name → Type 0
MayBecomeSame l s t r q = (a : In (world l)) → MayBecome l s t a ↔ MayBecome l r q a

-- Two types, each over the unknowns of a solver of its own, may become the same types: by the equations, where equality is
-- asked too, and where classes are.
pub record AreAlike (s : Asked) (t : MlType Name) (r : Asked) (q : MlType Name) : Type 0 where
  pub finite_types : MayBecomeSame Finiteness s t r q
  pub with_equality : MayBecomeSame Equality s t r q
  pub with_classes : MayBecomeSame Classes s t r q

-- no unknown is fixed
abbrev pub HasNoFlag : List Bool → Type 0
HasNoFlag bs = (v : ℕ) → IsMarked bs v → ⊥

-- no flexible row is left
abbrev pub HasNoFlexible : Asked → Type 0
HasNoFlexible s = (v : ℕ) → IsLeft s v → IsFlexible s v → ⊥

-- Types that are alike have one scheme, whatever unknowns they were made of.
abbrev pub GiveOneScheme : Asked → Asked → Type 0
GiveOneScheme s r = (t q : MlType Name) (bs cs : List Bool) (θ η : Scheme Name) → AreAlike s t r q → HasNoFlag bs → HasNoFlag cs → HasNoFlexible s → HasNoFlexible r → IsScheme s bs false t θ → IsScheme r cs false q η → θ ≡ η

abbrev pub fate_of : Limit → Bool → Bool → Fate
fate_of a b x = cond (has_one a.class a.equality) Default (cond (x || b) Keep (Bind a.equality))

abbrev pub is_open : Node → Bool
is_open Unknown = false
is_open (Link j) = false
is_open (App h kids) = false
is_open (Open fs) = true

-- the fate of an unknown, by its place
abbrev pub fate_at : List Node → List Limit → List ℕ → List Bool → Bool → ℕ → Fate
fate_at ns ls us bs x v = fate_of (limit_at ls (slice_index us v)) (slice_index_or bs v false || is_open (node_at ns (slice_index us v))) x
