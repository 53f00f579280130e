-- Unknowns that may be one of several initial names, as the type of an overloaded identifier (the Definition, appendix E).
use Rattle.std.specs.Prelude.{◌≡◌, ◌≢◌, ℕ, ◌↔◌, Bool, false, List, []}
use Rattle.sml_objects.specs.Appearance.{Stands}
use Rattle.sml_objects.specs.Names.{Initial, int}
use Rattle.sml_objects.specs.Initial.{initial}
use Rattle.sml_objects.specs.Objects.{name, named}
use Rattle.sml_layers.specs.declared.layer.Layer.{Layer}
use Rattle.sml_layers.specs.declared.layer.Layer.TheVariants.{Rigidity}
use Rattle.sml_graph.specs.declared.limits.Limit.{Limit}
use Rattle.sml_graph.specs.declared.node.Node.{Node}
use Rattle.sml_graph.specs.declared.node.Node.TheVariants.{Unknown, Link, App, Open}
use Rattle.sml_layers.specs.Worlds.{finite, make, world}
use Rattle.sml_graph.specs.Worlds.{Assignment}
use Rattle.sml_graph.specs.Asked.{Asked, Permits}
use Rattle.sml_layers.specs.Classes.{has_several}

-- By all that was asked, it is an initial name, and more than one could it still be.
pub record IsOverloaded (s : Asked) (v : ℕ) : Type 0 where
  pub named_so : (σ : Assignment finite) → Permits Rigidity s σ → (k : Initial) × (σ v ≡ named (initial k))
  pub one : Assignment finite
  pub other : Assignment finite
  pub may_be_one : Permits Rigidity s one
  pub may_be_other : Permits Rigidity s other
  pub apart : one v ≢ other v

abbrev pub is_several : Node → Limit → Bool
is_several Unknown a = has_several a.class a.equality
is_several (Link j) a = false
is_several (App h kids) a = false
is_several (Open fs) a = false

-- The types permitted are those before in which each of these unknowns that was overloaded is `int`.
unfoldable pub Settles : Asked → List ℕ → Asked → Type 0
Settles old vs new =
    (l : Layer) (σ : Assignment (world l))
    → Permits l new σ ↔ (Permits l old σ × ((v : ℕ) → Stands v vs → IsOverloaded old v → σ v ≡ make (world l) (name (initial int)) []))
