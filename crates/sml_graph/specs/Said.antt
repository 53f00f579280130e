-- What a solver has been asked, as a list of demands, and the same with the names themselves in place of their numbers.
use Rattle.std.specs.Prelude.{◌≡◌, ◌↔◌, ◌⊎◌, ◌<◌, ℕ, false, List, [], ◌∷◌, map}
use Rattle.std.specs.List.{AllByRecursion}
use Rattle.sml_objects.specs.Names.{Initial}
use Rattle.sml_objects.specs.Appearance.{Stands}
use Rattle.sml_objects.specs.Initial.{Name, initial, naming}
use Rattle.sml_objects.specs.Objects.{named}
use Rattle.sml_layers.specs.declared.layer.Layer.{Layer}
use Rattle.sml_layers.specs.declared.variable.Variable.{Variable}
use Rattle.sml_layers.specs.Explicit.{variable_name}
use Rattle.sml_layers.specs.Demands as D
use Rattle.sml_layers.specs.Demands.{Words, CanBeMet, IsFirstUnmet}
use Rattle.sml_layers.specs.Rebound.{rebound, DemandMentions}
use Rattle.sml_layers.specs.Worlds.{world}
use Rattle.sml_graph.specs.declared.demand.Ask.{Ask}
use Rattle.sml_graph.specs.declared.demand.Ask.TheVariants as A
use Rattle.sml_graph.specs.Worlds.{Assignment}
use Rattle.sml_graph.specs.Asked as R
use Rattle.sml_graph.specs.Asked.{Asked, Demand, equal, has_fields, asks, count, Adds, IsMet, Permits, PermitsSame}
use Rattle.sml_graph.specs.Bounds.{IsNameWithin}

abbrev pub ask_of : Ask → D.Ask ℕ
ask_of (A.Within k n) = D.within k n
ask_of A.Equality = D.equality
ask_of (A.Class c) = D.of_class c
ask_of (A.Variable x) = D.variable x

abbrev pub demand_of : Demand → D.Demand Name ℕ
demand_of (equal t u) = D.equal t u
demand_of (has_fields t fs) = D.has_fields t fs
demand_of (asks a t) = D.asks (ask_of a) t

-- A name stands for an explicit variable, and no type variable is known to admit equality. A bound is a number: of the unit's
-- names it allows those that were made before so many had been.
abbrev pub by_number : ℕ → Words Name ℕ
by_number u = record { names = naming; variable = λ x. named (variable_name x); equality = λ _. false; Allows = IsNameWithin u }

-- A bound is a list of names: it allows these, and those that stand for explicit variables.
abbrev pub by_list : Words Name (List Name)
by_list = record { names = naming; variable = λ x. named (variable_name x); equality = λ _. false; Allows = λ T n. Stands n T ⊎ ((x : Variable) × (n ≡ variable_name x)) }

-- In each layer exactly the types that meet the demands are permitted.
unfoldable pub Says : Asked → List Demand → Type 0
Says s ds = (l : Layer) (σ : Assignment (world l)) → Permits l s σ ↔ D.AllHold (by_number s.unit) (world l) l σ (map demand_of ds)

-- The names made so far: the initial ones are among them. Each number stands for a list that has those of them that it allows.
pub record AreSoFar (u : ℕ) (ns : List Name) (f : ℕ → List Name) : Type 0 where
  pub unit : 0 < u
  pub initials : (k : Initial) → Stands (initial k) ns
  pub lists : (n : ℕ) (m : Name) → Stands m (f n) ↔ (Stands m ns × IsNameWithin u n m)

-- the name was made so far, or stands for an explicit variable
abbrev pub IsOfNames : List Name → Name → Type 0
IsOfNames ns n = Stands n ns ⊎ ((x : Variable) × (n ≡ variable_name x))

-- Demands of the names made so far can be met with bounds as numbers just where they can be met with bounds as lists.
unfoldable pub NumbersAreLists : Type 0
NumbersAreLists =
    (u : ℕ) (ns : List Name) (f : ℕ → List Name) → AreSoFar u ns f
    → (ds : List (D.Demand Name ℕ)) → AllByRecursion (DemandMentions (IsOfNames ns)) ds
    → (l : Layer) → CanBeMet (by_number u) l ds ↔ CanBeMet by_list l (map (rebound f) ds)

-- What a call of a solver adds to the list of its demands: nothing at first, a demand where one was added, nothing where the
-- same types are permitted. A demand is refused by the first layer of the list with it that can't be met.
pub record SaysItsDemands : Type 0 where
  pub at_first : (s : Asked) → count s ≡ 0 → IsMet s → Says s []
  pub added : (old new : Asked) (d : Demand) (ds : List Demand) → new.unit ≡ old.unit → Adds old d new → Says old ds → Says new (d ∷ ds)
  pub kept : (old new : Asked) (ds : List Demand) → new.unit ≡ old.unit → PermitsSame old new → Says old ds → Says new ds
  pub refused : (s : Asked) (d : Demand) (ds : List Demand) (l : Layer) → Says s ds
      → R.IsFirstUnmet l s d ↔ IsFirstUnmet (by_number s.unit) l (map demand_of (d ∷ ds))
