-- In which order units come.
use Rattle.std.specs.Prelude.{◌≡◌, ◌⊎◌, ℕ, ◌<◌, ◌≤◌, Bool, true, false, List, [], ◌∷◌, length, map, take, slice_index, slice_index_or, count_by}
use Rattle.std.specs.List.{All, Any, Contains}
use Rattle.std.specs.String.{string_bytes}
use Rattle.sml_projects.specs.declared.manifest.OrderFault.{OrderFault}
use Rattle.sml_projects.specs.declared.manifest.OrderFault.TheVariants.{Memory, Fault}
use Rattle.sml_projects.specs.declared.manifest.ProjectCode.TheVariants.{O1, O2}
use Rattle.sml_projects.specs.declared.manifest.ProjectFault.{ProjectFault}
use Rattle.sml_projects.specs.declared.project.Project.{Project}
use Rattle.sml_projects.specs.declared.project.ProjectUnit.{ProjectUnit}
use Rattle.sml_projects.specs.ProjectFiles.{UnitLine}

abbrev pub unit_at : List UnitLine → ℕ → UnitLine
unit_at us k = slice_index_or us k (record { name = []; file = []; needs = [] })

-- The unit at k may come after the units taken, all by their places from 0: each of its needs names one of these.
pub record MayCome (us : List UnitLine) (taken : List ℕ) (k : ℕ) : Type 0 where
  pub listed : k < length us
  pub left : ¬ (Contains taken k)
  pub needs : All (λ need. Any (λ j. (unit_at us j).name ≡ need) taken) (unit_at us k).needs

-- it is the earliest listed that may come
pub record IsNext (us : List UnitLine) (taken : List ℕ) (k : ℕ) : Type 0 where
  pub may : MayCome us taken k
  pub earliest : (j : ℕ) → j < k → ¬ (MayCome us taken j)

-- Each unit of the order is the next after those before it, and none is left out.
pub record IsOrder (us : List UnitLine) (order : List ℕ) : Type 0 where
  pub next : (i : ℕ) → i < length order → IsNext us (take i order) (slice_index_or order i 0)
  pub whole : length order ≡ length us

-- a unit's place among the units listed, its name, its text, and the places of its needs in the order
pub record UnitText : Type 0 where
  pub place : ℕ
  pub name : List ℕ
  pub text : List ℕ
  pub needs : List ℕ

abbrev pub unit_text_of : ProjectUnit → UnitText
unit_text_of u = record { place = u.id.index; name = string_bytes u.name; text = u.text.items; needs = u.needs.items }

-- the units of a project in their order
abbrev pub unit_texts : Project → List UnitText
unit_texts p = map unit_text_of p.units.items

-- a need stands at this place of the order
pub record IsNeed (us : List UnitLine) (order : List ℕ) (name : List ℕ) (at : ℕ) : Type 0 where
  pub within : at < length order
  pub named : (unit_at us (slice_index_or order at 0)).name ≡ name

abbrev pub AreNeeds : List UnitLine → List ℕ → List (List ℕ) → List ℕ → Type 0
AreNeeds us order [] [] = Unit {0}
AreNeeds us order (name ∷ names) (at ∷ ats) = IsNeed us order name at × AreNeeds us order names ats
AreNeeds us order names ats = ⊥

-- the unit at this place among those listed, with its text
pub record IsUnitText (us : List UnitLine) (texts : List (List ℕ)) (order : List ℕ) (k : ℕ) (u : UnitText) : Type 0 where
  pub place : u.place ≡ k
  pub name : u.name ≡ (unit_at us k).name
  pub text : u.text ≡ slice_index_or texts k []
  pub needs : AreNeeds us order (unit_at us k).needs u.needs

abbrev pub AreUnitTexts : List UnitLine → List (List ℕ) → List ℕ → List ℕ → List UnitText → Type 0
AreUnitTexts us texts order [] [] = Unit {0}
AreUnitTexts us texts order (k ∷ ks) (u ∷ rest) = IsUnitText us texts order k u × AreUnitTexts us texts order ks rest
AreUnitTexts us texts order ks rest = ⊥

-- the project of these units, of which each has the text that stands at its place
pub record IsProjectOf (us : List UnitLine) (texts : List (List ℕ)) (p : Project) : Type 0 where
  pub order : List ℕ
  pub ordered : IsOrder us order
  pub units : AreUnitTexts us texts order order (unit_texts p)

-- a need of the unit at this place that no unit is named by
pub record HasUnknown (us : List UnitLine) (k : ℕ) : Type 0 where
  pub listed : k < length us
  pub unknown : Any (λ need. All (λ u. ¬ (u.name ≡ need)) us) (unit_at us k).needs

-- the first such unit, and O1 at its line
pub record IsUnknownUnit (us : List UnitLine) (lines : List ℕ) (f : ProjectFault) : Type 0 where
  pub at : ℕ
  pub has : HasUnknown us at
  pub first : (j : ℕ) → j < at → ¬ (HasUnknown us j)
  pub fault : f ≡ record { code = O1; line = slice_index_or lines at 0 }

-- Each unit taken is the next after those before it, none may come after them, and O2 stands at the earliest that is left.
pub record IsCycle (us : List UnitLine) (lines : List ℕ) (f : ProjectFault) : Type 0 where
  pub taken : List ℕ
  pub next : (i : ℕ) → i < length taken → IsNext us (take i taken) (slice_index_or taken i 0)
  pub stuck : (k : ℕ) → ¬ (MayCome us taken k)
  pub at : ℕ
  pub listed : at < length us
  pub left : ¬ (Contains taken at)
  pub earliest : (j : ℕ) → j < at → Contains taken j
  pub known : (k : ℕ) → ¬ (HasUnknown us k)
  pub fault : f ≡ record { code = O2; line = slice_index_or lines at 0 }

-- why units with these lines have no order
unfoldable pub IsOrderFault : List UnitLine → List ℕ → OrderFault → Type 0
IsOrderFault us lines Memory = Unit {0}
IsOrderFault us lines (Fault f) = IsUnknownUnit us lines f ⊎ IsCycle us lines f

-- What follows says how the code keeps count of what is taken. No public contract rests on it.

-- no two units have one name
abbrev pub HaveOwnNames : List UnitLine → Type 0
HaveOwnNames us = (j k : ℕ) → j < length us → k < length us → (unit_at us j).name ≡ (unit_at us k).name → j ≡ k

-- whether the unit at this place is marked
abbrev pub is_marked : List Bool → ℕ → Bool
is_marked marks k = slice_index_or marks k false

-- there is a mark for each unit, set at those of the order
pub record IsMarked (us : List UnitLine) (order : List ℕ) (marks : List Bool) : Type 0 where
  pub count : length marks ≡ length us
  pub each : (j : ℕ) → Contains order j → is_marked marks j ≡ true
  pub only : (j : ℕ) → is_marked marks j ≡ true → Contains order j
  pub number : count_by (λ mark. mark) marks ≡ length order

-- These are the places of the first needs, and the order meets the others.
pub record Waits (us : List UnitLine) (order : List ℕ) (needs : List (List ℕ)) (places : List ℕ) : Type 0 where
  pub fewer : length places ≤ length needs
  pub within : (i : ℕ) → i < length places → slice_index places i < length us
  pub named : (i : ℕ) → i < length places → (unit_at us (slice_index places i)).name ≡ slice_index_or needs i []
  pub met : (i : ℕ) → length places ≤ i → i < length needs → Any (λ j. (unit_at us j).name ≡ slice_index_or needs i []) order

-- the first units wait for these
abbrev pub AreWaiting : List UnitLine → List ℕ → List (List ℕ) → Type 0
AreWaiting us order waiting = (k : ℕ) → k < length waiting → Waits us order (unit_at us k).needs (slice_index_or waiting k [])

-- the places at the end are left out, which are marked
pub record Loses (marks : List Bool) (before after : List ℕ) : Type 0 where
  pub fewer : length after ≤ length before
  pub same : (i : ℕ) → i < length after → slice_index after i ≡ slice_index before i
  pub lost : (i : ℕ) → length after ≤ i → i < length before → is_marked marks (slice_index before i) ≡ true

-- the units, those taken in their order, their marks, and what each unit waits for
pub record Stands (us : List UnitLine) (order : List ℕ) (marks : List Bool) (waiting : List (List ℕ)) : Type 0 where
  pub own : HaveOwnNames us
  pub marked : IsMarked us order marks
  pub count : length waiting ≡ length us
  pub waits : AreWaiting us order waiting

-- O2 at the first unit without a mark
pub record IsFirstLeft (marks : List Bool) (lines : List ℕ) (f : OrderFault) : Type 0 where
  pub at : ℕ
  pub within : at < length marks
  pub left : is_marked marks at ≡ false
  pub earliest : (j : ℕ) → j < at → is_marked marks j ≡ true
  pub fault : f ≡ Fault (record { code = O2; line = slice_index_or lines at 0 })

-- the fault of a need that no unit is named by, or want of memory
unfoldable pub IsNeedFault : List UnitLine → List ℕ → OrderFault → Type 0
IsNeedFault us lines Memory = Unit {0}
IsNeedFault us lines (Fault f) = IsUnknownUnit us lines f

-- Each unit of the order, of which the first so many are looked at, has its place in it.
pub record IsPlace (ids : List ℕ) (k at : ℕ) : Type 0 where
  pub within : at < length ids
  pub is : slice_index_or ids at 0 ≡ k

-- Of each unit that the order contains its place in it is known, if there are as many places.
abbrev pub ArePlaces : List ℕ → ℕ → List ℕ → Type 0
ArePlaces ids count places = (k : ℕ) → k < count → Contains ids k → IsPlace ids k (slice_index_or places k 0)

-- the unit of this number, from the names, the texts, the places of units and the numbers of those that each needs
pub record IsMadeFrom (names texts : List (List ℕ)) (places : List ℕ) (needed : List (List ℕ)) (k : ℕ) (u : ProjectUnit) : Type 0 where
  pub place : u.id.index ≡ k
  pub name : string_bytes u.name ≡ slice_index_or names k []
  pub text : u.text.items ≡ slice_index_or texts k []
  pub needs : u.needs.items ≡ map (λ p. slice_index_or places p 0) (slice_index_or needed k [])
