-- Projects: units one after the other, each of which sees what some units before it export.
use Rattle.std.specs.Prelude.{ℕ, List, [], ◌∷◌, ◌++◌, Option, map, get_or}
use Rattle.sml_tree.specs.Structures.{TopDec}
use Rattle.sml_rules.specs.Answers.{Answer}
use Rattle.sml_core_rules.specs.Objects.{Basis}
use Rattle.sml_core_rules.specs.States.{Scope}
use Rattle.sml_module_rules.specs.Structures.{Added, nothing, add_basis}
use Rattle.sml_module_rules.specs.Programs.{basis_after, AreReadings, Pair, first, second, all_shown}

-- The number of a unit, which is that of its line among the unit lines of the project file, counted from 1; its declarations, each with
-- its place; and the units that it sees, each by how many stand before it among those read before this one.
pub record UnitText (P : Type 0) : Type 0 where
  pub number : ℕ
  pub declarations : List (P × TopDec P)
  pub needs : List ℕ

-- The names made so far, the initial ones among them, and what each unit so far exports.
pub record Exports (N : Type 0) : Type 0 where
  pub names : List N
  pub units : List (Basis N)

-- what answers add to a basis, one after the other
abbrev pub after_all : {P N : Type 0} → Basis N → List (Answer P (Added P N)) → Basis N
after_all B [] = B
after_all B (o ∷ os) = after_all (basis_after B o) os

-- what a unit exports, by the answers to its declarations
abbrev pub exported : {P N : Type 0} → List (Answer P (Added P N)) → Basis N
exported os = after_all nothing os

-- a basis with what these units export
abbrev pub with_needs : {N : Type 0} → Basis N → List (Basis N) → List ℕ → Basis N
with_needs B us [] = B
with_needs B us (k ∷ ks) = with_needs (add_basis B (get_or us k nothing)) us ks

-- The basis that a unit begins with, over the initial one. No name made so far is made again.
abbrev pub beginning : {N : Type 0} → Basis N → Exports N → List ℕ → Basis N
beginning I E ks = record (with_needs I E.units ks) { names = E.names }

abbrev pub and_unit : {N : Type 0} → Exports N → Basis N → Exports N
and_unit E A = record { names = A.names ++ E.names; units = E.units ++ A ∷ [] }

-- the scope of the unit with this number, which is the maker of its names
abbrev pub in_unit : {N : Type 0} → ℕ → Scope N → Scope N
in_unit k scope = record scope { unit = k }

-- what units may be answered one after the other
unfoldable pub AreRuns : {P N : Type 0} → Scope N → Basis N → Exports N → List (UnitText P) → List (List (Answer P (Added P N))) → Type 0
AreRuns scope I E [] [] = Unit {0}
AreRuns scope I E [] (os ∷ oss) = ⊥
AreRuns scope I E (u ∷ us) [] = ⊥
AreRuns scope I E (u ∷ us) (os ∷ oss) = AreReadings (in_unit u.number scope) (beginning I E u.needs) u.declarations os × AreRuns scope I (and_unit E (exported os)) us oss

-- A unit of two projects: its number, declarations that are the same but for what stands behind seals, and the units that it sees.
pub record UnitPair (P : Type 0) : Type 0 where
  pub number : ℕ
  pub pairs : List (Pair P)
  pub needs : List ℕ

abbrev pub first_unit : {P : Type 0} → UnitPair P → UnitText P
first_unit u = record { number = u.number; declarations = map first u.pairs; needs = u.needs }

abbrev pub second_unit : {P : Type 0} → UnitPair P → UnitText P
second_unit u = record { number = u.number; declarations = map second u.pairs; needs = u.needs }

-- the answers to each unit of one of the two, but for faults of declarations that differ
abbrev pub units_shown : {P N : Type 0} → List (UnitPair P) → List (List (Answer P (Added P N))) → List (List (Option (Answer P (Added P N))))
units_shown [] oss = []
units_shown (u ∷ us) [] = []
units_shown (u ∷ us) (os ∷ oss) = all_shown u.pairs os ∷ units_shown us oss
