-- What elaboration keeps from phrase to phrase.
use Rattle.std.specs.Prelude.{◌≡◌, ◌⊎◌, ℕ, ◌+◌, Bool, true, false, cond, List, [], ◌∷◌, ◌++◌, Option}
use Rattle.sml_tree.specs.Trees.{LongId}
use Rattle.sml_tree.specs.Patterns.{Pat}
use Rattle.sml_objects.specs.Appearance.{Stands}
use Rattle.sml_objects.specs.Names.{Naming, Attributes, Initial}
use Rattle.sml_objects.specs.Objects.{MlType, Outside, named}
use Rattle.sml_layers.specs.declared.variable.Variable.{Variable}
use Rattle.sml_layers.specs.Demands.{Demand, Words}
use Rattle.sml_core_rules.specs.Objects.{Status}

-- A naming, the unit that makes names, counted from 1, and the names that stand for explicit type variables, which no unit makes.
-- A bound is a list of names: it allows these, and those of explicit variables.
pub record Scope (N : Type 0) : Type 0 where
  pub names : Naming N
  pub unit : ℕ
  pub variable : Variable → N

abbrev pub words : {N : Type 0} → Scope N → Words N (List N)
words scope = record {
  names = scope.names;
  variable = λ x. named (scope.variable x);
  equality = λ _. false;
  Allows = λ T n. Stands n T ⊎ ((x : Variable) × (n ≡ scope.variable x));
}

-- New names: each is none of the old ones, of those before it and of the initial ones, was made by the unit, and carries this.
unfoldable pub AreMade : {N : Type 0} → Scope N → List N → List Attributes → List N → Type 0
AreMade scope old [] ns = ns ≡ []
AreMade {N} scope old (w ∷ ws) ns =
    (n : N) × (rest : List N) × Outside n old × ((k : Initial) → ¬ (scope.names.initial k ≡ n)) × (scope.names.attributes n ≡ record w { maker = scope.unit })
    × AreMade scope (n ∷ old) ws rest × (ns ≡ n ∷ rest)

-- What the end of a value declaration closes, of what was made in it and in no declaration inside it: the flexible rows, each
-- with the place that asks for its labels, and the unknowns of overloaded identifiers, both in order of making.
pub record Window (P N : Type 0) : Type 0 where
  pub rows : List (P × MlType N)
  pub overloaded : List ℕ

-- What holds patterns: the match of `fn` or of `handle`, at its place, or a value binding, at that of its pattern.
pub data Holder (P : Type 0) : Type 0 where
  of_fn : P → Holder P
  of_handle : P → Holder P
  of_val : P → Holder P

-- The patterns of a match or of a value binding, which is to be judged for warnings, each with the place of its rule, and the status
-- of long identifiers where they stand.
pub record Judged (P : Type 0) : Type 0 where
  pub holder : Holder P
  pub patterns : List (P × Pat P)
  pub status : LongId → Option Status

-- The unknowns made so far, the names of types made so far, the demands so far, the newest first, the window of the value
-- declaration, whether an unknown may stand in what was bound, and what is to be judged, the newest first.
pub record State (P N : Type 0) : Type 0 where
  pub made : ℕ
  pub names : List N
  pub demands : List (Demand N (List N))
  pub window : Window P N
  pub is_open : Bool
  pub judged : List (Judged P)

module _ {P N : Type 0} where
  abbrev pub with_unknowns : ℕ → State P N → State P N
  with_unknowns k s = record s { made = s.made + k }

  abbrev pub with_made : List N → State P N → State P N
  with_made ns s = record s { names = ns ++ s.names }

  abbrev pub with_demand : Demand N (List N) → State P N → State P N
  with_demand d s = record s { demands = d ∷ s.demands }

  abbrev pub with_window : Window P N → State P N → State P N
  with_window w s = record s { window = w }

  abbrev pub opened : State P N → State P N
  opened s = record s { is_open = true }

  abbrev pub with_judged : Judged P → State P N → State P N
  with_judged j s = record s { judged = j ∷ s.judged }

  -- Where no unknown can stand in what was bound, none has been made and nothing asked.
  abbrev pub afresh : State P N → State P N
  afresh s = record s { made = cond s.is_open s.made 0; demands = cond s.is_open s.demands [] }

  abbrev pub no_window : Window P N
  no_window = record { rows = []; overloaded = [] }
