-- Which environment the scopes mean that are open: each identifier means in them what it is bound to there.
use Rattle.std.specs.Prelude.{◌≡◌, ◌≤◌, ℕ, List, length, take, Option, Some}
use Rattle.std.specs.Global.{Global}
use Rattle.std.specs.Vec.{vec_len}
use Rattle.std.specs.declared.rc.Rc.{Rc}
use Rattle.sml_tree.specs.Trees.{Id}
use Rattle.sml_objects.specs.Initial.{Name}
use Rattle.sml_objects.specs.Maps.{lookup}
use Rattle.sml_core_rules.specs.Objects as O
use Rattle.sml_bases.specs.declared.objects.Basis.{Basis}
use Rattle.sml_bases.specs.declared.objects.Env.{Env}
use Rattle.sml_bases.specs.declared.objects.TypeStr.{TypeStr}
use Rattle.sml_bases.specs.declared.objects.Value.{Value}
use Rattle.sml_bases.specs.Layers.{first_found, layers}
use Rattle.sml_scopes.specs.CodeTables.{bound, bound_at}
use Rattle.sml_scopes.specs.CodeScopes.{opened_in, structure_by, type_by, value_by}
use Rattle.sml_scopes.specs.declared.scopes.Mark.{Mark}
use Rattle.sml_scopes.specs.declared.scopes.Scopes.{Scopes}

-- The layers of a basis have what an environment has.
pub record BasisMeans (b : Basis) (C : O.Env Name) : Type 0 where
  pub values_are : (x : Id) → first_found (λ E. lookup x (O.values E)) (layers b) ≡ lookup x (O.values C)
  pub types_are : (x : Id) → first_found (λ E. lookup x (O.types E)) (layers b) ≡ lookup x (O.types C)
  pub structures_are : (x : Id) → first_found (λ E. O.find_structure x (O.structures E)) (layers b) ≡ O.find_structure x (O.structures C)

-- What is bound and what is opened over a basis has what an environment has; nothing was bound when more was open.
pub record AreMeant (b : Basis) (opened : List Env) (vs : Id → Option (ℕ × Value)) (ts : Id → Option (ℕ × TypeStr)) (ss : Id → Option (ℕ × Rc Env Global)) (C : O.Env Name) : Type 0 where
  pub values_are : (x : Id) → value_by b opened x (vs x) ≡ lookup x (O.values C)
  pub types_are : (x : Id) → type_by b opened x (ts x) ≡ lookup x (O.types C)
  pub structures_are : (x : Id) → structure_by b opened x (ss x) ≡ O.find_structure x (O.structures C)
  pub values_stand : (x : Id) (e : ℕ × Value) → vs x ≡ Some e → e.0 ≤ length opened
  pub types_stand : (x : Id) (e : ℕ × TypeStr) → ts x ≡ Some e → e.0 ≤ length opened
  pub structures_stand : (x : Id) (e : ℕ × Rc Env Global) → ss x ≡ Some e → e.0 ≤ length opened

-- The scopes that are open mean this environment.
abbrev pub Means : Scopes → O.Env Name → Type 0
Means s C = AreMeant s.basis.now (opened_in s) (bound s.values) (bound s.types) (bound s.structures) C

-- The scopes around the place that was marked mean this environment.
pub record MeansAt (s : Scopes) (m : Mark) (C : O.Env Name) : Type 0 where
  pub values_inside : m.values ≤ vec_len s.values.log
  pub types_inside : m.types ≤ vec_len s.types.log
  pub structures_inside : m.structures ≤ vec_len s.structures.log
  pub opened_inside : m.opened ≤ vec_len s.opened
  pub meant : AreMeant s.basis.now (take m.opened (opened_in s)) (bound_at m.values s.values) (bound_at m.types s.types) (bound_at m.structures s.structures) C

-- No mark of the first stands after that of the second.
pub record IsAround (m n : Mark) : Type 0 where
  pub values_are : m.values ≤ n.values
  pub types_are : m.types ≤ n.types
  pub structures_are : m.structures ≤ n.structures
  pub opened_are : m.opened ≤ n.opened
