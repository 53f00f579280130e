-- How far the search has come for the type functions of the names that a signature binds.
use Rattle.std.specs.Prelude.{◌≡◌, ◌≤◌, false, ◌&&◌, cond, is_none, List, ◌++◌, length, map, take, Option, Some, None, Result, Ok, Err}
use Rattle.sml_lex.specs.declared.fault.Place.{Place}
use Rattle.sml_tree.specs.Trees.{Id, LongId}
use Rattle.sml_objects.specs.Appearance.{stands}
use Rattle.sml_objects.specs.Initial.{Name, naming}
use Rattle.sml_objects.specs.Objects as O
use Rattle.sml_objects.specs.Views.{name_of}
use Rattle.sml_rules.specs.Answers.{Answer}
use Rattle.sml_rules.specs.Lookups.{found, no_path}
use Rattle.sml_rules.specs.Matching.{Realisation}
use Rattle.sml_core_rules.specs.Functions as F
use Rattle.sml_core_rules.specs.Lookups.{type_at}
use Rattle.sml_core_rules.specs.Objects.{Env, TyStr, Value}
use Rattle.sml_core_rules.specs.Values.{has_unknown}
use Rattle.sml_module_rules.specs.Lines.{Line}
use Rattle.sml_module_rules.specs.Matching.{read_realisation}
use Rattle.sml_bases.specs.Views.{env_of}
use Rattle.sml_type_maps.specs.Mapped.{functions_of}
use Rattle.sml_type_maps.specs.declared.realisation.Realisation as P
use Rattle.sml_types.specs.Answered.{env_at}
use Rattle.sml_match.specs.Mismatches.{IsRefused}
use Rattle.sml_match.specs.declared.mismatch.Mismatch.{Mismatch}
use Rattle.sml_match.specs.declared.realise.Search.{Search}
use Rattle.sml_match.specs.declared.realise.Held.{Held}
use Rattle.sml_match.specs.declared.realise.Held.TheVariants as H

-- the type functions that names become
abbrev pub given_by : P.Realisation → Realisation Name
given_by r n = functions_of r.functions.entries n

abbrev pub given_so_far : Search → Realisation Name
given_so_far s = given_by s.realisation

-- the names that the search is for
abbrev pub sought_by : Search → List Name
sought_by s = map name_of s.bound.keys

-- The same names are sought.
abbrev pub AreSought : Search → List Name → Type 0
AreSought s ns = (n : Name) → stands naming n (sought_by s) ≡ stands naming n ns

-- no type function of the environment has an unknown
abbrev pub HasKnownFunctions : Env Name → Type 0
HasKnownFunctions E = (x : LongId) (t : TyStr Name) → type_at E x ≡ found t → has_unknown t.function.body ≡ false

-- what an environment has at a path of structures
abbrev pub IsHeldAt : Env Name → List Id → Held → Type 0
IsHeldAt E path (H.Env e) = env_at E path ≡ found (env_of e.now)
IsHeldAt E path (H.Missing k) = (k ≤ length path) × (env_at E path ≡ no_path (take k path))

-- a name that is sought and has no function yet
abbrev pub if_next : List Name → Realisation Name → Option Name → Option Name
if_next ns φ None = None
if_next ns φ (Some n) = cond (stands naming n ns && is_none (φ n)) (Some n) None

-- the name that a type function is, if it is sought and has no function yet
abbrev pub next_of : List Name → Realisation Name → O.Scheme Name → Option Name
next_of ns φ θ = if_next ns φ (F.name_of θ)

module _ (p : Place) (ns : List Name) (E : Env Name) where
  -- what is read of lines, after these functions were read
  abbrev pub reading : Realisation Name → List (Line (TyStr Name) (Value Name)) → Answer Place (Realisation Name)
  reading φ ls = read_realisation naming p ns E φ ls

  -- These lines were read, whatever lines are after them.
  abbrev pub HasRead : {U : Type 0} → Search → Search → List (Line (TyStr Name) (Value Name)) → Result U Mismatch → Type 0
  HasRead old new ls (Ok u) = (rest : List (Line (TyStr Name) (Value Name))) → reading (given_so_far old) (ls ++ rest) ≡ reading (given_so_far new) rest
  HasRead old new ls (Err m) = (rest : List (Line (TyStr Name) (Value Name))) → IsRefused p m (reading (given_so_far old) (ls ++ rest))
