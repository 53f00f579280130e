-- Runs over the units of a project, each after the units that it needs.
use Rattle.std.specs.Prelude.{◌≡◌, ℕ, zero, suc, ◌==◌, Bool, true, false, ◌&&◌, cond, List, [], ◌∷◌, ◌++◌, length, Option, None}
use Rattle.std.specs.List.{list_all}
use Rattle.sml_lex.specs.declared.fault.Place.{Place}
use Rattle.sml_lex.specs.Faults.{Fault, first_place}
use Rattle.sml_tree.specs.Trees.{Dec}
use Rattle.sml_objects.specs.Names.{Naming}
use Rattle.sml_objects.specs.Objects.{Sig, Basis, empty_env, extend_env, extend, names_sig, names_basis}
use Rattle.sml_rules.specs.Answers.{Answer, refused, accepted}
use Rattle.sml_rules.specs.Readings.{read_top, is_specified}

-- A unit has a name, its place among the unit lines from 1, the places of its needs in the order of checking, how many
-- declarations its bytes spell, these as far as they are of the piece, and perhaps a last fault.
pub record SourceUnit : Type 0 where
  pub label : List ℕ
  pub maker : ℕ
  pub needs : List ℕ
  pub number : ℕ
  pub declarations : List (Dec Place)
  pub last : Option (Fault Place)

-- the declarations before the first that isn't specified
abbrev pub specified_beginning : List (Dec Place) → List (Dec Place)
specified_beginning [] = []
specified_beginning (d ∷ ds) = cond (is_specified d) (d ∷ specified_beginning ds) []

abbrev pub flag_at : List Bool → ℕ → Bool
flag_at [] k = true
flag_at (b ∷ bs) zero = b
flag_at (b ∷ bs) (suc k) = flag_at bs k

-- whether all declarations of a unit are specified, and all of its needs, which these flags tell of each unit before it
abbrev pub is_whole : List Bool → SourceUnit → Bool
is_whole flags u = list_all (flag_at flags) u.needs && (list_all is_specified u.declarations && (length u.declarations == u.number))

-- The unit up to its first declaration that isn't specified, and where there is none with its last fault. Of a unit with
-- a need that isn't all specified nothing is.
abbrev pub specified_unit : List Bool → SourceUnit → SourceUnit
specified_unit flags u = record {
  label = u.label;
  maker = u.maker;
  needs = u.needs;
  number = u.number;
  declarations = cond (list_all (flag_at flags) u.needs) (specified_beginning u.declarations) [];
  last = cond (is_whole flags u) u.last None;
}

abbrev pub specified_from : List Bool → List SourceUnit → List SourceUnit
specified_from flags [] = []
specified_from flags (u ∷ us) = specified_unit flags u ∷ specified_from (flags ++ is_whole flags u ∷ []) us

-- what is specified of the units of a project
abbrev pub specified : List SourceUnit → List SourceUnit
specified us = specified_from [] us

-- all declarations of the units are
abbrev pub AllSpecified : List SourceUnit → Type 0
AllSpecified [] = Unit {0}
AllSpecified (u ∷ us) = ((list_all is_specified u.declarations ≡ true) × (length u.declarations ≡ u.number)) × AllSpecified us

abbrev pub basis_after : {N : Type 0} → Basis N → Answer Place (Sig N) → Basis N
basis_after B (refused f) = B
basis_after B (accepted S) = extend B S

-- every answer is a reading in the basis so far
unfoldable pub Run : {N : Type 0} → Naming N → ℕ → Basis N → List (Dec Place) → List (Answer Place (Sig N)) → Type 0
Run names unit B [] [] = Unit {0}
Run names unit B [] (o ∷ os) = ⊥
Run names unit B (d ∷ ds) [] = ⊥
Run names unit B (d ∷ ds) (o ∷ os) = read_top names first_place unit B d o × Run names unit (basis_after B o) ds os

-- what the accepted declarations of a unit export
abbrev pub exports_after : {N : Type 0} → Sig N → Answer Place (Sig N) → Sig N
exports_after S (refused f) = S
exports_after S (accepted S') = record { names = names_sig S' ++ names_sig S; body = extend_env S.body S'.body }

unfoldable pub exports : {N : Type 0} → Sig N → List (Answer Place (Sig N)) → Sig N
exports S [] = S
exports S (o ∷ os) = exports (exports_after S o) os

abbrev pub nothing : {N : Type 0} → Sig N
nothing = record { names = []; body = empty_env }

unfoldable pub export_at : {N : Type 0} → List (Sig N) → ℕ → Sig N
export_at [] k = nothing
export_at (S ∷ Ss) zero = S
export_at (S ∷ Ss) (suc k) = export_at Ss k

unfoldable pub all_names : {N : Type 0} → List (Sig N) → List N
all_names [] = []
all_names (S ∷ Ss) = names_sig S ++ all_names Ss

-- the exports of the needs, in their order, over the initial basis
unfoldable pub needed : {N : Type 0} → Basis N → List (Sig N) → List ℕ → Basis N
needed B Ss [] = B
needed B Ss (k ∷ ks) = needed (extend B (export_at Ss k)) Ss ks

-- The basis that a unit starts from: it made no name yet, and all that were used before in the run are taken.
unfoldable pub start : {N : Type 0} → Basis N → List (Sig N) → List ℕ → Basis N
start B Ss ks = record { names = all_names Ss ++ names_basis B; count = 0; body = (needed B Ss ks).body }

unfoldable pub RunProject : {N : Type 0} → Naming N → Basis N → List (Sig N) → List SourceUnit → List (List (Answer Place (Sig N))) → Type 0
RunProject names B Ss [] [] = Unit {0}
RunProject names B Ss [] (os ∷ oss) = ⊥
RunProject names B Ss (u ∷ us) [] = ⊥
RunProject names B Ss (u ∷ us) (os ∷ oss) =
    Run names u.maker (start B Ss u.needs) u.declarations os × RunProject names B (Ss ++ exports nothing os ∷ []) us oss
