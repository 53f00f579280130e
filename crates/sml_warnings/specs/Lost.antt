-- Identifiers in patterns whose path leads nowhere.
use Rattle.std.specs.Prelude.{◌≡◌, ◌⊎◌, List, [], ◌∷◌, Result, Ok, Err}
use Rattle.sml_lex.specs.Faults.{fault_of}
use Rattle.sml_lex.specs.declared.fault.Fault.{Fault}
use Rattle.sml_lex.specs.declared.fault.Code.TheVariants.{E3}
use Rattle.sml_lex.specs.declared.fault.Place.{Place}
use Rattle.sml_tree.specs.Trees.{Id}
use Rattle.sml_tree.specs.Names.{LongName}
use Rattle.sml_tree.specs.Patterns.{Pat, Pats, PatFields, wildcard, pat_constant, pat_name, pat_row, pat_tuple, pat_bracket, pat_apply, pat_typed, pat_as, no_pat, and_pat, pat_field, no_pat_field, and_pat_field}
use Rattle.sml_objects.specs.Initial.{Name}
use Rattle.sml_rules.specs.Answers.{fault_at}
use Rattle.sml_rules.specs.Lookups.{no_path}
use Rattle.sml_core_rules.specs.Objects.{Env}
use Rattle.sml_core_rules.specs.Lookups.{value_at}
use Rattle.sml_types.specs.declared.fault.CoreFault.{CoreFault}
use Rattle.sml_types.specs.declared.fault.CoreFault.TheVariants as R

-- what holds of a fault; want of memory is allowed
abbrev pub OnFault : {X : Type 0} → Result X CoreFault → (Fault → Type 0) → Type 0
OnFault (Ok x) P = Unit {0}
OnFault (Err R.Memory) P = Unit {0}
OnFault (Err (R.Fault g)) P = P g

-- E3 at the identifier, with the beginning of its path that leads nowhere
abbrev pub IsLost : Env Name → Fault → LongName Place → Type 0
IsLost C g x = (s : List Id) × (value_at C x.id ≡ no_path s) × (fault_of g ≡ fault_at E3 x.place s)

-- some long identifier like this stands in a pattern where a value may be named
abbrev mutual
  pub StandsIn : (LongName Place → Type 0) → Pat Place → Type 0
  StandsIn F (wildcard p) = ⊥
  StandsIn F (pat_constant p c) = ⊥
  StandsIn F (pat_name p y) = F y
  StandsIn F (pat_row p fs flexible) = StandsInFields F fs
  StandsIn F (pat_tuple p qs) = StandsInAll F qs
  StandsIn F (pat_bracket p q) = StandsIn F q
  StandsIn F (pat_apply p y q) = F y ⊎ StandsIn F q
  StandsIn F (pat_typed p q t) = StandsIn F q
  StandsIn F (pat_as p y t q) = StandsIn F q

  pub StandsInAll : (LongName Place → Type 0) → Pats Place → Type 0
  StandsInAll F no_pat = ⊥
  StandsInAll F (and_pat q qs) = StandsIn F q ⊎ StandsInAll F qs

  pub StandsInFields : (LongName Place → Type 0) → PatFields Place → Type 0
  StandsInFields F no_pat_field = ⊥
  StandsInFields F (and_pat_field (pat_field l q) fs) = StandsIn F q ⊎ StandsInFields F fs

-- in one of these patterns
abbrev pub StandsInPatterns : (LongName Place → Type 0) → List (Place × Pat Place) → Type 0
StandsInPatterns F [] = ⊥
StandsInPatterns F (q ∷ qs) = StandsIn F q.1 ⊎ StandsInPatterns F qs
