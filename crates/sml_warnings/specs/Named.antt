-- Which patterns match everything, and what identifiers mean once those of patterns were noted.
use Rattle.std.specs.Prelude.{◌≡◌, Bool, true, false, ◌&&◌, if◌then◌else◌, List, [], ◌∷◌, ◌++◌}
use Rattle.std.specs.List.{AllByRecursion}
use Rattle.std.specs.Str.{bytes_eq}
use Rattle.sml_lex.specs.declared.fault.Place.{Place}
use Rattle.sml_tree.specs.Trees.{LongId}
use Rattle.sml_tree.specs.Patterns.{Pat, Pats, PatFields, wildcard, pat_constant, pat_name, pat_row, pat_tuple, pat_bracket, pat_apply, pat_typed, pat_as, no_pat, and_pat, pat_field, no_pat_field, and_pat_field}
use Rattle.sml_patterns.specs.declared.names.Meaning.{Meaning}
use Rattle.sml_patterns.specs.declared.names.Meaning.TheVariants as M
use Rattle.sml_patterns.specs.Stands.{long_text}

abbrev pub is_variable : Meaning → Bool
is_variable M.Variable = true
is_variable M.Exception = false
is_variable (M.Constructor k n) = false

-- whether a pattern has no constant, constructor or exception in it
unfoldable mutual
  pub is_everything : (LongId → Meaning) → Pat Place → Bool
  is_everything N (wildcard p) = true
  is_everything N (pat_constant p c) = false
  is_everything N (pat_name p x) = is_variable (N x.id)
  is_everything N (pat_row p fs flexible) = are_fields_everything N fs
  is_everything N (pat_tuple p qs) = are_everything N qs
  is_everything N (pat_bracket p q) = is_everything N q
  is_everything N (pat_apply p x q) = false
  is_everything N (pat_typed p q t) = is_everything N q
  is_everything N (pat_as p x t q) = is_everything N q

  pub are_everything : (LongId → Meaning) → Pats Place → Bool
  are_everything N no_pat = true
  are_everything N (and_pat q qs) = is_everything N q && are_everything N qs

  pub are_fields_everything : (LongId → Meaning) → PatFields Place → Bool
  are_fields_everything N no_pat_field = true
  are_fields_everything N (and_pat_field (pat_field x q) fs) = is_everything N q && are_fields_everything N fs

-- a meaning that is noted, unless it is that of a variable, in place of this one
abbrev pub noted : Meaning → Meaning → Meaning
noted M.Variable m = m
noted M.Exception m = M.Exception
noted (M.Constructor k n) m = M.Constructor k n

-- what x means after y was noted, where it meant m before
abbrev pub after_name : (LongId → Meaning) → LongId → LongId → Meaning → Meaning
after_name N y x m = if bytes_eq (long_text x) (long_text y) then noted (N y) m else m

-- what x means after the identifiers of a pattern were noted, where it meant m before
unfoldable mutual
  pub after_pat : (LongId → Meaning) → Pat Place → LongId → Meaning → Meaning
  after_pat N (wildcard p) x m = m
  after_pat N (pat_constant p c) x m = m
  after_pat N (pat_name p y) x m = after_name N y.id x m
  after_pat N (pat_row p fs flexible) x m = after_fields N fs x m
  after_pat N (pat_tuple p qs) x m = after_pats N qs x m
  after_pat N (pat_bracket p q) x m = after_pat N q x m
  after_pat N (pat_apply p y q) x m = after_pat N q x (after_name N y.id x m)
  after_pat N (pat_typed p q t) x m = after_pat N q x m
  after_pat N (pat_as p y t q) x m = after_pat N q x m

  pub after_pats : (LongId → Meaning) → Pats Place → LongId → Meaning → Meaning
  after_pats N no_pat x m = m
  after_pats N (and_pat q qs) x m = after_pats N qs x (after_pat N q x m)

  pub after_fields : (LongId → Meaning) → PatFields Place → LongId → Meaning → Meaning
  after_fields N no_pat_field x m = m
  after_fields N (and_pat_field (pat_field l q) fs) x m = after_fields N fs x (after_pat N q x m)

-- the same of patterns with their places
abbrev pub after_patterns : (LongId → Meaning) → List (Place × Pat Place) → LongId → Meaning → Meaning
after_patterns N [] x m = m
after_patterns N (q ∷ qs) x m = after_patterns N qs x (after_pat N q.1 x m)

-- the long identifiers that stand in a pattern where a value may be named
unfoldable mutual
  pub names_in : Pat Place → List LongId
  names_in (wildcard p) = []
  names_in (pat_constant p c) = []
  names_in (pat_name p y) = y.id ∷ []
  names_in (pat_row p fs flexible) = names_in_fields fs
  names_in (pat_tuple p qs) = names_in_all qs
  names_in (pat_bracket p q) = names_in q
  names_in (pat_apply p y q) = y.id ∷ names_in q
  names_in (pat_typed p q t) = names_in q
  names_in (pat_as p y t q) = names_in q

  pub names_in_all : Pats Place → List LongId
  names_in_all no_pat = []
  names_in_all (and_pat q qs) = names_in q ++ names_in_all qs

  pub names_in_fields : PatFields Place → List LongId
  names_in_fields no_pat_field = []
  names_in_fields (and_pat_field (pat_field l q) fs) = names_in q ++ names_in_fields fs

abbrev pub names_in_patterns : List (Place × Pat Place) → List LongId
names_in_patterns [] = []
names_in_patterns (q ∷ qs) = names_in q.1 ++ names_in_patterns qs

-- what is written as x is means what x means
abbrev pub TextTells : (LongId → Meaning) → List LongId → LongId → Type 0
TextTells N ys x = AllByRecursion (λ y. bytes_eq (long_text x) (long_text y) ≡ true → N y ≡ N x) ys

-- those of them that are written alike mean the same
abbrev pub TextsTell : (LongId → Meaning) → List LongId → Type 0
TextsTell N xs = AllByRecursion (TextTells N xs) xs
