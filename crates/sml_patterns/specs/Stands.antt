-- Which plain patterns the patterns of trees stand for. `N` says what long identifiers mean.
use Rattle.std.specs.Prelude.{◌≡◌, ℕ, ◌+◌, ◌<◌, ◌^◌, List, [], ◌∷◌, ◌++◌, flat_map, decimal}
use Rattle.sml_lex.specs.declared.fault.Place.{Place}
use Rattle.sml_lex.specs.Numbers.{magnitude, integer_value, word_value}
use Rattle.sml_lex.specs.Strings.{IsStringValue, IsCharacterValue}
use Rattle.sml_tree.specs.Trees.{Id, LongId}
use Rattle.sml_tree.specs.Patterns.{Pat, Pats, PatField, PatFields, wildcard, pat_constant, pat_name, pat_row, pat_tuple, pat_bracket, pat_apply, pat_typed, pat_as, no_pat, and_pat, pat_field, no_pat_field, and_pat_field}
use Rattle.sml_tree.specs.declared.patterns.ConstantKind.{ConstantKind}
use Rattle.sml_tree.specs.declared.patterns.ConstantKind.TheVariants as K
use Rattle.sml_patterns.specs.declared.names.Meaning.{Meaning}
use Rattle.sml_patterns.specs.declared.names.Meaning.TheVariants as M
use Rattle.sml_narrowing.specs.Plain.{Value, Integer, Word, Character, Text, Exception, Plain, Wild, Made, Fields, Valued, Row, Empty, Labelled}

-- a long identifier as it is written
abbrev pub long_text : LongId → Id
long_text x = flat_map (λ s. s ++ 46 ∷ []) x.path ++ x.last

-- what a constant stands for; no real number stands in a pattern
abbrev pub IsValue : ConstantKind → List ℕ → Value → Type 0
IsValue K.Integer text v = (magnitude text < 2 ^ 63) × (v ≡ Integer (integer_value text))
IsValue K.Word text v = (word_value text < 2 ^ 64) × (v ≡ Word (word_value text))
IsValue K.Real text v = ⊥
IsValue K.String text v = (s : List ℕ) × IsStringValue text s × (v ≡ Text s)
IsValue K.Character text v = (c : ℕ) × IsCharacterValue text c × (v ≡ Character c)

-- an identifier before an argument
abbrev pub applied : Meaning → Id → Plain → Plain
applied M.Variable x p = Wild
applied M.Exception x p = Valued (Exception x) p
applied (M.Constructor k n) x p = Made k n p

abbrev pub named : (LongId → Meaning) → LongId → Plain → Plain
named N x p = applied (N x) (long_text x) p

abbrev mutual
  pub StandsFor : (LongId → Meaning) → Pat Place → Plain → Type 0
  StandsFor N (wildcard place) p = p ≡ Wild
  StandsFor N (pat_constant place c) p = (v : Value) × IsValue c.kind c.literal v × (p ≡ Valued v Wild)
  StandsFor N (pat_name place x) p = p ≡ named N x.id Wild
  StandsFor N (pat_row place fs flexible) p = (r : Row) × FieldsStandFor N fs r × (p ≡ Fields r)
  StandsFor N (pat_tuple place qs) p = (r : Row) × TupleStandsFor N 1 qs r × (p ≡ Fields r)
  StandsFor N (pat_bracket place q) p = StandsFor N q p
  StandsFor N (pat_apply place x q) p = (a : Plain) × StandsFor N q a × (p ≡ named N x.id a)
  StandsFor N (pat_typed place q ty) p = StandsFor N q p
  StandsFor N (pat_as place x ty q) p = StandsFor N q p

  -- a row labelled from this number on
  pub TupleStandsFor : (LongId → Meaning) → ℕ → Pats Place → Row → Type 0
  TupleStandsFor N k no_pat r = r ≡ Empty
  TupleStandsFor N k (and_pat q qs) r = (p : Plain) × (s : Row) × StandsFor N q p × TupleStandsFor N (k + 1) qs s × (r ≡ Labelled (decimal k) p s)

  pub FieldStandsFor : (LongId → Meaning) → PatField Place → Row → Row → Type 0
  FieldStandsFor N (pat_field x q) s r = (p : Plain) × StandsFor N q p × (r ≡ Labelled x.id p s)

  pub FieldsStandFor : (LongId → Meaning) → PatFields Place → Row → Type 0
  FieldsStandFor N no_pat_field r = r ≡ Empty
  FieldsStandFor N (and_pat_field f fs) r = (s : Row) × FieldsStandFor N fs s × FieldStandsFor N f s r
