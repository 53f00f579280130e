-- Columns of patterns: what stands at a label of rows, or the patterns themselves. Patterns whose outermost constructors or
-- values there, their keys, are different match no shape together.
use Rattle.std.specs.Prelude.{◌≡◌, ℕ, suc, ℤ, pos, Bool, ◌&&◌, ◌==◌, List, [], ◌∷◌, map, slice_get, Option, Some, None, Vec, if◌then◌else◌}
use Rattle.std.specs.List.{AllByRecursion, cons_option}
use Rattle.std.specs.Option.{option_map}
use Rattle.std.specs.Ordering.{int_eq}
use Rattle.std.specs.Str.{bytes_eq}
use Rattle.std.specs.Global.{Global}
use Rattle.indexmap.specs.IndexMap.{get}
use Rattle.sml_tree.specs.Trees.{Id}
use Rattle.sml_tree.specs.Views.{ident_of}
use Rattle.sml_patterns.specs.declared.keys.Key as P
use Rattle.sml_patterns.specs.declared.column.Column.{Column}
use Rattle.sml_narrowing.specs.Plain.{Value, Integer, Word, Character, Text, Exception, Plain, Wild, Made, Fields, Valued, field}

-- the outermost constructor or value of a pattern: of which kind it is, and its number, its integer or its bytes
pub record Key : Type 0 where
  pub kind : ℕ
  pub number : ℕ
  pub integer : ℤ
  pub text : List ℕ

abbrev pub numbered : ℕ → ℕ → Key
numbered kind n = record { kind = kind; number = n; integer = pos 0; text = [] }

abbrev pub spelt : ℕ → List ℕ → Key
spelt kind text = record { kind = kind; number = 0; integer = pos 0; text = text }

abbrev pub value_key : Value → Key
value_key (Integer n) = record { kind = 1; number = 0; integer = n; text = [] }
value_key (Word n) = numbered 2 n
value_key (Character c) = numbered 3 c
value_key (Text s) = spelt 4 s
value_key (Exception x) = spelt 5 x

-- the key of a pattern, which wildcards and rows lack
abbrev pub key_of : Plain → Option Key
key_of Wild = None
key_of (Made k n p) = Some (numbered 0 k)
key_of (Fields fs) = None
key_of (Valued v p) = Some (value_key v)

abbrev pub same : Key → Key → Bool
same a b = a.kind == b.kind && (a.number == b.number && (int_eq a.integer b.integer && bytes_eq a.text b.text))

-- the key of a pattern in a column
abbrev pub key_at : Option Id → Plain → Option Key
key_at None p = key_of p
key_at (Some l) (Fields fs) = key_of (field l fs)
key_at (Some l) p = None

-- the indices of those that have this key or none; the first one has this index
abbrev pub kept : ℕ → List (Option Key) → Key → List ℕ
kept n [] k = []
kept n (None ∷ ks) k = n ∷ kept (suc n) ks k
kept n (Some a ∷ ks) k = if same a k then n ∷ kept (suc n) ks k else kept (suc n) ks k

-- of those that have none
abbrev pub keyless : ℕ → List (Option Key) → List ℕ
keyless n [] = []
keyless n (None ∷ ks) = n ∷ keyless (suc n) ks
keyless n (Some a ∷ ks) = keyless (suc n) ks

-- of those that have this key and stand after so many that have none; after as many stands the first one
abbrev pub grouped : ℕ → ℕ → List (Option Key) → Key → ℕ → List ℕ
grouped n g [] k group = []
grouped n g (None ∷ ks) k group = grouped (suc n) (suc g) ks k group
grouped n g (Some a ∷ ks) k group = if g == group && same a k then n ∷ grouped (suc n) g ks k group else grouped (suc n) g ks k group

-- the items with these indices
abbrev pub picked : {A : Type 0} → List A → List ℕ → List A
picked xs [] = []
picked xs (i ∷ is) = cons_option (slice_get xs i) (picked xs is)

-- what the code keeps of a key, and of a column's patterns
abbrev pub key_in : P.Key → Key
key_in k = record { kind = k.kind; number = k.number; integer = k.integer; text = k.text.items }

abbrev pub same_key : P.Key → P.Key → Bool
same_key a b = a.group == b.group && same (key_in a) (key_in b)

abbrev pub items_in : Option (Vec ℕ Global) → List ℕ
items_in None = []
items_in (Some is) = is.items

abbrev pub Holds : List (Option Key) → Column → Type 0
Holds keys column = (column.others.items ≡ keyless 0 keys) × ((k : P.Key) → items_in (get same_key column.known k) ≡ grouped 0 0 keys (key_in k) k.group)

abbrev pub label_of : Column → Option Id
label_of column = option_map ident_of column.label

abbrev pub Knows : List Plain → Column → Type 0
Knows ps column = Holds (map (key_at (label_of column)) ps) column

abbrev pub KnowsEach : List Plain → List Column → Type 0
KnowsEach ps columns = AllByRecursion (Knows ps) columns
