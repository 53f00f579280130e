-- What a phrase is to the sequence that it stands in.
use Rattle.std.specs.Prelude.{ℕ, Bool, true, false, List, [], ◌∷◌, Option, Some, None, map, reverse, if◌then◌else◌, Vec}
use Rattle.std.specs.Global.{Global}
use Rattle.sml_tree.specs.Trees.{Id}
use Rattle.sml_fixity.specs.ItemNames.{Name, short, after_op, long, phrase, name_of}
use Rattle.sml_reach.specs.declared.sense.Sense.{Sense}
use Rattle.sml_reach.specs.declared.sense.Sense.TheVariants as S
use Rattle.sml_reach.specs.declared.sense.Deed.{Deed}
use Rattle.sml_reach.specs.declared.sense.Deed.TheVariants as D
use Rattle.sml_reach.specs.declared.found.Atom as P
use Rattle.sml_reach.specs.declared.found.Found as F
use Rattle.sml_reach.specs.declared.found.Found.TheVariants as V

-- an atomic phrase: its first token, and what it has in round brackets
pub record Atom : Type 0 where
  pub name : Name
  pub token : ℕ
  pub inner : List Name

abbrev pub atom : Name → ℕ → List Name → Atom
atom name token inner = record { name = name; token = token; inner = inner }

pub data Found : Type 0 where
  nothing : Found
  word : ℕ → Found
  one : Atom → Found
  -- atomic phrases, and whether a type stands after them
  several : List Atom → Bool → Found
  -- the names of a sequence of patterns without a type
  within : List Name → Found
  -- a directive's level, if one is written, and its identifiers
  directed : Option ℕ → List Atom → Found

-- what was found of one sort, or something of that sort where another was
abbrev pub word_in : Found → ℕ
word_in (word n) = n
word_in _ = 0

abbrev pub level_in : Found → Option ℕ
level_in (word n) = Some n
level_in _ = None

abbrev pub is_word : Found → Bool
is_word (word n) = true
is_word _ = false

abbrev pub atom_in : Found → Atom
atom_in (one a) = a
atom_in _ = atom phrase 0 []

abbrev pub atoms_in : Found → List Atom
atoms_in (several atoms typed) = atoms
atoms_in _ = []

abbrev pub typed_in : Found → Bool
typed_in (several atoms typed) = typed
typed_in _ = false

abbrev pub inner_in : Found → List Name
inner_in (within names) = names
inner_in _ = []

-- a name after `op`
abbrev pub with_op : Name → Name
with_op (short x) = after_op
with_op name = name

-- the atomic phrase stands before those of a sequence, if what was found is one
abbrev pub before : Atom → Found → Found
before a (several atoms typed) = several (a ∷ atoms) typed
before a _ = nothing

-- a sequence whose first phrase begins at an earlier token
abbrev pub from : ℕ → Found → Found
from n (several (a ∷ atoms) typed) = several (atom a.name n a.inner ∷ atoms) typed
from n _ = nothing

-- What a phrase is whose first token has this number, by what its first four parts are. The bytes of each token are
-- known.
abbrev pub found_by : (ℕ → Id) → ℕ → Sense → Found → Found → Found → Found → Found
found_by text n S.Nothing a b c d = nothing
found_by text n S.Passed a b c d = a
found_by text n S.Short a b c d = one (atom (short (text n)) n [])
found_by text n S.Long a b c d = one (atom long n [])
found_by text n S.Op a b c d = one (atom (with_op (atom_in b).name) n [])
found_by text n S.Phrase a b c d = one (atom phrase n [])
found_by text n S.Round a b c d = one (atom phrase n (inner_in b))
found_by text n S.Empty a b c d = several [] false
found_by text n S.Typed a b c d = several [] true
found_by text n S.More a b c d = several (atom_in a ∷ atoms_in b) (typed_in b)
found_by text n S.MoreAfter a b c d = several (atom_in b ∷ atoms_in c) (typed_in c)
found_by text n S.Third a b c d = c
found_by text n S.Named a b c d = before (atom (short (text n)) n []) b
found_by text n S.OpNamed a b c d = before (atom after_op n []) b
found_by text n S.After a b c d = from n b
found_by text n S.RoundMore a b c d = several (atom phrase n (inner_in a) ∷ atoms_in b) (typed_in b)
found_by text n S.OpenRoundMore a b c d = several (atom phrase n (inner_in b) ∷ atoms_in c) (typed_in c)
found_by text n S.Inner a b c d = if is_word b then within (inner_in a) else nothing
found_by text n S.Level a b c d = directed (level_in b) (atom (short (text (word_in c))) (word_in c) [] ∷ atoms_in d)
found_by text n S.NoLevel a b c d = directed None (atom (short (text (word_in b))) (word_in b) [] ∷ atoms_in c)

abbrev pub sequence_in : Found → Option (List Atom)
sequence_in (several atoms typed) = Some atoms
sequence_in _ = None

-- the names of a sequence without a type
abbrev pub untyped : Found → List Name
untyped (several atoms false) = map (λ a. a.name) atoms
untyped _ = []

-- what is left of it for the phrases round it, once its deed is done
abbrev pub left : Deed → Found → Found
left D.Nothing found = found
left D.Begins found = found
left (D.Directs directive) found = nothing
left D.Expression found = nothing
left D.Pattern found = within (untyped found)
left D.Head found = nothing

-- the program's phrases as these
abbrev pub atom_of : P.Atom → Atom
atom_of a = atom (name_of a.item) a.token (map name_of a.inner.items)

-- atomic phrases that go from the last to the first
abbrev pub atoms_of : Vec P.Atom Global → List Atom
atoms_of v = map atom_of (reverse v.items)

abbrev pub found_of : F.Found → Found
found_of V.Nothing = nothing
found_of (V.Word n) = word n
found_of (V.Plain item n) = one (atom (name_of item) n [])
found_of (V.One a) = one (atom_of a.value)
found_of (V.Several atoms typed) = several (atoms_of atoms) typed
found_of (V.Inner items) = within (map name_of items.items)
found_of (V.OneInner item) = within (name_of item ∷ [])
found_of (V.Levelled level atoms) = directed (Some level) (atoms_of atoms)
found_of (V.Directed atoms) = directed None (atoms_of atoms)
