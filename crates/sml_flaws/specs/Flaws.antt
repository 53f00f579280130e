-- The faults of what a declaration binds, and the first of them. The marks before a mark go from the last to the first.
use Rattle.std.specs.Prelude.{ℕ, ◌-◌, Bool, true, false, not, ◌&&◌, ◌||◌, ◌==◌, nat_lt, nat_le, get_or, List, [], ◌∷◌, ◌++◌, Option, Some, None, if◌then◌else◌}
use Rattle.std.specs.List.{cons_option, list_any}
use Rattle.std.specs.Str.{bytes_eq}
use Rattle.sml_lex.specs.declared.fault.Code.{Code}
use Rattle.sml_lex.specs.declared.fault.Code.TheVariants as C
use Rattle.sml_tree.specs.Trees.{Id}
use Rattle.sml_fixity.specs.declared.heads.Head.{Head}
use Rattle.sml_fixity.specs.declared.heads.Head.TheVariants.{Prefix, Infix, Bracketed}
use Rattle.sml_flaws.specs.declared.role.Space.{Space}
use Rattle.sml_flaws.specs.declared.role.Space.TheVariants as S
use Rattle.sml_flaws.specs.declared.mark.Mark.{Mark}
use Rattle.sml_flaws.specs.declared.mark.Mark.TheVariants as M
use Rattle.sml_flaws.specs.declared.known.Position.{Position}
use Rattle.sml_flaws.specs.declared.flaw.Flaw.{Flaw}
use Rattle.sml_flaws.specs.declared.flaw.Seen.{Seen}
use Rattle.sml_flaws.specs.declared.flaw.Judge.{Judge}
use Rattle.sml_reach.specs.Fits.{Fit}
use Rattle.sml_read.specs.declared.grammar.Node.{Node}
use Rattle.sml_read.specs.Extents.{ends_of}
use Rattle.sml_flaws.specs.Marks.{next, start, marks_of}
use Rattle.sml_flaws.specs.Known.{is_again, atom_at, count_at, is_used, head_at, token_in, KnowsKeys, KnowsAtoms, KnowsCounts, KnowsUses, KnowsHeads}

abbrev pub flaw_if : Bool → ℕ → Code → Option Flaw
flaw_if here token code = if here then Some (record { token = token; code = code }) else None

abbrev pub position : ℕ → ℕ → Position
position sequence index = record { sequence = sequence; index = index }

-- the token that names a clause: of `f p ..` the first identifier, of `p f q` and `(p f q) ..` the operator
abbrev pub name_by : List Mark → ℕ → Option Head → Option ℕ
name_by before n None = None
name_by before n (Some Prefix) = atom_at before (position n 0)
name_by before n (Some Infix) = atom_at before (position n 1)
name_by before n (Some Bracketed) = atom_at before (position (next n) 1)

abbrev pub name_at : List Fit → List Mark → ℕ → Option ℕ
name_at fits before n = name_by before n (head_at fits n)

-- how many arguments a head of so many atomic patterns has
abbrev pub arity_by : Option Head → Option ℕ → Option ℕ
arity_by (Some Prefix) (Some atoms) = Some (atoms - 1)
arity_by (Some Infix) (Some atoms) = Some 1
arity_by (Some Bracketed) (Some atoms) = Some atoms
arity_by _ _ = None

abbrev pub arity_at : List Fit → List Mark → ℕ → Option ℕ
arity_at fits before n = arity_by (head_at fits n) (count_at before n)

-- a clause's name isn't that of its function's first clause
abbrev pub unlike_by : (ℕ → Id) → Option ℕ → Option ℕ → Option Flaw
unlike_by text (Some own) (Some first) = flaw_if (not (bytes_eq (text own) (text first))) own C.G1
unlike_by text _ _ = None

abbrev pub unlike : (ℕ → Id) → List Fit → List Mark → Mark → Option Flaw
unlike text fits before (M.Clause c) = unlike_by text (name_at fits before c.sequence) (name_at fits before c.function)
unlike text fits before _ = None

-- a clause hasn't as many arguments as its function's first clause
abbrev pub uneven_by : ℕ → Option ℕ → Option ℕ → Option Flaw
uneven_by token (Some own) (Some first) = flaw_if (not (own == first)) token C.G2
uneven_by token _ _ = None

abbrev pub uneven : List Fit → List Mark → Mark → Option Flaw
uneven fits before (M.Clause c) = uneven_by c.sequence (arity_at fits before c.sequence) (arity_at fits before c.function)
uneven fits before _ = None

-- `true`, `false`, `nil`, `::` and `ref`
abbrev pub reserved : List Id
reserved = (116 ∷ 114 ∷ 117 ∷ 101 ∷ []) ∷ (102 ∷ 97 ∷ 108 ∷ 115 ∷ 101 ∷ []) ∷ (110 ∷ 105 ∷ 108 ∷ []) ∷ (58 ∷ 58 ∷ []) ∷ (114 ∷ 101 ∷ 102 ∷ []) ∷ []

abbrev pub is_reserved : Id → Bool
is_reserved text = list_any (bytes_eq text) reserved

abbrev pub is_it : Id → Bool
is_it text = bytes_eq text (105 ∷ 116 ∷ [])

abbrev pub names_value : Space → Bool
names_value S.Constructors = true
names_value S.Exceptions = true
names_value S.Values = true
names_value _ = false

abbrev pub names_constructor : Space → Bool
names_constructor S.Constructors = true
names_constructor S.Exceptions = true
names_constructor _ = false

-- a name can't be bound: of a binding or a specification, of a pattern after `rec` or of a clause
abbrev pub barred_name : (ℕ → Id) → Space → ℕ → Option Flaw
barred_name text space token = flaw_if ((names_value space && is_reserved (text token)) || (names_constructor space && is_it (text token))) token C.G4

abbrev pub barred_value : (ℕ → Id) → Option ℕ → Option Flaw
barred_value text None = None
barred_value text (Some token) = flaw_if (is_reserved (text token)) token C.G4

abbrev pub barred : (ℕ → Id) → List Fit → List Mark → Mark → Option Flaw
barred text fits before (M.Bound b) = barred_name text b.space b.token
barred text fits before (M.Identifier a) = if a.binds && not (is_used fits (position a.sequence a.index)) then barred_value text (Some a.token) else None
barred text fits before (M.Pun n) = barred_value text (Some n)
barred text fits before (M.Clause c) = barred_value text (name_at fits before c.sequence)
barred text fits before _ = None

-- a real constant stands in a pattern
abbrev pub real : Mark → Option Flaw
real (M.Real n) = flaw_if true n C.G5
real _ = None

-- the faults at a mark, where these are all up to it, and whether it binds what is bound before
abbrev pub flaws_by : (ℕ → Id) → List Fit → List Mark → Mark → Bool → List Flaw
flaws_by text fits known m again =
    cons_option (flaw_if again (token_in m) C.G3) (cons_option (unlike text fits known m) (cons_option (uneven fits known m) (cons_option (barred text fits known m) (cons_option (real m) []))))

-- the faults at these marks, after those
abbrev pub flaws_of : (ℕ → Id) → List Fit → List Mark → List Mark → List Flaw
flaws_of text fits before [] = []
flaws_of text fits before (m ∷ marks) = flaws_by text fits (m ∷ before) m (is_again text before m) ++ flaws_of text fits (m ∷ before) marks

-- the value declaration of a type variable
abbrev pub owner_in : Mark → Option ℕ
owner_in (M.Listed v) = v.owner
owner_in (M.Owned v) = Some v.owner
owner_in _ = None

-- whether a node lies after that of a value declaration and before the end of its phrase, the ends of all being these
abbrev pub lies_in : List ℕ → Option ℕ → ℕ → Bool
lies_in ends None node = false
lies_in ends (Some owner) node = nat_lt owner node && nat_lt node (get_or ends owner 0)

-- whether a type variable is this one, of a value declaration round this node
abbrev pub is_outer : (ℕ → Id) → List ℕ → ℕ → ℕ → Mark → Bool
is_outer text ends node token m = lies_in ends (owner_in m) node && bytes_eq (text token) (text (token_in m))

abbrev pub scoped_by : (ℕ → Id) → List ℕ → List Mark → ℕ → Option ℕ → Option Flaw
scoped_by text ends all token None = None
scoped_by text ends all token (Some node) = flaw_if (list_any (is_outer text ends node token) all) token C.G3

-- the list of a value declaration names a variable of one round it
abbrev pub scoped_at : (ℕ → Id) → List ℕ → List Mark → Mark → Option Flaw
scoped_at text ends all (M.Listed v) = scoped_by text ends all v.token v.owner
scoped_at text ends all _ = None

abbrev pub scoped_of : (ℕ → Id) → List ℕ → List Mark → List Mark → List Flaw
scoped_of text ends all [] = []
scoped_of text ends all (m ∷ marks) = cons_option (scoped_at text ends all m) (scoped_of text ends all marks)

-- the faults of these marks of a declaration with these nodes
abbrev pub flaws_in : (ℕ → Id) → List Fit → List Node → List Mark → List Flaw
flaws_in text fits nodes marks = flaws_of text fits [] marks ++ scoped_of text (ends_of 0 nodes) marks marks

-- the faults of a declaration with these sequences and nodes, the first of which begins at this token
abbrev pub flaws : (ℕ → Id) → List Fit → ℕ → List Node → List Flaw
flaws text fits begun nodes = flaws_in text fits nodes (marks_of 0 begun (start ∷ []) nodes)

abbrev pub flaw_number : Code → ℕ
flaw_number C.G1 = 1
flaw_number C.G2 = 2
flaw_number C.G3 = 3
flaw_number C.G4 = 4
flaw_number _ = 5

-- whether a fault comes before another: at an earlier token, or there with a lower number
abbrev pub flaw_precedes : Flaw → Flaw → Bool
flaw_precedes a b = nat_lt a.token b.token || (a.token == b.token && nat_le (flaw_number a.code) (flaw_number b.code))

abbrev pub earlier_flaw : Flaw → Option Flaw → Flaw
earlier_flaw a None = a
earlier_flaw a (Some b) = if flaw_precedes a b then a else b

abbrev pub first_flaw : List Flaw → Option Flaw
first_flaw [] = None
first_flaw (a ∷ flaws) = Some (earlier_flaw a (first_flaw flaws))

-- what the program knows
pub record KnowsFits (fits : List Fit) (judge : Judge) : Type 0 where
  pub uses : KnowsUses fits judge.uses.now
  pub heads : KnowsHeads fits judge.heads.now

pub record Knows (text : ℕ → Id) (before : List Mark) (seen : Seen) : Type 0 where
  pub keys : KnowsKeys text before seen.keys
  pub atoms : KnowsAtoms before seen.atoms
  pub counts : KnowsCounts before seen.counts
