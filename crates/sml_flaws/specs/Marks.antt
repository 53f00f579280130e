-- What a declaration binds and where, one mark after another. Each phrase is known by the phrases round it.
use Rattle.std.specs.Prelude.{ℕ, zero, suc, ◌+◌, ◌-◌, ◌^◌, min, Bool, true, false, List, [], ◌∷◌, ◌++◌, Option, Some, None, length, get_or, if◌then◌else◌}
use Rattle.std.specs.List.{cons_option}
use Rattle.std.specs.Option.{option_map}
use Rattle.sml_read.specs.declared.grammar.Node.{Node}
use Rattle.sml_read.specs.declared.grammar.Node.TheVariants.{Leaf, Inner}
use Rattle.sml_read.specs.declared.grammar.Rule.{Rule}
use Rattle.sml_read.specs.declared.grammar.Rule.TheVariants.{Names, Declarations, Patterns}
use Rattle.sml_read.specs.declared.grammar.NameRule.TheVariants.{ConstantRealConstant}
use Rattle.sml_read.specs.declared.grammar.DeclarationRule.TheVariants.{AtPatsNone}
use Rattle.sml_read.specs.declared.grammar.PatternRule.TheVariants.{RowRestTyped}
use Rattle.sml_read.specs.Grammar.{right_side}
use Rattle.sml_flaws.specs.declared.role.Word.{Word}
use Rattle.sml_flaws.specs.declared.role.Word.TheVariants as W
use Rattle.sml_flaws.specs.declared.role.Role.{Role}
use Rattle.sml_flaws.specs.declared.role.Role.TheVariants as R
use Rattle.sml_flaws.specs.declared.role.Entry.{Entry}
use Rattle.sml_flaws.specs.declared.role.Entry.TheVariants as O
use Rattle.sml_flaws.specs.declared.mark.Context.{Context}
use Rattle.sml_flaws.specs.declared.mark.Mark.{Mark}
use Rattle.sml_flaws.specs.declared.mark.Mark.TheVariants as M
use Rattle.sml_flaws.specs.Roles.{roles_of, entry_of}

abbrev pub context : Word → ℕ → Option ℕ → Bool → ℕ → ℕ → ℕ → Context
context word group owner binds function sequence index = record { word = word; group = group; owner = owner; binds = binds; function = function; sequence = sequence; index = index }

-- what is known of a declaration
abbrev pub start : Context
start = context W.Plain 0 None false 0 0 0

-- the context inside a phrase with this node and this first token
abbrev pub entered : Entry → ℕ → ℕ → Context → Context
entered O.Nothing i n c = c
entered O.Group i n c = context c.word n c.owner c.binds c.function c.sequence c.index
entered O.Types i n c = context c.word n None c.binds c.function c.sequence c.index
entered O.Value i n c = context c.word c.group (Some i) c.binds c.function c.sequence c.index
entered O.Recursive i n c = context c.word c.group c.owner true c.function c.sequence c.index
entered O.Sequence i n c = context c.word c.group c.owner c.binds c.function n 0
entered O.Function i n c = context c.word c.group c.owner c.binds n n 0
entered O.Clause i n c = context c.word c.group c.owner c.binds c.function (n + 1) 0

-- the next number, up to the greatest of 64 bits
abbrev pub next : ℕ → ℕ
next n = min (n + 1) (2 ^ 64 - 1)

-- the context of a symbol with this role
abbrev pub in_role : Role → Context → Context
in_role R.Same c = c
in_role R.Next c = context c.word c.group c.owner c.binds c.function c.sequence (next c.index)
in_role R.Expression c = context c.word c.group c.owner false c.function c.sequence c.index
in_role (R.Word word) c = context word c.group c.owner c.binds c.function c.sequence c.index

-- the contexts of so many symbols from this one on
abbrev pub contexts_from : List Role → Context → ℕ → ℕ → List Context
contexts_from roles c index zero = []
contexts_from roles c index (suc count) = in_role (get_or roles index R.Same) c ∷ contexts_from roles c (suc index) count

-- the mark at a token
abbrev pub word_mark : Word → ℕ → Context → Option Mark
word_mark W.Plain n c = None
word_mark W.Constant n c = None
word_mark (W.Bound space) n c = Some (M.Bound (record { space = space; group = c.group; token = n }))
word_mark W.Listed n c = Some (M.Listed (record { group = c.group; owner = c.owner; token = n }))
word_mark W.Variable n c = option_map (λ owner. M.Owned (record { owner = owner; token = n })) c.owner
word_mark W.Atom n c = Some (M.Identifier (record { sequence = c.sequence; index = c.index; token = n; binds = c.binds }))

abbrev pub is_constant : Word → Bool
is_constant W.Constant = true
is_constant _ = false

-- the mark at a phrase of a rule: at a row's `x` that stands for itself too, that identifier is the token before
abbrev pub rule_mark : Rule → ℕ → Context → Option Mark
rule_mark (Names ConstantRealConstant) n c = if is_constant c.word then Some (M.Real n) else None
rule_mark (Patterns RowRestTyped) n c = if c.binds then Some (M.Pun (n - 1)) else None
rule_mark (Declarations AtPatsNone) n c = Some (M.Clause (record { function = c.function; sequence = c.sequence; atoms = c.index }))
rule_mark _ n c = None

-- of a node: its mark, the contexts of its parts, and the first token after it
abbrev pub mark_at : ℕ → Context → Node → Option Mark
mark_at n c Leaf = word_mark c.word n c
mark_at n c (Inner rule) = rule_mark rule n c

abbrev pub parts_of : ℕ → ℕ → Context → Node → List Context
parts_of i n c Leaf = []
parts_of i n c (Inner rule) = contexts_from (roles_of rule) (entered (entry_of rule) i n c) 0 (length (right_side rule))

abbrev pub token_after : ℕ → Node → ℕ
token_after n Leaf = n + 1
token_after n (Inner rule) = n

-- The marks of nodes, the first of which is the i-th and begins at the n-th token. These are the contexts of the
-- phrases that are still to come.
abbrev pub marks_of : ℕ → ℕ → List Context → List Node → List Mark
marks_of i n contexts [] = []
marks_of i n [] (node ∷ nodes) = []
marks_of i n (c ∷ contexts) (node ∷ nodes) = cons_option (mark_at n c node) (marks_of (suc i) (token_after n node) (parts_of i n c node ++ contexts) nodes)
