-- What the reader's stack of symbols owes, from one token to the next.
use Rattle.std.specs.Prelude.{◌≡◌, ℕ, ◌+◌, ◌≤◌, length, List, [], ◌∷◌, ◌++◌, Bool, true, false, not, ◌&&◌, Option, Some, None, if◌then◌else◌}
use Rattle.sml_lex.specs.declared.token.Kind.{Kind}
use Rattle.sml_read.specs.declared.grammar.Part.{Part}
use Rattle.sml_read.specs.declared.grammar.Symbol.{Symbol}
use Rattle.sml_read.specs.declared.grammar.Symbol.TheVariants.{Word, Of}
use Rattle.sml_read.specs.declared.grammar.Node.{Node}
use Rattle.sml_read.specs.Parts.{may_be_empty}
use Rattle.sml_read.specs.CodeShortest.{shortest_text, continuations, weight}
use Rattle.sml_read.specs.Spelling.{is_among, head_or, is_outer, is_closed, Leads}

abbrev pub goes_on : Part → Option Kind → Bool
goes_on p None = false
goes_on p (Some k) = is_among k (continuations p)

-- the first token of the shortest texts of these symbols, with next after them
abbrev pub lead : List Symbol → Option Kind → Option Kind
lead [] next = next
lead (Word k ∷ ss) next = Some k
lead (Of p ∷ ss) next = head_or (shortest_text p) (lead ss next)

-- the shortest texts of these symbols may stand one after another
abbrev pub is_safe : List Symbol → Option Kind → Bool
is_safe [] next = true
is_safe (Word k ∷ ss) next = is_safe ss next
is_safe (Of p ∷ ss) next = not (goes_on p (lead ss next)) && is_safe ss next

abbrev pub cost : List Symbol → ℕ
cost [] = 0
cost (Word k ∷ ss) = 0
cost (Of p ∷ ss) = weight p + (if may_be_empty p then cost ss else 0)

-- whether the last of the symbols is the part for a unit's rest; empty is answered for none
abbrev pub ends_outer : Bool → List Symbol → Bool
ends_outer empty [] = empty
ends_outer empty (Word k ∷ ss) = ends_outer false ss
ends_outer empty (Of p ∷ ss) = ends_outer (is_outer p) ss

-- nodes is added, and then leads on from the symbols now
abbrev pub Begun : List Node → List Symbol → List Node → List Kind → Option Kind → List Symbol → Type 0
Begun added now nodes tokens next after = (rest : List Node) × (nodes ≡ added ++ rest) × Leads rest now tokens next after

-- From the symbols old, the token leads to the symbols now, by these nodes and no others, whatever follows.
pub record Takes (old : List Symbol) (token : Kind) (added : List Node) (now : List Symbol) : Type 0 where
  pub leads : (next : Option Kind) → Leads added old (token ∷ []) next now
  pub only : (nodes : List Node) (tokens : List Kind) (next : Option Kind) (after : List Symbol) → Leads nodes old (token ∷ tokens) next after → Begun added now nodes tokens next after
  pub safe : is_safe old None ≡ true → is_safe now None ≡ true
  pub based : ends_outer true old ≡ true → ends_outer false now ≡ true

-- the symbols don't lead on by the token
abbrev pub Refuses : List Symbol → Kind → Type 0
Refuses old token = (nodes : List Node) (tokens : List Kind) (next : Option Kind) (after : List Symbol) → Leads nodes old (token ∷ tokens) next after → ⊥

-- Without a token, but with next after, the symbols old lead to the symbols now, by nodes with which all
-- begin that take next, and all that leave one symbol or none.
pub record Completes (old : List Symbol) (next : Option Kind) (added : List Node) (now : List Symbol) : Type 0 where
  pub leads : Leads added old [] next now
  pub only : (nodes : List Node) (k : Kind) (tokens : List Kind) (beyond : Option Kind) (after : List Symbol) → next ≡ Some k → Leads nodes old (k ∷ tokens) beyond after → Begun added now nodes (k ∷ tokens) beyond after
  pub left : (nodes : List Node) (after : List Symbol) → length after ≤ 1 → Leads nodes old [] next after → Begun added now nodes [] next after
  pub safe : is_safe old None ≡ true → is_safe now None ≡ true
  pub based : ends_outer false old ≡ true → ends_outer false now ≡ true

-- whether a part alone is left, and what stands before it has ended with this token next
abbrev pub ends_whole : Option Part → Kind → Bool
ends_whole None next = false
ends_whole (Some part) next = is_closed part (Some next)

-- without a token the symbols lead to no single one, nor to none
abbrev pub Blocks : List Symbol → Option Kind → Type 0
Blocks old next = (nodes : List Node) (after : List Symbol) → length after ≤ 1 → Leads nodes old [] next after → ⊥
