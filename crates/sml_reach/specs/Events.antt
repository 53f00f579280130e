-- What happens to fixities, and which sequences stand where, in the order of the text.
use Rattle.std.specs.Prelude.{ℕ, Bool, true, false, List, [], ◌∷◌, Option, Some, None, take, drop, length, get_or, slice_get, slice_range, if◌then◌else◌}
use Rattle.std.specs.List.{cons_option}
use Rattle.std.specs.Option.{option_map}
use Rattle.sml_lex.specs.declared.token.Token.{Token}
use Rattle.sml_tree.specs.Trees.{Id}
use Rattle.sml_fixity.specs.declared.scopes.Directive.{Directive}
use Rattle.sml_read.specs.declared.grammar.Node.{Node}
use Rattle.sml_read.specs.declared.grammar.Node.TheVariants.{Leaf, Inner}
use Rattle.sml_read.specs.declared.grammar.Rule.{Rule}
use Rattle.sml_read.specs.Grammar.{right_side}
use Rattle.sml_reach.specs.declared.sense.Deed.{Deed}
use Rattle.sml_reach.specs.declared.sense.Deed.TheVariants as D
use Rattle.sml_reach.specs.declared.event.Event as P
use Rattle.sml_reach.specs.declared.event.Event.TheVariants as E
use Rattle.sml_reach.specs.Senses.{sense_of, deed_of, opens, closes}
use Rattle.sml_fixity.specs.ItemNames.{Name, short, name_of}
use Rattle.sml_reach.specs.Founds.{Found, Atom, atom, nothing, word, directed, sequence_in, found_by, left, atoms_of}

pub data Event : Type 0 where
  -- a declaration at the top begins at this token
  begins : ℕ → Event
  -- a scope is opened, or closed
  enters : Event
  leaves : Event
  -- a directive, with the token of its level, if one is written, and its identifiers
  directs : Directive → Option ℕ → List Atom → Event
  -- a sequence of atomic expressions, or of atomic patterns, or the head of a clause
  expression : List Atom → Event
  pattern : List Atom → Event
  head : List Atom → Event

-- the bytes of a token
abbrev pub text_of : List ℕ → Option Token → Id
text_of unit None = []
text_of unit (Some token) = slice_range unit token.span.start token.span.«end»

abbrev pub text_at : List ℕ → List Token → ℕ → Id
text_at unit tokens n = text_of unit (slice_get tokens n)

-- what a phrase of a rule is, where what is found after its beginning is this
abbrev pub found_at : (ℕ → Id) → ℕ → Rule → List Found → Found
found_at text n rule founds =
    let parts = take (length (right_side rule)) founds in
    found_by text n (sense_of rule) (get_or parts 0 nothing) (get_or parts 1 nothing) (get_or parts 2 nothing) (get_or parts 3 nothing)

-- what a node is to the phrases round it, before what is found after it
abbrev pub founds_from : (ℕ → Id) → Node → ℕ → List Found → List Found
founds_from text Leaf n founds = word n ∷ founds
founds_from text (Inner rule) n founds = left (deed_of rule) (found_at text n rule founds) ∷ drop (length (right_side rule)) founds

-- what the phrases that begin with these nodes are, each node with the number of its first token
abbrev pub founds_of : (ℕ → Id) → List Node → List ℕ → List Found
founds_of text [] starts = []
founds_of text (node ∷ nodes) [] = []
founds_of text (node ∷ nodes) (n ∷ starts) = founds_from text node n (founds_of text nodes starts)

-- what a token does to scopes
abbrev pub scope_event : Option Token → Option Event
scope_event None = None
scope_event (Some token) = if opens token.kind then Some enters else if closes token.kind then Some leaves else None

-- an atomic phrase stands for itself wherever it is, unless it is an identifier without a path
abbrev pub is_itself : Name → Bool
is_itself (short x) = false
is_itself _ = true

abbrev pub are_itself : List Atom → Bool
are_itself (a ∷ []) = is_itself a.name
are_itself _ = false

-- a sequence of atomic expressions, unless it is one alone that stands for itself: nothing is asked about that
abbrev pub asked : List Atom → Option Event
asked atoms = if are_itself atoms then None else Some (expression atoms)

abbrev pub asked_of : Option (List Atom) → Option Event
asked_of None = None
asked_of (Some atoms) = asked atoms

-- what happens where a phrase begins that is this
abbrev pub event_of : Deed → ℕ → Found → Option Event
event_of D.Begins n found = Some (begins n)
event_of (D.Directs directive) n (directed level atoms) = Some (directs directive level atoms)
event_of D.Expression n found = asked_of (sequence_in found)
event_of D.Pattern n found = option_map pattern (sequence_in found)
event_of D.Head n found = option_map head (sequence_in found)
event_of _ n found = None

-- the event at a node, before what is found after it
abbrev pub event_from : List ℕ → List Token → Node → ℕ → List Found → Option Event
event_from unit tokens Leaf n founds = scope_event (slice_get tokens n)
event_from unit tokens (Inner rule) n founds = event_of (deed_of rule) n (found_at (text_at unit tokens) n rule founds)

-- the events of these nodes, each with the number of its first token
abbrev pub events_of : List ℕ → List Token → List Node → List ℕ → List Event
events_of unit tokens [] starts = []
events_of unit tokens (node ∷ nodes) [] = []
events_of unit tokens (node ∷ nodes) (n ∷ starts) = cons_option (event_from unit tokens node n (founds_of (text_at unit tokens) nodes starts)) (events_of unit tokens nodes starts)

-- the program's events as these
abbrev pub seen : P.Event → Event
seen (E.Begins n) = begins n
seen E.Enters = enters
seen E.Leaves = leaves
seen (E.Directs d) = directs d.value.directive d.value.level (atoms_of d.value.atoms)
seen (E.OneExpression item token) = expression (atom (name_of item) token [] ∷ [])
seen (E.OnePattern item token) = pattern (atom (name_of item) token [] ∷ [])
seen (E.Expression atoms) = expression (atoms_of atoms)
seen (E.Pattern atoms) = pattern (atoms_of atoms)
seen (E.Head atoms) = head (atoms_of atoms)
