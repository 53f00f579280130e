-- Heads of clauses (the Definition, the grammar of fmatch, figure 20).
use Rattle.std.specs.Prelude.{Bool, true, false, not, ◌&&◌, IsTrue, is_some, List, [], ◌∷◌}
use Rattle.sml_tree.specs.Views.{ident_of}
use Rattle.sml_fixity.specs.declared.sequences.Item.{Item}
use Rattle.sml_fixity.specs.declared.sequences.Item.TheVariants.{Short, Op, Long, Phrase}
use Rattle.sml_fixity.specs.declared.heads.Head.{Head}
use Rattle.sml_fixity.specs.declared.heads.Head.TheVariants.{Prefix, Infix, Bracketed}
use Rattle.sml_fixity.specs.Scopes.{Map}

abbrev pub is_operator : Map → Item → Bool
is_operator fixities (Short x) = is_some (fixities (ident_of x))
is_operator fixities Op = false
is_operator fixities Long = false
is_operator fixities Phrase = false

-- a short identifier, with `op` or without
abbrev pub is_function_name : Item → Bool
is_function_name (Short x) = true
is_function_name Op = true
is_function_name Long = false
is_function_name Phrase = false

abbrev pub is_phrase : Item → Bool
is_phrase (Short x) = false
is_phrase Op = false
is_phrase Long = false
is_phrase Phrase = true

abbrev pub no_operator : Map → List Item → Bool
no_operator fixities [] = true
no_operator fixities (x ∷ xs) = not (is_operator fixities x) && no_operator fixities xs

-- three items, of which the middle one alone is an operator
abbrev pub infix_head : Map → List Item → Bool
infix_head fixities (x ∷ f ∷ y ∷ []) = not (is_operator fixities x) && is_operator fixities f && not (is_operator fixities y)
infix_head fixities xs = false

-- a name and one more item or several, none of them an operator
abbrev pub prefix_head : Map → List Item → Bool
prefix_head fixities (f ∷ x ∷ xs) = is_function_name f && no_operator fixities (f ∷ x ∷ xs)
prefix_head fixities xs = false

-- an infix head in brackets and further items or none, none of them an operator
abbrev pub bracketed_head : Map → List Item → List Item → Bool
bracketed_head fixities bracketed [] = false
bracketed_head fixities bracketed (x ∷ xs) = is_phrase x && infix_head fixities bracketed && no_operator fixities (x ∷ xs)

-- how items are a head, where the first of them has these items in its brackets
abbrev pub IsHead : Map → List Item → List Item → Head → Type 0
IsHead fixities items bracketed Prefix = IsTrue (prefix_head fixities items)
IsHead fixities items bracketed Infix = IsTrue (infix_head fixities items)
IsHead fixities items bracketed Bracketed = IsTrue (bracketed_head fixities bracketed items)
