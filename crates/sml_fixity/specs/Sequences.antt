-- Items as operands and operators.
use Rattle.std.specs.Prelude.{ℕ, ◌+◌, Bool, true, false, Option, Some, None, List, [], ◌∷◌}
use Rattle.sml_tree.specs.Views.{ident_of}
use Rattle.sml_fixity.specs.declared.scopes.Fixity.{Fixity}
use Rattle.sml_fixity.specs.declared.roles.Operator.{Operator}
use Rattle.sml_fixity.specs.declared.roles.Role.{Role}
use Rattle.sml_fixity.specs.declared.roles.Role.TheVariants.{Atom, Infix}
use Rattle.sml_fixity.specs.declared.sequences.Item.{Item}
use Rattle.sml_fixity.specs.declared.sequences.Item.TheVariants.{Short, Op, Long, Phrase}
use Rattle.sml_fixity.specs.Scopes.{Map}

abbrev pub operator_of : ℕ → Fixity → Operator
operator_of index fixity = record { index = index; fixity = fixity }

abbrev pub role_by : ℕ → Option Fixity → Role
role_by index None = Atom index
role_by index (Some fixity) = Infix (operator_of index fixity)

-- a short identifier without `op` is an operator where it has a fixity
abbrev pub role_at : Map → ℕ → Item → Role
role_at fixities index (Short x) = role_by index (fixities (ident_of x))
role_at fixities index Op = Atom index
role_at fixities index Long = Atom index
role_at fixities index Phrase = Atom index

abbrev pub roles_from : Map → ℕ → List Item → List Role
roles_from fixities index [] = []
roles_from fixities index (x ∷ xs) = role_at fixities index x ∷ roles_from fixities (index + 1) xs

-- the items of a sequence as operands and operators, each with its index
abbrev pub roles_of : Map → List Item → List Role
roles_of fixities items = roles_from fixities 0 items

-- an identifier, perhaps with a path
abbrev pub is_identifier : Item → Bool
is_identifier (Short x) = true
is_identifier Op = true
is_identifier Long = true
is_identifier Phrase = false
