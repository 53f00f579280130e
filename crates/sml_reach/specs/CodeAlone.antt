-- A sequence of one atomic phrase that is an operand. No public contract rests on it.
use Rattle.std.specs.Prelude.{◌≡◌, List, [], ◌∷◌, None}
use Rattle.sml_fixity.specs.Scopes.{Map}
use Rattle.sml_fixity.specs.Sequences.{role_at, role_by}
use Rattle.sml_reach.specs.declared.found.Atom as P

abbrev pub IsOperand : Map → List P.Atom → Type 0
IsOperand fixities atoms = (a : P.Atom) × (atoms ≡ a ∷ []) × (role_at fixities 0 a.item ≡ role_by 0 None)
