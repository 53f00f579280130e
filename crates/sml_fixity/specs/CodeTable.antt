-- The table of fixities: what it has for an identifier, and which bytes identifiers with an entry begin with.
use Rattle.std.specs.Prelude.{ℕ, Bool, true, false, ◌&&◌, List, [], ◌∷◌, Option, None, Vec, get_or}
use Rattle.std.specs.Global.{Global}
use Rattle.std.specs.declared.rc.Rc.{Rc}
use Rattle.sml_tree.specs.Trees.{Id}
use Rattle.sml_tree.specs.Views.{ident_of}
use Rattle.sml_fixity.specs.declared.scopes.Fixity.{Fixity}
use Rattle.sml_fixity.specs.Order.{order_of, where_same}

abbrev pub Entries : Type 0
Entries = List (Rc (Vec ℕ Global) Global × Option Fixity)

abbrev pub found : Id → Entries → Option Fixity
found x [] = None
found x (e ∷ es) = where_same (order_of x (ident_of e.0)) e.1 (found x es)

-- whether the first byte of the identifier is marked
abbrev pub is_marked : List Bool → Id → Bool
is_marked firsts [] = true
is_marked firsts (b ∷ bs) = get_or firsts b false

-- whether that of each identifier with an entry is
abbrev pub are_marked : List Bool → Entries → Bool
are_marked firsts [] = true
are_marked firsts (e ∷ es) = is_marked firsts (ident_of e.0) && are_marked firsts es
