-- Fixities as maps from identifiers, one for each open scope (the Definition, section 2.6).
use Rattle.std.specs.Prelude.{◌≡◌, ◌⊎◌, ℕ, ◌+◌, ◌<◌, Option, Some, None, Bool, true, false, List, [], ◌∷◌, reverse, codes}
use Rattle.sml_tree.specs.Trees.{Id}
use Rattle.sml_tree.specs.Views.{ident_of}
use Rattle.sml_fixity.specs.Order.{order_of, where_same}
use Rattle.sml_fixity.specs.CodeTable.{found}
use Rattle.sml_fixity.specs.declared.scopes.Side.{Side}
use Rattle.sml_fixity.specs.declared.scopes.Side.TheVariants.{Left, Right}
use Rattle.sml_fixity.specs.declared.scopes.Fixity.{Fixity}
use Rattle.sml_fixity.specs.declared.scopes.Directive.{Directive}
use Rattle.sml_fixity.specs.declared.scopes.Directive.TheVariants.{Infix, Infixr, Nonfix}
use Rattle.sml_fixity.specs.declared.scopes.Change.{Change}
use Rattle.sml_fixity.specs.declared.scopes.Change.TheVariants.{Scope, Restore}
use Rattle.sml_fixity.specs.declared.scopes.Fixities.{Fixities}

abbrev pub fixity_of : ℕ → Side → Fixity
fixity_of level side = record { level = level; side = side }

-- the fixity of each identifier that has one
abbrev pub Map : Type 0
Map = Id → Option Fixity

-- the map with another entry at x
abbrev pub changed : Map → Id → Option Fixity → Map
changed f x v = λ y. where_same (order_of y x) v (f y)

abbrev pub changed_all : Map → List Id → Option Fixity → Map
changed_all f [] v = f
changed_all f (x ∷ xs) v = changed_all (changed f x v) xs v

-- the fixities in force
abbrev pub here : Fixities → Map
here f = λ x. found x f.table.idents.entries

-- the maps at the beginnings of the open scopes, the newest change first
abbrev pub unwound : Map → List Change → List Map
unwound f [] = []
unwound f (Scope ∷ us) = f ∷ unwound f us
unwound f (Restore x v ∷ us) = unwound (changed f (ident_of x) v) us

-- whether a change is the beginning of a scope
abbrev pub is_scope : Change → Bool
is_scope Scope = true
is_scope (Restore x v) = false

-- the fixities at the beginning of each open scope, the innermost first
abbrev pub outer : Fixities → List Map
outer f = unwound (here f) (reverse f.changes.items)

-- the level of a text: one digit, and 0 where nothing is written
abbrev pub IsLevel : List ℕ → ℕ → Type 0
IsLevel text d = ((text ≡ []) × (d ≡ 0)) ⊎ ((text ≡ (d + 48) ∷ []) × (d < 10))

-- the fixity that a directive with this text of a level gives to its identifiers
abbrev pub Gives : Directive → List ℕ → Option Fixity → Type 0
Gives Infix text given = (d : ℕ) × IsLevel text d × (given ≡ Some (fixity_of d Left))
Gives Infixr text given = (d : ℕ) × IsLevel text d × (given ≡ Some (fixity_of d Right))
Gives Nonfix text given = given ≡ None

abbrev pub none_given : Map
none_given = λ x. None

-- the fixities of the initial basis (the Definition, appendix C)
abbrev pub initial_map : Map
initial_map =
    let f7 = changed_all none_given (codes "*" ∷ codes "/" ∷ codes "div" ∷ codes "mod" ∷ []) (Some (fixity_of 7 Left)) in
    let f6 = changed_all f7 (codes "+" ∷ codes "-" ∷ codes "^" ∷ []) (Some (fixity_of 6 Left)) in
    let f5 = changed_all f6 (codes "::" ∷ codes "@" ∷ []) (Some (fixity_of 5 Right)) in
    let f4 = changed_all f5 (codes "=" ∷ codes "<>" ∷ codes ">" ∷ codes ">=" ∷ codes "<" ∷ codes "<=" ∷ []) (Some (fixity_of 4 Left)) in
    let f3 = changed_all f4 (codes ":=" ∷ codes "o" ∷ []) (Some (fixity_of 3 Left)) in
    changed_all f3 (codes "before" ∷ []) (Some (fixity_of 0 Left))
