-- What a table has bound, now and before its last bindings.
use Rattle.std.specs.Prelude.{ℕ, Vec, List, [], ◌∷◌, drop, reverse, Option, Some, None}
use Rattle.std.specs.Global.{Global}
use Rattle.std.specs.declared.rc.Rc.{Rc}
use Rattle.sml_tree.specs.Trees.{Id}
use Rattle.sml_tree.specs.Views.{ident_of}
use Rattle.sml_objects.specs.Maps.{by_order, order_of}
use Rattle.sml_bases.specs.CodeStored.{stored_in}
use Rattle.sml_bases.specs.Layers.{first_found, or_else}
use Rattle.sml_scopes.specs.declared.table.Table.{Table}

-- what is bound to an identifier, with the number of structures that were open when it was bound
abbrev pub bound : {X : Type 0} → Table X → Id → Option (ℕ × X)
bound t x = stored_in x t.entries.entries

-- what the first of these bindings of an identifier hid, or else what is bound to it after them
abbrev pub hidden_first : {E : Type 0} → Id → List (Rc (Vec ℕ Global) Global × Option E) → Option E → Option E
hidden_first x [] now = now
hidden_first x (b ∷ bs) now = by_order (order_of x (ident_of b.0)) (hidden_first x bs now) b.1 (hidden_first x bs now)

-- what was bound after the first bindings
abbrev pub bound_at : {X : Type 0} → ℕ → Table X → Id → Option (ℕ × X)
bound_at first t x = hidden_first x (drop first t.log.items) (bound t x)

-- what structures have that were opened since something was bound, the last opened first, or else what was bound
abbrev pub found_since : {A X : Type 0} → (A → Option X) → List A → Option (ℕ × X) → Option X
found_since at opened None = first_found at (reverse opened)
found_since at opened (Some e) = or_else (first_found at (reverse (drop e.0 opened))) (Some e.1)
