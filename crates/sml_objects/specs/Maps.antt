-- Finite maps from identifiers: the entries in the byte order of the identifiers, each of which stands once.
use Rattle.std.specs.Prelude.{List, [], ◌∷◌, Option, Some, None}
use Rattle.std.specs.Ordering.{nat_cmp}
use Rattle.std.specs.Cmp.Lexicographic.{slice_cmp}
use Rattle.std.specs.declared.cmp.Ordering.{Ordering}
use Rattle.std.specs.declared.cmp.Ordering.TheVariants.{Less, Equal, Greater}
use Rattle.sml_tree.specs.Trees.{Id}

abbrev pub Map : Type 0 → Type 0
Map X = List (Id × X)

abbrev pub order_of : Id → Id → Ordering
order_of x y = slice_cmp nat_cmp x y

abbrev pub by_order : {X : Type 0} → Ordering → X → X → X → X
by_order Less a b c = a
by_order Equal a b c = b
by_order Greater a b c = c

abbrev pub lookup : {X : Type 0} → Id → Map X → Option X
lookup x [] = None
lookup x (e ∷ m) = by_order (order_of x e.0) (lookup x m) (Some e.1) (lookup x m)

-- the map with this value at x
abbrev pub put : {X : Type 0} → Id → X → Map X → Map X
put x v [] = (x, v) ∷ []
put x v (e ∷ m) = by_order (order_of x e.0) ((x, v) ∷ e ∷ m) ((e.0, v) ∷ m) (e ∷ put x v m)

-- the entries of the second map hide those of the first
abbrev pub join : {X : Type 0} → Map X → Map X → Map X
join m [] = m
join m (e ∷ n) = join (put e.0 e.1 m) n
