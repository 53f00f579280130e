-- The order of identifiers.
use Rattle.std.specs.Ordering.{nat_cmp, match_ordering}
use Rattle.std.specs.Cmp.Lexicographic.{slice_cmp}
use Rattle.std.specs.declared.cmp.Ordering.{Ordering}
use Rattle.sml_tree.specs.Trees.{Id}

abbrev pub order_of : Id → Id → Ordering
order_of x y = slice_cmp nat_cmp x y

-- the first where two identifiers are the same, and else the second
abbrev pub where_same : {X : Type 0} → Ordering → X → X → X
where_same o a b = match_ordering o b a b
