-- The height of an identifier with what stands after it.
use Rattle.std.proofs.Common.{◌≡◌, ◌+◌, ◌≤◌, max, Option, Some, None, ap, ◌∙◌, arith}
use Rattle.sml_lex.specs.declared.fault.Place.{Place}
use Rattle.sml_tree.specs.Names.{Name}
use Rattle.sml_tree.specs.Types.{Ty, ty_variable, ty_row, ty_tuple, ty_constructor, ty_misapplied, ty_arrow, ty_bracket}
use Rattle.sml_tree.specs.Patterns.{Pat}
use Rattle.sml_tree.specs.Heights.{height_if_any, ty_height, pat_height}
use Rattle.sml_derived.specs.Derived.{layered}

some_height : (t : Ty Place) → 1 ≤ ty_height t
some_height (ty_variable p v) = omega arith
some_height (ty_row p fs) = omega arith
some_height (ty_tuple p ts) = omega arith
some_height (ty_constructor p ts c) = omega arith
some_height (ty_misapplied p ts c) = omega arith
some_height (ty_arrow p t u) = omega arith
some_height (ty_bracket p t) = omega arith

pub layered_height : (x : Name Place) (t : Option (Ty Place)) (q : Option (Pat Place)) → pat_height (layered x t q) ≡ max (height_if_any ty_height t) (height_if_any pat_height q) + 1
layered_height x None None = omega arith
layered_height x (Some t) None = omega (arith, some_height t)
layered_height x None (Some q) = omega arith
layered_height x (Some t) (Some q) = omega arith

pub layered_parts : (x : Name Place) (t u : Option (Ty Place)) (q r : Option (Pat Place)) → t ≡ u → q ≡ r → layered x t q ≡ layered x u r
layered_parts x t u q r e d = ap (λ y. layered x y q) e ∙ ap (layered x u) d
