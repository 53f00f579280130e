-- What the code keeps of the right sides after `withtype`.
use Rattle.std.specs.Prelude.{◌≡◌, ℕ, List, Option, unwrap_or, Vec}
use Rattle.std.specs.Option.{option_map}
use Rattle.std.specs.Map.{lookup}
use Rattle.std.specs.Str.{bytes_eq}
use Rattle.std.specs.Global.{Global}
use Rattle.std.specs.declared.rc.Rc.{Rc}
use Rattle.sml_lex.specs.declared.fault.Place.{Place}
use Rattle.sml_tree.specs.Trees.{Id}
use Rattle.sml_tree.specs.Views.{ident_of}
use Rattle.sml_tree.specs.Expressions.{TypBind}
use Rattle.sml_tree.specs.Height.{counted}
use Rattle.sml_tree.specs.Heights.{ty_height}
use Rattle.sml_tree.specs.Withtype.{bound}
use Rattle.sml_tree.specs.CodeDepths.{depth, depths}
use Rattle.sml_tree.specs.declared.sides.Side.{Side}

-- what a table has for an identifier
abbrev pub found : {A : Type 0} → Id → List (Rc (Vec ℕ Global) Global × A) → Option A
found x es = lookup (λ k. bytes_eq x (ident_of k)) es

-- how deep a variable stands in the types so far
abbrev pub deep : Id → List (Rc (Vec ℕ Global) Global × ℕ) → ℕ
deep v es = unwrap_or (found v es) 0

-- the height of a right side, and how deep its variables stand in it
abbrev pub parts_of : TypBind Place → ℕ × List ℕ
parts_of b = (counted (ty_height b.ty), depths (λ v. depth 0 v b.ty) b.variables)

abbrev pub side_of : Side → ℕ × List ℕ
side_of s = (s.height, s.depths.items)

-- the table has the right sides of these bindings
abbrev pub KnowsSides : List (TypBind Place) → List (Rc (Vec ℕ Global) Global × Side) → Type 0
KnowsSides bs es = (c : Id) → option_map side_of (found c es) ≡ option_map parts_of (bound c bs)
