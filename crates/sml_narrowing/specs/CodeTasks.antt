-- The rows and heads that the code keeps. A row has its first column last.
use Rattle.std.specs.Prelude.{ℕ, zero, suc, Bool, List, [], ◌∷◌, map, reverse, Option, Some, None, Vec}
use Rattle.std.specs.List.{list_any}
use Rattle.std.specs.Str.{bytes_eq}
use Rattle.std.specs.Borrow.{Bor}
use Rattle.std.specs.Global.{Global}
use Rattle.std.specs.declared.rc.Rc.{Rc}
use Rattle.sml_tree.specs.Trees.{Id}
use Rattle.sml_tree.specs.Views.{ident_of}
use Rattle.sml_narrowing.specs.declared.pattern.Pattern.{Pattern}
use Rattle.sml_narrowing.specs.declared.narrow.Head as H
use Rattle.sml_narrowing.specs.declared.narrow.Head.TheVariants as V
use Rattle.sml_narrowing.specs.declared.narrow.Split.{Split}
use Rattle.sml_narrowing.specs.declared.narrow.Split.TheVariants.{Below, One}
use Rattle.sml_narrowing.specs.Plain.{Plain, Wild}
use Rattle.sml_narrowing.specs.CodeMatrix.{Head, AtConstructor, AtRow, AtValue, AtOther, below}
use Rattle.sml_narrowing.specs.Views.{value_of, plain_of}

abbrev pub pointee : Bor Pattern → Plain
pointee p = plain_of p.now

abbrev pub line : List (Bor Pattern) → List Plain
line ps = reverse (map pointee ps)

abbrev pub lines : List (Vec (Bor Pattern) Global) → List (List Plain)
lines rows = map (λ r. line r.items) rows

-- the rows of the group with this number
abbrev pub group_at : List (Vec (Vec (Bor Pattern) Global) Global) → ℕ → List (List Plain)
group_at [] k = []
group_at (g ∷ gs) zero = lines g.items
group_at (g ∷ gs) (suc k) = group_at gs k

abbrev pub kept_line : Option (Vec (Bor Pattern) Global) → Option (List Plain)
kept_line None = None
kept_line (Some r) = Some (line r.items)

abbrev pub plain_at : Option (Bor Pattern) → Plain
plain_at None = Wild
plain_at (Some p) = plain_of p.now

abbrev pub IsNamed : Plain → Type 0
IsNamed Wild = ⊥
IsNamed _ = Unit {0}

-- whether one of the labels is this
abbrev pub is_among : Id → List (Bor (Rc (Vec ℕ Global) Global)) → Bool
is_among l ls = list_any (λ k. bytes_eq l (ident_of k.now)) ls

-- the labels, the last one first
abbrev pub labels_of : List (Bor (Rc (Vec ℕ Global) Global)) → List Id
labels_of ls = reverse (map (λ l. ident_of l.now) ls)

abbrev pub head_of : H.Head → Head
head_of (V.AtConstructor k) = AtConstructor k
head_of (V.AtRow ls) = AtRow (labels_of ls.items)
head_of (V.AtValue v) = AtValue (value_of v.now)
head_of V.AtOther = AtOther

abbrev pub split_heads : Split → List Head
split_heads (Below n) = below n
split_heads (One h) = head_of h ∷ []
