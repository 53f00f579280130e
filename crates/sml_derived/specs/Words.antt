-- The identifiers that derived forms write.
use Rattle.std.specs.Prelude.{ℕ, ◌∷◌, codes, decimal}
use Rattle.sml_tree.specs.Trees.{Id}

abbrev pub true_id : Id
true_id = codes "true"

abbrev pub false_id : Id
false_id = codes "false"

abbrev pub nil_id : Id
nil_id = codes "nil"

abbrev pub cons_id : Id
cons_id = codes "::"

abbrev pub it_id : Id
it_id = codes "it"

-- v1, v2 and so on, which no source can spell: a space, then the number
unfoldable pub hidden : ℕ → Id
hidden n = 32 ∷ decimal n

-- v
abbrev pub v : Id
v = hidden 0
