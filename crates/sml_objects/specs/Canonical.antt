-- Canonical names: what a declaration made is numbered from the count of its unit on, in the order in which it appears.
use Rattle.std.specs.Prelude.{ℕ, suc, ◌+◌, Bool, false, cond, not, ◌&&◌, nat_eq, nat_lt, List, [], ◌∷◌, filter}
use Rattle.sml_objects.specs.Names.{Naming}
use Rattle.sml_objects.specs.Objects.{Sig, rename_sig}
use Rattle.sml_objects.specs.Initial.{Name, initial, made, naming, attributes_of}
use Rattle.sml_objects.specs.Appearance.{stands, firsts_after, appear_sig}

-- whether the unit made this name, with no number below the count
abbrev pub is_new : ℕ → ℕ → Name → Bool
is_new unit count (initial k) = false
is_new unit count (made u n a q) = nat_eq u unit && not (nat_lt n count)

-- the new names that stand in an object, in the order of their first appearance
unfoldable pub new_names : ℕ → ℕ → Sig Name → List Name
new_names unit count S = filter (is_new unit count) (firsts_after naming [] (appear_sig S))

unfoldable pub index_of : {N : Type 0} → Naming N → N → List N → ℕ
index_of names n [] = 0
index_of names n (m ∷ ms) = elim (names.same n m) [ yes _ ↦ 0 | no _ ↦ suc (index_of names n ms) ]

-- the name of this number that is otherwise alike
abbrev pub with_number : ℕ → ℕ → Name → Name
with_number unit k n = made unit k (attributes_of n).arity (attributes_of n).equality

-- each of the names by its place among them, the first one by the count
unfoldable pub renumber : ℕ → ℕ → List Name → Name → Name
renumber unit count ns n = cond (stands naming n ns) (with_number unit (count + index_of naming n ns) n) n

unfoldable pub canonical : ℕ → ℕ → Sig Name → Sig Name
canonical unit count S = rename_sig (renumber unit count (new_names unit count S)) S

abbrev pub number_of : Name → ℕ
number_of (initial k) = 0
number_of (made u n a q) = n
