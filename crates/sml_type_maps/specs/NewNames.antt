-- What type names carry: the identifiers of the constructors of their datatypes, or nothing. It is told by numbers alone.
use Rattle.std.specs.Prelude.{ℕ, suc, Bool, false, ◌&&◌, cond, nat_eq, nat_le, slice_get, List, [], ◌∷◌, map, Vec, Option, None, Some}
use Rattle.std.specs.Option.{option_map, option_or, option_flatten}
use Rattle.std.specs.Map.{lookup}
use Rattle.std.specs.Global.{Global}
use Rattle.std.specs.declared.rc.Rc.{Rc}
use Rattle.sml_tree.specs.Trees.{Id}
use Rattle.sml_tree.specs.Views.{ident_of}
use Rattle.sml_objects.specs.Initial.{Name, initial, made}
use Rattle.sml_objects.specs.Views.{maker_of}
use Rattle.sml_bases.specs.declared.objects.Basis.{Basis, out-Basis}
use Rattle.sml_type_maps.specs.declared.new_names.NewNames.{NewNames}

-- identifiers as they are shared
abbrev pub Idents : Type 0
Idents = Rc (Vec (Rc (Vec ℕ Global) Global) Global) Global

abbrev pub idents_of : Idents → List Id
idents_of xs = map ident_of xs.value.items

abbrev pub carried_of : Option Idents → Option (List Id)
carried_of o = option_map idents_of o

-- what a list has for a number
abbrev pub listed : List (Option Idents) → ℕ → Option (List Id)
listed names k = carried_of (option_flatten (slice_get names k))

-- What bases list for a number: the first of the maker's that lists something tells it.
abbrev pub listed_below : List (Rc Basis Global) → ℕ → ℕ → Option (List Id)
listed_below [] u k = None
listed_below (b ∷ bs) u k = option_or (cond (nat_eq (maker_of (out-Basis b.value).unit) u) (listed (out-Basis b.value).names.items k) None) (listed_below bs u k)

-- What a made name carries by a basis: by its own list where its unit made the name, and else by the bases below.
abbrev pub listed_by : Basis → ℕ → ℕ → Option (List Id)
listed_by b u k = cond (nat_eq (maker_of (out-Basis b).unit) u) (listed (out-Basis b).names.items k) (listed_below (out-Basis b).below.items u k)

-- the name is one that the unit makes over the basis
abbrev pub is_new : NewNames → Name → Bool
is_new s (initial k) = false
is_new s (made u n a q) = nat_eq (maker_of s.unit) u && nat_le (out-Basis s.basis.now).count n

-- What a name carries: a new one what it was let carry, and others what the basis tells.
abbrev pub carries : NewNames → Name → Option (List Id)
carries s (initial k) = None
carries s (made u n a q) = cond (is_new s (made u n a q)) (carried_of (lookup (nat_eq n) s.carried.entries)) (listed_by s.basis.now u n)

-- units made both names with the same number
abbrev pub same_number : Name → Name → Bool
same_number (made u n a q) (made v m b r) = nat_eq n m
same_number n m = false

-- What n carries after m was let carry these identifiers, if any. A new name carries them then if it has the number of m.
abbrev pub carries_too : NewNames → Name → Option (List Id) → Name → Option (List Id)
carries_too s m None n = carries s n
carries_too s m (Some xs) n = cond (is_new s n && same_number n m) (Some xs) (carries s n)

-- these identifiers, or nothing where there are none
abbrev pub unless_none : List Id → Option (List Id)
unless_none [] = None
unless_none (x ∷ xs) = Some (x ∷ xs)

-- The new name that is made like another one: of its arity and equality attribute. An initial one stays.
abbrev pub like : NewNames → Name → Name
like s (initial k) = initial k
like s (made u n a q) = made (maker_of s.unit) s.next a q

-- the number that is next after that
abbrev pub next_after : NewNames → Name → ℕ
next_after s (initial k) = s.next
next_after s (made u n a q) = suc s.next
