-- New names in the place of others.
use Rattle.std.specs.Prelude.{ℕ, suc, Bool, ◌&&◌, cond, List, [], ◌∷◌, Option, None, Some}
use Rattle.std.specs.Option.{option_or}
use Rattle.sml_tree.specs.Trees.{Id}
use Rattle.sml_objects.specs.Initial.{Name, initial, made}
use Rattle.sml_type_maps.specs.Mapped.{is_same}
use Rattle.sml_type_maps.specs.NewNames.{same_number}

-- Names of a maker from a number on, each like one of a list. An initial one stays.
abbrev pub made_like : ℕ → ℕ → List Name → List Name
made_like u k [] = []
made_like u k (initial i ∷ ns) = initial i ∷ made_like u k ns
made_like u k (made v m a q ∷ ns) = made u k a q ∷ made_like u (suc k) ns

-- the number that is next after them
abbrev pub number_after : ℕ → List Name → ℕ
number_after k [] = k
number_after k (initial i ∷ ns) = number_after k ns
number_after k (made v m a q ∷ ns) = number_after (suc k) ns

-- what stands in the second list where the name last stands in the first
abbrev pub new_for : List Name → List Name → Name → Option Name
new_for [] ms n = None
new_for (x ∷ xs) [] n = None
new_for (x ∷ xs) (m ∷ ms) n = option_or (new_for xs ms n) (cond (is_same n x) (Some m) None)

-- What names carry after those of the second list were made in order, each with what the one in its place in the first carries.
-- It is told by numbers: a new name carries what one with its number was made with, or else what it carried.
abbrev pub carries_like : (Name → Bool) → List Name → List Name → (Name → Option (List Id)) → Name → Option (List Id)
carries_like is_new [] ms f n = f n
carries_like is_new (x ∷ xs) [] f n = f n
carries_like is_new (x ∷ xs) (m ∷ ms) f n = carries_like is_new xs ms (λ k. cond (is_new k && same_number k m) (option_or (f x) (f k)) (f k)) n
