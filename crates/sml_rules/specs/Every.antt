-- What holds of every item of a list.
use Rattle.std.specs.Prelude.{List, [], ◌∷◌}

abbrev pub Every : {N : Type 0} → (N → Type 0) → List N → Type 0
Every P [] = Unit {0}
Every P (n ∷ ns) = P n × Every P ns
