-- What holds of every item, from what holds of each.
use Rattle.std.specs.Prelude.{List, [], ◌∷◌}
use Rattle.std.specs.List.{All}
use Rattle.std.proofs.lemmas.List.Elements.{All-head, All-tail}
use Rattle.sml_rules.specs.Every.{Every}

pub every_of : {A : Type 0} (Q : A → Type 0) (xs : List A) → All Q xs → Every Q xs
every_of Q [] h = tt
every_of Q (x ∷ xs) h = (All-head Q x xs h, every_of Q xs (All-tail Q x xs h))

pub every_more : {A : Type 0} (P Q : A → Type 0) → ((x : A) → P x → Q x) → (xs : List A) → Every P xs → Every Q xs
every_more P Q f [] h = tt
every_more P Q f (x ∷ xs) h = (f x h.0, every_more P Q f xs h.1)
