-- Long identifiers: the parts between the dots (the Definition, section 2.4).
use Rattle.std.specs.Prelude.{◌≡◌, ℕ, List, [], ◌∷◌, ◌==◌, Vec, slice_get}
use Rattle.std.specs.Global.{Global}
use Rattle.std.specs.List.{slice_split}
use Rattle.std.specs.Option.{ForSome}
use Rattle.std.specs.declared.rc.Rc.{Rc}
use Rattle.sml_tree.specs.Trees.{Id, LongId}
use Rattle.sml_tree.specs.Views.{ident_of}

abbrev pub long_of_parts : List Id → LongId
long_of_parts [] = record { path = []; last = [] }
long_of_parts (last ∷ []) = record { path = []; last = last }
long_of_parts (first ∷ second ∷ parts) = record { path = first ∷ (long_of_parts (second ∷ parts)).path; last = (long_of_parts (second ∷ parts)).last }

abbrev pub long_id : List ℕ → LongId
long_id text = long_of_parts (slice_split (λ b. b == 46) text)

-- each identifier is kept under its bytes
abbrev pub IsShared : List (Vec ℕ Global × Rc (Vec ℕ Global) Global) → Type 0
IsShared entries = (k : ℕ) → ForSome (slice_get entries k) (λ e. ident_of e.1 ≡ e.0.items)
