-- The names of a run, and the initial basis.
use Rattle.std.specs.Prelude.{ℕ, Bool, true, false, [], ◌∷◌, codes}
use Rattle.sml_objects.specs.Names.{Initial-discrete, Naming, Attributes, Initial, int, word, char, string, bool, exn, real, list, ref}
use Rattle.sml_tree.specs.Trees.{Id}
use Rattle.sml_objects.specs.Maps.{Map}
use Rattle.sml_objects.specs.Objects.{Scheme, Basis, row, name, bound, app, no_type, and_type, env, no_structure, mono, named}
use mathlib.Core.Bool.{Bool-discrete}
use native.Mathlib.Decide.{ℕ_discrete}

-- A name is initial, or has a number among those of the unit that made it.
pub data Name : Type 0 where
  initial : Initial → Name
  made : (unit number arity : ℕ) → Bool → Name
  deriving Discrete as Name-discrete

abbrev pub initial_attributes : Initial → Attributes
initial_attributes real = record { maker = 0; arity = 0; equality = false; constructors = [] }
initial_attributes exn = record { maker = 0; arity = 0; equality = false; constructors = [] }
initial_attributes list = record { maker = 0; arity = 1; equality = true; constructors = codes "nil" ∷ codes "::" ∷ [] }
initial_attributes ref = record { maker = 0; arity = 1; equality = true; constructors = codes "ref" ∷ [] }
initial_attributes bool = record { maker = 0; arity = 0; equality = true; constructors = codes "true" ∷ codes "false" ∷ [] }
initial_attributes k = record { maker = 0; arity = 0; equality = true; constructors = [] }

abbrev pub attributes_of : Name → Attributes
attributes_of (initial k) = initial_attributes k
attributes_of (made u n a q) = record { maker = u; arity = a; equality = q; constructors = [] }

unfoldable pub naming : Naming Name
naming = record { attributes = attributes_of; initial = initial; same = Name-discrete Initial-discrete ℕ_discrete Bool-discrete }

abbrev pub simple : Id → Initial → Id × Scheme Name
simple x k = (x, mono (named (initial k)))

abbrev pub unary : Id → Initial → Id × Scheme Name
unary x k = (x, record { variables = false ∷ []; body = app (name (initial k)) (and_type (bound 0) no_type) })

-- the type constructors, in byte order; there is no value yet
abbrev pub initial_types : Map (Scheme Name)
initial_types =
    simple (codes "bool") bool ∷ simple (codes "char") char ∷ simple (codes "exn") exn ∷ simple (codes "int") int
    ∷ unary (codes "list") list ∷ simple (codes "real") real ∷ unary (codes "ref") ref ∷ simple (codes "string") string
    ∷ (codes "unit", mono (app (row []) no_type)) ∷ simple (codes "word") word ∷ []

unfoldable pub initial_basis : Basis Name
initial_basis = record {
  names = initial int ∷ initial word ∷ initial char ∷ initial string ∷ initial bool ∷ initial exn ∷ initial real ∷ initial list ∷ initial ref ∷ [];
  count = 0;
  body = env no_structure initial_types [];
}
