-- What is around each sample: the names of a run, the environment, and what an answer is.
use Rattle.std.specs.Prelude.{ℕ, true, false, List, [], ◌∷◌, codes}
use Rattle.sml_lex.specs.Faults.{Fault}
use Rattle.sml_tree.specs.Trees.{Id}
use Rattle.sml_tree.specs.Names as T
use Rattle.sml_tree.specs.Expressions.{Dec}
use Rattle.sml_tree.specs.Types.{Ty, ty_constructor, no_ty}
use Rattle.sml_objects.specs.Names.{Initial, int, word, char, string, bool, exn, real, list, ref}
use Rattle.sml_objects.specs.Initial.{Name, initial, made, naming}
use Rattle.sml_objects.specs.Objects.{MlType, no_type, and_type, bound, named, mono, arrow_of, tuple_of}
use Rattle.sml_layers.specs.declared.class.Class.{Class}
use Rattle.sml_layers.specs.declared.class.Class.TheVariants.{Num, RealInt, WordInt}
use Rattle.sml_rules.specs.Answers.{refused, accepted}
use Rattle.sml_core_rules.specs.Objects.{Env, TyStr, Value, Status, variable, constructor, overloaded, maps, no_structure, and_structure}
use Rattle.sml_core_rules.specs.States.{Scope, State}
use Rattle.sml_core_rules.specs.Expressions.{IsReading, at_first}

-- A place is the number of a token, counted from 1.
abbrev pub Place : Type 0
Place = ℕ

abbrev pub name_at : Place → Id → T.Name Place
name_at p x = record { place = p; id = x }

abbrev pub long_at : Place → Id → T.LongName Place
long_at p x = record { place = p; id = record { path = []; last = x } }

-- a type constructor without arguments
abbrev pub constructor_at : Place → Id → Ty Place
constructor_at p x = ty_constructor p no_ty (long_at p x)

-- The names are made by the first unit, and those of explicit variables by none.
abbrev pub scope : Scope Name
scope = record { names = naming; unit = 1; variable = λ x. made 0 x.number 0 x.equality }

abbrev pub initial_names : List Name
initial_names =
    initial int ∷ initial word ∷ initial char ∷ initial string ∷ initial bool ∷ initial exn ∷ initial real ∷ initial list ∷ initial ref ∷ []

abbrev pub type_of : Initial → MlType Name
type_of k = named (initial k)

-- a type that is this one, without constructors
abbrev pub plain : MlType Name → TyStr Name
plain t = record { function = mono t; constructors = [] }

abbrev pub value_of : Status → MlType Name → Value Name
value_of s t = record { scheme = mono t; status = s }

abbrev pub booleans : TyStr Name
booleans = record {
  function = mono (type_of bool);
  constructors = (codes "false", mono (type_of bool)) ∷ (codes "true", mono (type_of bool)) ∷ [];
}

-- a structure with a type `t` and a value `x`
abbrev pub inner : Env Name
inner = maps no_structure ((codes "t", plain (type_of int)) ∷ []) ((codes "x", value_of variable (type_of int)) ∷ [])

-- `t * t`
abbrev pub twice : MlType Name → MlType Name
twice t = tuple_of (and_type t (and_type t no_type))

-- an overloaded function, and equality
abbrev pub overloaded_value : Class → MlType Name → Value Name
overloaded_value c t = record { scheme = record { variables = false ∷ []; body = arrow_of t (bound 0) }; status = overloaded c }

abbrev pub equality : Value Name
equality = record { scheme = record { variables = true ∷ []; body = arrow_of (twice (bound 0)) (type_of bool) }; status = variable }

-- the structure `S`, and some types and values of the initial basis
abbrev pub around : Env Name
around =
    maps (and_structure (codes "S") inner no_structure)
    ((codes "bool", booleans) ∷ (codes "int", plain (type_of int)) ∷ (codes "real", plain (type_of real)) ∷ (codes "string", plain (type_of string)) ∷ [])
    ((codes "+", overloaded_value Num (twice (bound 0))) ∷ (codes "=", equality) ∷ (codes "abs", overloaded_value RealInt (bound 0)) ∷ (codes "div", overloaded_value WordInt (twice (bound 0))) ∷ (codes "false", value_of (constructor 0 2) (type_of bool)) ∷ (codes "true", value_of (constructor 1 2) (type_of bool)) ∷ [])

-- the declaration is accepted there, and binds this
abbrev pub Accepts : Dec Place → Env Name → Type 0
Accepts d E = (s : State Place Name) × IsReading scope around [] d (at_first initial_names) (accepted (E, s))

-- it is refused there
abbrev pub Refuses : Dec Place → Fault Place → Type 0
Refuses d f = IsReading scope around [] d (at_first initial_names) (refused f)
