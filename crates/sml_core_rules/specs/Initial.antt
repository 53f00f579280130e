-- The initial basis (the Definition, appendices C to E): its types, its constructors, exceptions and other values. Which of them
-- are operators is said where fixity is.
use Rattle.std.specs.Prelude.{true, false, Bool, List, [], ◌∷◌, ◌++◌, codes, map}
use Rattle.sml_tree.specs.Trees.{Id}
use Rattle.sml_objects.specs.Initial.{Name, initial}
use Rattle.sml_objects.specs.Maps.{Map, join}
use Rattle.sml_objects.specs.Names.{Initial, int, word, char, string, bool, exn, real, list, ref}
use Rattle.sml_objects.specs.Objects.{MlType, Scheme, bound, app, row, name, no_type, and_type, arrow_of, named, tuple_of}
use Rattle.sml_layers.specs.declared.class.Class.{Class}
use Rattle.sml_layers.specs.declared.class.Class.TheVariants.{WordInt, RealInt, Num, NumTxt}
use Rattle.sml_core_rules.specs.Objects.{Env, Value, TyStr, Basis, Status, variable, constructor, exception, overloaded, maps, no_structure}

-- Types: `'a`, `'b` and `'c`, names with no argument or with one, pairs and arrows

abbrev pub a : MlType Name
a = bound 0

abbrev pub b : MlType Name
b = bound 1

abbrev pub c : MlType Name
c = bound 2

abbrev pub ty : Initial → MlType Name
ty k = named (initial k)

abbrev pub of : Initial → MlType Name → MlType Name
of k t = app (name (initial k)) (and_type t no_type)

abbrev pub unit : MlType Name
unit = app (row []) no_type

abbrev pub ◌⊗◌ : MlType Name → MlType Name → MlType Name
◌⊗◌ t u = tuple_of (and_type t (and_type u no_type))

infixr 30 ◌⊗◌
abbrev pub ◌⟶◌ : MlType Name → MlType Name → MlType Name
◌⟶◌ t u = arrow_of t u

infixr 20 ◌⟶◌
-- the schemes of types with no variable, with one to three, and with one that admits equality
abbrev pub all : List Bool → MlType Name → Scheme Name
all es t = record { variables = es; body = t }

abbrev pub mono : MlType Name → Scheme Name
mono t = all [] t

abbrev pub poly : MlType Name → Scheme Name
poly t = all (false ∷ []) t

abbrev pub poly2 : MlType Name → Scheme Name
poly2 t = all (false ∷ false ∷ []) t

abbrev pub poly3 : MlType Name → Scheme Name
poly3 t = all (false ∷ false ∷ false ∷ []) t

abbrev pub equal : MlType Name → Scheme Name
equal t = all (true ∷ []) t

-- Type constructors, with the constructors of datatypes

abbrev pub plain : Scheme Name → TyStr Name
plain θ = record { function = θ; constructors = [] }

abbrev pub bool_constructors : Map (Scheme Name)
bool_constructors = (codes "false", mono (ty bool)) ∷ (codes "true", mono (ty bool)) ∷ []

abbrev pub list_constructors : Map (Scheme Name)
list_constructors = (codes "::", poly (a ⊗ of list a ⟶ of list a)) ∷ (codes "nil", poly (of list a)) ∷ []

abbrev pub ref_constructors : Map (Scheme Name)
ref_constructors = (codes "ref", poly (a ⟶ of ref a)) ∷ []

abbrev pub initial_types : List (Id × TyStr Name)
initial_types =
    (codes "unit", plain (mono unit))
    ∷ (codes "int", plain (mono (ty int)))
    ∷ (codes "word", plain (mono (ty word)))
    ∷ (codes "char", plain (mono (ty char)))
    ∷ (codes "string", plain (mono (ty string)))
    ∷ (codes "real", plain (mono (ty real)))
    ∷ (codes "exn", plain (mono (ty exn)))
    ∷ (codes "bool", record { function = mono (ty bool); constructors = bool_constructors })
    ∷ (codes "list", record { function = poly (of list a); constructors = list_constructors })
    ∷ (codes "ref", record { function = poly (of ref a); constructors = ref_constructors })
    ∷ []

-- Values. A constructor has its number in byte order, and how many there are.

abbrev pub value_as : Status → Scheme Name → Value Name
value_as s σ = record { scheme = σ; status = s }

abbrev pub constructors : List (Id × Value Name)
constructors =
    (codes "false", value_as (constructor 0 2) (mono (ty bool)))
    ∷ (codes "true", value_as (constructor 1 2) (mono (ty bool)))
    ∷ (codes "::", value_as (constructor 0 2) (poly (a ⊗ of list a ⟶ of list a)))
    ∷ (codes "nil", value_as (constructor 1 2) (poly (of list a)))
    ∷ (codes "ref", value_as (constructor 0 1) (poly (a ⟶ of ref a)))
    ∷ []

abbrev pub exceptions : List (Id × Value Name)
exceptions =
    (codes "Match", value_as exception (mono (ty exn)))
    ∷ (codes "Bind", value_as exception (mono (ty exn)))
    ∷ (codes "Div", value_as exception (mono (ty exn)))
    ∷ (codes "Overflow", value_as exception (mono (ty exn)))
    ∷ (codes "Subscript", value_as exception (mono (ty exn)))
    ∷ (codes "Fail", value_as exception (mono (ty string ⟶ ty exn)))
    ∷ []

-- Overloaded identifiers, whose one variable is of a class

abbrev pub operation : Class → Value Name
operation k = value_as (overloaded k) (poly (a ⊗ a ⟶ a))

abbrev pub sign : Class → Value Name
sign k = value_as (overloaded k) (poly (a ⟶ a))

abbrev pub comparison : Class → Value Name
comparison k = value_as (overloaded k) (poly (a ⊗ a ⟶ ty bool))

abbrev pub overloaded_values : List (Id × Value Name)
overloaded_values =
    (codes "+", operation Num) ∷ (codes "-", operation Num) ∷ (codes "*", operation Num)
    ∷ (codes "~", sign RealInt) ∷ (codes "abs", sign RealInt)
    ∷ (codes "div", operation WordInt) ∷ (codes "mod", operation WordInt)
    ∷ (codes "<", comparison NumTxt) ∷ (codes ">", comparison NumTxt) ∷ (codes "<=", comparison NumTxt) ∷ (codes ">=", comparison NumTxt)
    ∷ []

abbrev pub val : Scheme Name → Value Name
val σ = value_as variable σ

abbrev pub functions : List (Id × Value Name)
functions =
    (codes "/", val (mono (ty real ⊗ ty real ⟶ ty real)))
    ∷ (codes "=", val (equal (a ⊗ a ⟶ ty bool)))
    ∷ (codes "<>", val (equal (a ⊗ a ⟶ ty bool)))
    ∷ (codes ":=", val (poly (of ref a ⊗ a ⟶ unit)))
    ∷ (codes "!", val (poly (of ref a ⟶ a)))
    ∷ (codes "not", val (mono (ty bool ⟶ ty bool)))
    ∷ (codes "^", val (mono (ty string ⊗ ty string ⟶ ty string)))
    ∷ (codes "@", val (poly (of list a ⊗ of list a ⟶ of list a)))
    ∷ (codes "o", val (poly3 ((a ⟶ b) ⊗ (c ⟶ a) ⟶ c ⟶ b)))
    ∷ (codes "before", val (poly (a ⊗ unit ⟶ a)))
    ∷ (codes "ignore", val (poly (a ⟶ unit)))
    ∷ (codes "size", val (mono (ty string ⟶ ty int)))
    ∷ (codes "ord", val (mono (ty char ⟶ ty int)))
    ∷ (codes "chr", val (mono (ty int ⟶ ty char)))
    ∷ (codes "str", val (mono (ty char ⟶ ty string)))
    ∷ (codes "real", val (mono (ty int ⟶ ty real)))
    ∷ (codes "floor", val (mono (ty real ⟶ ty int)))
    ∷ (codes "map", val (poly2 ((a ⟶ b) ⟶ of list a ⟶ of list b)))
    ∷ (codes "rev", val (poly (of list a ⟶ of list a)))
    ∷ (codes "length", val (poly (of list a ⟶ ty int)))
    ∷ (codes "print", val (mono (ty string ⟶ unit)))
    ∷ []

abbrev pub initial_names : List Name
initial_names = map initial (int ∷ word ∷ char ∷ string ∷ bool ∷ exn ∷ real ∷ list ∷ ref ∷ [])

abbrev pub initial_values : List (Id × Value Name)
initial_values = constructors ++ (exceptions ++ (overloaded_values ++ functions))

-- in byte order
unfoldable pub initial_env : Env Name
initial_env = maps no_structure (join [] initial_types) (join [] initial_values)

abbrev pub initial_basis : Basis Name
initial_basis = record { names = initial_names; functors = []; signatures = []; body = initial_env }
