-- Samples of what is printed, worked out by hand.
use Rattle.std.specs.Prelude.{◌≡◌, ℕ, true, false, nat_eq, zero, suc, List, [], ◌∷◌, ◌++◌, codes, decimal}
use mathlib.Core.Path.{ap, refl}
use Rattle.sml_lex.specs.Faults.{first_place}
use Rattle.sml_lex.specs.declared.fault.Code.TheVariants.{U1, P1}
use Rattle.sml_objects.specs.Names.{Naming, Initial, int, word, char, string, bool, exn, real, list, ref}
use Rattle.sml_objects.specs.Objects.{MlType, bound, app, row, name, no_type, and_type, arrow_of, named, mono}
use Rattle.sml_rules.specs.Answers.{refused, accepted, fault}
use Rattle.sml_core_rules.specs.Objects.{Env, Value, TyStr, Basis, Status, variable, constructor, exception, maps, no_structure, and_structure, empty}
use Rattle.sml_text_rules.specs.Paths.{path_in}
use Rattle.sml_text_rules.specs.Texts.{Answered, lines_text, no_path, answer_text}

-- Names are numbers: those below 9 are the initial ones, 20 is `t`, and 21 is `d`, which admits equality.
abbrev pub number_of : Initial → ℕ
number_of int = 0
number_of word = 1
number_of char = 2
number_of string = 3
number_of bool = 4
number_of exn = 5
number_of real = 6
number_of list = 7
number_of ref = 8

abbrev pub before_it : ℕ → ℕ
before_it zero = zero
before_it (suc n) = n

unfoldable pub same : (m n : ℕ) → Dec (m ≡ n)
same zero zero = yes refl
same zero (suc n) = no (λ h. cc)
same (suc m) zero = no (λ h. cc)
same (suc m) (suc n) = elim (same m n) [ yes h ↦ yes (ap suc h) | no h ↦ no (λ g. h (ap before_it g)) ]

abbrev pub numbers : Naming ℕ
numbers = record {
  attributes = λ n. record { maker = 1; arity = 0; equality = nat_eq n 21; constructors = [] };
  initial = number_of;
  same = same;
}

abbrev pub t : MlType ℕ
t = named 20

abbrev pub d : MlType ℕ
d = named 21

-- a text with numbers between its parts
abbrev pub text : List ℕ → List (ℕ × List ℕ) → List ℕ
text front [] = front
text front (r ∷ rs) = front ++ (decimal r.0 ++ text r.1 rs)

abbrev pub integer : MlType ℕ
integer = named (number_of int)

abbrev pub plain : MlType ℕ → TyStr ℕ
plain u = record { function = mono u; constructors = [] }

abbrev pub value : Status → MlType ℕ → Value ℕ
value s u = record { scheme = mono u; status = s }

abbrev pub of_env : Env ℕ → Basis ℕ
of_env E = record { names = []; functors = []; signatures = []; body = E }

abbrev pub list_of : MlType ℕ → MlType ℕ
list_of u = app (name (number_of list)) (and_type u no_type)

-- structure S :> sig type t val a : t val f : t -> t end = ..
abbrev pub sealed : Basis ℕ
sealed =
    of_env (maps
    (and_structure (codes "S")
    (maps no_structure ((codes "t", plain t) ∷ []) ((codes "a", value variable t) ∷ (codes "f", value variable (arrow_of t t)) ∷ []))
    no_structure)
    [] [])

-- datatype t = A of int -> int | B of t
abbrev pub datatypes : Basis ℕ
datatypes =
    of_env (maps no_structure
    ((codes "t", record { function = mono t; constructors = (codes "A", mono (arrow_of (arrow_of integer integer) t)) ∷ (codes "B", mono (arrow_of t t)) ∷ [] }) ∷ [])
    ((codes "A", value (constructor 0 2) (arrow_of (arrow_of integer integer) t)) ∷ (codes "B", value (constructor 1 2) (arrow_of t t)) ∷ []))

-- type ('a, 'b) p = {x : 'b list -> 'a}, type 'a q = 'a list list, exception E of (int -> int) list,
-- val f = fn x => (x = x; fn y => fn z => ..)
abbrev pub types : Basis ℕ
types =
    of_env (maps no_structure
    ((
      codes "p",
      record {
        function = record { variables = false ∷ false ∷ []; body = app (row (codes "x" ∷ [])) (and_type (arrow_of (list_of (bound 1)) (bound 0)) no_type) };
        constructors = [];
      },
    ) ∷ (codes "q", record { function = record { variables = false ∷ []; body = list_of (list_of (bound 0)) }; constructors = [] }) ∷ [])
    ((codes "E", value exception (arrow_of (list_of (arrow_of integer integer)) (named (number_of exn))))
    ∷ (
      codes "f",
      record {
        scheme = record { variables = true ∷ false ∷ []; body = arrow_of (bound 0) (arrow_of (arrow_of (bound 1) (app (row []) no_type)) (arrow_of (bound 0) integer)) };
        status = variable;
      },
    ) ∷ []))

-- functor F () = struct datatype d = C fun g C = 0 end
abbrev pub functors : Basis ℕ
functors = record {
  names = 21 ∷ [];
  functors = (
    codes "F",
    record {
      argument = record { names = []; body = empty };
      result = record {
        names = 21 ∷ [];
        body = maps no_structure ((codes "d", record { function = mono d; constructors = (codes "C", mono d) ∷ [] }) ∷ [])
            ((codes "C", value (constructor 0 1) d) ∷ (codes "g", value variable (arrow_of d integer)) ∷ []);
      };
    },
  ) ∷ [];
  signatures = [];
  body = empty;
}

-- signature G = sig type t type u sharing type t = u val x : t end
abbrev pub signatures : Basis ℕ
signatures = record {
  names = 20 ∷ [];
  functors = [];
  signatures = (
    codes "G",
    record {
      names = 20 ∷ [];
      body = maps no_structure ((codes "t", plain t) ∷ (codes "u", plain t) ∷ []) ((codes "x", value variable t) ∷ []);
    },
  ) ∷ [];
  body = empty;
}

-- where `t` stands at `R.t`, `S.T.t`, `S.a`, `bool` and in `s`, and `d` nowhere as itself
abbrev pub before : Env ℕ
before =
    maps
    (and_structure (codes "R") (maps no_structure ((codes "t", plain t) ∷ []) [])
    (and_structure (codes "S") (maps (and_structure (codes "T") (maps no_structure ((codes "t", plain t) ∷ []) []) no_structure) ((codes "a", plain t) ∷ []) [])
    no_structure))
    ((codes "bool", plain t) ∷ (codes "s", plain (arrow_of t d)) ∷ []) []

-- val y = .. of the type d -> t -> t
abbrev pub value_before : Basis ℕ
value_before = of_env (maps no_structure [] ((codes "y", value variable (arrow_of d (arrow_of t t))) ∷ []))

-- val x = .. of type int, with a warning
abbrev pub warned : Answered ℕ
warned = accepted (of_env (maps no_structure [] ((codes "x", value variable integer) ∷ [])), record { place = first_place; code = P1 } ∷ [])

pub record TextSamples : Type 0 where
  pub structure : lines_text numbers no_path sealed ≡ text (codes "  structure S\n  type S.t = ?") ((1, codes "\n  val S.a : ?") ∷ (1, codes "\n  val S.f : ?") ∷ (1, codes " -> ?") ∷ (1, codes "\n") ∷ [])
  pub datatype : lines_text numbers no_path datatypes
      ≡ text (codes "  datatype t = ?") ((1, codes "\n  | A : (int -> int) -> ?") ∷ (1, codes "\n  | B : ?") ∷ (1, codes " -> ?") ∷ (1, codes "\n  con A : (int -> int) -> ?")
      ∷ (1, codes "\n  con B : ?") ∷ (1, codes " -> ?") ∷ (1, codes "\n") ∷ [])
  pub shown : lines_text numbers no_path types
      ≡ codes "  type ('a, 'b) p = {x : 'b list -> 'a}\n  type 'a q = 'a list list\n  exception E : (int -> int) list -> exn\n  val f : ''a -> ('b -> unit) -> ''a -> int\n"
  pub functor : lines_text numbers no_path functors
      ≡ text (codes "  functor F\n  datatype F.res.d = %=") ((1, codes "\n  | C : %=") ∷ (1, codes "\n  con F.res.C : %=") ∷ (1, codes "\n  val F.res.g : %=") ∷ (1, codes " -> int\n") ∷ [])
  pub signature : lines_text numbers no_path signatures
      ≡ text (codes "  signature G\n  type G.t = %") ((1, codes "\n  type G.u = %") ∷ (1, codes "\n  val G.x : %") ∷ (1, codes "\n") ∷ [])
  pub path : lines_text numbers (λ n. path_in numbers n before) value_before ≡ text (codes "  val y : ?=") ((1, codes " -> R.t -> R.t\n") ∷ [])
  pub refusal : answer_text numbers no_path true 3 (refused (fault U1 first_place)) ≡ text [] ((3, codes " fault U1 ") ∷ (1, codes ".") ∷ (1, codes " types clash\n") ∷ [])
  pub warning : answer_text numbers no_path true 2 warned
      ≡ text [] ((2, codes " ok\n  val x : int\n" ++ (text (codes "  warning P1 ") ((1, codes ".") ∷ (1, codes " rule is redundant\n") ∷ []) ++ [])) ∷ [])
  pub unwarned : answer_text numbers no_path false 2 warned ≡ text [] ((2, codes " ok\n  val x : int\n") ∷ [])
